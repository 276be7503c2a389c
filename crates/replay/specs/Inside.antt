-- What reading a case hands on; no reader of a product needs to believe it.
pub mod CaseRead
