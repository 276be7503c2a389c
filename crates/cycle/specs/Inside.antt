-- What routines of the cycle hand each other; no reader of a product needs to believe it.
pub mod Contract
