-- What routines of the judge hand each other; no reader of a product needs to believe it.
pub mod Room
pub mod Root
