-- What the proofs hand each other.
pub mod AlikeLookups
pub mod EachCall
