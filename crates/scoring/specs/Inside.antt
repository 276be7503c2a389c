-- What code and proofs of the scores hand each other.
pub mod Args
pub mod NoArg
pub mod Params
pub mod Passes
pub mod Received
pub mod Scored
