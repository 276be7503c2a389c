-- What code and proofs hand each other.
pub mod DiagIf
pub mod Picked
pub mod BestPlace
pub mod Tally
pub mod CallSource
pub mod Classes
pub mod ScoreBefore
pub mod ResolveBefore
pub mod AsBefore
