-- What the judge's routines at a node hand each other; no reader of a product needs to believe it.
pub mod Progress
pub mod SlotsFilled
pub mod Row
pub mod Rule
pub mod Call
