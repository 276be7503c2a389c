pub mod Slot
pub mod Storable
