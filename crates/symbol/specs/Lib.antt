pub mod Symbols
pub mod Visibility
pub mod TableFault
pub mod Lookup
pub mod Subclass
pub mod Inside
