pub mod Padding
pub mod Output
