pub mod Calling
pub mod Rows
pub mod Spaces
pub mod Holding
pub mod Finishing
pub mod Steps
