pub mod Reaching
pub mod Working
pub mod Beginning
pub mod Filling
pub mod Storing
pub mod Naming
