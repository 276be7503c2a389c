pub mod Answering
pub mod Sizes
pub mod Fronts
pub mod Order7Judge
