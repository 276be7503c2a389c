pub mod CopyLoops
pub mod ListFacts
pub mod Outputs
