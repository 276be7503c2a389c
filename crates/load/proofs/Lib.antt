pub mod DrawnTrees
pub mod Fits
pub mod Order1
pub mod TreeReturns
pub mod LoadReturns
pub mod LoadExamples
