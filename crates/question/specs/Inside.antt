pub mod Top
pub mod Stands
pub mod Skip
pub mod WalkStep
