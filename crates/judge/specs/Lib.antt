pub mod RefusalNumber
pub mod Inside
pub mod Answered
pub mod Order7Judge
