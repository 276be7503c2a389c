pub mod Agree
pub mod Asks
pub mod Reads
pub mod Undisturbed
pub mod SameAnswers
pub mod Order7
pub mod AgreeingTables
pub mod Inside
