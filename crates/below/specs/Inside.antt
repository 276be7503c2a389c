pub mod Marks
pub mod RecordParents
