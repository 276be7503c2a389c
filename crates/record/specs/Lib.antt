pub mod RecordKind
pub mod Inside
pub mod Layout
pub mod Table
pub mod Spelling
pub mod TableRefused
pub mod Order3
pub mod Order6Table
