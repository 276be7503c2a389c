pub mod Below
pub mod Inside
pub mod Order6
