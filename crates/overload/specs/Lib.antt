pub mod Before
pub mod Best
pub mod Reports
pub mod Resolve
pub mod Order4
pub mod Inside
