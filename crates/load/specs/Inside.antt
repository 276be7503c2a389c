pub mod Shape
pub mod WritesTree
