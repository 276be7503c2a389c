pub mod Draw
pub mod DrawnTree
pub mod Load
pub mod Order1
pub mod Inside
