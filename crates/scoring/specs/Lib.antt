pub mod Arg
pub mod Arity
pub mod WithParams
pub mod Score
pub mod Inside
