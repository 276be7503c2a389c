-- What code and proofs of the operators hand each other.
pub mod Core
pub mod Looked
pub mod MethodPlace
pub mod Nullables
pub mod Ruled
pub mod RuledParts
pub mod BinaryRule
pub mod UnaryRule
