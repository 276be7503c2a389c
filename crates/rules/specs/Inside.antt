-- What code and proofs of the rules hand each other.
pub mod Variable
pub mod AccessRule
pub mod MemberRule
pub mod MemberRuled
