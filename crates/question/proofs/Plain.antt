-- A leaf whose type has a kind below Nullable has that byte for its type.
use Prim.Native.Nat.{ℕ, ◌<◌}
use lib.ListN.{get_or}
use mathlib.Core.List.{List}
use mathlib.Core.Path.{◌≡◌}
use native.Mathlib.Omega.{arith}
use Rattle.question.specs.NodeRead.{leaf_of}
use Rattle.question.specs.NodeRead.{Leaf}
use Rattle.ty.proofs.OneByte.{one_byte}
use Rattle.ty.specs.Kind.{nullable_kind, no_kind}
use Rattle.ty.specs.Read.{read_type, longest_type}

pub plain-leaf : (s : List ℕ) → get_or s 0 no_kind < nullable_kind → leaf_of (read_type s longest_type) ≡ Leaf 1 0
unfolding leaf_of
plain-leaf s h = rw (one_byte s longest_type (omega arith) h)

-- the name that `leaf` cites
pub ruleset plain_leaf = (plain-leaf)
