-- A member's owner that may be none.
use Prim.Native.Nat.{ℕ}
use mathlib.Core.Path.{◌≡◌, sym}
use Rattle.std.specs.Prelude.{Some}
use Rattle.ty.proofs.Choice.{chain}
use Rattle.ty.proofs.Known.{none_known, some_known}
use Rattle.ty.specs.Name.{no_id, known_id}

pub owner_same : (n m : ℕ) → Some m ≡ known_id n → m ≡ n
owner_same n m e = sym (some_known n m e).0

pub owner_known : (n m : ℕ) → Some m ≡ known_id n → (n ≡ no_id → ⊥)
owner_known n m e = (some_known n m e).1

-- what the access check takes
pub ruleset owners = (chain, none_known, owner_same, owner_known)
