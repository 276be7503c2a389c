-- A type that is read inside a record ends inside it.
use Prim.Native.Nat.{ℕ, ◌≤◌}
use lib.ListN.{length, drop, length-drop}
use mathlib.Core.List.{List}
use mathlib.Core.Path.{◌≡◌, refl}
use native.Mathlib.Omega.{arith}
use Rattle.std.proofs.Common.{Result, Ok, Err}
use Rattle.ty.proofs.TypeSizes.{whole}
use Rattle.ty.specs.Read.{read_type, longest_type}
use Rattle.ty.specs.declared.read.TypeFault.{TypeFault}
use Rattle.ty.specs.declared.read.TypeRead.{TypeRead}
use Rattle.record.specs.Inside.Walk.{EndsIn}

pub ends_in : (n : ℕ) (s : List ℕ) → n ≤ length s → EndsIn n s (read_type (drop n s) longest_type)
ends_in n s h = go (read_type (drop n s) longest_type) refl
  where
    go : (r : Result TypeRead TypeFault) → read_type (drop n s) longest_type ≡ r → EndsIn n s r
    go (Ok found) q = let b = whole (drop n s) longest_type found.len found.top found.error q in omega (arith, length-drop n s)
    go (Err fault) q = tt
