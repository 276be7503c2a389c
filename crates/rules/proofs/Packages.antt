-- Two packages that may be unknown.
use Prim.Native.Nat.{ℕ}
use borrow.Author.Tests.{eq-eqb, ne_eqb}
use lib.Dec.{eqb}
use mathlib.Core.Bool.{Bool, true, false, not, ◌&&◌}
use mathlib.Core.Path.{◌≡◌, refl}
use Rattle.rules.specs.Access.{other_package}
use Rattle.std.specs.Prelude.{None, Some}
use Rattle.ty.proofs.Known.{none_known, some_known}
use Rattle.ty.specs.Name.{no_id, known_id}

pub both_known : (x y a b : ℕ) → Some a ≡ known_id x → Some b ≡ known_id y → not (eqb a b) ≡ other_package x y
both_known x y a b e f =
    let p = some_known x a e in
    let q = some_known y b f in
    rw (ne_eqb x no_id p.1, ne_eqb y no_id q.1, p.0, q.0)

pub first_unknown : (x y : ℕ) → None ≡ known_id x → false ≡ other_package x y
first_unknown x y e = rw (eq-eqb x no_id (none_known x e))

pub second_unknown : (x y : ℕ) → None ≡ known_id y → false ≡ other_package x y
second_unknown x y e = rw (eq-eqb y no_id (none_known y e)) (go (eqb x no_id))
  where
    go : (b : Bool) → false ≡ (not b && false)
    go true = refl
    go false = refl

pub ruleset packages = (both_known, first_unknown, second_unknown)
