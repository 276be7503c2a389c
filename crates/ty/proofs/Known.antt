-- A number as an id or none.
use Prim.Native.Nat.{ℕ}
use borrow.Author.Tests.{eqb-true, eqb-false, eq-eqb, ne_eqb}
use lib.Dec.{eqb}
use mathlib.Core.Bool.{Bool, true, false}
use mathlib.Core.Path.{◌≡◌, refl}
use Rattle.std.specs.Prelude.{None, Some}
use Rattle.ty.specs.Choose.{choose}
use Rattle.ty.specs.Name.{no_id, known_id, id_number}

pub known_none : (n : ℕ) → n ≡ no_id → known_id n ≡ None
unfolding known_id choose
known_none n e = rw (eq-eqb n no_id e)

pub known_some : (n : ℕ) → (n ≡ no_id → ⊥) → known_id n ≡ Some n
unfolding known_id choose
known_some n e = rw (ne_eqb n no_id e)

pub number_known : (n : ℕ) → id_number (known_id n) ≡ n
unfolding known_id choose
number_known n = go (eqb n no_id) refl
  where
    go : (b : Bool) → eqb n no_id ≡ b → id_number (choose b None (Some n)) ≡ n
    go true e = cc (eqb-true n no_id e)
    go false e = refl

-- what an id or none says of the number
pub none_known : (n : ℕ) → None ≡ known_id n → n ≡ no_id
unfolding known_id choose
none_known n = go (eqb n no_id) refl
  where
    go : (b : Bool) → eqb n no_id ≡ b → None ≡ choose b None (Some n) → n ≡ no_id
    go true e q = eqb-true n no_id e
    go false e q = absurd (cc)

pub some_known : (n m : ℕ) → Some m ≡ known_id n → (n ≡ m) × (n ≡ no_id → ⊥)
unfolding known_id choose
some_known n m = go (eqb n no_id) refl
  where
    go : (b : Bool) → eqb n no_id ≡ b → Some m ≡ choose b None (Some n) → (n ≡ m) × (n ≡ no_id → ⊥)
    go true e q = absurd (cc)
    go false e q = (cc, eqb-false n no_id e)
