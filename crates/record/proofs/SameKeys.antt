-- Keys of two records.
use borrow.Author.Tests.{eqb-true}
use lib.Dec.{eqb}
use mathlib.Core.Bool.{Bool, true, false, ◌||◌, false≢true}
use mathlib.Core.List.{List, [], ◌∷◌}
use mathlib.Core.Path.{◌≡◌, refl, ◌∙◌}
use Rattle.ty.specs.Choose.{choose}
use Rattle.record.specs.Inside.Front.{front_of}
use Rattle.record.specs.Inside.HeadFault.{same_key, has_key}
use Rattle.record.specs.Table.{Record}

choose_both : (v a : Bool) → choose v a false ≡ true → (v ≡ true) × (a ≡ true)
unfolding choose
choose_both true a e = (refl, e)
choose_both false a e = absurd (false≢true e)

pub same_kind : (x y : Record) → same_key x y ≡ true → (front_of x).kind ≡ (front_of y).kind
unfolding same_key
same_kind x y e = eqb-true _ _ (choose_both (eqb (front_of x).kind (front_of y).kind) _ e).0

-- functions have no key
function_key : (x y : Record) → (front_of y).kind ≡ 4 → same_key x y ≡ true → ⊥
unfolding same_key choose
function_key x y f e =
    let k = choose_both (eqb (front_of x).kind (front_of y).kind) _ e in
    let z : (front_of x).kind ≡ 4 = eqb-true _ _ k.0 ∙ f in
    false≢true (rw z at k.1)

-- no record of a list has the key of x, if none can
none_has : (x : Record) (rs : List Record) → has_key x rs ≡ false → (r : Record) → (same_key r x ≡ true → ⊥) → (same_key r x || has_key x rs) ≡ false
none_has x rs h r n = go (same_key r x) refl
  where
    go : (v : Bool) → same_key r x ≡ v → (same_key r x || has_key x rs) ≡ false
    go true q = absurd (n q)
    go false q = rw (q, h)

pub function_fresh : (x : Record) (rs : List Record) → (front_of x).kind ≡ 4 → has_key x rs ≡ false
unfolding has_key
function_fresh x [] f = refl
function_fresh x (r ∷ rs) f = none_has x rs (function_fresh x rs f) r (λ q. function_key r x f q)
