-- A function of a choice.
use mathlib.Core.Bool.{Bool, true, false}
use mathlib.Core.Path.{◌≡◌, refl}
use Rattle.ty.specs.Choose.{choose}

-- it goes into both sides
pub each : {A B : Type 0} (f : A → B) (t : Bool) {x y : A} {u v : B} → f x ≡ u → f y ≡ v → f (choose t x y) ≡ choose t u v
unfolding choose
each f true h k = h
each f false h k = k

-- and each side knows how the test went
pub each_by : {A B : Type 0} (f : A → B) (t : Bool) {x y : A} {u v : B} → (t ≡ true → f x ≡ u) → (t ≡ false → f y ≡ v) → f (choose t x y) ≡ choose t u v
unfolding choose
each_by f true h k = h refl
each_by f false h k = k refl
