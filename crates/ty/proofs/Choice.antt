-- Laws of tests: `choose`, and, or.
use borrow.Author.Tests.{eq-eqb, ne_eqb, lt-ltb, le-ltb, le-leb, lt-leb}
use mathlib.Core.Bool.{Bool, true, false, not, true≢false, false≢true, ◌&&◌, ◌||◌}
use mathlib.Core.Path.{◌≡◌, refl, sym, ◌∙◌}
use Rattle.ty.specs.Choose.{choose}

-- `choose` by its test
pub choose_yes : {A : Type 0} (t : Bool) (x y : A) → t ≡ true → choose t x y ≡ x
unfolding choose
choose_yes t x y e = rw e

pub choose_no : {A : Type 0} (t : Bool) (x y : A) → t ≡ false → choose t x y ≡ y
unfolding choose
choose_no t x y e = rw e

-- a property of `choose t x y` is shown of x where t is true and of y where it is false
pub by_choice : {A : Type 0} (P : A → Type 0) (t : Bool) {x y : A} → (t ≡ true → P x) → (t ≡ false → P y) → P (choose t x y)
unfolding choose
by_choice P true f g = f refl
by_choice P false f g = g refl

pub and_left : (s t : Bool) → s && t ≡ true → s ≡ true
and_left true t e = refl
and_left false t e = e

pub and_right : (s t : Bool) → s && t ≡ true → t ≡ true
and_right true t e = e
and_right false true e = refl
and_right false false e = e

-- t where s holds, and s does
pub or_else : (s t : Bool) → not s || t ≡ true → s ≡ true → t ≡ true
or_else true t e h = e
or_else false true e h = refl
or_else false false e h = h

-- one or the other
pub or_left : (s t : Bool) → s ≡ true → s || t ≡ true
or_left s t e = rw e

pub or_right : (s t : Bool) → t ≡ true → s || t ≡ true
or_right true t e = refl
or_right false t e = e

-- one that does not hold may be left out
pub or_false : (s t : Bool) → t ≡ false → s || t ≡ s
or_false true t e = refl
or_false false t e = e

pub and_true : (t : Bool) → t && true ≡ t
and_true true = refl
and_true false = refl

-- what follows from each of two follows from one or the other
pub or_cases : {P : Type 0} (s t : Bool) → s || t ≡ true → (s ≡ true → P) → (t ≡ true → P) → P
or_cases true t e f g = f refl
or_cases false t e f g = g e

-- what a chain of `choose` is, by its first test
pub chosen : {A : Type 0} (t : Bool) (r x y : A) → t ≡ true → r ≡ x → r ≡ choose t x y
unfolding choose
chosen true r x y e h = h
chosen false r x y e h = absurd (false≢true e)

pub passed : {A : Type 0} (t : Bool) (r x y : A) → t ≡ false → r ≡ y → r ≡ choose t x y
unfolding choose
passed true r x y e h = absurd (true≢false e)
passed false r x y e h = h

-- a call's result u was tested
pub tested : (t u v : Bool) → u ≡ t → u ≡ v → t ≡ v
tested t u v e h = sym e ∙ h

-- `search chain depth N` proves a `return` of an if-chain against nested `choose`, N being four more than the tests before it
pub ruleset chain = (chosen, passed, eq-eqb, ne_eqb, lt-ltb, le-ltb, le-leb, lt-leb)

-- the same where a test is a call's result
pub ruleset chain_calls = (chain, tested)
