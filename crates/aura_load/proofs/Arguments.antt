-- Digits read from the left.
use Prim.Native.Nat.{ℕ, suc, ◌+◌, ◌≤◌, ◌<◌}
use borrow.Author.Tests.{leb-true, leb-false, le-ltb, lt-ltb}
use lib.ListN.{length, get_or, drop, drop_of_length-le}
use lib.Seq.{drop-cons}
use mathlib.Core.Bool.{Bool, true, false}
use mathlib.Core.List.{List, [], ◌∷◌}
use mathlib.Core.Path.{◌≡◌, refl, sym, ap, ◌∙◌}
use native.Mathlib.Numerals.{add-one}
use native.Mathlib.Omega.{arith}
use Rattle.aura_load.specs.Argument.{no_digit, more_digits, number_from, number_in, too_large}
use Rattle.ty.proofs.Choice.{choose_yes, choose_no}
use Rattle.ty.specs.Choose.{choose}
use Rattle.std.specs.Char.{is_ascii_digit}
use Rattle.std.specs.Prelude.{Some, None, IfSome, not, nat_le, ltb, ◌&&◌, ◌||◌}

-- `number_in`: no text, its start, a byte that is no digit, one that is, and the end
pub number_none : (s : List ℕ) → length s ≡ 0 → None ≡ number_in s
unfolding number_in
number_none [] h = refl
number_none (b ∷ s) h = absurd (omega arith)

pub number-start : (s : List ℕ) → (length s ≡ 0 → ⊥) → number_from 0 s ≡ number_in s
unfolding number_in
number-start [] h = absurd (h refl)
number-start (b ∷ s) h = refl

-- the library's digits are ours
no_digit_is : (b : ℕ) → no_digit b ≡ not (is_ascii_digit b)
no_digit_is b = go (nat_le 48 b) (nat_le b 57) refl refl
  where
    below : {t : Bool} → ltb b 48 ≡ t → no_digit b ≡ t || ltb 57 b
    below e = ap (λ (x : Bool). x || ltb 57 b) e

    go : (t u : Bool) → nat_le 48 b ≡ t → nat_le b 57 ≡ u → no_digit b ≡ not (t && u)
    go true true e f = below (le-ltb b 48 (leb-true 48 b e)) ∙ le-ltb 57 b (leb-true b 57 f)
    go true false e f = below (le-ltb b 48 (leb-true 48 b e)) ∙ lt-ltb 57 b (leb-false b 57 f)
    go false u e f = below (lt-ltb b 48 (leb-false 48 b e))

module _ (s : List ℕ) (at n : ℕ) (so : number_from n (drop at s) ≡ number_in s) where
  pub number_bad : at < length s → false ≡ is_ascii_digit (get_or s at 0) → None ≡ number_in s
  unfolding number_from
  number_bad h t = sym (ap (number_from n) (drop-cons s at 0 h) ∙ choose_yes _ _ _ (no_digit_is (get_or s at 0) ∙ ap not (sym t))) ∙ so

  pub number_more : (m : ℕ) → at < length s → true ≡ is_ascii_digit (get_or s at 0) → m ≡ more_digits n (get_or s at 0) → number_from m (drop (at + 1) s) ≡ number_in s
  unfolding number_from
  number_more m h t e =
      ap (λ (k : ℕ). number_from m (drop k s)) (add-one at) ∙ ap (λ (k : ℕ). number_from k (drop (suc at) s)) e
      ∙ sym (ap (number_from n) (drop-cons s at 0 h) ∙ choose_no _ _ _ (no_digit_is (get_or s at 0) ∙ ap not (sym t))) ∙ so

  pub number-done : length s ≤ at → Some n ≡ number_in s
  unfolding number_from
  number-done h = sym (ap (number_from n) (drop_of_length-le s h)) ∙ so

more_most : (n b : ℕ) → more_digits n b ≤ too_large
unfolding more_digits
more_most n b = omega arith

number_from_most : (n : ℕ) (s : List ℕ) → n ≤ too_large → IfSome (number_from n s) (λ m. m ≤ too_large)
unfolding number_from choose
number_from_most n [] h = h
number_from_most n (b ∷ s) h = go (no_digit b) (λ m k. number_from_most m s k)
  where
    go : (t : Bool) → ((m : ℕ) → m ≤ too_large → IfSome (number_from m s) (λ m. m ≤ too_large)) → IfSome (choose t None (number_from (more_digits n b) s)) (λ m. m ≤ too_large)
    go true f = tt
    go false f = f (more_digits n b) (more_most n b)

-- no number of a text is larger
pub number_most : (s : List ℕ) → IfSome (number_in s) (λ m. m ≤ too_large)
unfolding number_in
number_most [] = tt
number_most (b ∷ s) = number_from_most 0 (b ∷ s) (omega arith)

-- the steps of `number_in`
pub ruleset number_steps = (number_none, number-start, number_bad, number_more, number-done)
