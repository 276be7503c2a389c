-- Sixteen places that hold a list of at most sixteen.
use Rattle.std.specs.Prelude.{◌≡◌, ℕ, ◌-◌, ◌≤◌, List, ◌++◌, length, take, drop, replicate}
use mathlib.Core.Path.{ap, sym, subst, ◌∙◌}
use Rattle.std.proofs.lemmas.List.{length-take-le, take-append-drop}

-- the first n of them hold something, and each behind these is blank
pub record Occupied {A : Type 0} (blank : A) (n : ℕ) (xs : List A) : Type 0 where
  pub few : n ≤ 16
  pub long : length xs ≡ 16
  pub rest : drop n xs ≡ replicate (16 - n) blank

-- the places that hold a list
abbrev pub with_blanks : {A : Type 0} → A → List A → List A
with_blanks blank xs = xs ++ replicate (16 - length xs) blank

-- ---- the places are those of the list that they hold
module _ {A : Type 0} {blank : A} {n : ℕ} {xs : List A} (o : Occupied blank n xs) where
  pub occupied_length : length (take n xs) ≡ n
  occupied_length = length-take-le n xs (subst (λ (k : ℕ). n ≤ k) (sym o.long) o.few)

  pub occupied_all : with_blanks blank (take n xs) ≡ xs
  occupied_all =
      ap (λ (k : ℕ). take n xs ++ replicate (16 - k) blank) occupied_length
      ∙ ap (λ (ys : List A). take n xs ++ ys) (sym o.rest) ∙ take-append-drop n xs
