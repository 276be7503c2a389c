-- A search among the built-in spellings.
use Prim.Native.Nat.{ℕ}
use mathlib.Core.Bool.{Bool, true, false, not, ◌&&◌, ◌||◌, false≢true}
use mathlib.Core.List.{List, [], ◌∷◌}
use mathlib.Core.Path.{◌≡◌, refl, ap, ◌∙◌}
use Rattle.std.specs.List.{list_any}
use Rattle.ty.proofs.Choice.{and_left, and_right, or_cases}
use Rattle.ty.proofs.Same.{same_eq}
use Rattle.ty.specs.Bytes.{same_bytes}
use Rattle.record.specs.Inside.NameHash.{eight_at, weighed_of, hash_of}
use Rattle.record.specs.Inside.Sieve.{sieve_words, may_be_builtin}
use Rattle.record.specs.Spelling.{builtin_names, spelled}

-- to be among some is to be one of them
pub spelled_any : (name : List ℕ) (xs : List (List ℕ)) → list_any (λ x. same_bytes name x) xs ≡ spelled name xs
unfolding spelled
spelled_any name [] = refl
spelled_any name (x ∷ xs) = λ i. same_bytes name x || spelled_any name xs i

-- ---- the test before the search

-- each of some spellings passes
unfoldable all_may : List (List ℕ) → Bool
all_may [] = true
all_may (x ∷ xs) = may_be_builtin (hash_of x) && all_may xs

builtins_may : all_may builtin_names ≡ true
unfolding all_may builtin_names may_be_builtin sieve_words hash_of weighed_of eight_at
builtins_may = refl

module _ (name : List ℕ) where
  spelled_may : (xs : List (List ℕ)) → all_may xs ≡ true → spelled name xs ≡ true → may_be_builtin (hash_of name) ≡ true
  unfolding spelled all_may
  spelled_may [] p e = absurd (false≢true e)
  spelled_may (x ∷ xs) p e =
      or_cases
      (same_bytes name x)
      (spelled name xs)
      e
      (λ s. rw (same_eq name x s) (and_left (may_be_builtin (hash_of x)) (all_may xs) p))
      (λ s. spelled_may xs (and_right (may_be_builtin (hash_of x)) (all_may xs) p) s)

  -- what does not pass is none of the built-in spellings
  pub not_spelled : (h : ℕ) → h ≡ hash_of name → (r : Bool) → r ≡ may_be_builtin h → not r ≡ true → false ≡ spelled name builtin_names
  not_spelled n is true e h = absurd (false≢true h)
  not_spelled n is false e h = go (spelled name builtin_names) refl
    where
      go : (v : Bool) → spelled name builtin_names ≡ v → false ≡ v
      go true s = absurd (false≢true (e ∙ ap may_be_builtin is ∙ spelled_may builtin_names builtins_may s))
      go false s = refl
