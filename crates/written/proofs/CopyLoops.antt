-- The loop that copies bytes: what it has stored so far.
use Prim.Native.Nat.{ℕ, ◌+◌, ◌≤◌, ◌<◌}
use lib.ListN.{length, get_or, take, set}
use lib.Seq.{sets, take_all}
use mathlib.Core.List.{List, [], ◌∷◌, ◌++◌}
use mathlib.Core.Path.{◌≡◌, refl, sym, ap, ◌∙◌}
use native.Mathlib.Omega.{arith}
use Rattle.written.proofs.ListFacts.{part_length, part_next, sets_snoc}

-- the first i bytes of s have been stored at p
unfoldable pub filled : List ℕ → ℕ → List ℕ → ℕ → List ℕ
filled a p s i = sets a p (take i s)

pub fill_zero : (a : List ℕ) (p : ℕ) (s : List ℕ) → a ≡ filled a p s 0
unfolding filled
fill_zero a p s = refl

-- the part of s up to and with byte i
next_byte : (s : List ℕ) (i : ℕ) → i < length s → take (i + 1) s ≡ take i s ++ (get_or s i 0 ∷ [])
next_byte s i h =
    let e : 0 + i ≡ i = omega arith in
    part_next s 0 i (omega arith) ∙ ap (λ (k : ℕ). take i s ++ (get_or s k 0 ∷ [])) e

pub fill_byte : (a₀ : List ℕ) (p : ℕ) (s : List ℕ) (i : ℕ) (a : List ℕ) → i < length s → a ≡ filled a₀ p s i → set a (p + i) (get_or s i 0) ≡ filled a₀ p s (i + 1)
unfolding filled
fill_byte a₀ p s i a h is =
    let vs : List ℕ = take i s in
    ap (λ (l : List ℕ). set l (p + i) (get_or s i 0)) is
    ∙ ap (λ (k : ℕ). set (sets a₀ p vs) (p + k) (get_or s i 0)) (sym (part_length s 0 i (omega arith)))
    ∙ sets_snoc vs a₀ p (get_or s i 0)
    ∙ ap (λ (ws : List ℕ). sets a₀ p ws) (sym (next_byte s i h))

pub fill_all : (a₀ : List ℕ) (p : ℕ) (s : List ℕ) (i : ℕ) (a : List ℕ) → length s ≤ i → a ≡ filled a₀ p s i → a ≡ sets a₀ p s
unfolding filled
fill_all a₀ p s i a h is = is ∙ ap (λ (ws : List ℕ). sets a₀ p ws) (take_all i s h)
