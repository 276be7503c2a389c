-- Laws of the input's two parts.
use Prim.Native.Nat.{ℕ, zero, suc, ◌+◌, ◌-◌, ◌≤◌, ◌<◌, min}
use borrow.Author.Tests.{leb-true, leb-false, le-leb, lt-leb}
use lib.Dec.{leb}
use lib.ListN.{length, get_or, take, drop, length-take}
use lib.Seq.{get_or-take, take-take, take_all, take-nil}
use mathlib.Core.Bool.{Bool, true, false, ◌&&◌}
use mathlib.Core.List.{List, [], ◌∷◌}
use mathlib.Core.Logic.{◌↔◌, ◌⊎◌, inl, inr}
use mathlib.Core.Path.{◌≡◌, refl, sym, ap, ◌∙◌}
use native.Mathlib.Omega.{arith}
use Rattle.console.specs.Input.{table_length, is_whole, table_of, question_of, Bytes, input_limit}
use Rattle.ty.proofs.Choice.{chosen, passed}
use Rattle.ty.specs.Choose.{choose}

-- the input is whole just where it has the bytes that it says
and_false : (t : Bool) → t && false ≡ false
and_false true = refl
and_false false = refl

pub whole_from : (input : List ℕ) (n : ℕ) → n ≡ table_length input → 2 + n ≤ length input → is_whole input ≡ true
unfolding is_whole
whole_from input n e h = rw (le-leb 2 (length input) (omega arith), le-leb (2 + table_length input) (length input) (omega arith))

pub part_from : (input : List ℕ) (n : ℕ) → n ≡ table_length input → (2 + n < 2) ⊎ (length input < 2 + n) → is_whole input ≡ false
unfolding is_whole
part_from input n e (inl h) = absurd (omega arith)
part_from input n e (inr h) = rw (lt-leb (2 + table_length input) (length input) (omega arith)) (and_false (leb 2 (length input)))

pub table_some : (input : List ℕ) (n : ℕ) → is_whole input ≡ true → n ≡ table_length input → take (2 + n - 2) (drop 2 input) ≡ table_of input
unfolding table_of
table_some input n e h =
    let k : 2 + n - 2 ≡ table_length input = omega arith in
    chosen (is_whole input) (take (2 + n - 2) (drop 2 input)) (take (table_length input) (drop 2 input)) [] e (ap (λ (x : ℕ). take x (drop 2 input)) k)

pub table_none : (input : List ℕ) → is_whole input ≡ false → [] ≡ table_of input
unfolding table_of
table_none input e = passed (is_whole input) [] (take (table_length input) (drop 2 input)) [] e refl

pub question_some : (input : List ℕ) (n : ℕ) → is_whole input ≡ true → n ≡ table_length input → drop (2 + n) input ≡ question_of input
unfolding question_of
question_some input n e h =
    chosen (is_whole input) (drop (2 + n) input) (drop (2 + table_length input) input) [] e (ap (λ (x : ℕ). drop (2 + x) input) h)

pub question_none : (input : List ℕ) → is_whole input ≡ false → [] ≡ question_of input
unfolding question_of
question_none input e = passed (is_whole input) [] (drop (2 + table_length input) input) [] e refl

-- ---- what the program keeps of a long input
drop-take : (n k : ℕ) (s : List ℕ) → drop n (take k s) ≡ take (k - n) (drop n s)
drop-take zero k s =
    let e : k ≡ k - 0 = omega arith in
    ap (λ (x : ℕ). take x s) e
drop-take (suc n) zero s =
    let e : 0 ≡ 0 - suc n = omega arith in
    ap (λ (x : ℕ). take x (drop (suc n) s)) e
drop-take (suc n) (suc k) [] = sym (take-nil (suc k - suc n))
drop-take (suc n) (suc k) (x ∷ s) =
    let e : k - n ≡ suc k - suc n = omega arith in
    drop-take n k s ∙ ap (λ (z : ℕ). take z (drop n s)) e

take_choice : (t : Bool) (k : ℕ) (s : List ℕ) → choose t (take k s) [] ≡ take k (choose t s [])
unfolding choose
take_choice true k s = refl
take_choice false k s = sym (take-nil k)

module _ (k : ℕ) (big : 81922 ≤ k) (input : List ℕ) (bytes : Bytes input) where
  abbrev n : ℕ
  n = table_length input

  small : n ≤ 65535
  small = omega (arith, bytes 0, bytes 1)

  cut_leb : (m : ℕ) → m ≤ k → leb m (length (take k input)) ≡ leb m (length input)
  cut_leb m h = go (leb m (length input)) refl
    where
      go : (t : Bool) → leb m (length input) ≡ t → leb m (length (take k input)) ≡ leb m (length input)
      go true e = le-leb m (length (take k input)) (omega (arith, length-take k input, leb-true m (length input) e)) ∙ sym e
      go false e = lt-leb m (length (take k input)) (omega (arith, length-take k input, leb-false m (length input) e)) ∙ sym e

  cut_length : table_length (take k input) ≡ n
  cut_length =
      let a : get_or (take k input) 0 0 ≡ get_or input 0 0 = get_or-take k input 0 0 (omega arith) in
      let b : get_or (take k input) (0 + 1) 0 ≡ get_or input (0 + 1) 0 = get_or-take k input 1 0 (omega arith) in
      omega arith

  cut_whole : is_whole (take k input) ≡ is_whole input
  unfolding is_whole
  cut_whole =
      ap (λ (x : ℕ). leb 2 (length (take k input)) && leb (2 + x) (length (take k input))) cut_length
      ∙ ap (λ (x : Bool). x && leb (2 + n) (length (take k input))) (cut_leb 2 (omega arith))
      ∙ ap (λ (x : Bool). leb 2 (length input) && x) (cut_leb (2 + n) (omega (arith, small)))

  pub cut_table : table_of (take k input) ≡ table_of input
  unfolding table_of
  cut_table =
      ap (λ (x : Bool). choose x (take (table_length (take k input)) (drop 2 (take k input))) []) cut_whole
      ∙ ap (λ (x : ℕ). choose (is_whole input) (take x (drop 2 (take k input))) []) cut_length
      ∙ ap (λ (x : List ℕ). choose (is_whole input) (take n x) []) (drop-take 2 k input)
      ∙ ap (λ (x : List ℕ). choose (is_whole input) x []) (take-take n (k - 2) (drop 2 input) (omega (arith, small)))

  cut_question : question_of (take k input) ≡ take (k - (2 + n)) (question_of input)
  unfolding question_of
  cut_question =
      ap (λ (x : Bool). choose x (drop (2 + table_length (take k input)) (take k input)) []) cut_whole
      ∙ ap (λ (x : ℕ). choose (is_whole input) (drop (2 + x) (take k input)) []) cut_length
      ∙ ap (λ (x : List ℕ). choose (is_whole input) x []) (drop-take (2 + n) k input)
      ∙ take_choice (is_whole input) (k - (2 + n)) (drop (2 + n) input)

  pub cut_short : length (question_of input) ≤ 16384 → question_of (take k input) ≡ question_of input
  cut_short h = cut_question ∙ take_all (k - (2 + n)) (question_of input) (omega (arith, small))

  pub cut_long : (16384 < length (question_of (take k input))) ↔ (16384 < length (question_of input))
  cut_long =
      let e : length (question_of (take k input)) ≡ min (k - (2 + n)) (length (question_of input)) = ap length cut_question ∙ length-take (k - (2 + n)) (question_of input) in
      (λ h. omega arith, λ h. omega (arith, small))

module _ (input : List ℕ) (bytes : Bytes input) where
  -- of the input's first 81,922 bytes the table is the input's own
  pub table_kept : table_of (take input_limit input) ≡ table_of input
  table_kept = cut_table input_limit (omega arith) input bytes

  -- and so is a question that has at most 16,384 bytes
  pub question_kept : length (question_of input) ≤ 16384 → question_of (take input_limit input) ≡ question_of input
  question_kept h = cut_short input_limit (omega arith) input bytes h

  -- and a longer one stays too long
  pub question_long : (16384 < length (question_of (take input_limit input))) ↔ (16384 < length (question_of input))
  question_long = cut_long input_limit (omega arith) input bytes
