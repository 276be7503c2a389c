-- Each number from 1 to 12 is drawn: a table and a question in bytes for each. Document 01, "Refused, and by whose doing".
use Prim.Native.Nat.{ℕ, zero, suc, ◌<◌}
use lib.ListN.{length, replicate, length-replicate}
use mathlib.Core.List.{List, [], ◌∷◌, ◌++◌}
use mathlib.Core.Path.{◌≡◌, refl, ◌∙◌}
use native.Mathlib.Omega.{arith}
use Rattle.record.specs.TableRefused.{table_fault}
use Rattle.typing.proofs.Computed.{computed}
use Rattle.typing.proofs.Demand1.{demand1, longer}
use Rattle.typing.proofs.Samples.{letter, class, class_with, parent, no_parent, function, script, leaf, unary, int, error, named_class}
use Rattle.typing.specs.Answer.{answer_of, zeros}

-- n times address-of, before a tree
pointers : ℕ → List ℕ → List ℕ
pointers zero x = x
pointers (suc n) x = unary 4 (pointers n x)

-- the number that a table and a question draw, with no buffer
abbrev number : List ℕ → List ℕ → ℕ
number t q = (answer_of t q 0).number

-- 1: a table over 60,000 bytes, whatever it and the question are
over : (n : ℕ) (q : List ℕ) → 60000 < n → number (zeros n) q ≡ 1
over n q h =
    let e : length (zeros n) ≡ n = length-replicate n 0 in
    let f : table_fault (zeros n) ≡ 1 = longer (zeros n) (omega arith) in
    (demand1 (zeros n) q 0).table (λ z. omega arith) ∙ f

pub record Drawn : Type 0 where
  -- "1 over 60,000 bytes;"
  one : number (zeros 60001) [] ≡ 1
  -- "2 malformed or cut record;" (a record of kind 0; a name cut after its length)
  two : number (0 ∷ []) [] ≡ 2
  two_cut : number (1 ∷ 1 ∷ []) [] ≡ 2
  -- "3 kind falls;" (a class before a name)
  three : number (class 0 no_parent ++ letter 120) [] ≡ 3
  -- "4 undefined id;" (class 40 without a name)
  four : number (class 40 no_parent) [] ≡ 4
  -- of interfaces document 02 says "and undefined ones get 4" (names 40 and a second interface 41), and "an interface with a record needs it earlier, else
  -- number 6"
  four_interface : number (letter 120 ++ class_with 40 no_parent no_parent (parent 41)) [] ≡ 4
  -- "5 key repeated" (a name twice)
  five : number (letter 120 ++ letter 120) [] ≡ 5
  -- "6 a superclass with a record, but not an earlier one;"
  six : number (class 0 (parent 1) ++ class 1 no_parent) [] ≡ 6
  six_interface : number (class_with 0 no_parent no_parent (parent 1) ++ class 1 no_parent) [] ≡ 6
  -- "7 Error in a type, or no end within 192 bytes." (a function whose result is Error; one whose result is 192 Nullable)
  seven : number (letter 120 ++ function 40 error 0 []) [] ≡ 7
  seven_endless : number (letter 120 ++ function 40 (replicate 192 12) 0 []) [] ≡ 7
  -- "8 over 16,384 bytes, malformed, cut, or bytes behind the tree;" (none at all; a leaf of kind 23; a leaf and a byte)
  eight : number [] [] ≡ 8
  eight_malformed : number [] (script (leaf (23 ∷ []))) ≡ 8
  eight_behind : number [] (script (leaf int ++ (0 ∷ []))) ≡ 8
  -- "9 a 65th node;"
  nine : number [] (script (pointers 64 (leaf int))) ≡ 9
  -- "10 undefined id;" (a leaf of the class 40)
  ten : number [] (script (leaf (named_class 40))) ≡ 10
  -- "11 leaf type without end in 192 bytes." "191 Nullable over Int is taken, 192 is refused."
  eleven : number [] (script (leaf (replicate 192 12 ++ int))) ≡ 11
  taken : number [] (script (leaf (replicate 191 12 ++ int))) ≡ 0
  -- "12 exactly when 5 × diagnostics exceeds the buffer"
  twelve : (answer_of [] (script (unary 6 (leaf int))) 4).number ≡ 12

pub drawn : Drawn
unfolding pointers computed
drawn = record {
  one = over 60001 [] (omega arith);
  two = refl;
  two_cut = refl;
  three = refl;
  four = refl;
  four_interface = refl;
  five = refl;
  six = refl;
  six_interface = refl;
  seven = refl;
  seven_endless = refl;
  eight = refl;
  eight_malformed = refl;
  eight_behind = refl;
  nine = refl;
  ten = refl;
  eleven = refl;
  taken = refl;
  twelve = refl;
}
