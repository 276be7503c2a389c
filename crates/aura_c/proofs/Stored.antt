-- What stands before an answer's type, and the type behind it.
use Prim.Native.Nat.{ℕ, zero, suc, ◌-◌, ◌≤◌}
use lib.ListN.{length, take, drop, replicate}
use lib.Seq.{sets}
use mathlib.Core.List.{List, [], ◌∷◌, ◌++◌}
use mathlib.Core.Path.{◌≡◌, refl, ap, ◌∙◌}
use native.Mathlib.Omega.{arith}
use Rattle.aura_c.specs.AnswerBytes.{little_endian, bytes_of, answer_size}
use Rattle.judge.specs.Answered.{front_with}
use Rattle.judge.specs.declared.Front.{Front}
use Rattle.written.proofs.ListFacts.{drop-replicate}
use Rattle.written.specs.Padding.{padded_to}

take-zeros : (n m : ℕ) → n ≤ m → take n (replicate m 0) ≡ replicate {A = ℕ} n 0
take-zeros zero m h = refl
take-zeros (suc n) zero h = absurd (omega arith)
take-zeros (suc n) (suc m) h = ap (λ (l : List ℕ). 0 ∷ l) (take-zeros n m (omega arith))

-- a part of zeros is zeros
pub part-zeros : {z : List ℕ} (room : ℕ) → answer_size ≤ room → z ≡ replicate room 0 → take 256 (drop 12 z) ≡ replicate 256 0
part-zeros room h e = ap (λ (l : List ℕ). take 256 (drop 12 l)) e ∙ ap (λ (l : List ℕ). take 256 l) (drop-replicate 12 room 0) ∙ take-zeros 256 (room - 12) (omega arith)

-- z was all zero; its part from byte 12 to byte 268 has become the type, and then the front was stored
pub joined : {b z : List ℕ} (room : ℕ) (a : Front) (ty : List ℕ) → answer_size ≤ room → length ty ≡ 256 → z ≡ replicate room 0
    → b ≡ sets (take 12 z ++ (ty ++ drop 256 (drop 12 z))) 0 (bytes_of (front_with a [])) → b ≡ padded_to room (bytes_of (front_with a ty))
unfolding little_endian bytes_of padded_to
joined {b} {z} room a ty h n e f =
    let front : take 12 (replicate {A = ℕ} room 0) ≡ replicate 12 0 = take-zeros 12 room (omega arith) in
    let back : drop 256 (drop 12 (replicate {A = ℕ} room 0)) ≡ replicate (room - 12 - 256) 0 = ap (λ (l : List ℕ). drop 256 l) (drop-replicate 12 room 0) ∙ drop-replicate 256 (room - 12) 0 in
    let left : room - 12 - 256 ≡ room - length (bytes_of (front_with a ty)) = omega arith in
    f
    ∙ ap (λ (l : List ℕ). sets (take 12 l ++ (ty ++ drop 256 (drop 12 l))) 0 (bytes_of (front_with a []))) e
    ∙ ap (λ (l : List ℕ). sets (l ++ (ty ++ drop 256 (drop 12 (replicate room 0)))) 0 (bytes_of (front_with a []))) front
    ∙ ap (λ (l : List ℕ). sets (replicate 12 0 ++ (ty ++ l)) 0 (bytes_of (front_with a []))) back
    ∙ ap (λ (k : ℕ). bytes_of (front_with a ty) ++ replicate k 0) left
