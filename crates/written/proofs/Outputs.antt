-- How an output grows in a cleared buffer, and a writing part's returns.
use Prim.Native.Nat.{ℕ, ◌+◌, ◌-◌, ◌≤◌}
use lib.ListN.{length, replicate, length-append}
use lib.Seq.{sets}
use mathlib.Core.List.{List, [], ◌++◌}
use mathlib.Core.Path.{◌≡◌, sym, ap, ◌∙◌}
use native.Mathlib.Nat.{sub-zero}
use native.Mathlib.Omega.{arith}
use Rattle.written.proofs.ListFacts.{sets-zeros}
use Rattle.std.specs.Prelude.{Result, Ok, Err}
use Rattle.written.specs.Output.{Output, wrote, refused, write_fault_number, written_of, written_number, written_len, lent_after, Writes}
use Rattle.written.specs.Padding.{padded_to}
use Rattle.written.specs.declared.WriteFault.{WriteFault}

-- a cleared buffer has the empty output
pub wrote_nothing : (lent : ℕ) → replicate lent 0 ≡ lent_after {F = WriteFault} lent (wrote [])
unfolding lent_after padded_to
wrote_nothing lent = ap (λ (k : ℕ). replicate k 0) (sym (sub-zero lent))

-- bytes stored behind an output belong to it
pub wrote_more : (lent : ℕ) (done s : List ℕ) → length done + length s ≤ lent
    → sets (lent_after {F = WriteFault} lent (wrote done)) (length done) s ≡ lent_after {F = WriteFault} lent (wrote (done ++ s))
unfolding lent_after padded_to
wrote_more lent done s h =
    let e : lent - length done - length s ≡ lent - length (done ++ s) = rw length-append (omega arith) in
    sets-zeros done s (lent - length done) (omega arith) ∙ ap (λ (k : ℕ). (done ++ s) ++ replicate k 0) e

-- the whole output at once
pub wrote_all : (lent : ℕ) (s : List ℕ) → length s ≤ lent → sets (replicate lent 0) 0 s ≡ lent_after {F = WriteFault} lent (wrote s)
wrote_all lent s h = ap (λ (b : List ℕ). sets b 0 s) (wrote_nothing lent) ∙ wrote_more lent [] s (omega arith)

-- the return of an output
pub wrote_writes : (s : List ℕ) (len : ℕ) (before after : List ℕ) → len ≡ length s → after ≡ lent_after {F = WriteFault} (length before) (wrote s)
    → Writes {F = WriteFault} (wrote s) (Ok len) before after
unfolding written_of
wrote_writes s len before after l e = record { answer = rw l; buffer = e }

-- the answer as a number and a length
unfoldable len_of : Result ℕ WriteFault → ℕ
len_of (Ok len) = len
len_of (Err fault) = 0

unfoldable number_of : Result ℕ WriteFault → ℕ
number_of (Ok len) = 0
number_of (Err fault) = write_fault_number fault

len_is : (o : Output WriteFault) (r : Result ℕ WriteFault) → r ≡ written_of o → len_of r ≡ written_len o
unfolding written_of len_of
len_is (wrote bytes) r e = rw e
len_is (refused fault) r e = rw e

number_is : (o : Output WriteFault) (r : Result ℕ WriteFault) → r ≡ written_of o → number_of r ≡ written_number o
unfolding written_of number_of
number_is (wrote bytes) r e = rw e
number_is (refused fault) r e = rw e

inside : {after : List ℕ} (lent : ℕ) (o : Output WriteFault) → after ≡ lent_after lent o → written_len o ≤ length after
unfolding lent_after padded_to
inside lent (refused fault) e = omega arith
inside {after} lent (wrote bytes) e =
    let zeros : List ℕ = replicate (lent - length bytes) 0 in
    let n : length after ≡ length bytes + length zeros = ap length e ∙ length-append bytes zeros in
    omega arith

module _ (o : Output WriteFault) (before after : List ℕ) where
  pub ok_written : (len : ℕ) → Writes o (Ok len) before after → (written_number o ≡ 0) × (written_len o ≡ len)
  unfolding number_of len_of
  ok_written len w = (sym (number_is o (Ok len) w.answer), sym (len_is o (Ok len) w.answer))

  pub err_written : (fault : WriteFault) → Writes o (Err fault) before after → (written_number o ≡ write_fault_number fault) × (written_len o ≡ 0)
  unfolding number_of len_of
  err_written fault w = (sym (number_is o (Err fault) w.answer), sym (len_is o (Err fault) w.answer))

  -- the output lies inside the lent bytes, so that a caller may slice them
  pub len_fits : (len : ℕ) → Writes o (Ok len) before after → len ≤ length after
  len_fits len w = omega (arith, (ok_written len w).1, inside (length before) o w.buffer)
