-- From what the calls say to what is said of a case.
use Prim.Native.Nat.{ℕ, ◌≤◌}
use lib.ListN.{length, take, drop, length-append, length-drop}
use lib.Seq.{length-take-le, drop_at}
use mathlib.Core.List.{List, ◌++◌}
use mathlib.Core.Path.{◌≡◌, ap, sym, ◌∙◌}
use native.Mathlib.Omega.{arith}
use Rattle.console.specs.Buffer.{Filled}
use Rattle.judge_text.proofs.Whole.{filled-part, filled-whole}
use Rattle.judge_text.specs.ProgramText.{answer_text}
use Rattle.replay.specs.Agreement.{agreement}
use Rattle.replay.specs.CaseTaken.{CaseTaken}
use Rattle.replay.specs.Inside.CaseRead.{PartRead, PartFrom}
use Rattle.std.proofs.KnownBytes.{Consumes-trans}
use Rattle.std.specs.Prelude.{Option}
use Rattle.ty.specs.Bytes.{same_bytes}

-- the front of the filled buffer is compared
pub compared : (t q e : List ℕ) (lent : ℕ) {b b' : List ℕ} {n : ℕ} → Filled b b' n (answer_text t q lent) → same_bytes (take n b') e ≡ agreement t q e lent (length b)
unfolding agreement
compared t q e lent f = ap (λ (x : List ℕ). same_bytes x e) (filled-part f)

-- where n bytes were read in place of the first n, the rest is as it was
pub part_front : (n : ℕ) (s t : List ℕ) → length (s ++ drop n t) ≡ length t → n ≤ length t → n ≤ 65535 → PartRead t (s ++ drop n t) n
part_front n s t e h m =
    let k : n ≤ length (s ++ drop n t) = omega arith in
    let f : length s ≡ n = omega (arith, length-append s (drop n t), length-drop n t) in
    record { most = m; counts = (k, sym (length-take-le n (s ++ drop n t) k)); rest = drop_at s (drop n t) n f }

-- three parts that were read are a case
pub taken_case : (old m k new : Option (List ℕ)) (t q e : ℕ) (ts qs es : List ℕ) → PartFrom old m t (take t ts) → PartFrom m k q (take q qs) → PartFrom k new e (take e es)
    → t ≤ length ts → q ≤ length qs → e ≤ length es → CaseTaken old new (take t ts) (take q qs) (take e es)
taken_case old m k new t q e ts qs es x y z i j l =
    record {
      a = x.0;
      b = y.0;
      c = z.0;
      table_length = (x.2, x.3 ∙ sym (length-take-le t ts i));
      question_length = (y.2, y.3 ∙ sym (length-take-le q qs j));
      expected_length = (z.2, z.3 ∙ sym (length-take-le e es l));
      taken = Consumes-trans _ _ _ _ _ x.1 (Consumes-trans _ _ _ _ _ y.1 z.1);
    }

-- what `agrees` cites
pub ruleset agreeing = (compared, filled-whole)
