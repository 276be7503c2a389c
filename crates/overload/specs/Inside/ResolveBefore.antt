-- `check_call_args` as it was before order 4, by document 01 alone: the check by index compares argument i with parameter i. What order 4 has changed bears
-- `_before`; law `AsBefore` says where nothing changes.
use Rattle.std.specs.Prelude.{ℕ, suc, Bool, List, [], ◌∷◌, ◌++◌, length}
use Rattle.ty.specs.Choose.{choose}
use Rattle.symbol.specs.Symbols.{Param, Overload, Symbols}
use Rattle.area.specs.DiagnosticKind.{mismatch_diag, no_match_diag}
use Rattle.area.specs.Diagnostic.{Diag}
use Rattle.operators.specs.Out.{error_ty}
use Rattle.operators.specs.Diag.{diag}
use Rattle.scoring.specs.Arg.{Arg, Verdict}
use Rattle.scoring.specs.Arity.{any_own, usable, fitting}
use Rattle.overload.specs.Best.{Best, nobody, best, better}
use Rattle.overload.specs.Reports.{all_unknown, suits}
use Rattle.overload.specs.Resolve.{none_fits, tie_report}
use Rattle.overload.specs.Inside.ScoreBefore.{score_before}

unfoldable pub chosen_before : Symbols → Best → List Overload → List Arg → Best
chosen_before S b [] xs = b
chosen_before S b (o ∷ os) xs = chosen_before S (better b o (score_before S o xs)) os xs

module _ (S : Symbols) where
  -- the argument at position i against the parameter at the same place
  unfoldable pub mismatch_one_before : Param → ℕ → Arg → List Diag
  mismatch_one_before p i a = choose (suits S p.ty a.ty p.vararg) [] (diag mismatch_diag a.node i ∷ [])

  -- an argument behind the last parameter is never reported
  unfoldable pub mismatches_before : List Param → ℕ → List Arg → List Diag
  mismatches_before ps i [] = []
  mismatches_before [] i (a ∷ xs) = []
  mismatches_before (p ∷ ps) i (a ∷ xs) = mismatch_one_before p i a ++ mismatches_before ps (suc i) xs

  -- v and then vs fit in number; the best of them is known
  unfoldable pub settle_before : ℕ → List Arg → Overload → List Overload → Best → Verdict
  settle_before n xs v vs (best s first many) = record { ty = first.result; diags = all_unknown (v ∷ vs) xs ++ tie_report n many }
  settle_before n xs v [] nobody = record { ty = v.result; diags = all_unknown (v ∷ []) xs ++ mismatches_before v.params 1 xs }
  settle_before n xs v (w ∷ vs) nobody = record { ty = error_ty; diags = all_unknown (v ∷ w ∷ vs) xs ++ (diag no_match_diag n 0 ∷ []) }

  unfoldable pub resolve_in_before : Bool → ℕ → List Arg → List Overload → Verdict
  resolve_in_before some_own n xs [] = none_fits some_own n (length xs)
  resolve_in_before some_own n xs (v ∷ vs) = settle_before n xs v vs (chosen_before S nobody (v ∷ vs) xs)

  -- the call of a list of functions that is not empty
  unfoldable pub resolve_before : List Overload → ℕ → List Arg → Verdict
  resolve_before os n xs = resolve_in_before (any_own os) n xs (fitting (length xs) (usable os))
