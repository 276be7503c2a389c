-- `check_call_args` of checker.rs, from where the arguments are judged: the type of the call at node n, and what is reported, in the source's order. Document
-- 02, order 4: "the check of a single unmatched overload, in argument order". The source's last walk over the chosen overload has no part in it
-- (docs/DECISIONS.md, 15).
use Rattle.std.specs.Prelude.{ℕ, Bool, List, [], ◌∷◌, ◌++◌, length, ltb}
use Rattle.ty.specs.Choose.{choose}
use Rattle.symbol.specs.Symbols.{Overload, Symbols}
use Rattle.area.specs.DiagnosticKind.{argument_count_diag, no_match_diag, tie_diag}
use Rattle.operators.specs.Out.{error_ty}
use Rattle.area.specs.Diagnostic.{Diag}
use Rattle.operators.specs.Diag.{diag}
use Rattle.scoring.specs.Arg.{Arg, Verdict}
use Rattle.scoring.specs.Arity.{any_own, usable, fitting}
use Rattle.overload.specs.Best.{Best, nobody, best, chosen}
use Rattle.scoring.specs.WithParams.{with_params}
use Rattle.overload.specs.Reports.{all_unknown, mismatches}

-- no overload fits: reported unless all are builtins
unfoldable pub none_fits : Bool → ℕ → ℕ → Verdict
none_fits some_own n args = record { ty = error_ty; diags = choose some_own (diag argument_count_diag n args ∷ []) [] }

-- so many overloads have the highest score
unfoldable pub tie_report : ℕ → ℕ → List Diag
tie_report n many = choose (ltb 1 many) (diag tie_diag n many ∷ []) []

module _ (S : Symbols) where
  -- v and then vs fit in number; the best of them is known
  unfoldable pub settle : ℕ → List Arg → Overload → List Overload → Best → Verdict
  settle n xs v vs (best s first many) = record { ty = first.result; diags = all_unknown (v ∷ vs) xs ++ tie_report n many }
  settle n xs v [] nobody = record { ty = v.result; diags = all_unknown (v ∷ []) xs ++ mismatches S 1 (with_params v.params xs) }
  settle n xs v (w ∷ vs) nobody = record { ty = error_ty; diags = all_unknown (v ∷ w ∷ vs) xs ++ (diag no_match_diag n 0 ∷ []) }

  unfoldable pub resolve_in : Bool → ℕ → List Arg → List Overload → Verdict
  resolve_in some_own n xs [] = none_fits some_own n (length xs)
  resolve_in some_own n xs (v ∷ vs) = settle n xs v vs (chosen S nobody (v ∷ vs) xs)

  -- the call of a list of functions that is not empty
  unfoldable pub resolve : List Overload → ℕ → List Arg → Verdict
  resolve os n xs = resolve_in (any_own os) n xs (fitting (length xs) (usable os))
