-- How much a call reports: a bound, so that no count wraps.
use Prim.Native.Nat.{ℕ, suc, ◌+◌, ◌*◌, ◌≤◌}
use lib.ListN.{length, length-append}
use mathlib.Core.List.{List, [], ◌∷◌}
use mathlib.Core.Path.{◌≡◌, sym, subst}
use native.Mathlib.Omega.{arith}
use Rattle.area.specs.Diagnostic.{Diag}
use Rattle.symbol.proofs.AcceptedTable.{functions_few}
use Rattle.record.specs.TableRefused.{table_fault}
use Rattle.overload.proofs.OverloadFold.{usable_few}
use Rattle.overload.proofs.ArgumentReports.{all_unknown_few, mismatches_few}
use Rattle.overload.proofs.SingleReports.{access_few, at_append}
use Rattle.scoring.specs.Arg.{Arg}
use Rattle.scoring.specs.Arity.{any_own, usable, fitting}
use Rattle.overload.specs.Before.{suspend_report, call_reports, method_reports}
use Rattle.overload.specs.Best.{Best, nobody, best, chosen}
use Rattle.overload.specs.Reports.{all_unknown, mismatches}
use Rattle.scoring.specs.WithParams.{with_params}
use Rattle.overload.specs.Inside.Tally.{most_diagnostics}
use Rattle.overload.specs.Resolve.{none_fits, tie_report, settle, resolve_in, resolve}
use Rattle.question.specs.declared.Header.{Header}
use Rattle.rules.specs.Access.{access_report}
use Rattle.operators.specs.Diag.{diag, reported_at as at}
use Rattle.area.specs.DiagnosticKind.{no_match_diag}
use Rattle.operators.specs.Out.{Report, unless}
use Rattle.symbol.specs.Lookup.{symbols_of}
use Rattle.symbol.specs.Symbols.{Overload, Symbols}
use Rattle.ty.proofs.Choice.{by_choice}

tie_few : (n many : ℕ) → length (tie_report n many) ≤ 1
unfolding tie_report
tie_few n many = by_choice (λ (ds : List Diag). length ds ≤ 1) _ (λ _. omega arith) (λ _. omega arith)

module _ (S : Symbols) (xs : List Arg) (short : length xs ≤ 16) where
  settle_few : (n : ℕ) (v : Overload) (vs : List Overload) (b : Best) → length (settle S n xs v vs b).diags ≤ 16 * suc (length vs) + 16
  unfolding settle
  settle_few n v vs (best s first many) =
      omega (arith, length-append (all_unknown (v ∷ vs) xs) (tie_report n many), all_unknown_few (v ∷ vs) xs short, tie_few n many)
  settle_few n v [] nobody =
      omega
      (arith, length-append (all_unknown (v ∷ []) xs) (mismatches S 1 (with_params v.params xs)), all_unknown_few (v ∷ []) xs short, mismatches_few S v.params xs)
  settle_few n v (w ∷ vs) nobody =
      omega
      (arith, length-append (all_unknown (v ∷ w ∷ vs) xs) (diag no_match_diag n 0 ∷ []), all_unknown_few (v ∷ w ∷ vs) xs short)

  -- a call of a list
  pub resolve_few : (os : List Overload) (n : ℕ) → length (resolve S os n xs).diags ≤ 16 * length os + 16
  unfolding resolve resolve_in none_fits
  resolve_few os n =
      go (fitting (length xs) (usable os)) (usable_few (length xs) os)
    where
      go : (vs : List Overload) → length vs ≤ length os → length (resolve_in S (any_own os) n xs vs).diags ≤ 16 * length os + 16
      go [] h =
          let e : length (none_fits (any_own os) n (length xs)).diags ≤ 1 = by_choice (λ (ds : List Diag). length ds ≤ 1) _ (λ _. omega arith) (λ _. omega arith) in
          omega arith
      go (v ∷ vs) h = omega (arith, settle_few n v vs (chosen S nobody (v ∷ vs) xs))

-- a call in an accepted table
pub call_few : (t : List ℕ) (owner id n : ℕ) (xs : List Arg) → table_fault t ≡ 0 → length xs ≤ 16
    → length (resolve (symbols_of t) ((symbols_of t).functions_of owner id) n xs).diags ≤ most_diagnostics
call_few t owner id n xs clean short =
    omega (arith, resolve_few (symbols_of t) xs short ((symbols_of t).functions_of owner id) n, functions_few t clean owner id)

-- before the arguments
suspend_few : (S : Symbols) (H : Header) (owner id n : ℕ) → length (at n (suspend_report S H owner id)) ≤ 1
unfolding at suspend_report unless
suspend_few S H owner id n = by_choice (λ (rs : List Report). length (at n rs) ≤ 1) _ (λ _. omega arith) (λ _. omega arith)

pub before-call_few : (S : Symbols) (H : Header) (id n : ℕ) → length (at n (call_reports S H id)) ≤ 1
before-call_few S H id n = suspend_few S H _ id n

pub before-method_few : (S : Symbols) (H : Header) (vis owner id n : ℕ) → length (at n (method_reports S H vis owner id)) ≤ 2
before-method_few S H vis owner id n =
    subst (λ (ds : List Diag). length ds ≤ 2) (sym (at_append n (access_report S H vis owner) (suspend_report S H owner id)))
    (omega
    (arith, length-append (at n (access_report S H vis owner)) (at n (suspend_report S H owner id)), access_few S H vis owner n, suspend_few S H owner id n))
