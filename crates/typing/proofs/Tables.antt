-- What the bounds ask of a table, of an accepted one.
use Prim.Native.Nat.{ℕ}
use mathlib.Core.List.Memᴰ
use mathlib.Core.List.{List, [], ◌∷◌}
use mathlib.Core.Path.{◌≡◌}
use Rattle.record.proofs.EveryRecord.{Every}
use Rattle.symbol.proofs.AcceptedTable.{FunctionGood, functions_good, field_good}
use Rattle.symbol.specs.Lookup.{symbols_of}
use Rattle.record.specs.TableRefused.{table_fault}
use Rattle.symbol.specs.Symbols.{Overload}
use Rattle.typing.proofs.Short.{Results, SymbolsFit, cons_results}

results_of : (os : List Overload) → Every FunctionGood os → Results os
results_of [] g = λ o m. absurd (Memᴰ.not-nil m)
results_of (o ∷ os) g = cons_results g.0.result.short (results_of os g.1)

pub symbols_fit : (t : List ℕ) → table_fault t ≡ 0 → SymbolsFit (symbols_of t)
symbols_fit t e =
    record {
      fields = λ owner id ty q. (field_good t e owner id ty q).short;
      results = λ owner id. results_of ((symbols_of t).functions_of owner id) (functions_good t e owner id);
    }
