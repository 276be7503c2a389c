-- In an accepted table no two parameters of a function have one name, and a function has at most 16.
use Prim.Native.Nat.{ℕ, ◌≤◌}
use lib.ListN.{length}
use borrow.Author.Tests.{ne_eqb}
use mathlib.Core.List.Memᴰ
use mathlib.Core.List.{List, [], ◌∷◌, Memᴰ}
use mathlib.Core.Logic.{◌⊎◌, inl, inr}
use mathlib.Core.Option.{none}
use mathlib.Core.Path.{◌≡◌, refl}
use Rattle.scoring.specs.WithParams.{param_named, NamesDiffer}
use Rattle.record.proofs.EveryRecord.{Every}
use Rattle.symbol.proofs.AcceptedTable.{FunctionGood, functions_good}
use Rattle.symbol.proofs.ParamNames.{Absent, Distinct}
use Rattle.symbol.specs.Lookup.{symbols_of}
use Rattle.record.specs.TableRefused.{table_fault}
use Rattle.symbol.specs.Symbols.{Param, Overload}
use Rattle.ty.specs.Choose.{choose}

absent_none : (id : ℕ) (ps : List Param) → Absent id ps → param_named id ps ≡ none
unfolding param_named choose
absent_none id [] a = refl
absent_none id (p ∷ ps) a = rw (ne_eqb p.name id a.0) (absent_none id ps a.1)

names_differ : (ps : List Param) → Distinct ps → NamesDiffer ps
unfolding NamesDiffer
names_differ [] d = tt
names_differ (p ∷ ps) d = (absent_none p.name ps d.0, names_differ ps d.1)

among : (os : List Overload) → Every FunctionGood os → (o : Overload) → Memᴰ o os → FunctionGood o
among [] g o m = absurd (Memᴰ.not-nil m)
among (x ∷ os) g o m = go (Memᴰ.cases_cons m) (among os g.1 o)
  where
    go : (o ≡ x) ⊎ Memᴰ o os → (Memᴰ o os → FunctionGood o) → FunctionGood o
    go (inl e) f = rw e g.0
    go (inr n) f = f n

module _ (t : List ℕ) (e : table_fault t ≡ 0) (owner id : ℕ) (o : Overload) (m : Memᴰ o ((symbols_of t).functions_of owner id)) where
  good : FunctionGood o
  good = among ((symbols_of t).functions_of owner id) (functions_good t e owner id) o m

  pub names_apart : NamesDiffer o.params
  names_apart = names_differ o.params good.distinct

  pub few_params : length o.params ≤ 16
  few_params = good.few
