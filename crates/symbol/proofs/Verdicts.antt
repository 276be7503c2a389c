-- What the answer of `check_table` says.
use Prim.Native.Nat.{ℕ}
use mathlib.Core.List.{List}
use mathlib.Core.Path.{◌≡◌, sym, ap, ◌∙◌, subst}
use native.Mathlib.Omega.{arith}
use Rattle.std.specs.Prelude.{Result, Ok, Err, IfOk, IsErr, IsErrAnd}
use Rattle.record.specs.TableRefused.{table_fault}
use Rattle.record.specs.Table.{records_of, name_count}
use Rattle.symbol.specs.Inside.Checked.{checked_number}
use Rattle.symbol.specs.TableFault.{table_fault_number}
use Rattle.symbol.specs.declared.checks.TableFault.{TableFault}
use Rattle.symbol.specs.declared.checks.TableFault.TheVariants.{TooLong, Malformed, KindFalls, UndefinedId, KeyRepeated, ParentLate, HasError}

-- a refusal has a number
pub fault_some : (f : TableFault) → table_fault_number f ≡ 0 → ⊥
fault_some TooLong e = omega arith
fault_some Malformed e = omega arith
fault_some KindFalls e = omega arith
fault_some UndefinedId e = omega arith
fault_some KeyRepeated e = omega arith
fault_some ParentLate e = omega arith
fault_some HasError e = omega arith

-- AN ANSWER WITH NAMES accepts the table, and has its names
module _ (t : List ℕ) (r : Result ℕ TableFault) (e : checked_number r ≡ table_fault t) where
  pub checked-clean : (n : ℕ) → r ≡ Ok n → table_fault t ≡ 0
  checked-clean n q = sym e ∙ ap checked_number q

  pub checked-names : (n : ℕ) → r ≡ Ok n → IfOk r (λ (m : ℕ). m ≡ name_count (records_of t)) → n ≡ name_count (records_of t)
  checked-names n q h = subst (λ (z : Result ℕ TableFault). IfOk z (λ (m : ℕ). m ≡ name_count (records_of t))) q h

  -- another answer is the table's number, which is none of an accepted one
  pub checked-refused : (f : TableFault) → r ≡ Err f → (table_fault t ≡ table_fault_number f) × (table_fault t ≡ 0 → ⊥)
  checked-refused f q =
      let n : table_fault t ≡ table_fault_number f = sym e ∙ ap checked_number q in
      (n, λ z. fault_some f (sym n ∙ z))

-- a refusal that a callee gave is passed on
pub passed_on : (r : Result ℕ TableFault) (f : TableFault) → IsErr r → IsErrAnd r (λ (g : TableFault). g ≡ f) → checked_number r ≡ table_fault_number f
passed_on (Ok n) f i h = absurd h
passed_on (Err g) f i h = ap table_fault_number h
