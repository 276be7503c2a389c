-- What holds of two tables that agree on all that a question asks for. Document 02, orders 7, 10 and 11, compare the answers of one question under two tables.
use Rattle.std.specs.Prelude.{ℕ, Bool, not, List, eqb, ◌≡◌}
use Rattle.agreement.specs.Agree.{Agree}
use Rattle.agreement.specs.Asks.{Asks, AsksOperators}
use Rattle.agreement.specs.Order7.{OneMore}
use Rattle.agreement.specs.SameAnswers.{SameAnswers}
use Rattle.question.specs.Parse.{tree_of}
use Rattle.record.specs.Layout.{name_field}
use Rattle.record.specs.Table.{name_count, records_of}
use Rattle.record.specs.TableRefused.{table_fault}
use Rattle.symbol.specs.Lookup.{symbols_of}

-- a test holds of all names that a question asks for
pub record AskedBy (asked : ℕ → Bool) (q : List ℕ) : Type 0 where
  pub operators : AsksOperators asked
  pub tree : Asks asked (tree_of q)

-- two accepted tables have as many names, and agree on what the test holds of
pub record AgreeingTables (asked : ℕ → Bool) (t u : List ℕ) : Type 0 where
  pub accepted_old : table_fault t ≡ 0
  pub accepted_new : table_fault u ≡ 0
  pub names : name_count (records_of t) ≡ name_count (records_of u)
  pub agree : Agree asked (symbols_of t) (symbols_of u)

-- under these every question has the same answer that asks for no other names
abbrev pub AgreeingAnswers : Type 0
AgreeingAnswers = (asked : ℕ → Bool) (t u q : List ℕ) → AgreeingTables asked t u → AskedBy asked q → SameAnswers t u q

-- every name but one
abbrev pub other_than : ℕ → ℕ → Bool
other_than name id = not (eqb id name)

-- so a function more, wherever it stands, leaves the answer of a question as it was that does not ask for its name
abbrev pub UnaskedFunction : Type 0
UnaskedFunction =
    (t u q : List ℕ) → table_fault t ≡ 0 → table_fault u ≡ 0 → (M : OneMore t u) → AskedBy (other_than (name_field M.new)) q → SameAnswers t u q
