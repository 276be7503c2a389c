-- What order 7 claims. Document 02: "Consider two accepted tables, the second having one function more, behind all others, in a list that was not empty. Let
-- the old list hold a non-builtin, or the new function be a builtin. Suppose that at each call reading this list the new one is dropped as builtin, or doesn't
-- fit in number, or else it knows all named arguments, an old usable overload matches, and the new one doesn't match or scores less than the best. Then with
-- equal buffers the whole answer and every diagnostic are equal in both." The promise is of questions without a node of kind 7 (order 8): there is none yet.
use Rattle.std.specs.Prelude.{ℕ, true, ◌⊎◌, ◌≢◌, ◌≡◌}
use mathlib.Core.List.{List, [], ◌∷◌, ◌++◌}
use Rattle.agreement.specs.Reads.{Reads}
use Rattle.agreement.specs.SameAnswers.{SameAnswers}
use Rattle.agreement.specs.Undisturbed.{Undisturbed}
use Rattle.question.specs.Header.{header_of}
use Rattle.question.specs.Parse.{tree_of}
use Rattle.question.specs.QuestionRefused.{question_fault}
use Rattle.record.specs.Layout.{record_kind, owner_field, name_field}
use Rattle.record.specs.Table.{Record, records_of, keyed}
use Rattle.record.specs.TableRefused.{table_fault}
use Rattle.scoring.specs.Arg.{Arg}
use Rattle.scoring.specs.Arity.{any_own}
use Rattle.symbol.specs.Lookup.{overload_of, symbols_of}
use Rattle.symbol.specs.Symbols.{Overload}
use Rattle.typing.specs.Answer.{names_of}

-- "the second having one function more": the records of u are those of t and a function's
pub record OneMore (t u : List ℕ) : Type 0 where
  pub front : List Record
  pub new : Record
  pub rear : List Record
  pub old : records_of t ≡ front ++ rear
  pub now : records_of u ≡ front ++ (new ∷ rear)
  pub function : record_kind new ≡ 4

module _ (t u : List ℕ) (M : OneMore t u) where
  -- the new function, and the list that it is added to, as it was
  abbrev pub new_function : Overload
  new_function = overload_of M.new

  abbrev pub old_list : List Overload
  old_list = (symbols_of t).functions_of (owner_field M.new) (name_field M.new)

  -- "behind all others": no other of its list stands behind it
  abbrev pub StandsLast : Type 0
  StandsLast = keyed 4 (owner_field M.new ∷ name_field M.new ∷ []) M.rear ≡ []

  -- "Let the old list hold a non-builtin, or the new function be a builtin."
  abbrev pub DropsAsBefore : Type 0
  DropsAsBefore = (any_own old_list ≡ true) ⊎ (new_function.builtin ≡ true)

  -- "Suppose that at each call reading this list .."; by the types that the question has under the first table, where it is accepted
  abbrev pub CallsUndisturbed : List ℕ → Type 0
  CallsUndisturbed q =
      question_fault (names_of t) q ≡ 0
      → (xs : List Arg) → Reads (symbols_of t) (header_of q) (tree_of q) (owner_field M.new) (name_field M.new) xs
      → Undisturbed (symbols_of t) old_list new_function xs

-- what is supposed of the two tables
pub record AddsFunction (t u : List ℕ) : Type 0 where
  pub accepted_old : table_fault t ≡ 0
  pub accepted_new : table_fault u ≡ 0
  pub more : OneMore t u
  pub last : StandsLast t u more
  pub listed : old_list t u more ≢ []
  pub builtins : DropsAsBefore t u more

-- "Then with equal buffers the whole answer and every diagnostic are equal in both."
abbrev pub Order7 : Type 0
Order7 = (t u : List ℕ) (A : AddsFunction t u) (q : List ℕ) → CallsUndisturbed t u A.more q → SameAnswers t u q
