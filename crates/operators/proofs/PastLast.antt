-- A number past the operators is ruled as the last one: a binary one as As, a unary one as NotNull. None of them has an operator method.
use Prim.Native.Nat.{ℕ, ◌≤◌, ◌<◌}
use borrow.Author.Tests.{lt-leb, ne_eqb}
use lib.Dec.{leb, eqb}
use mathlib.Core.Bool.{false}
use mathlib.Core.List.{List}
use mathlib.Core.Path.{◌≡◌, sym, ◌∙◌}
use native.Mathlib.Omega.{arith}
use Rattle.area.specs.declared.Source.{Source}
use Rattle.operators.specs.Inside.BinaryRule.{operator_ruled, builtin_ruled, binary_ruled}
use Rattle.operators.specs.Inside.MethodPlace.{operator_place}
use Rattle.operators.specs.Inside.RuledParts.{ruled_alone}
use Rattle.operators.specs.Inside.UnaryRule.{unary_one, unary_ruled}
use Rattle.operators.specs.Operator.{as_op, not_null_op}
use Rattle.operators.specs.declared.ruled.OneReport.{OneReport}
use Rattle.operators.specs.declared.ruled.Ruled.{Ruled}
use Rattle.question.proofs.Operators.{past_binary, past_unary}
use Rattle.question.specs.OperatorNumber.{binary_number, unary_number, ReadsBinary, ReadsUnary}
use Rattle.question.specs.declared.operator.BinOp.TheVariants.{As}
use Rattle.question.specs.declared.operator.BinOp.{BinOp}
use Rattle.question.specs.declared.operator.UnOp.TheVariants.{NotNull}
use Rattle.question.specs.declared.operator.UnOp.{UnOp}
use Rattle.std.specs.Prelude.{Option, None, Result, Ok, Err}
use Rattle.std.specs.Result.{result_unwrap_or}
use Rattle.symbol.specs.Symbols.{Symbols}
use Rattle.ty.specs.Bytes.{Ty}
use Rattle.ty.specs.Choose.{choose}
use Rattle.ty.specs.declared.UnknownNumber.{UnknownNumber}

module _ (op : ℕ) (h : as_op < op) where
  other : (k : ℕ) → k ≤ as_op → eqb op k ≡ false
  other k l = ne_eqb op k (λ e. omega (arith, e))

  above : (k : ℕ) → k ≤ as_op → leb op k ≡ false
  above k l = lt-leb op k (omega arith)

  operator_past : (S : Symbols) (l r : Ty) → operator_ruled S op l r ≡ operator_ruled S as_op l r
  unfolding operator_ruled choose
  operator_past S l r =
      rw (
        other 0 (omega arith),
        above 4 (omega arith),
        above 6 (omega arith),
        above 10 (omega arith),
        above 12 (omega arith),
        above 18 (omega arith),
        other 19 (omega arith),
        other 20 (omega arith),
        other 21 (omega arith),
      )

  builtin_past : (S : Symbols) (l r : Ty) → builtin_ruled S op l r ≡ builtin_ruled S as_op l r
  unfolding builtin_ruled
  builtin_past S l r = rw (other 5 (omega arith), other 6 (omega arith), other 11 (omega arith), other 12 (omega arith), operator_past S l r)

  place_past : (table : List ℕ) (l : Ty) → operator_place table op l ≡ None
  unfolding operator_place choose
  place_past table l = rw (above 10 (omega arith))

  -- A NUMBER PAST THE BINARY OPERATORS is ruled as As
  binary_past : (table : List ℕ) (l r : Ty) → binary_ruled table op l r ≡ binary_ruled table as_op l r
  unfolding binary_ruled operator_place choose
  binary_past table l r = rw (above 10 (omega arith), builtin_past _ l r)

-- A NUMBER PAST THE UNARY OPERATORS is ruled as NotNull
unary_past : (op : ℕ) → not_null_op < op → (t : Ty) → unary_one op t ≡ unary_one not_null_op t
unfolding unary_one choose
unary_past op h t =
    let other : (k : ℕ) → k ≤ not_null_op → eqb op k ≡ false = λ k l. ne_eqb op k (λ e. omega (arith, e)) in
    rw (other 0 (omega arith), other 1 (omega arith), lt-leb op 3 (omega arith), other 4 (omega arith), other 5 (omega arith))

-- ---- a byte that was read
pub binary_read : (table : List ℕ) (n : ℕ) (l r : Ty) (read : Result BinOp UnknownNumber) → ReadsBinary n read
    → (op : BinOp) → op ≡ result_unwrap_or read As → (a : Ruled) → a ≡ binary_ruled table (binary_number op) l r → a ≡ binary_ruled table n l r
unfolding binary_number
binary_read table n l r (Ok op) h o e a f = f ∙ rw (e, h)
binary_read table n l r (Err x) h o e a f = f ∙ rw e (sym (binary_past n (past_binary n h.1) table l r))

pub unary_read : (n : ℕ) (t : Ty) (read : Result UnOp UnknownNumber) → ReadsUnary n read → (op : UnOp) → op ≡ result_unwrap_or read NotNull
    → (one : OneReport) → one ≡ unary_one (unary_number op) t → (a : Ruled) → a ≡ ruled_alone one → a ≡ unary_ruled n t
unfolding unary_number
unary_read n t (Ok op) h o e one f a g = g ∙ rw (f, e, h)
unary_read n t (Err x) h o e one f a g = g ∙ rw (f, e, unary_past n (past_unary n h.1) t)

pub method_read : (table : List ℕ) (n : ℕ) (l : Ty) (op : BinOp) → binary_number op ≡ n → (m : Option Source) → m ≡ operator_place table (binary_number op) l
    → m ≡ operator_place table n l
method_read table n l op h m f = f ∙ rw h

pub no_method : (table : List ℕ) (n : ℕ) (l : Ty) → ((op : BinOp) → binary_number op ≡ n → ⊥) → operator_place table n l ≡ None
no_method table n l h = place_past n (past_binary n h) table l
