-- Operator methods: `operator_overload_return` of checker.rs. Document 01, "Corners in checker.rs": only a Named left type; the climb stops at a class
-- without an operator set, even if its superclass has one; a method without a function gives Any.
use Rattle.std.specs.Prelude.{ℕ, zero, suc, ◌+◌, ◌/◌, ◌%◌, ◌^◌, Bool, ◌&&◌, List, [], ◌∷◌, leb, eqb}
use Rattle.std.proofs.Math.Option.{Option, none, some}
use Rattle.ty.specs.Choose.{choose}
use Rattle.ty.specs.Kind.{named_kind}
use Rattle.ty.specs.Name.{plus_id, no_id}
use Rattle.ty.specs.Bytes.{Ty, name_of}
use Rattle.symbol.specs.Symbols.{Overload, Symbols}
use Rattle.operators.specs.Operator.{ge_op}
use Rattle.operators.specs.Operand.{is_kind}
use Rattle.operators.specs.Out.{any_ty}

-- the operators Add to Ge have the method names plus to ge, in the same order
abbrev pub method_id : ℕ → ℕ
method_id op = plus_id + op

-- an operator set's mask: bit 0 is plus, bit 10 is ge
abbrev pub has_operator : ℕ → ℕ → Bool
has_operator mask op = eqb (mask / 2 ^ op % 2) 1

-- the result of a list's first function
unfoldable pub first_result : List Overload → Ty
first_result [] = any_ty
first_result (o ∷ os) = o.result

module _ (S : Symbols) where
  -- class c has the operator set that is given, if any; `up` is what its superclass says
  unfoldable pub at_class : ℕ → ℕ → Option ℕ → Option Ty → Option Ty
  at_class op c none up = none
  at_class op c (some mask) up = choose (has_operator mask op) (some (first_result (S.functions_of c (method_id op)))) up

  -- the climb from class c, of at most so many classes
  unfoldable pub climb : ℕ → ℕ → ℕ → Option Ty
  climb zero op c = none
  climb (suc f) op c = choose (eqb c no_id) none (at_class op c (S.operators_of c) (climb f op (S.super_of c)))

  -- the whole climb: a superclass with a record stands earlier, so this many classes are enough
  abbrev pub climb_from : ℕ → ℕ → Option Ty
  climb_from op c = climb (suc S.classes) op c

  -- the type that an operator method gives, if there is one
  unfoldable pub operator_return : ℕ → Ty → Option Ty
  operator_return op t = choose (leb op ge_op && is_kind named_kind t) (climb_from op (name_of t)) none
