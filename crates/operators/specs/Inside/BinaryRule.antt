-- What the code of binary nodes answers, as a struct: `Binary` says which type and which reports that is, and the laws `Ruling` that it is the same.
use Rattle.std.specs.Prelude.{ℕ, leb, eqb, not, ◌&&◌, ◌||◌, List, Option, None, Some}
use Rattle.area.specs.DiagnosticKind.{nullable_operands_diag, plus_diag, numeric_diag, unrelated_diag, not_comparable_diag, logical_diag, bitwise_diag}
use Rattle.area.specs.declared.Source.TheVariants as source
use Rattle.area.specs.declared.Source.{Source}
use Rattle.operators.specs.Assign.{assigns}
use Rattle.operators.specs.Binary.{fractional, takes_nullable}
use Rattle.operators.specs.Inside.MethodPlace.{operator_place}
use Rattle.operators.specs.Inside.RuledParts.{report_unless, clean_one, plain_one, fails_one, checked_one, ruled_alone}
use Rattle.operators.specs.Operand.{is_kind, is_logical, numbers, either, char_string}
use Rattle.operators.specs.Operator.{add_op, mod_op, ne_op, ge_op, or_op, ushr_op, assign_op, to_op, is_op}
use Rattle.operators.specs.declared.ruled.OneReport.{OneReport}
use Rattle.operators.specs.declared.ruled.Ruled.{Ruled}
use Rattle.symbol.specs.Lookup.{symbols_of}
use Rattle.symbol.specs.Symbols.{Symbols}
use Rattle.ty.specs.Bytes.{Ty, is_integer, is_string, same_bytes}
use Rattle.ty.specs.Choose.{choose}
use Rattle.ty.specs.Kind.{int_kind, long_kind, float_kind, boolean_kind, string_kind, any_kind, nullable_kind, error_kind}
use Rattle.ty.specs.Name.{pair_id}

-- Add
unfoldable pub add_ruled : Ty → Ty → OneReport
add_ruled l r =
    choose (is_string l && (is_string r || is_kind any_kind r)) (plain_one string_kind)
    (choose (numbers l r) (choose (fractional l r) (plain_one float_kind) (plain_one int_kind))
    (choose (either string_kind l r || either any_kind l r) (plain_one string_kind) (fails_one plus_diag)))

-- Sub, Mul, Div, Mod
unfoldable pub arithmetic_ruled : Ty → Ty → OneReport
arithmetic_ruled l r =
    choose (numbers l r)
    (choose (fractional l r) (plain_one float_kind) (choose (either long_kind l r) (plain_one long_kind) (plain_one int_kind)))
    (fails_one numeric_diag)

-- Eq, Ne
unfoldable pub equality_ruled : Symbols → Ty → Ty → OneReport
equality_ruled S l r =
    checked_one ((assigns S l r || assigns S r l) || (either any_kind l r || char_string l r)) (source.Kind boolean_kind) unrelated_diag

-- Lt, Gt, Le, Ge
unfoldable pub order_ruled : Ty → Ty → OneReport
order_ruled l r = checked_one (numbers l r || (either any_kind l r || (same_bytes l r || char_string l r))) (source.Kind boolean_kind) not_comparable_diag

-- And, Or: the left operand's report in the first place, the right one's in the second
unfoldable pub logical_ruled : Ty → Ty → Ruled
logical_ruled l r =
    record { source = source.Kind boolean_kind; first = report_unless (is_logical l) logical_diag 1; second = report_unless (is_logical r) logical_diag 2 }

-- BitAnd, BitOr, BitXor, Shl, Shr, UShr
unfoldable pub bitwise_ruled : Ty → Ty → OneReport
bitwise_ruled l r = checked_one ((is_integer l && is_integer r) || either any_kind l r) source.First bitwise_diag

-- the operator's own check
unfoldable pub operator_ruled : Symbols → ℕ → Ty → Ty → Ruled
operator_ruled S op l r =
    choose (eqb op add_op) (ruled_alone (add_ruled l r))
    (choose (leb op mod_op) (ruled_alone (arithmetic_ruled l r))
    (choose (leb op ne_op) (ruled_alone (equality_ruled S l r))
    (choose (leb op ge_op) (ruled_alone (order_ruled l r))
    (choose (leb op or_op) (logical_ruled l r)
    (choose (leb op ushr_op) (ruled_alone (bitwise_ruled l r))
    (choose (eqb op assign_op) (ruled_alone (clean_one source.Second))
    (choose (eqb op to_op) (ruled_alone (clean_one (source.Name pair_id)))
    (choose (eqb op is_op) (ruled_alone (plain_one boolean_kind)) (ruled_alone (clean_one source.Second))))))))))

unfoldable pub builtin_ruled : Symbols → ℕ → Ty → Ty → Ruled
builtin_ruled S op l r = choose (not (takes_nullable op) && either nullable_kind l r) (ruled_alone (fails_one nullable_operands_diag)) (operator_ruled S op l r)

-- the type of an operator method, or else a
unfoldable pub method_ruled : Option Source → Ruled → Ruled
method_ruled None a = a
method_ruled (Some s) a = ruled_alone (clean_one s)

-- a binary node's answer
unfoldable pub binary_ruled : List ℕ → ℕ → Ty → Ty → Ruled
binary_ruled table op l r =
    choose (either error_kind l r) (ruled_alone (plain_one error_kind)) (method_ruled (operator_place table op l) (builtin_ruled (symbols_of table) op l r))
