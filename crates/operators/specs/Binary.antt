-- Binary nodes: `check_binary` of checker.rs, its checks in the source's order. Document 01, "Corners in checker.rs". `l` and `r` are the operands' types.
use Rattle.std.specs.Prelude.{ℕ, Bool, not, ◌&&◌, ◌||◌, ◌++◌, leb, eqb}
use Rattle.ty.specs.Choose.{choose}
use Rattle.ty.specs.Kind.{int_kind, long_kind, float_kind, double_kind, boolean_kind, string_kind, any_kind, nullable_kind, error_kind}
use Rattle.ty.specs.Name.{pair_id}
use Rattle.ty.specs.Bytes.{Ty, plain_ty, is_integer, is_string, same_bytes}
use Rattle.symbol.specs.Symbols.{Symbols}
use Rattle.area.specs.DiagnosticKind.{nullable_operands_diag, plus_diag, numeric_diag, unrelated_diag, not_comparable_diag, logical_diag, bitwise_diag}
use Rattle.operators.specs.Operator.{add_op, mod_op, eq_op, ne_op, ge_op, and_op, or_op, ushr_op, assign_op, to_op, is_op}
use Rattle.operators.specs.Out.{Out, report, clean, plain, fails, unless, checked, found}
use Rattle.operators.specs.Made.{named_ty}
use Rattle.operators.specs.Operand.{is_kind, is_logical, numbers, either, char_string}
use Rattle.operators.specs.Assign.{assigns}
use Rattle.operators.specs.OperatorMethod.{operator_return}

-- one of two numbers is a Float or a Double
abbrev pub fractional : Ty → Ty → Bool
fractional l r = either float_kind l r || either double_kind l r

-- Add
unfoldable pub add_out : Ty → Ty → Out
add_out l r =
    choose (is_string l && (is_string r || is_kind any_kind r)) (plain string_kind)
    (choose (numbers l r) (choose (fractional l r) (plain float_kind) (plain int_kind))
    (choose (either string_kind l r || either any_kind l r) (plain string_kind) (fails plus_diag)))

-- Sub, Mul, Div, Mod
unfoldable pub arithmetic_out : Ty → Ty → Out
arithmetic_out l r =
    choose (numbers l r)
    (choose (fractional l r) (plain float_kind) (choose (either long_kind l r) (plain long_kind) (plain int_kind)))
    (fails numeric_diag)

-- Eq, Ne
abbrev pub equality_out : Symbols → Ty → Ty → Out
equality_out S l r =
    checked ((assigns S l r || assigns S r l) || (either any_kind l r || char_string l r)) (plain_ty boolean_kind) unrelated_diag

-- Lt, Gt, Le, Ge
abbrev pub order_out : Ty → Ty → Out
order_out l r = checked (numbers l r || (either any_kind l r || (same_bytes l r || char_string l r))) (plain_ty boolean_kind) not_comparable_diag

-- And, Or: each operand is checked
abbrev pub logical_out : Ty → Ty → Out
logical_out l r =
    record { ty = plain_ty boolean_kind; reports = unless (is_logical l) (report logical_diag 1) ++ unless (is_logical r) (report logical_diag 2) }

-- BitAnd, BitOr, BitXor, Shl, Shr, UShr: the left type, reported or not
abbrev pub bitwise_out : Ty → Ty → Out
bitwise_out l r = checked ((is_integer l && is_integer r) || either any_kind l r) l bitwise_diag

-- the operator's own check
unfoldable pub operator_out : Symbols → ℕ → Ty → Ty → Out
operator_out S op l r =
    choose (eqb op add_op) (add_out l r)
    (choose (leb op mod_op) (arithmetic_out l r)
    (choose (leb op ne_op) (equality_out S l r)
    (choose (leb op ge_op) (order_out l r)
    (choose (leb op or_op) (logical_out l r)
    (choose (leb op ushr_op) (bitwise_out l r)
    (choose (eqb op assign_op) (clean r)
    (choose (eqb op to_op) (clean (named_ty pair_id))
    (choose (eqb op is_op) (plain boolean_kind) (clean r)))))))))

-- Every other operator reports a nullable operand. Document 01: "Assign, To, Is and As report nullable operands too."
abbrev pub takes_nullable : ℕ → Bool
takes_nullable op = (eqb op eq_op || eqb op ne_op) || (eqb op and_op || eqb op or_op)

unfoldable pub builtin_binary : Symbols → ℕ → Ty → Ty → Out
builtin_binary S op l r = choose (not (takes_nullable op) && either nullable_kind l r) (fails nullable_operands_diag) (operator_out S op l r)

-- `check_binary`. Document 01: "an Error operand gives Error silently, before operator methods; these come before the nullable check."
unfoldable pub binary_out : Symbols → ℕ → Ty → Ty → Out
binary_out S op l r = choose (either error_kind l r) (plain error_kind) (found (operator_return S op l) (builtin_binary S op l r))
