-- Unary nodes: `check_unary` of checker.rs, its checks in the source's order. Document 01, "Corners in checker.rs": NotNull gives Error and a diagnostic on
-- Int; a nullable operand is reported earlier.
use Rattle.std.specs.Prelude.{ℕ, leb, eqb}
use Rattle.ty.specs.Choose.{choose}
use Rattle.ty.specs.Kind.{boolean_kind, nullable_kind, pointer_kind}
use Rattle.ty.specs.Bytes.{Ty, plain_ty, inner_of}
use Rattle.area.specs.DiagnosticKind.{nullable_unary_diag, minus_diag, not_diag, step_diag, dereference_diag, not_null_diag}
use Rattle.operators.specs.Operator.{minus_op, not_op, decrement_op, addr_of_op, dereference_op}
use Rattle.operators.specs.Out.{Out, clean, fails, checked}
use Rattle.operators.specs.Made.{pointer_ty}
use Rattle.operators.specs.Operand.{is_kind, is_number, is_logical}

-- an operator on an operand of the type t; `not_null_lem` is what NotNull gives
unfoldable pub unary_of : ℕ → Ty → Out → Out
unary_of op t not_null_lem =
    choose (is_kind nullable_kind t) (fails nullable_unary_diag)
    (choose (eqb op minus_op) (checked (is_number t) t minus_diag)
    (choose (eqb op not_op) (checked (is_logical t) (plain_ty boolean_kind) not_diag)
    (choose (leb op decrement_op) (checked (is_number t) t step_diag)
    (choose (eqb op addr_of_op) (clean (pointer_ty t))
    (choose (eqb op dereference_op) (choose (is_kind pointer_kind t) (clean (inner_of t)) (fails dereference_diag))
    not_null_lem)))))

-- `check_unary`, without the NotNull arm for a nullable operand
unfoldable pub unary_out : ℕ → Ty → Out
unary_out op t = unary_of op t (fails not_null_diag)

-- `check_unary` with that arm
unfoldable pub unary_with_arm : ℕ → Ty → Out
unary_with_arm op t = unary_of op t (choose (is_kind nullable_kind t) (clean (inner_of t)) (fails not_null_diag))
