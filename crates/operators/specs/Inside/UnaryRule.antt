-- What the code of unary nodes answers, as a struct: `Unary` says which type and which reports that is, and the laws `Ruling` that it is the same.
use Rattle.std.specs.Prelude.{ℕ, leb, eqb}
use Rattle.area.specs.DiagnosticKind.{nullable_unary_diag, minus_diag, not_diag, step_diag, dereference_diag, not_null_diag}
use Rattle.area.specs.declared.Source.TheVariants as source
use Rattle.operators.specs.Inside.RuledParts.{clean_one, fails_one, checked_one, ruled_alone}
use Rattle.operators.specs.Operand.{is_kind, is_number, is_logical}
use Rattle.operators.specs.Operator.{minus_op, not_op, decrement_op, addr_of_op, dereference_op}
use Rattle.operators.specs.declared.ruled.OneReport.{OneReport}
use Rattle.operators.specs.declared.ruled.Ruled.{Ruled}
use Rattle.ty.specs.Bytes.{Ty}
use Rattle.ty.specs.Choose.{choose}
use Rattle.ty.specs.Kind.{boolean_kind, nullable_kind, pointer_kind}

-- with at most one report
unfoldable pub unary_one : ℕ → Ty → OneReport
unary_one op t =
    choose (is_kind nullable_kind t) (fails_one nullable_unary_diag)
    (choose (eqb op minus_op) (checked_one (is_number t) source.First minus_diag)
    (choose (eqb op not_op) (checked_one (is_logical t) (source.Kind boolean_kind) not_diag)
    (choose (leb op decrement_op) (checked_one (is_number t) source.First step_diag)
    (choose (eqb op addr_of_op) (clean_one source.Pointer)
    (choose (eqb op dereference_op) (choose (is_kind pointer_kind t) (clean_one source.Inner) (fails_one dereference_diag))
    (fails_one not_null_diag))))))

-- a unary node's answer
abbrev pub unary_ruled : ℕ → Ty → Ruled
unary_ruled op t = ruled_alone (unary_one op t)
