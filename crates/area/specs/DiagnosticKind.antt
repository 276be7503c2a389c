-- The kinds of diagnostics. Document 01, "Answer": kinds 1 to 23. The number beside a kind is 0 where none is given.
use Rattle.std.specs.Prelude.{ℕ}
use Rattle.area.specs.declared.DiagnosticKind.{DiagnosticKind}
use Rattle.area.specs.declared.DiagnosticKind.TheVariants.{NullableOperands, Plus, Numeric, Unrelated, NotComparable, Logical, Bitwise, NullableUnary}
use Rattle.area.specs.declared.DiagnosticKind.TheVariants.{Minus, Not, Step, Dereference, NotNull, Suspend, ArgumentCount, UnknownName}
use Rattle.area.specs.declared.DiagnosticKind.TheVariants.{Mismatch, NoMatch, Tie, Access, NullableMember, Unresolved, NoMembers}

-- nullable operands
abbrev pub nullable_operands_diag : ℕ
nullable_operands_diag = 1

-- plus
abbrev pub plus_diag : ℕ
plus_diag = 2

-- numeric
abbrev pub numeric_diag : ℕ
numeric_diag = 3

-- unrelated comparison, a warning
abbrev pub unrelated_diag : ℕ
unrelated_diag = 4

-- not comparable
abbrev pub not_comparable_diag : ℕ
not_comparable_diag = 5

-- logical; the number is 1 for the left operand, 2 for the right
abbrev pub logical_diag : ℕ
logical_diag = 6

-- bitwise
abbrev pub bitwise_diag : ℕ
bitwise_diag = 7

-- nullable unary
abbrev pub nullable_unary_diag : ℕ
nullable_unary_diag = 8

-- minus
abbrev pub minus_diag : ℕ
minus_diag = 9

-- not
abbrev pub not_diag : ℕ
not_diag = 10

-- step
abbrev pub step_diag : ℕ
step_diag = 11

-- dereference
abbrev pub dereference_diag : ℕ
dereference_diag = 12

-- not-null
abbrev pub not_null_diag : ℕ
not_null_diag = 13

-- suspend
abbrev pub suspend_diag : ℕ
suspend_diag = 14

-- argument count; the number is how many arguments there are
abbrev pub argument_count_diag : ℕ
argument_count_diag = 15

-- unknown name, at the argument's node; the number is the argument's position from 1
abbrev pub unknown_name_diag : ℕ
unknown_name_diag = 16

-- mismatch, at the argument's node; the number is the argument's position from 1
abbrev pub mismatch_diag : ℕ
mismatch_diag = 17

-- no match
abbrev pub no_match_diag : ℕ
no_match_diag = 18

-- tie; the number is how many have the highest score
abbrev pub tie_diag : ℕ
tie_diag = 19

-- access; the number is the visibility
abbrev pub access_diag : ℕ
access_diag = 20

-- nullable member
abbrev pub nullable_member_diag : ℕ
nullable_member_diag = 21

-- unresolved
abbrev pub unresolved_diag : ℕ
unresolved_diag = 22

-- no members
abbrev pub no_members_diag : ℕ
no_members_diag = 23

-- the byte that stands for a kind of the code's
abbrev pub diagnostic_number : DiagnosticKind → ℕ
diagnostic_number NullableOperands = nullable_operands_diag
diagnostic_number Plus = plus_diag
diagnostic_number Numeric = numeric_diag
diagnostic_number Unrelated = unrelated_diag
diagnostic_number NotComparable = not_comparable_diag
diagnostic_number Logical = logical_diag
diagnostic_number Bitwise = bitwise_diag
diagnostic_number NullableUnary = nullable_unary_diag
diagnostic_number Minus = minus_diag
diagnostic_number Not = not_diag
diagnostic_number Step = step_diag
diagnostic_number Dereference = dereference_diag
diagnostic_number NotNull = not_null_diag
diagnostic_number Suspend = suspend_diag
diagnostic_number ArgumentCount = argument_count_diag
diagnostic_number UnknownName = unknown_name_diag
diagnostic_number Mismatch = mismatch_diag
diagnostic_number NoMatch = no_match_diag
diagnostic_number Tie = tie_diag
diagnostic_number Access = access_diag
diagnostic_number NullableMember = nullable_member_diag
diagnostic_number Unresolved = unresolved_diag
diagnostic_number NoMembers = no_members_diag
