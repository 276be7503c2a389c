-- The kinds of a record. Document 01, "Table and question": a record begins with a byte of kind.
use Rattle.std.specs.Prelude.{◌≡◌, ◌≢◌, ℕ, Result, MatchResult}
use Rattle.ty.specs.declared.UnknownNumber.{UnknownNumber}
use Rattle.record.specs.declared.front.RecordKind.{RecordKind}
use Rattle.record.specs.declared.front.RecordKind.TheVariants.{Name, Class, Operators, Function, Field, Visibility, Suspend, Variant}

-- the byte that stands for a kind
abbrev pub record_kind_number : RecordKind → ℕ
record_kind_number Name = 1
record_kind_number Class = 2
record_kind_number Operators = 3
record_kind_number Function = 4
record_kind_number Field = 5
record_kind_number Visibility = 6
record_kind_number Suspend = 7
record_kind_number Variant = 8

-- the kind with that byte, or that byte where no kind has it
abbrev pub RecordKindIs : ℕ → Result RecordKind UnknownNumber → Type 0
RecordKindIs byte r =
    MatchResult r (λ kind. record_kind_number kind ≡ byte) (λ e. (e.0 ≡ byte) × ((kind : RecordKind) → record_kind_number kind ≢ byte))
