-- The structs of a rule's answer, field by field. A lone report stands in the second place, but where a rule says otherwise.
use Rattle.std.specs.Prelude.{ℕ, Bool, Option, None, Some, option_map}
use Rattle.area.specs.declared.Source.TheVariants as source
use Rattle.area.specs.declared.Source.{Source}
use Rattle.operators.specs.declared.ruled.Diagnostic.{Diagnostic}
use Rattle.operators.specs.declared.ruled.OneReport.{OneReport}
use Rattle.operators.specs.declared.ruled.Ruled.{Ruled}
use Rattle.ty.specs.Choose.{choose}
use Rattle.ty.specs.Kind.{error_kind}

-- ---- a diagnostic
abbrev pub diagnostic : ℕ → ℕ → Diagnostic
diagnostic kind number = record { kind = kind; number = number }

abbrev pub some_report : ℕ → ℕ → Option Diagnostic
some_report kind number = Some (diagnostic kind number)

-- a report unless a test holds
unfoldable pub report_unless : Bool → ℕ → ℕ → Option Diagnostic
report_unless ok kind number = choose ok None (some_report kind number)

-- ---- where the type comes from, and at most one report, without a number
abbrev pub one_report : Source → Option ℕ → OneReport
one_report source kind = record { source = source; kind = kind }

-- nothing is reported
unfoldable pub clean_one : Source → OneReport
clean_one source = one_report source None

-- the type of a kind without body, and nothing is reported
unfoldable pub plain_one : ℕ → OneReport
plain_one kind = clean_one (source.Kind kind)

-- Error, and a report
unfoldable pub fails_one : ℕ → OneReport
fails_one kind = one_report (source.Kind error_kind) (Some kind)

-- a report unless a test holds
unfoldable pub checked_one : Bool → Source → ℕ → OneReport
checked_one ok source kind = choose ok (clean_one source) (one_report source (Some kind))

-- ---- a rule's answer
-- with a diagnostic before its own, whose number is 0
unfoldable pub ruled_before : Option Diagnostic → OneReport → Ruled
ruled_before first rest = record { source = rest.source; first = first; second = option_map (λ kind. diagnostic kind 0) rest.kind }

-- with its own alone
unfoldable pub ruled_alone : OneReport → Ruled
ruled_alone rest = ruled_before None rest
