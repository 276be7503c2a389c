-- What the code of the rules answers: where a node's type comes from, and at most two diagnostics. Here it is said which `Out` that is, with a table, the
-- first child's type x and the second's y.
use Rattle.std.specs.Prelude.{ℕ, zero, suc, Bool, List, [], ◌∷◌, ◌++◌, ◌≡◌, Option, None, Some}
use Rattle.area.specs.Source.{type_from}
use Rattle.operators.specs.Binary.{binary_out}
use Rattle.operators.specs.Out.{Report, Out, report, error_ty}
use Rattle.operators.specs.Unary.{unary_out}
use Rattle.operators.specs.declared.ruled.Diagnostic.{Diagnostic}
use Rattle.operators.specs.declared.ruled.OneReport.{OneReport}
use Rattle.operators.specs.declared.ruled.Ruled.{Ruled}
use Rattle.symbol.specs.Lookup.{symbols_of}
use Rattle.ty.specs.Bytes.{Ty}
use Rattle.ty.specs.Choose.{choose}

-- what a byte of a kind and a number report: a kind of 0 is no report
unfoldable pub reports_by : ℕ → ℕ → List Report
reports_by zero number = []
reports_by (suc k) number = report (suc k) number ∷ []

-- a diagnostic, if there is one
unfoldable pub reports_of : Option Diagnostic → List Report
reports_of None = []
reports_of (Some d) = reports_by d.kind d.number

unfoldable pub out_of : List ℕ → Ty → Ty → Ruled → Out
out_of table x y r = record { ty = type_from table x y r.source; reports = reports_of r.first ++ reports_of r.second }

-- the byte of a kind of diagnostic, if there is one, which has no number
unfoldable pub report_of : Option ℕ → List Report
report_of None = []
report_of (Some kind) = reports_by kind 0

-- the same of an answer with at most one diagnostic
unfoldable pub one_out : List ℕ → Ty → Ty → OneReport → Out
one_out table x y s = record { ty = type_from table x y s.source; reports = report_of s.kind }

-- Error, and a report of a kind
abbrev pub fails_by : ℕ → Out
fails_by kind = record { ty = error_ty; reports = reports_by kind 0 }

-- a type, and a report of a kind unless a test holds
abbrev pub checked_by : Bool → Ty → ℕ → Out
checked_by ok t kind = record { ty = t; reports = choose ok [] (reports_by kind 0) }

-- ---- what a rule's answer stands for: the definition's `Out`
-- of a binary node
abbrev pub BinaryRuled : List ℕ → ℕ → Ty → Ty → Ruled → Type 0
BinaryRuled table op l r a = out_of table l r a ≡ binary_out (symbols_of table) op l r

-- of a unary node, whatever the table is; there is no second child
abbrev pub UnaryRuled : ℕ → Ty → Ruled → Type 0
UnaryRuled op t a = (table y : List ℕ) → out_of table t y a ≡ unary_out op t
