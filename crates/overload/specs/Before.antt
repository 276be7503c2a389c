-- What a call reports before its arguments are visited, at its own node.
use Rattle.std.specs.Prelude.{ℕ, Bool, not, ◌||◌, List, ◌++◌}
use Rattle.ty.specs.Name.{no_id}
use Rattle.symbol.specs.Symbols.{Symbols}
use Rattle.question.specs.declared.Header.{Header}
use Rattle.area.specs.DiagnosticKind.{suspend_diag}
use Rattle.operators.specs.Out.{Report, report, unless}
use Rattle.rules.specs.Access.{access_report}

-- the function of an owner and a name may be called where the script stands
abbrev pub suspend_allowed : Symbols → Header → ℕ → ℕ → Bool
suspend_allowed S H owner id = H.suspend || not (S.is_suspend owner id)

unfoldable pub suspend_report : Symbols → Header → ℕ → ℕ → List Report
suspend_report S H owner id = unless (suspend_allowed S H owner id) (report suspend_diag 0)

-- a call of an ownerless function
abbrev pub call_reports : Symbols → Header → ℕ → List Report
call_reports S H id = suspend_report S H no_id id

-- a method call, `vis` being the visibility of the list's first function
abbrev pub method_reports : Symbols → Header → ℕ → ℕ → ℕ → List Report
method_reports S H vis owner id = access_report S H vis owner ++ suspend_report S H owner id
