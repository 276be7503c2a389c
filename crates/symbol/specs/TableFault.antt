-- The numbers of a table's refusals (document 01, "Refused, and by whose doing"; docs/FORMAT.md, "Numbers of refusals").
use Rattle.std.specs.Prelude.{ℕ}
use Rattle.symbol.specs.declared.checks.TableFault.{TableFault}
use Rattle.symbol.specs.declared.checks.TableFault.TheVariants.{TooLong, Malformed, KindFalls, UndefinedId, KeyRepeated, ParentLate, HasError}

abbrev pub table_fault_number : TableFault → ℕ
table_fault_number TooLong = 1
table_fault_number Malformed = 2
table_fault_number KindFalls = 3
table_fault_number UndefinedId = 4
table_fault_number KeyRepeated = 5
table_fault_number ParentLate = 6
table_fault_number HasError = 7
