-- What a check answers, as a number: 0 where it refuses nothing, else that of the refusal.
use Rattle.std.specs.Prelude.{ℕ, Result, Ok, Err}
use Rattle.symbol.specs.TableFault.{table_fault_number}
use Rattle.symbol.specs.declared.checks.TableFault.{TableFault}

abbrev pub checked_number : {A : Type 0} → Result A TableFault → ℕ
checked_number (Ok x) = 0
checked_number (Err f) = table_fault_number f
