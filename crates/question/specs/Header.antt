-- A question's header. Document 01, "Table and question": current type, package (2 bytes, 65,535 none), in-suspend byte 0 or 1.
use Rattle.std.specs.Prelude.{ℕ, eqb, get_or, List}
use Rattle.question.specs.declared.Header.{Header}
use Rattle.ty.specs.Bytes.{id_at}

-- how many bytes a header has; the tree stands behind them
abbrev pub header_bytes : ℕ
header_bytes = 5

abbrev pub suspend_byte : List ℕ → ℕ
suspend_byte q = get_or q 4 0

unfoldable pub header_of : List ℕ → Header
header_of q = record { current = id_at q 0; pkg = id_at q 2; suspend = eqb (suspend_byte q) 1 }
