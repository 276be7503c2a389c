-- What the program prints for an answer (document 01, "Answer"): "number, pass mark, type length, type as two-digit hex without gaps (or -), count; then per
-- diagnostic kind, node, number". One blank stands between two fields, and each line ends with a line break.
use Rattle.std.specs.Prelude.{ℕ, zero, suc, ◌+◌, ◌*◌, ◌/◌, min, List, [], ◌∷◌, ◌++◌, length, get_or}
use Rattle.ty.specs.Bytes.{id_at}
use Rattle.console.specs.Text.{decimal, hex_bytes}

abbrev pub blank : ℕ
blank = 32

abbrev pub line_break : ℕ
line_break = 10

abbrev pub dash : ℕ
dash = 45

-- a number and what ends its field
unfoldable pub field_text : ℕ → ℕ → List ℕ
field_text n end = decimal n ++ (end ∷ [])

-- "type as two-digit hex without gaps (or -)"
unfoldable pub type_text : List ℕ → List ℕ
type_text [] = dash ∷ []
type_text (b ∷ bs) = hex_bytes (b ∷ bs)

-- "number, pass mark, type length, type .., count"
unfoldable pub first_line : ℕ → ℕ → List ℕ → ℕ → List ℕ
first_line number pass type count =
    field_text number blank ++ (field_text pass blank ++ (field_text (length type) blank ++ (type_text type ++ ((blank ∷ []) ++ field_text count line_break))))

-- "kind, node, number"
unfoldable pub line_of : ℕ → ℕ → ℕ → List ℕ
line_of kind node number = field_text kind blank ++ (field_text node blank ++ field_text number line_break)

-- the line of the record at `at`: "records of 5 bytes in order: kind, 2-byte node, 2-byte number"
unfoldable pub line_at : List ℕ → ℕ → List ℕ
line_at buffer at = line_of (get_or buffer at 0) (id_at buffer (at + 1)) (id_at buffer (at + 3))

-- the lines of the first n records of a diagnostics buffer
unfoldable pub lines_of : List ℕ → ℕ → List ℕ
lines_of buffer zero = []
lines_of buffer (suc n) = lines_of buffer n ++ line_at buffer (5 * n)

-- how many of `count` records a buffer of `size` bytes has whole (of an answer all: number 12 has none)
unfoldable pub records_in : ℕ → ℕ → ℕ
records_in size count = min count (size / 5)

-- all that is printed
unfoldable pub printed : ℕ → ℕ → List ℕ → ℕ → List ℕ → List ℕ
printed number pass type count buffer = first_line number pass type count ++ lines_of buffer (records_in (length buffer) count)
