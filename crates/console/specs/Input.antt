-- How the program's input falls into table and question (document 01, "Answer"): "a 2-byte table length, table and question ..; with fewer than 2 bytes,
-- or fewer table bytes than the length says, it judges both as empty".
use Rattle.std.specs.Prelude.{ℕ, ◌+◌, ◌<◌, Bool, ◌&&◌, List, [], length, get_or, take, drop, leb}
use Rattle.ty.specs.Bytes.{id_at}
use Rattle.ty.specs.Choose.{choose}

-- the table length, low byte first
abbrev pub table_length : List ℕ → ℕ
table_length input = id_at input 0

-- there are 2 bytes, and behind them as many as they say
unfoldable pub is_whole : List ℕ → Bool
is_whole input = leb 2 (length input) && leb (2 + table_length input) (length input)

-- the table: as many bytes as the length says
unfoldable pub table_of : List ℕ → List ℕ
table_of input = choose (is_whole input) (take (table_length input) (drop 2 input)) []

-- the question: the bytes behind the table
unfoldable pub question_of : List ℕ → List ℕ
question_of input = choose (is_whole input) (drop (2 + table_length input) input) []

-- every element is a byte
abbrev pub Bytes : List ℕ → Type 0
Bytes s = (i : ℕ) → get_or s i 0 < 256

-- how much of its input the program keeps: a table length, the longest table it can say, and one byte more than the longest question has
abbrev pub input_limit : ℕ
input_limit = 81922
