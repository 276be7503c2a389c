-- What a caller from C is lent back: an answer as bytes, and the two slices afterwards. Document 01, "Answer": number, pass mark, the type in 256 bytes with
-- zeros behind its length, that length, and a diagnostic count; "Types as bytes": numbers are low byte first.
use Rattle.std.specs.Prelude.{ℕ, zero, suc, ◌/◌, ◌%◌, ltb, List, [], ◌∷◌, ◌++◌}
use Rattle.ty.specs.Choose.{choose}
use Rattle.typing.specs.Answer.{Answer, zeros, answer_of, buffer_of}
use Rattle.written.specs.Padding.{padded_to}

-- n in k bytes, low byte first
unfoldable pub little_endian : ℕ → ℕ → List ℕ
little_endian zero n = []
little_endian (suc k) n = n % 256 ∷ little_endian k (n / 256)

-- byte 0 the number, 1 the pass mark, 2 and 3 the type's length, 4 to 11 the count, 12 to 267 the type
unfoldable pub bytes_of : Answer → List ℕ
bytes_of a = a.number ∷ a.pass ∷ (little_endian 2 a.len ++ (little_endian 8 a.count ++ a.ty))

-- how many bytes an answer has
abbrev pub answer_size : ℕ
answer_size = 268

-- what a caller gets whose answer slice is shorter: no number of document 01
abbrev pub answer_too_short : ℕ
answer_too_short = 255

-- Table t and question q are judged with `lent` bytes for diagnostics and `room` for the answer. With too little room nothing is judged, and both slices are
-- zero.
unfoldable pub result_of : List ℕ → List ℕ → ℕ → ℕ → ℕ
result_of t q lent room = choose (ltb room answer_size) answer_too_short (answer_of t q lent).number

unfoldable pub answer_slice : List ℕ → List ℕ → ℕ → ℕ → List ℕ
answer_slice t q lent room = choose (ltb room answer_size) (zeros room) (padded_to room (bytes_of (answer_of t q lent)))

unfoldable pub diagnostics_slice : List ℕ → List ℕ → ℕ → ℕ → List ℕ
diagnostics_slice t q lent room = choose (ltb room answer_size) (zeros lent) (buffer_of t q lent)
