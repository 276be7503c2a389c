-- What a writing part answers, and what it leaves in the buffer that it is lent. Document 02, order 1: "Here and in every later writing part the answer is a
-- number, 0 if written, and the output's length, 0 if refused; bytes behind the output are zero." Of a refusal: "writing only zeros".
use Rattle.std.specs.Prelude.{ℕ, length, replicate, List, ◌≡◌, Result, Ok, Err}
use Rattle.written.specs.Padding.{padded_to}
use Rattle.written.specs.declared.WriteFault.{WriteFault}
use Rattle.written.specs.declared.WriteFault.TheVariants.{BadCount, TooShort}

-- it writes some bytes, or refuses with a fault of some type
pub data Output (F : Type 0) : Type 0 where
  wrote : List ℕ → Output F
  refused : F → Output F

-- "a node count outside 1 to 64 with 14"
abbrev pub bad_count : ℕ
bad_count = 14

-- "a buffer too short for the question with 15"; in later orders, for whatever is written
abbrev pub too_short : ℕ
too_short = 15

-- the number with which a writing part refuses
abbrev pub write_fault_number : WriteFault → ℕ
write_fault_number BadCount = bad_count
write_fault_number TooShort = too_short

-- how many bytes it wrote, or why it refuses
unfoldable pub written_of : {F : Type 0} → Output F → Result ℕ F
written_of (wrote bytes) = Ok (length bytes)
written_of (refused fault) = Err fault

-- "a number, 0 if written, and the output's length, 0 if refused"
abbrev pub written_number : Output WriteFault → ℕ
written_number (wrote bytes) = 0
written_number (refused fault) = write_fault_number fault

abbrev pub written_len : {F : Type 0} → Output F → ℕ
written_len (wrote bytes) = length bytes
written_len (refused fault) = 0

-- the buffer afterwards, of so many bytes: "bytes behind the output are zero", and all are where it is refused
unfoldable pub lent_after : {F : Type 0} → ℕ → Output F → List ℕ
lent_after lent (wrote bytes) = padded_to lent bytes
lent_after lent (refused fault) = replicate lent 0

-- the answer r and the buffer, from before to after, are those of an output
pub record Writes {F : Type 0} (o : Output F) (r : Result ℕ F) (before after : List ℕ) : Type 0 where
  pub answer : r ≡ written_of o
  pub buffer : after ≡ lent_after (length before) o
