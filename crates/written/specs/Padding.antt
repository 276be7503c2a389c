-- Zeros behind some bytes. Document 01, "Answer": the type in 256 bytes with zeros behind its length; the rest of the buffer is zero. Document 02, order 1:
-- "bytes behind the output are zero".
use Rattle.std.specs.Prelude.{ℕ, ◌-◌, length, replicate, List, ◌++◌}

-- s in n bytes
unfoldable pub padded_to : ℕ → List ℕ → List ℕ
padded_to n s = s ++ replicate (n - length s) 0
