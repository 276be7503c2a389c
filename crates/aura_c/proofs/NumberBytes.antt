-- A number in eight bytes.
use Rattle.std.proofs.Common.{ℕ, ◌≡◌, w64}
use Rattle.std.proofs.Math.Nat.{div-div-eq-div-mul}
use Rattle.std.specs.Int.{to_le_bytes}
use Rattle.aura_c.specs.AnswerBytes.{little_endian}

pub eight_bytes : (n : ℕ) → to_le_bytes w64 n ≡ little_endian 8 n
unfolding little_endian
eight_bytes n = simp div-div-eq-div-mul
