-- A draw. Document 02, order 1: "Each draw sets state to state × 1,664,525 + 1,013,904,223 modulo 2^32 and takes (state div 65,536) modulo n."
use Rattle.std.specs.Prelude.{ℕ, ◌+◌, ◌*◌, ◌/◌, ◌%◌, ◌^◌}

-- the state behind a draw
unfoldable pub stepped : ℕ → ℕ
stepped state = (state * 1_664_525 + 1_013_904_223) % 2 ^ 32

-- what is taken of that state
unfoldable pub taken_from : ℕ → ℕ → ℕ
taken_from n state = state / 65_536 % n

-- a draw of n, by the state before it
abbrev pub drawn : ℕ → ℕ → ℕ
drawn n state = taken_from n (stepped state)
