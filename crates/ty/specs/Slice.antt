-- Lent slices, as contracts see them.
use Rattle.std.specs.Prelude.{ℕ, List}
use Rattle.std.specs.Borrow.{MutBor}
use denote.Triple.Both.{Both}

-- what a slice holds at one moment
abbrev pub Slice : Type 0
Slice = List ℕ

-- a slice that a call is lent to write: what it holds at entry, and at exit
abbrev pub Borrowed : Type 0
Borrowed = Both (MutBor Slice) (MutBor Slice)
