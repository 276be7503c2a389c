-- A function record whose types are whole, as an accepted table has them.
use Rattle.std.specs.Prelude.{ℕ, zero, suc, ◌+◌, ◌-◌, ◌≤◌, false, List, ◌≡◌, length, drop, take}
use Rattle.std.specs.List.{All}
use Rattle.ty.specs.Read.{read_type, longest_type}
use Rattle.ty.specs.Read.{whole_read}
use Rattle.symbol.specs.Inside.LookupAnswer.{params_in, InTable}
use Rattle.record.specs.Inside.Keyed.{type_length}
use Rattle.symbol.specs.Symbols.{Param}
use Rattle.symbol.specs.declared.functions.Param.{Param as Read}

-- the bytes of t from a to e
abbrev pub part : List ℕ → ℕ → ℕ → List ℕ
part t a e = take (e - a) (drop a t)

-- a whole type without Error stands at byte n of s
pub record TypeAt (s : List ℕ) (n : ℕ) : Type 0 where
  pub top : ℕ
  pub whole : read_type (drop n s) longest_type ≡ whole_read (type_length (drop n s)) top false
  pub inside : n + type_length (drop n s) ≤ length s

-- n parameters stand at the front of s
abbrev pub ParamsAt : ℕ → List ℕ → Type 0
ParamsAt zero s = Unit
ParamsAt (suc n) s = TypeAt s 3 × ParamsAt n (drop (3 + type_length (drop 3 s)) s)

-- parameters that were read: they are those, and their types lie in the table
pub record ParamsAre (t : List ℕ) (ps : List Param) (n : ℕ) (p : List Read) : Type 0 where
  pub count : length p ≡ n
  pub same : params_in t p ≡ ps
  pub types : All (InTable t) p
