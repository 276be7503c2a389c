-- Tests on the type t of an operand, and on the types l and r of two.
use Rattle.std.specs.Prelude.{ℕ, Bool, ◌&&◌, ◌||◌, eqb}
use Rattle.ty.specs.Kind.{char_kind, string_kind, any_kind}
use Rattle.ty.specs.Bytes.{Ty, kind_of, is_numeric, is_boolean}

-- it is of kind k
abbrev pub is_kind : ℕ → Ty → Bool
is_kind k t = eqb (kind_of t) k

-- a number, or Any
abbrev pub is_number : Ty → Bool
is_number t = is_numeric t || is_kind any_kind t

-- a Boolean, or Any
abbrev pub is_logical : Ty → Bool
is_logical t = is_boolean t || is_kind any_kind t

-- both are numeric
abbrev pub numbers : Ty → Ty → Bool
numbers l r = is_numeric l && is_numeric r

-- one of them is of kind k
abbrev pub either : ℕ → Ty → Ty → Bool
either k l r = is_kind k l || is_kind k r

-- a Char and a String, in either order (`char_string_ok`)
abbrev pub char_string : Ty → Ty → Bool
char_string l r = (is_kind char_kind l && is_kind string_kind r) || (is_kind string_kind l && is_kind char_kind r)
