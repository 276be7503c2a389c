-- What is read off a type's first bytes. A type is its bytes (document 01, "Types as bytes"); each definition holds of any list of bytes.
use Rattle.std.specs.Prelude.{ℕ, ◌+◌, ◌*◌, ◌/◌, ◌%◌, Bool, true, false, ◌&&◌, ◌||◌, List, [], ◌∷◌, get_or, drop, leb, eqb}
use Rattle.ty.specs.Choose.{choose}
use Rattle.ty.specs.Kind.{byte_kind, double_kind, boolean_kind, string_kind, any_kind, nullable_kind, array_kind, large_array_kind, no_kind}

abbrev pub Ty : Type 0
Ty = List ℕ

-- the type of a kind that has no body and no child
abbrev pub plain_ty : ℕ → Ty
plain_ty k = k ∷ []

-- a type's kind is its first byte
abbrev pub kind_of : Ty → ℕ
kind_of s = get_or s 0 no_kind

-- the two-byte number at `at`, low byte first
abbrev pub id_at : List ℕ → ℕ → ℕ
id_at s at = get_or s at 0 + 256 * get_or s (at + 1) 0

-- and a number in two bytes
abbrev pub two_bytes : ℕ → List ℕ
two_bytes n = n % 256 ∷ n / 256 % 256 ∷ []

-- the name id of a Named or a Module
abbrev pub name_of : Ty → ℕ
name_of s = id_at s 1

-- `is_nullable` of ty.rs: Nullable, or Any
abbrev pub is_nullable : Ty → Bool
is_nullable s = eqb (kind_of s) nullable_kind || eqb (kind_of s) any_kind

-- `is_numeric`: Int, Long, Short, Byte, Float, Double
abbrev pub is_numeric : Ty → Bool
is_numeric s = leb (kind_of s) double_kind

-- `is_integer`: Int, Long, Short, Byte
abbrev pub is_integer : Ty → Bool
is_integer s = leb (kind_of s) byte_kind

abbrev pub is_boolean : Ty → Bool
is_boolean s = eqb (kind_of s) boolean_kind

-- the two kinds of an Array
abbrev pub is_array_kind : ℕ → Bool
is_array_kind k = eqb k array_kind || eqb k large_array_kind

abbrev pub is_array : Ty → Bool
is_array s = is_array_kind (kind_of s)

-- how many bytes an Array's size has: of kind 14 a "4-byte size", and of kind 22 "an 8-byte size"
unfoldable pub size_width : ℕ → ℕ
size_width k = choose (eqb k large_array_kind) 8 4

-- what a Nullable, Pointer, List or Array holds: its child, behind an Array's flag and size
unfoldable pub inner_of : Ty → Ty
inner_of s = choose (is_array s) (drop (2 + size_width (kind_of s)) s) (drop 1 s)

-- `is_string`: String, or a Nullable of it
abbrev pub is_string : Ty → Bool
is_string s = eqb (kind_of s) string_kind || (eqb (kind_of s) nullable_kind && eqb (kind_of (inner_of s)) string_kind)

-- `non_null`: one Nullable taken off
unfoldable pub non_null : Ty → Ty
non_null s = choose (eqb (kind_of s) nullable_kind) (inner_of s) s

-- equal types are equal bytes
unfoldable pub same_bytes : List ℕ → List ℕ → Bool
same_bytes [] [] = true
same_bytes [] (y ∷ ys) = false
same_bytes (x ∷ xs) [] = false
same_bytes (x ∷ xs) (y ∷ ys) = eqb x y && same_bytes xs ys
