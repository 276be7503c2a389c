-- The limits of a type, by computation.
use lib.ListN.{replicate}
use mathlib.Core.Bool.{true, false}
use mathlib.Core.List.{[], ◌∷◌, ◌++◌}
use mathlib.Core.Path.{◌≡◌, refl}
use Rattle.std.specs.Prelude.{ℕ, Result, Err}
use Rattle.ty.specs.Bytes.{Ty, plain_ty, is_nullable, is_string, size_width, inner_of, non_null}
use Rattle.ty.specs.Choose.{choose}
use Rattle.ty.specs.Kind.{int_kind, string_kind, any_kind, nullable_kind, array_kind, list_kind, map_kind, named_kind, function_kind, type_var_kind, module_kind, error_kind, large_array_kind}
use Rattle.ty.specs.Read.{body_length, child_count, number_at, id_in, item_of, item_at, no_end, read_from, read_type, longest_type, whole_read}
use Rattle.ty.specs.declared.read.TypeFault.TheVariants.{Cut, Malformed, Endless}
use Rattle.ty.specs.declared.read.TypeFault.{TypeFault}
use Rattle.ty.specs.declared.read.TypeRead.{TypeRead}

-- as in a table or a leaf
abbrev read : Ty → Result TypeRead TypeFault
read s = read_type s longest_type

abbrev int : Ty
int = plain_ty int_kind

-- 191 Nullable over Int is taken, and 192 is not
deep : (read (replicate 191 nullable_kind ++ int) ≡ whole_read 192 0 false) × (read (replicate 192 nullable_kind ++ int) ≡ Err (Endless 0 false))
unfolding choose size_width body_length child_count number_at id_in item_of item_at no_end read_from read_type
deep = (refl, refl)

-- broken off by the end of the bytes before the 192nd byte is cut, and behind that it has no end
broken_off :
    (read [] ≡ Err Cut) × (read (replicate 191 nullable_kind) ≡ Err Cut) × (read (replicate 192 nullable_kind) ≡ Err (Endless 0 false))
    × (read (named_kind ∷ 40 ∷ []) ≡ Err Cut) × (read (map_kind ∷ int) ≡ Err Cut)
unfolding choose size_width body_length child_count number_at id_in item_of item_at no_end read_from read_type
broken_off = (refl, refl, refl, refl, refl)

-- a body that is not wholly inside the first 192 bytes is not examined
at_the_limit :
    (read (replicate 189 nullable_kind ++ (named_kind ∷ 7 ∷ 1 ∷ [])) ≡ whole_read 192 263 false)
    × (read (replicate 190 nullable_kind ++ (named_kind ∷ 7 ∷ 1 ∷ [])) ≡ Err (Endless 0 false))
    × (read ((map_kind ∷ named_kind ∷ 7 ∷ 1 ∷ []) ++ replicate 188 list_kind) ≡ Err (Endless 263 false))
unfolding choose size_width body_length child_count number_at id_in item_of item_at no_end read_from read_type
at_the_limit = (refl, refl, refl)

-- a Function of 16 parameters is taken, and of 17 is not
parameters :
    (read (function_kind ∷ 16 ∷ replicate 17 int_kind) ≡ whole_read 19 0 false) × (read (function_kind ∷ 16 ∷ replicate 16 int_kind) ≡ Err Cut)
    × (read (function_kind ∷ 17 ∷ replicate 18 int_kind) ≡ Err Malformed)
unfolding choose size_width body_length child_count number_at id_in item_of item_at no_end read_from read_type
parameters = (refl, refl, refl)

-- an Array's flag 0 needs the size 0, flag 1 means a size, and there is no other flag
arrays :
    (read (array_kind ∷ 0 ∷ 0 ∷ 0 ∷ 0 ∷ 0 ∷ int) ≡ whole_read 7 0 false) × (read (array_kind ∷ 0 ∷ 0 ∷ 0 ∷ 0 ∷ 1 ∷ int) ≡ Err Malformed)
    × (read (array_kind ∷ 1 ∷ 3 ∷ 0 ∷ 0 ∷ 1 ∷ int) ≡ whole_read 7 0 false) × (read (array_kind ∷ 2 ∷ 0 ∷ 0 ∷ 0 ∷ 0 ∷ int) ≡ Err Malformed)
unfolding choose size_width body_length child_count number_at id_in item_of item_at no_end read_from read_type
arrays = (refl, refl, refl, refl)

-- an Array's size in eight bytes is at least 2^32, and its flag is 1: 2^32 - 1, 2^32 and 2^64 - 1, and 2^32 with the flags 0 and 2
abbrev large : ℕ → ℕ → ℕ → Ty
large flag low high =
    large_array_kind ∷ flag ∷ low ∷ low ∷ low ∷ low ∷ high ∷ 0 ∷ 0 ∷ 0 ∷ []

large_arrays :
    (read (large 1 255 0 ++ int) ≡ Err Malformed) × (read (large 1 0 1 ++ int) ≡ whole_read 11 0 false)
    × (read ((large_array_kind ∷ 1 ∷ replicate 8 255) ++ int) ≡ whole_read 11 0 false) × (read (large 0 0 1 ++ int) ≡ Err Malformed)
    × (read (large 2 0 1 ++ int) ≡ Err Malformed) × (read (large 0 0 0 ++ int) ≡ Err Malformed)
unfolding choose size_width body_length child_count number_at id_in item_of item_at no_end read_from read_type
large_arrays = (refl, refl, refl, refl, refl, refl)

-- its nine bytes are examined only where they lie wholly inside the first 192; 181 one-byte kinds, a 22 and Int are taken
large_at_the_limit :
    (read (replicate 181 list_kind ++ large 1 0 1 ++ int) ≡ whole_read 192 0 false) × (read (replicate 182 list_kind ++ large 1 0 1 ++ int) ≡ Err (Endless 0 false))
    × (read (replicate 182 list_kind ++ large 0 0 1 ++ int) ≡ Err Malformed) × (read (replicate 183 list_kind ++ large 0 0 1 ++ int) ≡ Err (Endless 0 false))
    × (read (replicate 182 list_kind ++ large 1 0 1) ≡ Err (Endless 0 false)) × (read (replicate 181 list_kind ++ large 1 0 1) ≡ Err Cut)
    × (read (large_array_kind ∷ 1 ∷ replicate 7 255) ≡ Err Cut)
unfolding choose size_width body_length child_count number_at id_in item_of item_at no_end read_from read_type
large_at_the_limit = (refl, refl, refl, refl, refl, refl, refl)

-- the highest id, of a Named or a Module and not of a TypeVar
ids :
    (read (named_kind ∷ 41 ∷ 0 ∷ []) ≡ whole_read 3 41 false) × (read (module_kind ∷ 44 ∷ 1 ∷ []) ≡ whole_read 3 300 false)
    × (read (type_var_kind ∷ 9 ∷ 9 ∷ 9 ∷ 9 ∷ []) ≡ whole_read 5 0 false)
    × (read (map_kind ∷ named_kind ∷ 41 ∷ 0 ∷ module_kind ∷ 40 ∷ 0 ∷ []) ≡ whole_read 7 41 false)
    × (read (map_kind ∷ named_kind ∷ 40 ∷ 0 ∷ module_kind ∷ 41 ∷ 0 ∷ []) ≡ whole_read 7 41 false)
unfolding choose size_width body_length child_count number_at id_in item_of item_at no_end read_from read_type
ids = (refl, refl, refl, refl, refl)

-- an Error is seen, and there is no kind from 23 on; what follows a type is not looked at
errors :
    (read (map_kind ∷ error_kind ∷ int) ≡ whole_read 3 0 true) × (read (23 ∷ []) ≡ Err Malformed) × (read (int_kind ∷ error_kind ∷ 23 ∷ []) ≡ whole_read 1 0 false)
unfolding choose size_width body_length child_count number_at id_in item_of item_at no_end read_from read_type
errors = (refl, refl, refl)

-- what a type holds, and one Nullable taken off
parts :
    (inner_of (list_kind ∷ int) ≡ int) × (inner_of (array_kind ∷ 1 ∷ 3 ∷ 0 ∷ 0 ∷ 1 ∷ int) ≡ int) × (inner_of (large 1 0 1 ++ int) ≡ int)
    × (non_null (nullable_kind ∷ nullable_kind ∷ int) ≡ nullable_kind ∷ int)
    × (non_null (plain_ty any_kind) ≡ plain_ty any_kind) × (is_nullable (plain_ty any_kind) ≡ true) × (is_string (nullable_kind ∷ plain_ty string_kind) ≡ true)
unfolding choose size_width inner_of non_null
parts = (refl, refl, refl, refl, refl, refl, refl)
