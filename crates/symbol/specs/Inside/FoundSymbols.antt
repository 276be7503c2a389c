-- What the code looks up in some records, from their heads and bytes at fixed places. The laws of proofs LaidLookups tie it to `symbols_in`; `same_function`
-- (proofs LaidFunctions) ties a function to `overload_of`.
use Rattle.std.specs.Prelude.{ℕ, zero, suc, ◌+◌, ◌%◌, Bool, true, false, List, [], ◌∷◌, get_or, take, drop, leb, eqb}
use Rattle.std.proofs.Math.Option.{Option, none, some}
use Rattle.ty.specs.Name.{no_id}
use Rattle.ty.specs.Bytes.{Ty, id_at}
use Rattle.symbol.specs.Symbols.{Param, Overload}
use Rattle.record.specs.Inside.Front.{front_of}
use Rattle.record.specs.Inside.HeadFault.{first_interface_at, second_interface_at}
use Rattle.record.specs.Table.{Record}
use Rattle.record.specs.Inside.Keyed.{type_length}

-- ---- of a class record: superclass, interfaces, package, in `types`; none has none of them
abbrev pub super_in : List Record → ℕ
super_in [] = no_id
super_in (r ∷ rs) = (front_of r).two

abbrev pub first_interface_in : List Record → ℕ
first_interface_in [] = no_id
first_interface_in (r ∷ rs) = first_interface_at r

abbrev pub second_interface_in : List Record → ℕ
second_interface_in [] = no_id
second_interface_in (r ∷ rs) = second_interface_at r

abbrev pub package_in : List Record → ℕ
package_in [] = no_id
package_in (r ∷ rs) = id_at r 9

abbrev pub types_in : List Record → Bool
types_in [] = false
types_in (r ∷ rs) = eqb (get_or r 11 0) 1

-- ---- the mask of an operator set, the type of a field, a member's visibility
abbrev pub mask_in : List Record → Option ℕ
mask_in [] = none
mask_in (r ∷ rs) = some (front_of r).two

abbrev pub field_in : List Record → Option Ty
field_in [] = none
field_in (r ∷ rs) = some (drop 5 r)

abbrev pub visibility_in : List Record → Option ℕ
visibility_in [] = none
visibility_in (r ∷ rs) = some (get_or r 5 0)

-- whether there is one
abbrev pub any_in : List Record → Bool
any_in [] = false
any_in (r ∷ rs) = true

-- ---- a function

-- the parameter at the front of s, whose type has n bytes: name, flag (bit 0 default, bit 1 vararg; no other bit is set), type
abbrev pub param_of : List ℕ → ℕ → Param
param_of s n = record { name = id_at s 0; default = eqb (get_or s 2 0 % 2) 1; vararg = leb 2 (get_or s 2 0); ty = take n (drop 3 s) }

-- n parameters from the front of s on
unfoldable pub params_from : ℕ → List ℕ → List Param
params_from zero s = []
params_from (suc n) s = param_of s (type_length (drop 3 s)) ∷ params_from n (drop (3 + type_length (drop 3 s)) s)

-- a function record whose result type has n bytes
abbrev pub overload_with : Record → ℕ → Overload
overload_with r n =
    record {
      builtin = eqb (get_or r 6 0) 1;
      visibility = get_or r 5 0;
      params = params_from (get_or r 7 0) (drop (8 + n) r);
      result = take n (drop 8 r);
    }

unfoldable pub overload_found : Record → Overload
overload_found r = overload_with r (type_length (drop 8 r))
