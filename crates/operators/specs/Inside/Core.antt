-- The class that assignability from a type asks about: it goes inside Arrays, Nullables and Lists alone, so it comes to one Named of the left type at most.
use Rattle.std.specs.Prelude.{ℕ, zero, suc, ◌+◌, Bool, ◌||◌, List, [], ◌∷◌, eqb}
use Rattle.ty.specs.Bytes.{Ty, id_at, is_array_kind, size_width}
use Rattle.ty.specs.Choose.{choose}
use Rattle.ty.specs.Kind.{nullable_kind, list_kind, named_kind}
use Rattle.ty.specs.Name.{no_id}

-- a kind of a left type that assignability goes inside
abbrev pub goes_inside : ℕ → Bool
goes_inside k = is_array_kind k || (eqb k nullable_kind || eqb k list_kind)

-- the name of the Named that a type comes to, so many bytes on, and 65,535 where it comes to none
unfoldable pub core_from : ℕ → List ℕ → ℕ
core_from n [] = no_id
core_from (suc n) (k ∷ s) = core_from n s
core_from zero (k ∷ s) =
    choose (goes_inside k) (core_from (choose (is_array_kind k) (1 + size_width k) 0) s) (choose (eqb k named_kind) (id_at s 0) no_id)

abbrev pub core_of : Ty → ℕ
core_of t = core_from 0 t
