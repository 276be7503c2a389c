-- The types that a rule makes of an id or of another type. Document 01, "Types as bytes".
use Rattle.std.specs.Prelude.{ℕ, ◌/◌, ◌%◌, [], ◌∷◌}
use Rattle.ty.specs.Kind.{pointer_kind, list_kind, named_kind, function_kind}
use Rattle.ty.specs.Bytes.{Ty}

abbrev pub named_ty : ℕ → Ty
named_ty id = named_kind ∷ id % 256 ∷ id / 256 % 256 ∷ []

abbrev pub pointer_ty : Ty → Ty
pointer_ty t = pointer_kind ∷ t

abbrev pub list_ty : Ty → Ty
list_ty t = list_kind ∷ t

-- a Function without parameters, by its result
abbrev pub function_ty : Ty → Ty
function_ty t = function_kind ∷ 0 ∷ t
