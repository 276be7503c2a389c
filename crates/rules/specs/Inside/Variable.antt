-- What the lookup of a class's field or function answers: where its type lies, if there is one.
use Rattle.std.specs.Prelude.{ℕ, List, Option, None, Some}
use Rattle.index.specs.Inside.Found.{Found}
use Rattle.area.specs.declared.Source.TheVariants as source
use Rattle.area.specs.declared.Source.{Source}
use Rattle.symbol.specs.Inside.FunctionFields.{function_at}
use Rattle.symbol.specs.Inside.Places.{first_place, function_places, field_part}
use Rattle.ty.specs.declared.Part.{Part}

-- of a function that was looked for, the result type
abbrev pub function_variable : List ℕ → Found → Option Source
function_variable table None = None
function_variable table (Some p) = Some (source.Function (function_at table p).result)

-- of the first function of an owner and a name
unfoldable pub function_place : List ℕ → ℕ → ℕ → Option Source
function_place table owner id = function_variable table (first_place (function_places table owner id))

-- of a field that was looked for, or else v
abbrev pub field_variable : Option Part → Option Source → Option Source
field_variable None v = v
field_variable (Some p) v = Some (source.Part p)

-- of the field of an owner and a name, or else of the first function; the law `variable_placed` says that the bytes there are the type of `lookup_var`
unfoldable pub variable_place : List ℕ → ℕ → ℕ → Option Source
variable_place table owner id = field_variable (field_part table owner id) (function_place table owner id)
