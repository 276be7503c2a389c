-- The classes that the arguments of a call come to: those that assignability from the arguments' types asks about (`core_of`).
use Rattle.std.specs.Prelude.{ℕ, List, [], ◌∷◌, ◌++◌, eqb}
use Rattle.operators.specs.Inside.Core.{core_of}
use Rattle.scoring.specs.Arg.{Arg}
use Rattle.ty.specs.Bytes.{Ty}
use Rattle.ty.specs.Choose.{choose}
use Rattle.ty.specs.Name.{no_id}

-- that of one argument, of the type x, if there is one
unfoldable pub class_of : Ty → List ℕ
class_of x = choose (eqb (core_of x) no_id) [] (core_of x ∷ [])

unfoldable pub classes_of : List Arg → List ℕ
classes_of [] = []
classes_of (x ∷ xs) = class_of x.ty ++ classes_of xs
