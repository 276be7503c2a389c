-- What the lookup of an operator method answers.
use Rattle.std.specs.Prelude.{ℕ, List, Option, None, Some}
use Rattle.std.proofs.Math.Option as maybe
use Rattle.area.specs.Source.{type_from}
use Rattle.area.specs.declared.Source.{Source}
use Rattle.ty.specs.Bytes.{Ty}

-- the type that a source gives, if there is one, with the children's types x and y
abbrev pub source_ty : List ℕ → Ty → Ty → Option Source → maybe.Option Ty
source_ty table x y None = maybe.none
source_ty table x y (Some s) = maybe.some (type_from table x y s)
