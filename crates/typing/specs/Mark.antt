-- The pass mark: no diagnostic, warnings included, and no visited node of type Error. Document 01, "Clean rules": in a judgement, visited are the nodes to
-- which the definition gives a type; types are the same when their bytes are.
use Rattle.std.specs.Prelude.{ℕ, eqb, Bool, true, false, not, ◌&&◌, List, [], ◌∷◌}
use Rattle.std.proofs.Math.Option.{Option, none, some}
use Rattle.area.specs.Diagnostic.{Diag}
use Rattle.operators.specs.Out.{error_ty}
use Rattle.ty.specs.Bytes.{Ty, same_bytes}
use Rattle.ty.specs.Choose.{choose}
use Rattle.typing.specs.Judge.{Given, Judged}

-- the type that a judgement gives to a number
unfoldable pub type_in : List Given → ℕ → Option Ty
type_in [] k = none
type_in (g ∷ gs) k = choose (eqb g.node k) (some g.ty) (type_in gs k)

-- none of them is Error
unfoldable pub no_error : List Given → Bool
no_error [] = true
no_error (g ∷ gs) = not (same_bytes g.ty error_ty) && no_error gs

unfoldable pub no_diag : List Diag → Bool
no_diag [] = true
no_diag (d ∷ ds) = false

unfoldable pub passes : Judged → Bool
passes j = no_diag j.diags && no_error j.typed

abbrev pub mark_of : Bool → ℕ
mark_of true = 1
mark_of false = 0
