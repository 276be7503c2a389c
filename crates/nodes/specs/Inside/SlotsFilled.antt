-- What the slots hold behind finished nodes: their types, stored in the order in which the nodes were finished.
use Rattle.std.specs.Prelude.{List, [], ◌∷◌, ◌≡◌, set}
use Rattle.ty.specs.Bytes.{Ty}
use Rattle.typing.specs.Judge.{Given}

-- the slots once all these are stored
unfoldable pub store_all : List Ty → List Given → List Ty
store_all slots [] = slots
store_all slots (g ∷ gs) = store_all (set slots g.node g.ty) gs

-- all these have been stored, and nothing else: ts was before, ts' is after
pub record SlotsFilled (ts ts' : List Ty) (gs : List Given) : Type 0 where
  pub slots : ts' ≡ store_all ts gs
