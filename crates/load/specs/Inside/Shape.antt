-- Whether a node of a tree of k nodes, at least two, is a binary, and the state behind that: it is drawn only where there are more than two.
use Rattle.std.specs.Prelude.{ℕ, Bool, false, ◌==◌, ◌≡◌, nat_le}
use Rattle.load.specs.Draw.{stepped, drawn}
use Rattle.ty.specs.Choose.{choose}

pub record Shape : Type 0 where
  pub binary : Bool
  pub state : ℕ

unfoldable pub shape_of : ℕ → ℕ → Shape
shape_of k s = choose (nat_le k 2) (record { binary = false; state = s }) (record { binary = (drawn 2 s == 1); state = stepped s })

-- an answer and the state behind it are a shape
pub record ShapeIs (binary : Bool) (state : ℕ) (h : Shape) : Type 0 where
  pub answer : binary ≡ h.binary
  pub behind : state ≡ h.state
