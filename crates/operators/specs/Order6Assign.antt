-- What order 6 claims of assignability. Document 02: "Assignability reaches through superclass and interfaces alike". Order 2's claims (`Order2`) are of all
-- classes that are met so: `met` there is "at every depth where assignability compares types".
use Rattle.std.specs.Prelude.{ℕ, true, List, ◌⊎◌, ◌≡◌}
use Rattle.below.specs.Below.{HasParent, Met}
use Rattle.operators.specs.Assign.{assigns}
use Rattle.operators.specs.Operand.{is_kind}
use Rattle.operators.specs.Order2.{assigns_unrelated}
use Rattle.symbol.specs.Lookup.{symbols_of}
use Rattle.ty.specs.Bytes.{Ty, name_of}
use Rattle.ty.specs.Kind.{named_kind}

-- both types are Named
abbrev pub BothNamed : Ty → Ty → Type 0
BothNamed a b = (is_kind named_kind a ≡ true) × (is_kind named_kind b ≡ true)

-- the claims, of an accepted table t
pub record ParentsAssign (t : List ℕ) : Type 0 where
  -- a class goes where its superclass or an interface of it is expected
  pub parent : (a b : Ty) → BothNamed a b → HasParent (symbols_of t) (name_of a) (name_of b) → assigns (symbols_of t) a b ≡ true
  -- and where one above these is
  pub above : (a b : Ty) (p : ℕ) → BothNamed a b → HasParent (symbols_of t) (name_of a) p → Met (symbols_of t) p (name_of b) → assigns (symbols_of t) a b ≡ true
  -- and no further: of two Named types that did not assign by document 01, the second is met from the first
  pub no_further : (a b : Ty) → BothNamed a b → assigns (symbols_of t) a b ≡ true
      → (assigns_unrelated a b ≡ true) ⊎ Met (symbols_of t) (name_of a) (name_of b)
