-- What order 2 claims. Document 02: "Named A now assigns to Named B if B is met climbing from A, at every depth where assignability compares types."
-- By order 6 a class is met along superclasses and interfaces alike.
use Rattle.std.specs.Prelude.{ℕ, Bool, true, false, List, ◌⊎◌, ◌≡◌}
use Rattle.below.specs.Below.{HasParent, Met}
use Rattle.operators.specs.Assign.{can_assign, assigns}
use Rattle.operators.specs.Operand.{is_kind}
use Rattle.symbol.specs.Lookup.{symbols_of}
use Rattle.symbol.specs.Symbols.{Symbols}
use Rattle.ty.specs.Bytes.{Ty, name_of, is_array, inner_of}
use Rattle.ty.specs.Kind.{nullable_kind, list_kind, named_kind}

module _ (S : Symbols) where
  -- A class and one that is met from it, as Named types or "at every depth where assignability compares types": inside two Arrays, inside a List
  -- and an Array, and inside a Nullable on either side.
  pub data ClassMet : Ty → Ty → Type 0 where
    named : {a b : Ty} → is_kind named_kind a ≡ true → is_kind named_kind b ≡ true → Met S (name_of a) (name_of b) → ClassMet a b
    arrays : {a b : Ty} → is_array a ≡ true → is_array b ≡ true → ClassMet (inner_of a) (inner_of b) → ClassMet a b
    list-array : {a b : Ty} → is_kind list_kind a ≡ true → is_array b ≡ true → ClassMet (inner_of a) (inner_of b) → ClassMet a b
    to_nullable : {a b : Ty} → is_kind nullable_kind b ≡ true → ClassMet a (inner_of b) → ClassMet a b
    from-nullable : {a b : Ty} → is_kind nullable_kind a ≡ true → ClassMet (inner_of a) b → ClassMet a b

-- document 01's assignability: no class is below another
abbrev pub assigns_unrelated : Ty → Ty → Bool
assigns_unrelated a b = can_assign (λ c d. false) a b

-- the claims, of an accepted table t
pub record SubclassAssigns (t : List ℕ) : Type 0 where
  -- a class goes where any class above it is expected, at every depth where assignability compares types
  pub met : (a b : Ty) → ClassMet (symbols_of t) a b → assigns (symbols_of t) a b ≡ true
  -- what assigned by document 01 still does
  pub kept : (a b : Ty) → assigns_unrelated a b ≡ true → assigns (symbols_of t) a b ≡ true
  -- and nothing else does
  pub no_more : (a b : Ty) → assigns (symbols_of t) a b ≡ true → (assigns_unrelated a b ≡ true) ⊎ ClassMet (symbols_of t) a b
  -- where no class has a superclass or, by order 6, an interface, assignability is document 01's
  pub unrelated : ((c p : ℕ) → HasParent (symbols_of t) c p → ⊥) → (a b : Ty) → assigns (symbols_of t) a b ≡ assigns_unrelated a b
