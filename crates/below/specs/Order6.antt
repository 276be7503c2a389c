-- What order 6 claims of classes. Document 02: "The class record gains two interface ids behind its superclass, 65,535 for none .. Assignability reaches
-- through superclass and interfaces alike .. We write older tables anew with 65,535".
use Rattle.std.specs.Prelude.{ℕ, ◌≤◌, true, List, ◌⊎◌, ◌↔◌, ◌≡◌}
use Rattle.below.specs.Below.{HasParent, Met, met_within, is_below}
use Rattle.symbol.specs.Lookup.{symbols_of}
use Rattle.symbol.specs.Subclass.{is_subclass}
use Rattle.symbol.specs.Symbols.{Symbols}
use Rattle.ty.specs.Name.{no_id}

-- "reaches through superclass and interfaces alike", of an accepted table t
pub record ReachesAlike (t : List ℕ) : Type 0 where
  -- a class is above another exactly if it is met along superclasses and interfaces, on whichever of the ways to it
  pub met : (a b : ℕ) → (is_below (symbols_of t) a b ≡ true) ↔ Met (symbols_of t) a b
  -- so it is exactly if it is a parent of that one, its superclass or one of its interfaces, or above a parent of it
  pub by_parent : (a b : ℕ) → (is_below (symbols_of t) a b ≡ true)
      ↔ (HasParent (symbols_of t) a b ⊎ ((p : ℕ) × HasParent (symbols_of t) a p × (is_below (symbols_of t) p b ≡ true)))
  -- no way is longer than there are classes: more steps meet nothing more
  pub long_enough : (n a b : ℕ) → (symbols_of t).classes ≤ n
      → met_within (symbols_of t).super_of (symbols_of t).first_interface_of (symbols_of t).second_interface_of n a b ≡ is_below (symbols_of t) a b
  -- no class is met from itself
  pub none_itself : (a : ℕ) → Met (symbols_of t) a a → ⊥

-- of any table: what is above a class along superclasses, and an older table, which is written "anew with 65,535" for every interface
pub record BySuperclasses (S : Symbols) : Type 0 where
  -- a class that is met along superclasses alone is above
  pub more : (a b : ℕ) → is_subclass S a b ≡ true → is_below S a b ≡ true
  -- and where no class has an interface nothing else is
  pub without_interfaces : ((c : ℕ) → S.first_interface_of c ≡ no_id) → ((c : ℕ) → S.second_interface_of c ≡ no_id)
      → (a b : ℕ) → is_below S a b ≡ is_subclass S a b
