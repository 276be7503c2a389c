-- The parents that a class record names.
use Rattle.std.specs.Prelude.{ℕ, suc, ◌<◌, ◌≤◌, ◌≡◌, ◌≢◌, Bool, false, not, ◌||◌, List, [], ◌∷◌, length, get_or, eqb}
use Rattle.below.specs.Below.{HasParent}
use Rattle.below.specs.Inside.Marks.{id_count, no_ids, has_mark, with_parents}
use Rattle.below.specs.declared.parents.Parented.{Parented}
use Rattle.below.specs.declared.parents.Parents.{Parents}
use Rattle.record.specs.TableRefused.{table_fault}
use Rattle.symbol.specs.Inside.ClassRun.{rank_of}
use Rattle.symbol.specs.Lookup.{symbols_of}
use Rattle.symbol.specs.Symbols.{Symbols}
use Rattle.ty.specs.Name.{no_id}

-- these are the parents of class a
pub record ParentsOf (S : Symbols) (a : ℕ) (p : Parents) : Type 0 where
  pub superclass : p.superclass ≡ S.super_of a
  pub first_interface : p.first_interface ≡ S.first_interface_of a
  pub second_interface : p.second_interface ≡ S.second_interface_of a

-- each of them is none or an id below n
pub record ParentsBelow (n : ℕ) (p : Parents) : Type 0 where
  pub superclass : p.superclass ≢ no_id → p.superclass < n
  pub first_interface : p.first_interface ≢ no_id → p.first_interface < n
  pub second_interface : p.second_interface ≢ no_id → p.second_interface < n

-- class a has no parent
abbrev pub NoParent : Symbols → ℕ → Type 0
NoParent S a = (p : ℕ) → HasParent S a p → ⊥

-- class a has a parent
unfoldable pub has_parent : Symbols → ℕ → Bool
has_parent S a = not (eqb (S.super_of a) no_id) || (not (eqb (S.first_interface_of a) no_id) || not (eqb (S.second_interface_of a) no_id))

-- one of some classes has a parent
unfoldable pub any_has_parent : Symbols → List ℕ → Bool
any_has_parent S [] = false
any_has_parent S (a ∷ classes) = has_parent S a || any_has_parent S classes

-- the record of class a in an accepted table, and its parents, of which there is one
pub record ParentedIs (t : List ℕ) (a : ℕ) (r : Parented) : Type 0 where
  pub rank : rank_of t a ≡ suc r.number
  pub there : r.number < (symbols_of t).classes
  pub parents : ParentsOf (symbols_of t) a r.parents
  pub below : ParentsBelow id_count r.parents
  pub some : (p : ℕ) × HasParent (symbols_of t) a p

-- the parents of class a that have a record stand among the first r class records
pub record ParentsEarly (t : List ℕ) (a r : ℕ) : Type 0 where
  pub accepted : table_fault t ≡ 0
  pub few : r ≤ (symbols_of t).classes
  pub early : (p : ℕ) → HasParent (symbols_of t) a p → rank_of t p ≤ r

-- the parents of the first n of some classes are marked, and stand among the first r class records where they have one
pub record ParentsMarked (t classes : List ℕ) (n r : ℕ) (m : List ℕ) : Type 0 where
  pub few : r ≤ (symbols_of t).classes
  pub early : (j : ℕ) → j < n → ParentsEarly t (get_or classes j 0) r
  pub here : (j : ℕ) → j < n → has_mark m j ≡ with_parents (symbols_of t) no_ids (get_or classes j 0)
  pub later : (j : ℕ) → n ≤ j → has_mark m j ≡ no_ids
  pub long : length m ≡ id_count
