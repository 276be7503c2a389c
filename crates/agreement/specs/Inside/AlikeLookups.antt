-- What the walk over a tree needs of two tables' lookups.
use Rattle.std.specs.Prelude.{ℕ, Bool, true, List, [], ◌∷◌, ◌≡◌}
use Rattle.agreement.specs.Agree.{SameById, SameMembers}
use Rattle.overload.specs.Resolve.{resolve}
use Rattle.scoring.specs.Arg.{Arg}
use Rattle.symbol.specs.Symbols.{Overload, Symbols}

-- two lists are both empty, or have the same first function
unfoldable pub SameFirst : List Overload → List Overload → Type 0
SameFirst [] [] = Unit {0}
SameFirst [] (p ∷ ps) = ⊥
SameFirst (o ∷ os) [] = ⊥
SameFirst (o ∷ os) (p ∷ ps) = o ≡ p

pub record AlikeLookups (asked : ℕ → Bool) (S T : Symbols) : Type 0 where
  pub by_id : SameById S T
  pub members : SameMembers asked S T
  pub firsts : (owner name : ℕ) → asked name ≡ true → SameFirst (S.functions_of owner name) (T.functions_of owner name)

-- a call of the list of an owner and a name, with arguments xs, is resolved alike
abbrev pub ResolvedAlike : Symbols → Symbols → (ℕ → Bool) → ℕ → ℕ → List Arg → Type 0
ResolvedAlike S T asked owner id xs =
    asked id ≡ true → (n : ℕ) → resolve S (S.functions_of owner id) n xs ≡ resolve T (T.functions_of owner id) n xs
