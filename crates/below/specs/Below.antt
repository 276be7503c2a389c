-- The classes above a class. Document 02, order 2: "Named A now assigns to Named B if B is met climbing from A"; order 6: "The class record gains two
-- interface ids behind its superclass .. Assignability reaches through superclass and interfaces alike". A step goes from a class to one of its parents, the
-- superclass and the two interfaces, whether these are in `types` or not. A parent without a record is met, and the way ends there.
use Rattle.std.specs.Prelude.{ℕ, zero, suc, Bool, false, not, ◌&&◌, ◌||◌, ◌⊎◌, ◌≢◌, ◌≡◌, eqb}
use Rattle.symbol.specs.Symbols.{Symbols}
use Rattle.ty.specs.Name.{no_id}

-- p is a class, and it is b or has b above it, as `above` says
unfoldable pub by_way_of : ℕ → (ℕ → ℕ → Bool) → ℕ → Bool
by_way_of p above b = not (eqb p no_id) && (eqb p b || above p b)

-- b is met from a in at most so many steps
module _ (super first second : ℕ → ℕ) where
  unfoldable pub met_within : ℕ → ℕ → ℕ → Bool
  met_within zero a b = false
  met_within (suc n) a b =
      by_way_of (super a) (met_within n) b || (by_way_of (first a) (met_within n) b || by_way_of (second a) (met_within n) b)

module _ (S : Symbols) where
  -- class a has the parent p
  abbrev pub HasParent : ℕ → ℕ → Type 0
  HasParent a p = ((S.super_of a ≡ p) ⊎ ((S.first_interface_of a ≡ p) ⊎ (S.second_interface_of a ≡ p))) × (p ≢ no_id)

  -- b is met from a, in however many steps and along whichever way
  pub data Met : ℕ → ℕ → Type 0 where
    step : {a b : ℕ} → HasParent a b → Met a b
    then : {a c b : ℕ} → HasParent a c → Met c b → Met a b

  -- The same as a test, with as many steps as there are classes. The law `below-met` says that in an accepted table it holds exactly if b is met.
  unfoldable pub is_below : ℕ → ℕ → Bool
  is_below a b = met_within S.super_of S.first_interface_of S.second_interface_of S.classes a b
