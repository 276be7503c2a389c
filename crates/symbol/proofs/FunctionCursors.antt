-- The cursor along the functions of an owner and a name, step by step.
use Prim.Native.Nat.{ℕ, ◌+◌}
use lib.ListN.{drop}
use mathlib.Core.List.{List}
use mathlib.Core.Path.{◌≡◌, refl, sym, ap, ◌∙◌, subst}
use Rattle.index.proofs.Firsts.{found_first, found_behind}
use Rattle.index.specs.Inside.Found.{first_with, first_behind, found_at}
use Rattle.index.specs.Inside.ListWalk.{list_first, list_next, list_behind}
use Rattle.std.specs.Prelude.{None, Some}
use Rattle.index.specs.Inside.Found.{Found}
use Rattle.index.specs.declared.index.Place.{Place}
use Rattle.index.specs.declared.list.ListCursor.{ListCursor}
use Rattle.record.specs.Inside.Keyed.{records_with}
use Rattle.record.specs.Inside.Walk.{behind}
use Rattle.record.specs.Table.{Record, records_of}
use Rattle.record.specs.TableRefused.{table_fault}
use Rattle.symbol.proofs.FunctionLists.{first_searched, next_searched, first-keyed, next_keyed}
use Rattle.symbol.specs.Inside.FunctionCursor.{cursor_at, functions_first, found_here, cursor_behind, functions_next, AtFunction, Along}
use Rattle.symbol.specs.Inside.Places.{first_place, function_places, places_behind}
use Rattle.symbol.specs.declared.lookups.Functions.{Functions}
use Rattle.ty.specs.Bytes.{id_at}

-- ---- what the code does
module _ (t : List ℕ) (clean : table_fault t ≡ 0) where
  module _ (owner name : ℕ) where
    first_found : found_at (first_with t 4 owner name) ≡ first_place (function_places t owner name)
    first_found = first_searched t clean owner name (found_at (first_with t 4 owner name)) (found_first t clean 4 owner name _ refl)

    pub first_is : (r : ListCursor) → r ≡ list_first t owner name → record { list = r } ≡ functions_first t owner name
    unfolding list_first functions_first
    first_is r f = (λ i. record { list = f i }) ∙ (λ i. record { list = record { owner = owner; name = name; here = first_found i } })

  module _ (c : Functions) (a : AtFunction t c) where
    abbrev o : ℕ
    o = c.list.owner

    abbrev n : ℕ
    n = c.list.name

    abbrev p : Place
    p = a.place

    abbrev rest : ℕ → ℕ → List Record
    rest x y = records_with 4 x y (records_of (drop (behind t p.at) t))

    next_found : found_at (first_behind t 4 o n p.at) ≡ first_place (places_behind t p)
    next_found =
        next_searched t clean p a.function o n a.owner a.name (rest o n)
        (ap (λ (z : ℕ). rest z n) a.owner ∙ ap (λ (z : ℕ). rest (id_at t (p.at + 1)) z) a.name)
        (found_at (first_behind t 4 o n p.at)) (found_behind t clean 4 o n p.at a.function.sits a.function.some _ refl)

    pub next_is : (r : ListCursor) → r ≡ list_next t c.list → record { list = r } ≡ functions_next t c
    unfolding list_next functions_next
    next_is r f =
        (λ i. record { list = (f ∙ ap (list_behind t c.list) a.here) i })
        ∙ (λ i. record { list = record { owner = o; name = n; here = next_found i } }) ∙ ap (cursor_behind t c) (sym a.here)

-- ---- WHAT STANDS AT A CURSOR
pub first-here : (t : List ℕ) (owner name : ℕ) (c : Functions) → c ≡ functions_first t owner name → found_here c ≡ first_place (function_places t owner name)
unfolding found_here functions_first
first-here t owner name c e = ap (λ (z : Functions). z.list.here) e

pub nothing_here : (c : Functions) (r : Found) → r ≡ found_here c → r ≡ None → found_here c ≡ None
nothing_here c r e f = sym e ∙ f

-- it is the place of a function that stands there
module _ (t : List ℕ) (c : Functions) (r : Found) (p : Place) (e : r ≡ found_here c) (f : r ≡ Some p) where
  pub cursor_here : found_here c ≡ Some p
  cursor_here = sym e ∙ f

  pub cursor_stands : Along t c → AtFunction t c
  unfolding found_here
  cursor_stands a = a.stands p (sym e ∙ f)

  pub cursor_next : (n : Functions) → n ≡ functions_next t c → found_here n ≡ first_place (places_behind t p)
  unfolding found_here functions_next
  cursor_next n q = ap (λ (z : Functions). z.list.here) (q ∙ ap (cursor_behind t c) (sym e ∙ f))

-- ---- THE CURSOR STAYS WITH ITS OWNER AND NAME
module _ (t : List ℕ) (clean : table_fault t ≡ 0) where
  at_first : (owner name : ℕ) (f : Found) → f ≡ first_place (function_places t owner name) → (p : Place) → f ≡ Some p → AtFunction t (cursor_at owner name f)
  at_first owner name f e p h =
      let k = first-keyed t clean owner name p (sym e ∙ h) in
      record { place = p; here = h; function = k.0; owner = sym k.1; name = sym k.2 }

  pub along_first : (owner name : ℕ) (c : Functions) → c ≡ functions_first t owner name → Along t c
  unfolding functions_first
  along_first owner name c e =
      subst (λ (z : Functions). Along t z) (sym e)
      (record { stands = λ p h. at_first owner name (first_place (function_places t owner name)) refl p h })

  module _ (c : Functions) (a : AtFunction t c) where
    at_next : (f : Found) → f ≡ first_place (places_behind t a.place) → (p : Place) → f ≡ Some p → AtFunction t (cursor_at c.list.owner c.list.name f)
    at_next f e p h =
        let k = next_keyed t clean a.place a.function p (sym e ∙ h) in
        record { place = p; here = h; function = k.0; owner = a.owner ∙ sym k.1; name = a.name ∙ sym k.2 }

    pub along_next : (n : Functions) → n ≡ functions_next t c → Along t n
    unfolding functions_next
    along_next n e =
        subst (λ (z : Functions). Along t z) (sym (e ∙ ap (cursor_behind t c) a.here))
        (record { stands = λ p h. at_next (first_place (places_behind t a.place)) refl p h })

-- the first function of an owner and a name, as a place
pub ruleset first_here = (first-here)
