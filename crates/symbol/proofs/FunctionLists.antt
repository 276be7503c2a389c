-- A function that was found, as an overload.
use Prim.Native.Nat.{ℕ, ◌+◌}
use lib.ListN.{drop, take}
use mathlib.Core.List.{List, [], ◌∷◌, map}
use mathlib.Core.Path.{◌≡◌, refl, sym, ap, ◌∙◌, subst}
use native.Mathlib.Omega.{arith}
use Rattle.index.proofs.ListSearch.{function-keyed, place-one, place_key, sits_next}
use Rattle.index.specs.Inside.Found.{HereIs, FoundIs, FunctionAt}
use Rattle.std.specs.Prelude.{None, Some}
use Rattle.index.specs.Inside.Found.{Found}
use Rattle.index.specs.declared.index.Place.{Place}
use Rattle.record.proofs.Agree.{same_size, same_error}
use Rattle.record.proofs.Laid.{same_kind, kind_byte}
use Rattle.record.proofs.Records.{at_start}
use Rattle.record.specs.Inside.FrontRecord.{front_record}
use Rattle.record.specs.Inside.Keyed.{records_with}
use Rattle.record.specs.Inside.Walk.{Sits, behind}
use Rattle.record.specs.Layout.{record_kind, record_size}
use Rattle.record.specs.Table.{Record, first_record, records_of, key_of, keyed}
use Rattle.record.specs.TableRefused.{table_fault}
use Rattle.symbol.proofs.LaidLookups.{functions-keyed, functions_told}
use Rattle.symbol.proofs.PlacesFound.{PlacesFromIs, places_from_lem, found-place}
use Rattle.symbol.specs.Inside.LookupAnswer.{overload_at, functions_behind, FunctionFound}
use Rattle.symbol.specs.Inside.Places.{places_from, first_place, function_places, places_behind, PlaceFound}
use Rattle.symbol.specs.Lookup.{overload_of, symbols_of}
use Rattle.symbol.specs.Symbols.{Overload}
use Rattle.ty.specs.Bytes.{id_at}

-- the functions behind that at a place
behind_it : (t : List ℕ) (p : Place) → FunctionAt t p → (a b : ℕ) → id_at t (p.at + 1) ≡ a → id_at t (p.at + 3) ≡ b
    → records_with 4 a b (records_of (drop (behind t p.at) t)) ≡ keyed 4 (key_of (first_record (drop p.at t))) (records_of (drop (p.at + record_size (drop p.at t)) t))
behind_it t p f a b ea eb =
    functions-keyed (records_of (drop (behind t p.at) t)) a b
    ∙ (λ i. keyed 4 (sym (function-keyed t p f ∙ (λ j. ea j ∷ eb j ∷ [])) i) (records_of (drop (p.at + same_size (drop p.at t) i) t)))

-- a record that was found is a function
function_at_lem : (t : List ℕ) (rs : List Record) (owner name : ℕ) (p : Place) → HereIs t rs 4 owner name p → FunctionAt t p
function_at_lem t rs owner name p h =
    let s = drop p.at t in
    let k : record_kind s ≡ 4 = sym (same_kind s) ∙ h.kind in
    record { kind = k; error = sym (same_error s (kind_byte s (omega arith)).0) ∙ h.error; some = h.some; sits = h.sits }

function-found : (t : List ℕ) (rs : List Record) (owner name : ℕ) (f : Found) → FoundIs t rs 4 owner name f → FunctionFound t (map overload_of rs) f
unfolding overload_at functions_behind
function-found t rs owner name None h = ap (map overload_of) h
function-found t rs owner name (Some p) h =
    let here : FunctionAt t p = function_at_lem t rs owner name p h in
    let rest = behind_it t p here owner name (place-one t rs 4 owner name p h (omega arith)) (place_key t rs 4 owner name p h (omega arith)) in
    record {
      first = ap (map overload_of) h.first ∙ (λ i. overload_of (take (same_size (drop p.at t) i) (drop p.at t)) ∷ map overload_of (rest i));
      here = here;
    }

found-keyed : (t : List ℕ) (rs : List Record) (owner name : ℕ) (p : Place) (f : Found) → FoundIs t rs 4 owner name f → f ≡ Some p
    → FunctionAt t p × (id_at t (p.at + 1) ≡ owner) × (id_at t (p.at + 3) ≡ name)
found-keyed t rs owner name p f w e =
    let h : HereIs t rs 4 owner name p = subst (λ (z : Found). FoundIs t rs 4 owner name z) e w in
    (function_at_lem t rs owner name p h, place-one t rs 4 owner name p h (omega arith), place_key t rs 4 owner name p h (omega arith))

-- ---- the places of functions
module _ (t : List ℕ) (p : Place) (f : FunctionAt t p) where
  abbrev one : ℕ
  one = id_at t (p.at + 1)

  abbrev two : ℕ
  two = id_at t (p.at + 3)

  places_behind_lem : places_from t 4 (one ∷ two ∷ []) (behind t p.at) ≡ places_behind t p
  unfolding places_behind
  places_behind_lem = λ i. places_from t 4 (sym (function-keyed t p f) i) (p.at + same_size (drop p.at t) i)

  sits_behind : Sits t (behind t p.at)
  sits_behind = sits_next t p.at f.sits f.some

-- the overloads at some places
overloads_at : (t : List ℕ) (ps : List Place) → map overload_of (map (λ (p : Place). front_record (drop p.at t)) ps) ≡ map (overload_at t) ps
unfolding overload_at
overloads_at t [] = refl
overloads_at t (p ∷ ps) = λ i. overload_of (take (same_size (drop p.at t) i) (drop p.at t)) ∷ overloads_at t ps i

module _ (t : List ℕ) (clean : table_fault t ≡ 0) where
  sits-start : Sits t 0
  sits-start = record { index = 0; at = at_start t }

  -- where some places have the key of a list, the others stand behind the first
  place_found : (owner name e : ℕ) → PlacesFromIs t clean 4 owner name (omega arith) e → (all : List Place) → places_from t 4 (owner ∷ name ∷ []) e ≡ all → PlaceFound t all (first_place all)
  unfolding first_place
  place_found owner name e w [] q = refl
  place_found owner name e w (p ∷ ps) q =
      let h : HereIs t (records_with 4 owner name (records_of (drop e t))) 4 owner name p
      = subst (λ (z : List Place). FoundIs t (records_with 4 owner name (records_of (drop e t))) 4 owner name (first_place z)) q w.found in
      let here = function_at_lem t (records_with 4 owner name (records_of (drop e t))) owner name p h in
      let ids : owner ∷ name ∷ [] ≡ id_at t (p.at + 1) ∷ id_at t (p.at + 3) ∷ []
      = λ i. sym (place-one t _ 4 owner name p h (omega arith)) i ∷ sym (place_key t _ 4 owner name p h (omega arith)) i ∷ [] in
      record {
        first = ap (λ (z : List Place). p ∷ z)
            (w.rest p ps q ∙ ap (λ (key : List ℕ). places_from t 4 key (behind t p.at)) ids ∙ places_behind_lem t p here);
        here = here;
      }

  -- THE FUNCTIONS OF AN OWNER AND A NAME
  module _ (owner name : ℕ) where
    from_start : PlacesFromIs t clean 4 owner name (omega arith) 0
    from_start = places_from_lem t clean 4 owner name (omega arith) 0 sits-start

    -- the overloads at their places are those of the list
    pub overloads_placed : map (overload_at t) (function_places t owner name) ≡ (symbols_of t).functions_of owner name
    unfolding function_places
    overloads_placed =
        sym (overloads_at t (places_from t 4 (owner ∷ name ∷ []) 0)) ∙ ap (map overload_of) from_start.records
        ∙ functions_told (records_of t) owner name

    -- the first, and the others behind it
    pub first-placed : (f : Found) → f ≡ first_place (function_places t owner name) → PlaceFound t (function_places t owner name) f
    unfolding function_places
    first-placed f e =
        subst (λ (z : Found). PlaceFound t (places_from t 4 (owner ∷ name ∷ []) 0) z) (sym e)
        (place_found owner name 0 from_start (places_from t 4 (owner ∷ name ∷ []) 0) refl)

    -- the first has the owner and the name
    pub first-keyed : (p : Place) → first_place (function_places t owner name) ≡ Some p
        → FunctionAt t p × (id_at t (p.at + 1) ≡ owner) × (id_at t (p.at + 3) ≡ name)
    unfolding function_places
    first-keyed p e = found-keyed t (records_with 4 owner name (records_of t)) owner name p (first_place (places_from t 4 (owner ∷ name ∷ []) 0)) from_start.found e

    -- the first of them, by the overloads
    pub first_listed : (f : Found) → f ≡ first_place (function_places t owner name) → FunctionFound t ((symbols_of t).functions_of owner name) f
    unfolding function_places
    first_listed f e =
        subst (λ (z : Found). FunctionFound t ((symbols_of t).functions_of owner name) z) (sym e)
        (subst (λ (z : List Overload). FunctionFound t z (first_place (places_from t 4 (owner ∷ name ∷ []) 0))) (functions_told (records_of t) owner name)
        (function-found t (records_with 4 owner name (records_of t)) owner name (first_place (places_from t 4 (owner ∷ name ∷ []) 0)) from_start.found))

    -- a search from the table's first byte on finds it
    pub first_searched : (f : Found) → FoundIs t (records_with 4 owner name (records_of t)) 4 owner name f → f ≡ first_place (function_places t owner name)
    unfolding function_places
    first_searched f h = found-place t clean 4 owner name (omega arith) 0 sits-start f h

  -- THE FUNCTIONS BEHIND ONE
  module _ (p : Place) (at : FunctionAt t p) where
    from-behind : PlacesFromIs t clean 4 (one t p at) (two t p at) (omega arith) (behind t p.at)
    from-behind = places_from_lem t clean 4 (one t p at) (two t p at) (omega arith) (behind t p.at) (sits_behind t p at)

    pub next_placed : (f : Found) → f ≡ first_place (places_behind t p) → PlaceFound t (places_behind t p) f
    next_placed f e =
        subst (λ (z : Found). PlaceFound t (places_behind t p) z) (sym e)
        (place_found (one t p at) (two t p at) (behind t p.at) from-behind (places_behind t p) (places_behind_lem t p at))

    pub next_keyed : (q : Place) → first_place (places_behind t p) ≡ Some q
        → FunctionAt t q × (id_at t (q.at + 1) ≡ one t p at) × (id_at t (q.at + 3) ≡ two t p at)
    next_keyed q e =
        found-keyed t (records_with 4 (one t p at) (two t p at) (records_of (drop (behind t p.at) t))) (one t p at) (two t p at) q
        (first_place (places_from t 4 (one t p at ∷ two t p at ∷ []) (behind t p.at))) from-behind.found (ap first_place (places_behind_lem t p at) ∙ e)

    -- a search behind it for its owner and name finds it
    pub next_searched : (a b : ℕ) → a ≡ one t p at → b ≡ two t p at → (rs : List Record)
        → rs ≡ records_with 4 (one t p at) (two t p at) (records_of (drop (behind t p.at) t)) → (f : Found) → FoundIs t rs 4 a b f
        → f ≡ first_place (places_behind t p)
    next_searched a b ea eb rs e f h =
        let v = subst (λ (z : List Record). FoundIs t z 4 a b f) e h in
        let w = subst (λ (z : ℕ). FoundIs t (records_with 4 (one t p at) (two t p at) (records_of (drop (behind t p.at) t))) 4 z b f) ea v in
        found-place t clean 4 (one t p at) (two t p at) (omega arith) (behind t p.at) (sits_behind t p at) f
        (subst (λ (z : ℕ). FoundIs t (records_with 4 (one t p at) (two t p at) (records_of (drop (behind t p.at) t))) 4 (one t p at) z f) eb w)
        ∙ ap first_place (places_behind_lem t p at)
