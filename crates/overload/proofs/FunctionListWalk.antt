-- The walk over a function list in the table.
use Prim.Native.Nat.{ℕ, suc, ◌+◌, ◌≤◌, ◌<◌}
use lib.ListN.{length, length-append, length-map}
use mathlib.Core.Bool.{Bool, true, false}
use mathlib.Core.List.{List, [], ◌∷◌, ◌++◌, map, append_assoc, append-nil}
use mathlib.Core.Path.{◌≡◌, refl, sym, ap, ◌∙◌, subst}
use native.Mathlib.Omega.{arith}
use Rattle.area.proofs.Reporting.{reported_none, reported_both}
use Rattle.area.specs.Diagnostic.{Diag, count_limit}
use Rattle.area.specs.Reported.{reported}
use Rattle.area.specs.declared.reports.Reports.{Reports}
use Rattle.overload.proofs.OverloadFold.{picked_snoc, picked_few, own-here, own_later, unknown_append}
use Rattle.overload.proofs.Tallies.{tally_start, tally_more_lem, tally_room}
use Rattle.scoring.specs.Arg.{Arg}
use Rattle.scoring.specs.Arity.{any_own}
use Rattle.overload.specs.Reports.{all_unknown}
use Rattle.overload.specs.Inside.Picked.{taken, picked}
use Rattle.overload.specs.Inside.Tally.{all_unknown_at, tally_more, tally_of, most_diagnostics, Room}
use Rattle.overload.specs.declared.calls.Tally.{Tally}
use Rattle.symbol.proofs.AcceptedTable.{functions_few as list-few}
use Rattle.symbol.proofs.FunctionCursors.{first-here, along_first, along_next, cursor_here, cursor_stands, cursor_next}
use Rattle.symbol.proofs.FunctionLists.{overloads_placed, first-placed, next_placed}
use Rattle.index.specs.Inside.Found.{FunctionAt}
use Rattle.record.specs.TableRefused.{table_fault}
use Rattle.symbol.specs.Inside.FunctionCursor.{functions_first, functions_next, found_here, AtFunction, Along}
use Rattle.symbol.specs.declared.lookups.Functions.{Functions}
use Rattle.symbol.specs.Inside.LookupAnswer.{overload_at}
use Rattle.symbol.specs.Inside.Places.{first_place, function_places, places_behind, FirstPlaceIs, PlaceFound}
use Rattle.symbol.specs.Lookup.{symbols_of}
use Rattle.symbol.specs.Symbols.{Overload}
use Rattle.std.specs.Prelude.{None, Some}
use Rattle.index.specs.Inside.Found.{Found}
use Rattle.index.specs.declared.index.Place.{Place}
use Rattle.ty.proofs.Choice.{by_choice}

-- in an accepted table
places_few : (t : List ℕ) (owner id : ℕ) → table_fault t ≡ 0 → length (function_places t owner id) ≤ 60000
places_few t owner id clean =
    let e : length (map (overload_at t) (function_places t owner id)) ≡ length ((symbols_of t).functions_of owner id)
    = ap (λ (os : List Overload). length os) (overloads_placed t clean owner id) in
    omega (arith, length-map (function_places t owner id) (overload_at t), list-few t clean owner id)

-- ---- how many functions are left
unfoldable pub left_of : List ℕ → Found → ℕ
left_of t None = 0
left_of t (Some p) = suc (length (places_behind t p))

module _ (t : List ℕ) where
  left_falls : (p : Place) (g : Found) → PlaceFound t (places_behind t p) g → left_of t g < left_of t (Some p)
  unfolding left_of
  left_falls p None w = omega arith
  left_falls p (Some q) w =
      let e : length (places_behind t p) ≡ suc (length (places_behind t q)) = ap (λ (ps : List Place). length ps) w.first in
      omega arith

-- ---- a cursor at the first of the places that are left
pub record CursorAt (t : List ℕ) (left : List Place) (c : Functions) : Type 0 where
  pub rest : PlaceFound t left (found_here c)
  pub along : Along t c

module _ (t : List ℕ) (clean : table_fault t ≡ 0) where
  cursor_first : (owner id : ℕ) (c : Functions) → c ≡ functions_first t owner id → CursorAt t (function_places t owner id) c
  cursor_first owner id c e =
      record { rest = first-placed t clean owner id (found_here c) (first-here t owner id c e); along = along_first t clean owner id c e }

  module _ (left : List Place) (c : Functions) (w : CursorAt t left c) (r : Found) (e : r ≡ found_here c) where
    cursor_end : r ≡ None → left ≡ []
    cursor_end f = subst (λ (z : Found). PlaceFound t left z) (sym e ∙ f) w.rest

    module _ (p : Place) (f : r ≡ Some p) where
      cursor_is : FirstPlaceIs t left p
      cursor_is = subst (λ (z : Found). PlaceFound t left z) (cursor_here t c r p e f) w.rest

      cursor_at_function : AtFunction t c
      cursor_at_function = cursor_stands t c r p e f w.along

      module _ (n : Functions) (q : n ≡ functions_next t c) where
        cursor_on : CursorAt t (places_behind t p) n
        cursor_on =
            record {
              rest = next_placed t clean p cursor_is.here (found_here n) (cursor_next t c r p e f n q);
              along = along_next t clean c cursor_at_function n q;
            }

        cursor_less : left_of t (found_here n) < left_of t (found_here c)
        cursor_less = subst (λ (z : Found). left_of t (found_here n) < left_of t z) (sym (cursor_here t c r p e f)) (left_falls t p (found_here n) cursor_on.rest)

-- ---- functions stand at some places
unfoldable pub AllStand : List ℕ → List Place → Type 0
AllStand t [] = Unit {0}
AllStand t (p ∷ ps) = FunctionAt t p × AllStand t ps

module _ (t : List ℕ) where
  pub first_stands : (ps : List Place) (p : Place) → AllStand t ps → first_place ps ≡ Some p → FunctionAt t p
  unfolding AllStand first_place
  first_stands [] p w e = absurd (never e)
    where
      never : None ≡ Some p → ⊥
      never q = let z : ◌≡◌ {A = ℕ} 0 1 = cc in omega arith
  first_stands (q ∷ ps) p w e = subst (λ (f : Found). PlaceAt f) e w.0
    where
      PlaceAt : Found → Type 0
      PlaceAt None = Unit {0}
      PlaceAt (Some r) = FunctionAt t r

  append_stand : (ps qs : List Place) → AllStand t ps → AllStand t qs → AllStand t (ps ++ qs)
  unfolding AllStand
  append_stand [] qs v w = w
  append_stand (p ∷ ps) qs v w = (v.0, append_stand ps qs v.1 w)

-- ---- is one not a builtin?
pub record OwnFrom (t : List ℕ) (owner id : ℕ) (c : Functions) : Type 0 where
  pub left : List Place
  pub cursor : CursorAt t left c
  pub same : any_own (map (overload_at t) left) ≡ any_own ((symbols_of t).functions_of owner id)

module _ (t : List ℕ) (clean : table_fault t ≡ 0) (owner id : ℕ) where
  pub own_start : (c : Functions) → c ≡ functions_first t owner id → OwnFrom t owner id c
  own_start c e =
      record {
        left = function_places t owner id;
        cursor = cursor_first t clean owner id c e;
        same = ap (λ (os : List Overload). any_own os) (overloads_placed t clean owner id);
      }

  module _ (c : Functions) (w : OwnFrom t owner id c) (r : Found) (e : r ≡ found_here c) where
    pub own_none : r ≡ None → false ≡ any_own ((symbols_of t).functions_of owner id)
    unfolding any_own
    own_none f = sym (ap (λ (ps : List Place). any_own (map (overload_at t) ps)) (cursor_end t clean w.left c w.cursor r e f)) ∙ w.same

    module _ (p : Place) (f : r ≡ Some p) where
      own_split : any_own (overload_at t p ∷ map (overload_at t) (places_behind t p)) ≡ any_own ((symbols_of t).functions_of owner id)
      own_split = sym (ap (λ (ps : List Place). any_own (map (overload_at t) ps)) (cursor_is t clean w.left c w.cursor r e p f).first) ∙ w.same

      pub own_stands : AtFunction t c
      own_stands = cursor_at_function t clean w.left c w.cursor r e p f

      module _ (b : Bool) (read : b ≡ (overload_at t p).builtin) where
        pub own_found : b ≡ false → true ≡ any_own ((symbols_of t).functions_of owner id)
        own_found h = own-here (overload_at t p) (map (overload_at t) (places_behind t p)) (sym read ∙ h) ∙ own_split

        pub own_on : b ≡ true → (n : Functions) → n ≡ functions_next t c → OwnFrom t owner id n
        own_on h n q =
            record {
              left = places_behind t p;
              cursor = cursor_on t clean w.left c w.cursor r e p f n q;
              same = own_later (overload_at t p) (map (overload_at t) (places_behind t p)) (sym read ∙ h) ∙ own_split;
            }

      pub own_less : (n : Functions) → n ≡ functions_next t c → left_of t (found_here n) < left_of t (found_here c)
      own_less n q = cursor_less t clean w.left c w.cursor r e p f n q

-- ---- the walk
-- of the list, some are done and the others are left; n arguments
pub record Walking (t : List ℕ) (owner id : ℕ) (k : Bool) (n : ℕ) (xs : List Arg) (b₀ b : Reports) (c : Functions) (w : Tally) : Type 0 where
  pub done : List Place
  pub left : List Place
  pub all : done ++ left ≡ function_places t owner id
  pub cursor : CursorAt t left c
  pub tally : w ≡ tally_of t xs (picked t k n done)
  pub told : b ≡ reported b₀ (all_unknown_at t (picked t k n done) xs)

module _ (t : List ℕ) (clean : table_fault t ≡ 0) (owner id : ℕ) (k : Bool) (n : ℕ) (xs : List Arg) (b₀ : Reports) where
  pub walk_start : (c : Functions) → c ≡ functions_first t owner id → Walking t owner id k n xs b₀ b₀ c (record { first = None; fitting = 0; highest = None })
  unfolding picked all_unknown
  walk_start c e =
      record {
        done = [];
        left = function_places t owner id;
        all = refl;
        cursor = cursor_first t clean owner id c e;
        tally = tally_start t xs;
        told = sym (reported_none b₀);
      }

  module _ (b : Reports) (c : Functions) (w : Tally) (is : Walking t owner id k n xs b₀ b c w) where
    pub walk_room : length xs ≤ 16 → b₀.count + most_diagnostics ≤ count_limit → Room w b
    walk_room short room =
        let e : length (is.done ++ is.left) ≡ length (function_places t owner id) = ap (λ (ps : List Place). length ps) is.all in
        let l = length-append is.done is.left in
        let m = picked_few t k n is.done in
        let few = places_few t owner id clean in
        tally_room t xs b₀ w (picked t k n is.done) is.tally is.told (omega arith) short room

    module _ (r : Found) (e : r ≡ found_here c) where
      -- at the end
      module _ (f : r ≡ None) where
        all_done : is.done ≡ function_places t owner id
        all_done = sym (append-nil is.done) ∙ ap (λ (ps : List Place). is.done ++ ps) (sym (cursor_end t clean is.left c is.cursor r e f)) ∙ is.all

        pub walk_ended : w ≡ tally_of t xs (picked t k n (function_places t owner id))
        walk_ended = is.tally ∙ ap (λ (ps : List Place). tally_of t xs (picked t k n ps)) all_done

        pub walk_told : b ≡ reported b₀ (all_unknown_at t (picked t k n (function_places t owner id)) xs)
        walk_told = is.told ∙ ap (λ (ps : List Place). reported b₀ (all_unknown_at t (picked t k n ps) xs)) all_done

      module _ (p : Place) (f : r ≡ Some p) where
        walk_is : FirstPlaceIs t is.left p
        walk_is = cursor_is t clean is.left c is.cursor r e p f

        pub walk_place : FunctionAt t p
        walk_place = walk_is.here

        pub walk_stands : AtFunction t c
        walk_stands = cursor_at_function t clean is.left c is.cursor r e p f

        module _ (m : Functions) (q : m ≡ functions_next t c) where
          pub walk_less : left_of t (found_here m) < left_of t (found_here c)
          walk_less = cursor_less t clean is.left c is.cursor r e p f m q

          pub walk_on : (b' : Reports) (w' : Tally) → w' ≡ tally_more t xs w (taken t k n p) → b' ≡ reported b (all_unknown_at t (taken t k n p) xs)
              → Walking t owner id k n xs b₀ b' m w'
          walk_on b' w' tally told =
              let ps = picked t k n is.done in
              let us = taken t k n p in
              let more : ps ++ us ≡ picked t k n (is.done ++ (p ∷ [])) = sym (picked_snoc t k n is.done p) in
              record {
                done = is.done ++ (p ∷ []);
                left = places_behind t p;
                all = append_assoc is.done (p ∷ []) (places_behind t p) ∙ ap (λ (qs : List Place). is.done ++ qs) (sym walk_is.first) ∙ is.all;
                cursor = cursor_on t clean is.left c is.cursor r e p f m q;
                tally = tally ∙ ap (λ (z : Tally). tally_more t xs z us) is.tally ∙ tally_more_lem t xs ps us ∙ ap (λ (qs : List Place). tally_of t xs qs) more;
                told = reported_both b₀ (all_unknown_at t ps xs) (all_unknown_at t us xs) is.told told
                    ∙ ap (λ (ds : List Diag). reported b₀ ds) (sym (unknown_append t ps us xs))
                    ∙ ap (λ (qs : List Place). reported b₀ (all_unknown_at t qs xs)) more;
              }

-- ---- functions stand at the places of a list
module _ (t : List ℕ) (clean : table_fault t ≡ 0) where
  found_stand : (ps : List Place) → PlaceFound t ps (first_place ps) → AllStand t ps
  unfolding AllStand first_place
  found_stand [] w = tt
  found_stand (p ∷ ps) w =
      let e : ps ≡ places_behind t p = tail_same w.first in
      (w.here, found_stand ps (subst (λ (z : List Place). PlaceFound t z (first_place z)) (sym e) (next_placed t clean p w.here _ refl)))
    where
      tail_same : p ∷ ps ≡ p ∷ places_behind t p → ps ≡ places_behind t p
      tail_same q = cc

  picked_stand : (k : Bool) (n : ℕ) (ps : List Place) → AllStand t ps → AllStand t (picked t k n ps)
  unfolding picked taken AllStand
  picked_stand k n [] w = tt
  picked_stand k n (p ∷ ps) w = append_stand t (taken t k n p) (picked t k n ps) (taken_stand p w.0) (picked_stand k n ps w.1)
    where
      taken_stand : (q : Place) → FunctionAt t q → AllStand t (taken t k n q)
      taken_stand q v =
          by_choice (λ (qs : List Place). AllStand t qs) _ (λ _. tt) λ _.
          by_choice (λ (qs : List Place). AllStand t qs) _ (λ _. (v, tt)) (λ _. tt)

  pub places_stand : (k : Bool) (n owner id : ℕ) → AllStand t (picked t k n (function_places t owner id))
  places_stand k n owner id =
      picked_stand k n (function_places t owner id) (found_stand (function_places t owner id) (first-placed t clean owner id _ refl))

  -- the first that fits
  pub tally_place : (k : Bool) (n owner id : ℕ) (xs : List Arg) (w : Tally) (p : Place)
      → w ≡ tally_of t xs (picked t k n (function_places t owner id)) → w.first ≡ Some p → FunctionAt t p
  tally_place k n owner id xs w p e g =
      first_stands t (picked t k n (function_places t owner id)) p (places_stand k n owner id) (sym (ap (λ (z : Tally). z.first) e) ∙ g)
