-- What the walk over a function list keeps, one function at a time.
use Prim.Native.Nat.{ℕ, ◌+◌, ◌≤◌}
use lib.ListN.{length, length-append, length-map}
use mathlib.Core.List.{List, [], ◌∷◌, ◌++◌, map, append_assoc, append-nil}
use mathlib.Core.Option.{Option}
use mathlib.Core.Path.{◌≡◌, refl, sym, ap, ◌∙◌}
use Rattle.std.specs.Option.{option_or}
use Rattle.std.specs.Prelude.{Option as Maybe, Some, None}
use native.Mathlib.Omega.{arith}
use Rattle.area.proofs.Reporting.{reported_none, reported_more}
use Rattle.area.specs.Diagnostic.{count_limit}
use Rattle.area.specs.Reported.{reported}
use Rattle.area.specs.declared.reports.Reports.{Reports}
use Rattle.scoring.specs.Arity.{fits}
use Rattle.symbol.proofs.FunctionsRead.{read_is}
use Rattle.index.specs.Inside.Found.{FunctionAt}
use mathlib.Core.Bool.{Bool, true, false, ◌&&◌}
use Rattle.overload.specs.Inside.Picked.{taken}
use Rattle.overload.proofs.OverloadFold.{taken_not, taken-fits, taken_other, higher_best, chosen_snoc, chosen_few, unknown_one_lem}
use Rattle.overload.proofs.ArgumentReports.{all_unknown_few, reported_as}
use Rattle.scoring.specs.Arg.{Arg}
use Rattle.overload.specs.Reports.{all_unknown}
use Rattle.overload.specs.Inside.BestPlace.{BestPlace, nowhere, chosen_from, chosen_at}
use Rattle.scoring.specs.Score.{score}
use Rattle.overload.specs.Inside.Tally.{many_of, highest_at, higher_with, unknowns_at, all_unknown_at, tally_with, tally_more, tally_of, most_diagnostics, Room}
use Rattle.overload.specs.declared.calls.Highest.{Highest}
use Rattle.overload.specs.declared.calls.Tally.{Tally}
use Rattle.index.specs.Inside.Found.{Found}
use Rattle.index.specs.declared.index.Place.{Place}
use Rattle.symbol.specs.Inside.FunctionFields.{function_at}
use Rattle.symbol.specs.Inside.LookupAnswer.{overload_at, overload_in}
use Rattle.symbol.specs.Inside.Places.{first_place}
use Rattle.symbol.specs.Lookup.{symbols_of}
use Rattle.symbol.specs.Symbols.{Overload}
use Rattle.symbol.specs.declared.functions.Function.{Function}

-- ---- one more function of the list, which was read as f: it is taken or not, by the tests of the code
module _ (t : List ℕ) (k : Bool) (n : ℕ) (p : Place) (at : FunctionAt t p) (f : Function) (e : f ≡ function_at t p) where
  same : overload_at t p ≡ overload_in t f
  same = sym (read_is t p at f e).same

  pub turn_builtin : (k && f.builtin) ≡ true → taken t k n p ≡ []
  turn_builtin h = taken_not t k n p (ap (λ (o : Overload). k && o.builtin) same ∙ h)

  pub turn_other : (k && f.builtin) ≡ false → fits n (overload_in t f) ≡ false → taken t k n p ≡ []
  turn_other h g = taken_other t k n p (ap (λ (o : Overload). k && o.builtin) same ∙ h) (ap (λ (o : Overload). fits n o) same ∙ g)

  pub turn_fits : (k && f.builtin) ≡ false → fits n (overload_in t f) ≡ true → taken t k n p ≡ p ∷ []
  turn_fits h g = taken-fits t k n p (ap (λ (o : Overload). k && o.builtin) same ∙ h) (ap (λ (o : Overload). fits n o) same ∙ g)

module _ (t : List ℕ) (xs : List Arg) where
  -- ---- one overload that fits, at the place p, which was read as f
  pub tally_taken : (w : Tally) (p : Place) (f : Function) → f ≡ function_at t p → overload_in t f ≡ overload_at t p → (q : Found) (s : Option ℕ) (h : Maybe Highest)
      → q ≡ option_or w.first (Some p) → s ≡ score (symbols_of t) (overload_in t f) xs → h ≡ higher_with f.result s w.highest
      → ◌≡◌ {A = Tally} (record { first = q; fitting = w.fitting + 1; highest = h }) (tally_with t xs w p)
  tally_taken w p f e same q s h first scored higher =
      let high : h ≡ higher_with (function_at t p).result (score (symbols_of t) (overload_at t p) xs) w.highest
      = higher ∙ ap (λ (z : Option ℕ). higher_with f.result z w.highest) (scored ∙ ap (λ (o : Overload). score (symbols_of t) o xs) same)
      ∙ ap (λ (g : Function). higher_with g.result (score (symbols_of t) (overload_at t p) xs) w.highest) e in
      λ i. record { first = first i; fitting = w.fitting + 1; highest = high i }

  -- none or one of them, at the places us
  module _ (w : Tally) (us : List Place) (b : Reports) where
    pub tally_none : us ≡ [] → w ≡ tally_more t xs w us
    unfolding tally_more
    tally_none e = sym (ap (λ (z : List Place). tally_more t xs w z) e)

    pub told_none : us ≡ [] → b ≡ reported b (all_unknown_at t us xs)
    unfolding all_unknown
    told_none e = sym (reported_none b) ∙ ap (λ (z : List Place). reported b (all_unknown_at t z xs)) (sym e)

    module _ (p : Place) (e : us ≡ p ∷ []) where
      pub tally_one : (r : Tally) → r ≡ tally_with t xs w p → r ≡ tally_more t xs w us
      unfolding tally_more
      tally_one r f = f ∙ sym (ap (λ (z : List Place). tally_more t xs w z) e)

      pub told_one : (b' : Reports) → b' ≡ reported b (unknowns_at t p xs) → b' ≡ reported b (all_unknown_at t us xs)
      told_one b' g = reported_as b (sym (ap (λ (z : List Place). all_unknown_at t z xs) e ∙ unknown_one_lem t p xs)) g

  -- ---- the tally of some overloads
  pub tally_start : record { first = None; fitting = 0; highest = None } ≡ tally_of t xs []
  unfolding first_place highest_at chosen_from
  tally_start = refl

  first_snoc : (ps : List Place) (p : Place) → option_or (first_place ps) (Some p) ≡ first_place (ps ++ (p ∷ []))
  unfolding first_place
  first_snoc [] p = refl
  first_snoc (q ∷ ps) p = refl

  tally_snoc : (ps : List Place) (p : Place) → tally_with t xs (tally_of t xs ps) p ≡ tally_of t xs (ps ++ (p ∷ []))
  tally_snoc ps p =
      let fit : length ps + 1 ≡ length (ps ++ (p ∷ [])) = omega (arith, length-append ps (p ∷ [])) in
      let high = higher_best t (chosen_at t ps xs) p (score (symbols_of t) (overload_at t p) xs) ∙ ap (λ (b : BestPlace). highest_at t b) (sym (chosen_snoc t nowhere ps p xs)) in
      λ i. record { first = first_snoc ps p i; fitting = fit i; highest = high i }

  pub tally_more_lem : (ps us : List Place) → tally_more t xs (tally_of t xs ps) us ≡ tally_of t xs (ps ++ us)
  unfolding tally_more
  tally_more_lem ps [] = ap (λ (z : List Place). tally_of t xs z) (sym (append-nil ps))
  tally_more_lem ps (u ∷ us) =
      ap (λ (w : Tally). tally_more t xs w us) (tally_snoc ps u) ∙ tally_more_lem (ps ++ (u ∷ [])) us
      ∙ ap (λ (z : List Place). tally_of t xs z) (append_assoc ps (u ∷ []) us)

  -- no count wraps
  pub tally_room : (b₀ : Reports) {b : Reports} (w : Tally) (ps : List Place) → w ≡ tally_of t xs ps → b ≡ reported b₀ (all_unknown_at t ps xs) → length ps ≤ 60000 → length xs ≤ 16
      → b₀.count + most_diagnostics ≤ count_limit → Room w b
  unfolding highest_at
  tally_room b₀ w ps e f few short room =
      let fit : w.fitting ≡ length ps = ap (λ (z : Tally). z.fitting) e in
      let many : many_of w.highest ≡ many_of (highest_at t (chosen_at t ps xs)) = ap (λ (z : Tally). many_of z.highest) e in
      record {
        fitting = omega arith;
        many = omega (arith, chosen_few t nowhere ps xs);
        count = omega (arith, reported_more b₀ (all_unknown_at t ps xs) f, all_unknown_few (map (overload_at t) ps) xs short, length-map ps (overload_at t));
      }

pub ruleset turned = (tally_none, told_none, tally_one, told_one, turn_builtin, turn_other, turn_fits)
