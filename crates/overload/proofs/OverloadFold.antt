-- The fold over a function list, one overload at a time.
use Prim.Native.Nat.{ℕ, suc, ◌+◌, ◌≤◌, ◌<◌}
use borrow.Author.Tests.{eq-eqb, ne_eqb, lt-ltb, le-ltb}
use lib.Dec.{eqb, ltb}
use lib.ListN.{length, length-append}
use mathlib.Core.Bool.{Bool, true, false, not, ◌&&◌, ◌||◌}
use mathlib.Core.List.{List, [], ◌∷◌, ◌++◌, map, append_assoc, append-nil}
use mathlib.Core.Option.{Option, none, some}
use mathlib.Core.Path.{◌≡◌, refl, sym, ap, ◌∙◌}
use native.Mathlib.Omega.{arith}
use Rattle.area.specs.Diagnostic.{Diag}
use Rattle.scoring.specs.Arg.{Arg}
use Rattle.scoring.specs.Arity.{any_own, own, usable, fits, fitting}
use Rattle.overload.specs.Best.{Best, nobody, best, better, chosen}
use Rattle.overload.specs.Reports.{all_unknown}
use Rattle.overload.specs.Inside.BestPlace.{BestPlace, nowhere, best_at, better_place, chosen_from}
use Rattle.overload.specs.Inside.Picked.{taken, picked}
use Rattle.overload.specs.Inside.Tally.{many_of, highest_at, highest_one, highest_more, higher_with, unknowns_at, all_unknown_at}
use Rattle.scoring.specs.Inside.Scored.{score_of}
use Rattle.scoring.specs.Score.{score}
use Rattle.scoring.specs.declared.score.Score.{Score}
use Rattle.std.specs.Prelude.{Option as Maybe, Some, None}
use Rattle.overload.specs.declared.calls.Highest.{Highest}
use Rattle.index.specs.declared.index.Place.{Place}
use Rattle.symbol.specs.Inside.FunctionFields.{function_at}
use Rattle.symbol.specs.Inside.LookupAnswer.{overload_at}
use Rattle.symbol.specs.Lookup.{symbols_of}
use Rattle.symbol.specs.Symbols.{Overload}
use Rattle.ty.proofs.Choice.{by_choice, choose_yes, choose_no}
use Rattle.ty.specs.Choose.{choose}
use Rattle.ty.specs.declared.Part.{Part}

-- ---- the highest score, by the tests of the code
module _ (found : Part) (h : Maybe Highest) (s : Maybe Score) where
  pub higher_none : s ≡ None → h ≡ higher_with found (score_of s) h
  unfolding higher_with
  higher_none e = sym (ap (λ (z : Maybe Score). higher_with found (score_of z) h) e)

  module _ (p : Score) (e : s ≡ Some p) where
    pub higher_first : h ≡ None → Some (highest_one found p.points) ≡ higher_with found (score_of s) h
    unfolding higher_with
    higher_first m = sym (λ i. higher_with found (score_of (e i)) (m i))

    module _ (b : Highest) (m : h ≡ Some b) where
      higher_both : higher_with found (score_of s) h ≡ choose (ltb b.score p.points) (Some (highest_one found p.points))
          (choose (eqb b.score p.points) (Some (highest_more b)) (Some b))
      unfolding higher_with
      higher_both = λ i. higher_with found (score_of (e i)) (m i)

      pub higher_more : b.score < p.points → Some (highest_one found p.points) ≡ higher_with found (score_of s) h
      higher_more g = sym (higher_both ∙ choose_yes _ _ _ (lt-ltb _ _ g))

      module _ (g : p.points ≤ b.score) where
        pub higher_same : b.score ≡ p.points → Some (highest_more b) ≡ higher_with found (score_of s) h
        higher_same d = sym (higher_both ∙ choose_no _ _ _ (le-ltb _ _ g) ∙ choose_yes _ _ _ (eq-eqb _ _ d))

        pub higher_less : (b.score ≡ p.points → ⊥) → h ≡ higher_with found (score_of s) h
        higher_less d = m ∙ sym (higher_both ∙ choose_no _ _ _ (le-ltb _ _ g) ∙ choose_no _ _ _ (ne_eqb _ _ d))

pub ruleset higher_by_test = (higher_none, higher_first, higher_more, higher_same, higher_less)

-- ---- one more overload at the end
module _ (t : List ℕ) where
  -- it is kept as the best of the places is
  pub higher_best : (b : BestPlace) (p : Place) (s : Option ℕ)
      → higher_with (function_at t p).result s (highest_at t b) ≡ highest_at t (better_place b p s)
  unfolding higher_with highest_at better_place choose
  higher_best b p none = refl
  higher_best nowhere p (some s) = refl
  higher_best (best_at h first n) p (some s) = go (ltb h s) (eqb h s)
    where
      r : Highest
      r = record { score = h; many = n; result = (function_at t first).result }

      go : (l e : Bool) → choose l (Some (highest_one (function_at t p).result s)) (choose e (Some (highest_more r)) (Some r))
          ≡ highest_at t (choose l (best_at s p 1) (choose e (best_at h first (suc n)) (best_at h first n)))
      go true e = refl
      go false true = let k : n + 1 ≡ suc n = omega arith in ap (λ (m : ℕ). highest_at t (best_at h first m)) k
      go false false = refl

  pub chosen_snoc : (b : BestPlace) (ps : List Place) (p : Place) (xs : List Arg)
      → chosen_from t b (ps ++ (p ∷ [])) xs ≡ better_place (chosen_from t b ps xs) p (score (symbols_of t) (overload_at t p) xs)
  unfolding chosen_from
  chosen_snoc b [] p xs = refl
  chosen_snoc b (q ∷ ps) p xs = chosen_snoc (better_place b q (score (symbols_of t) (overload_at t q) xs)) ps p xs

  pub unknown_append : (ps qs : List Place) (xs : List Arg) → all_unknown_at t (ps ++ qs) xs ≡ all_unknown_at t ps xs ++ all_unknown_at t qs xs
  unfolding all_unknown
  unknown_append [] qs xs = refl
  unknown_append (p ∷ ps) qs xs =
      ap (λ (ds : List Diag). unknowns_at t p xs ++ ds) (unknown_append ps qs xs)
      ∙ sym (append_assoc (unknowns_at t p xs) (all_unknown_at t ps xs) (all_unknown_at t qs xs))

  pub unknown_one_lem : (p : Place) (xs : List Arg) → all_unknown_at t (p ∷ []) xs ≡ unknowns_at t p xs
  unfolding all_unknown
  unknown_one_lem p xs = append-nil (unknowns_at t p xs)

  -- as many as there are places
  better_few : (b : BestPlace) (p : Place) (s : Option ℕ) → many_of (highest_at t (better_place b p s)) ≤ many_of (highest_at t b) + 1
  unfolding highest_at better_place
  better_few b p none = omega arith
  better_few nowhere p (some s) = omega arith
  better_few (best_at h first n) p (some s) =
      by_choice (λ (b : BestPlace). many_of (highest_at t b) ≤ n + 1) _ (λ _. omega arith) λ _.
      by_choice (λ (b : BestPlace). many_of (highest_at t b) ≤ n + 1) _ (λ _. omega arith) (λ _. omega arith)

  pub chosen_few : (b : BestPlace) (ps : List Place) (xs : List Arg) → many_of (highest_at t (chosen_from t b ps xs)) ≤ many_of (highest_at t b) + length ps
  unfolding chosen_from
  chosen_few b [] xs = omega arith
  chosen_few b (p ∷ ps) xs =
      omega (
        arith,
        chosen_few (better_place b p (score (symbols_of t) (overload_at t p) xs)) ps xs,
        better_few b p (score (symbols_of t) (overload_at t p) xs),
      )

  -- ---- the best place is that of the best overload
  abbrev pub best_of : BestPlace → Best
  best_of nowhere = nobody
  best_of (best_at s p n) = best s (overload_at t p) n

  better_best : (b : BestPlace) (p : Place) (s : Option ℕ) → better (best_of b) (overload_at t p) s ≡ best_of (better_place b p s)
  unfolding better better_place choose
  better_best b p none = refl
  better_best nowhere p (some s) = refl
  better_best (best_at h first n) p (some s) = go (ltb h s) (eqb h s)
    where
      go : (l e : Bool) → choose l (best s (overload_at t p) 1) (choose e (best h (overload_at t first) (suc n)) (best h (overload_at t first) n))
          ≡ best_of (choose l (best_at s p 1) (choose e (best_at h first (suc n)) (best_at h first n)))
      go true e = refl
      go false true = refl
      go false false = refl

  pub chosen_best : (b : BestPlace) (ps : List Place) (xs : List Arg)
      → chosen (symbols_of t) (best_of b) (map (overload_at t) ps) xs ≡ best_of (chosen_from t b ps xs)
  unfolding chosen chosen_from
  chosen_best b [] xs = refl
  chosen_best b (p ∷ ps) xs =
      let s = score (symbols_of t) (overload_at t p) xs in
      ap (λ (z : Best). chosen (symbols_of t) z (map (overload_at t) ps) xs) (better_best b p s) ∙ chosen_best (better_place b p s) ps xs

  -- ---- which overloads are taken
  module _ (k : Bool) (n : ℕ) where
    pub taken_not : (p : Place) → (k && (overload_at t p).builtin) ≡ true → taken t k n p ≡ []
    unfolding taken
    taken_not p e = choose_yes _ _ _ e

    pub taken-fits : (p : Place) → (k && (overload_at t p).builtin) ≡ false → fits n (overload_at t p) ≡ true → taken t k n p ≡ p ∷ []
    unfolding taken
    taken-fits p e f = choose_no _ _ _ e ∙ choose_yes _ _ _ f

    pub taken_other : (p : Place) → (k && (overload_at t p).builtin) ≡ false → fits n (overload_at t p) ≡ false → taken t k n p ≡ []
    unfolding taken
    taken_other p e f = choose_no _ _ _ e ∙ choose_no _ _ _ f

    pub picked_snoc : (ps : List Place) (p : Place) → picked t k n (ps ++ (p ∷ [])) ≡ picked t k n ps ++ taken t k n p
    unfolding picked
    picked_snoc [] p = append-nil (taken t k n p)
    picked_snoc (q ∷ ps) p =
        ap (λ (vs : List Place). taken t k n q ++ vs) (picked_snoc ps p) ∙ sym (append_assoc (taken t k n q) (picked t k n ps) (taken t k n p))

    taken_few : (p : Place) → length (taken t k n p) ≤ 1
    unfolding taken
    taken_few p =
        by_choice (λ (vs : List Place). length vs ≤ 1) _ (λ _. omega arith) λ _.
        by_choice (λ (vs : List Place). length vs ≤ 1) _ (λ _. omega arith) (λ _. omega arith)

    pub picked_few : (ps : List Place) → length (picked t k n ps) ≤ length ps
    unfolding picked
    picked_few [] = omega arith
    picked_few (p ∷ ps) = omega (arith, length-append (taken t k n p) (picked t k n ps), taken_few p, picked_few ps)

  -- the usable ones that fit
  picked_all : (n : ℕ) (ps : List Place) → map (overload_at t) (picked t false n ps) ≡ fitting n (map (overload_at t) ps)
  unfolding picked taken fitting choose
  picked_all n [] = refl
  picked_all n (p ∷ ps) = go (fits n (overload_at t p)) (picked_all n ps)
    where
      go : (b : Bool) → map (overload_at t) (picked t false n ps) ≡ fitting n (map (overload_at t) ps)
          → map (overload_at t) (choose b (p ∷ []) [] ++ picked t false n ps) ≡ choose b (overload_at t p ∷ fitting n (map (overload_at t) ps)) (fitting n (map (overload_at t) ps))
      go true e = ap (λ (vs : List Overload). overload_at t p ∷ vs) e
      go false e = e

  picked-own : (n : ℕ) (ps : List Place) → map (overload_at t) (picked t true n ps) ≡ fitting n (own (map (overload_at t) ps))
  unfolding picked taken fitting own choose
  picked-own n [] = refl
  picked-own n (p ∷ ps) = go (overload_at t p).builtin (picked-own n ps)
    where
      fit : (c : Bool) → map (overload_at t) (picked t true n ps) ≡ fitting n (own (map (overload_at t) ps))
          → map (overload_at t) (choose c (p ∷ []) [] ++ picked t true n ps)
          ≡ choose c (overload_at t p ∷ fitting n (own (map (overload_at t) ps))) (fitting n (own (map (overload_at t) ps)))
      fit true e = ap (λ (vs : List Overload). overload_at t p ∷ vs) e
      fit false e = e

      go : (b : Bool) → map (overload_at t) (picked t true n ps) ≡ fitting n (own (map (overload_at t) ps))
          → map (overload_at t) (choose b [] (choose (fits n (overload_at t p)) (p ∷ []) []) ++ picked t true n ps)
          ≡ fitting n (choose b (own (map (overload_at t) ps)) (overload_at t p ∷ own (map (overload_at t) ps)))
      go true e = e
      go false e = fit (fits n (overload_at t p)) e

  pub picked-usable : (n : ℕ) (ps : List Place) (os : List Overload) → map (overload_at t) ps ≡ os → map (overload_at t) (picked t (any_own os) n ps) ≡ fitting n (usable os)
  unfolding usable
  picked-usable n ps os e = go (any_own os)
    where
      go : (b : Bool) → map (overload_at t) (picked t b n ps) ≡ fitting n (choose b (own os) os)
      go true = picked-own n ps ∙ ap (λ (z : List Overload). fitting n (own z)) e ∙ ap (λ (vs : List Overload). fitting n vs) (sym (choose_yes true _ _ refl))
      go false = picked_all n ps ∙ ap (λ (z : List Overload). fitting n z) e ∙ ap (λ (vs : List Overload). fitting n vs) (sym (choose_no false _ _ refl))

-- no more than there are
own_few : (os : List Overload) → length (own os) ≤ length os
unfolding own
own_few [] = omega arith
own_few (o ∷ os) = by_choice (λ (vs : List Overload). length vs ≤ suc (length os)) _ (λ _. omega (arith, own_few os)) (λ _. omega (arith, own_few os))

fitting_few : (n : ℕ) (os : List Overload) → length (fitting n os) ≤ length os
unfolding fitting
fitting_few n [] = omega arith
fitting_few n (o ∷ os) =
    by_choice (λ (vs : List Overload). length vs ≤ suc (length os)) _ (λ _. omega (arith, fitting_few n os)) (λ _. omega (arith, fitting_few n os))

pub usable_few : (n : ℕ) (os : List Overload) → length (fitting n (usable os)) ≤ length os
unfolding usable
usable_few n os =
    by_choice (λ (vs : List Overload). length (fitting n vs) ≤ length os) _ (λ _. omega (arith, fitting_few n (own os), own_few os)) (λ _. fitting_few n os)

-- ---- one that is not a builtin
pub own-here : (o : Overload) (os : List Overload) → o.builtin ≡ false → true ≡ any_own (o ∷ os)
unfolding any_own
own-here o os e = sym (ap (λ (b : Bool). not b || any_own os) e)

pub own_later : (o : Overload) (os : List Overload) → o.builtin ≡ true → any_own os ≡ any_own (o ∷ os)
unfolding any_own
own_later o os e = sym (ap (λ (b : Bool). not b || any_own os) e)
