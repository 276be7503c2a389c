-- What is answered once the list is walked through.
use Prim.Native.Nat.{ℕ, suc}
use borrow.Author.Tests.{eq-eqb, ne_eqb}
use lib.Dec.{eqb}
use lib.ListN.{length, take, drop}
use mathlib.Core.Bool.{Bool}
use mathlib.Core.List.{List, [], ◌∷◌, ◌++◌, map}
use mathlib.Core.Option.{Option, none, some}
use mathlib.Core.Path.{◌≡◌, refl, sym, ap, ◌∙◌, subst}
use native.Mathlib.Omega.{arith}
use Rattle.std.specs.Prelude.{Option as Maybe, Some, None}
use Rattle.area.proofs.Reporting.{reported_both}
use Rattle.area.specs.Diagnostic.{Diag}
use Rattle.area.specs.Reported.{reported}
use Rattle.area.specs.declared.reports.Reports.{Reports}
use Rattle.area.specs.Source.{type_from}
use Rattle.area.specs.Inside.Storable.{ReadsChildren}
use Rattle.area.specs.declared.Source.{Source}
use Rattle.area.specs.declared.Source.TheVariants.{Part}
use Rattle.overload.proofs.FunctionListWalk.{AllStand, places_stand}
use Rattle.overload.proofs.OverloadFold.{best_of, chosen_best, picked-usable}
use Rattle.scoring.specs.Arg.{Arg, Verdict}
use Rattle.scoring.specs.Arity.{any_own}
use Rattle.scoring.specs.Score.{score}
use Rattle.overload.specs.Best.{Best}
use Rattle.overload.specs.Reports.{all_unknown, mismatches}
use Rattle.scoring.specs.WithParams.{with_params}
use Rattle.overload.specs.Inside.BestPlace.{BestPlace, nowhere, best_at, better_place, chosen_from, chosen_at, result_at, error_source, source_of}
use Rattle.overload.specs.Inside.CallSource.{best_source, best_diags, settled_source, settled_diags, called_places, call_source}
use Rattle.overload.specs.Inside.Picked.{picked}
use Rattle.overload.specs.Inside.Tally.{highest_at, all_unknown_at, tally_of}
use Rattle.overload.specs.Resolve.{none_fits, tie_report, settle, resolve_in, resolve}
use Rattle.overload.specs.declared.calls.Highest.{Highest}
use Rattle.overload.specs.declared.calls.Tally.{Tally}
use Rattle.operators.specs.Diag.{diag}
use Rattle.area.specs.DiagnosticKind.{no_match_diag}
use Rattle.index.specs.Inside.Found.{FunctionAt}
use Rattle.record.specs.TableRefused.{table_fault}
use Rattle.symbol.proofs.FunctionLists.{overloads_placed}
use Rattle.symbol.proofs.FunctionsRead.{function_at-read}
use Rattle.symbol.specs.Inside.FunctionFields.{function_at}
use Rattle.symbol.specs.Inside.LookupAnswer.{overload_at}
use Rattle.symbol.specs.Inside.Places.{first_place, function_places}
use Rattle.symbol.specs.Lookup.{symbols_of}
use Rattle.symbol.specs.Symbols.{Overload, Symbols}
use Rattle.symbol.specs.declared.functions.Function.{Function}
use Rattle.index.specs.declared.index.Place.{Place}
use Rattle.ty.proofs.Choice.{by_choice, choose_yes, choose_no}
use Rattle.ty.specs.Bytes.{Ty}
use Rattle.ty.specs.Choose.{choose}

-- A call's source: its type comes from the table or is a kind without body.
pub record CalledIs (t : List ℕ) (v : Verdict) (r : Source) : Type 0 where
  pub ty : (x y : Ty) → type_from t x y r ≡ v.ty
  pub reads : (ts : List Ty) (node first second : ℕ) → ReadsChildren ts node first second r

-- a result's source, of a function that was read
pub read_source : (t : List ℕ) (p : Place) (f : Function) → f ≡ function_at t p → Part f.result ≡ result_at t p
read_source t p f e = ap (λ (g : Function). Part g.result) e

-- ---- a tally is settled
module _ (t : List ℕ) (p : Place) (node : ℕ) (xs : List Arg) (w : Tally) where
  -- something matches
  module _ (h : Highest) (m : w.highest ≡ Some h) where
    pub source_best : Part h.result ≡ settled_source t p w
    source_best = sym (ap (λ (z : Maybe Highest). best_source z (choose (eqb w.fitting 1) (result_at t p) error_source)) m)

    pub diags_best : tie_report node h.many ≡ settled_diags t p node xs w
    diags_best =
        sym
        (ap
        (λ (z : Maybe Highest). best_diags node z (choose (eqb w.fitting 1) (mismatches (symbols_of t) 1 (with_params (overload_at t p).params xs)) (diag no_match_diag node 0 ∷ []))) m)

  module _ (m : w.highest ≡ None) where
    source_else : settled_source t p w ≡ choose (eqb w.fitting 1) (result_at t p) error_source
    source_else = ap (λ (z : Maybe Highest). best_source z (choose (eqb w.fitting 1) (result_at t p) error_source)) m

    diags_else : settled_diags t p node xs w ≡ choose (eqb w.fitting 1) (mismatches (symbols_of t) 1 (with_params (overload_at t p).params xs)) (diag no_match_diag node 0 ∷ [])
    diags_else =
        ap
        (λ (z : Maybe Highest). best_diags node z (choose (eqb w.fitting 1) (mismatches (symbols_of t) 1 (with_params (overload_at t p).params xs)) (diag no_match_diag node 0 ∷ []))) m

    -- nothing matches, and one fits
    module _ (one : w.fitting ≡ 1) where
      pub source_one : result_at t p ≡ settled_source t p w
      source_one = sym (source_else ∙ choose_yes _ _ _ (eq-eqb w.fitting 1 one))

      pub diags_one : mismatches (symbols_of t) 1 (with_params (overload_at t p).params xs) ≡ settled_diags t p node xs w
      diags_one = sym (diags_else ∙ choose_yes _ _ _ (eq-eqb w.fitting 1 one))

    -- nothing matches, and several fit
    module _ (several : w.fitting ≡ 1 → ⊥) where
      pub source_none : error_source ≡ settled_source t p w
      source_none = sym (source_else ∙ choose_no _ _ _ (ne_eqb w.fitting 1 several))

      pub diags_none : diag no_match_diag node 0 ∷ [] ≡ settled_diags t p node xs w
      diags_none = sym (diags_else ∙ choose_no _ _ _ (ne_eqb w.fitting 1 several))

pub ruleset settled = (source_best, diags_best, source_one, diags_one, source_none, diags_none, read_source)

-- ---- what the definition says of the overloads at some places
-- functions stand where the best one does
BestStands : List ℕ → BestPlace → Type 0
BestStands t nowhere = Unit {0}
BestStands t (best_at s p n) = FunctionAt t p

module _ (t : List ℕ) where
  better_stands : (b : BestPlace) (p : Place) (s : Option ℕ) → BestStands t b → FunctionAt t p → BestStands t (better_place b p s)
  unfolding BestStands better_place
  better_stands b p none v w = v
  better_stands nowhere p (some s) v w = w
  better_stands (best_at h first n) p (some s) v w =
      by_choice (λ (b : BestPlace). BestStands t b) _ (λ _. w) λ _. by_choice (λ (b : BestPlace). BestStands t b) _ (λ _. v) (λ _. v)

  chosen_stands : (b : BestPlace) (ps : List Place) (xs : List Arg) → BestStands t b → AllStand t ps → BestStands t (chosen_from t b ps xs)
  unfolding chosen_from AllStand
  chosen_stands b [] xs v w = v
  chosen_stands b (p ∷ ps) xs v w =
      let s = score (symbols_of t) (overload_at t p) xs in chosen_stands (better_place b p s) ps xs (better_stands b p s v w.0) w.1

  -- the bytes of a result
  result_is : (p : Place) → FunctionAt t p → take (function_at t p).result.len (drop (function_at t p).result.start t) ≡ (overload_at t p).result
  result_is p h = ap (λ (o : Overload). o.result) (function_at-read t p h).same

module _ (t : List ℕ) (node : ℕ) (xs : List Arg) (own : Bool) where
  abbrev S : Symbols
  S = symbols_of t

  abbrev o : Place → Overload
  o = overload_at t

  -- ---- one of them fits
  module _ (p : Place) (ps : List Place) where
    settled_source_lem : settled_source t p (tally_of t xs (p ∷ ps)) ≡ source_of t (p ∷ ps) (chosen_at t (p ∷ ps) xs)
    unfolding source_of highest_at choose
    settled_source_lem = go ps (chosen_at t (p ∷ ps) xs)
      where
        go : (qs : List Place) (b : BestPlace)
            → best_source (highest_at t b) (choose (eqb (suc (length qs)) 1) (result_at t p) error_source)
            ≡ source_of t (p ∷ qs) b
        go qs (best_at s first m) = refl
        go [] nowhere = refl
        go (q ∷ qs) nowhere = choose_no _ _ _ (ne_eqb (suc (suc (length qs))) 1 (λ e. omega arith))

    settled_diags_lem : all_unknown_at t (p ∷ ps) xs ++ settled_diags t p node xs (tally_of t xs (p ∷ ps)) ≡ (resolve_in S own node xs (map o (p ∷ ps))).diags
    unfolding resolve_in settle highest_at choose
    settled_diags_lem = go ps (chosen_at t (p ∷ ps) xs) ∙ ap (λ (b : Best). (settle S node xs (o p) (map o ps) b).diags) (sym (chosen_best t nowhere (p ∷ ps) xs))
      where
        go : (qs : List Place) (b : BestPlace)
            → all_unknown_at t (p ∷ qs) xs
            ++ best_diags node (highest_at t b) (choose (eqb (suc (length qs)) 1) (mismatches S 1 (with_params (o p).params xs)) (diag no_match_diag node 0 ∷ []))
            ≡ (settle S node xs (o p) (map o qs) (best_of t b)).diags
        go qs (best_at s first m) = refl
        go [] nowhere = refl
        go (q ∷ qs) nowhere =
            ap (λ (ds : List Diag). all_unknown_at t (p ∷ q ∷ qs) xs ++ ds) (choose_no _ _ _ (ne_eqb (suc (suc (length qs))) 1 (λ e. omega arith)))

    settled_ty : (x y : Ty) → AllStand t (p ∷ ps) → type_from t x y (source_of t (p ∷ ps) (chosen_at t (p ∷ ps) xs)) ≡ (resolve_in S own node xs (map o (p ∷ ps))).ty
    unfolding resolve_in settle source_of type_from AllStand BestStands
    settled_ty x y w =
        go ps (chosen_at t (p ∷ ps) xs) (chosen_stands t nowhere (p ∷ ps) xs tt w)
        ∙ ap (λ (b : Best). (settle S node xs (o p) (map o ps) b).ty) (sym (chosen_best t nowhere (p ∷ ps) xs))
      where
        go : (qs : List Place) (b : BestPlace) → BestStands t b → type_from t x y (source_of t (p ∷ qs) b) ≡ (settle S node xs (o p) (map o qs) (best_of t b)).ty
        go qs (best_at s first m) v = result_is t first v
        go [] nowhere v = result_is t p w.0
        go (q ∷ qs) nowhere v = refl

  -- the type
  places_ty : (ps : List Place) (x y : Ty) → AllStand t ps → type_from t x y (source_of t ps (chosen_at t ps xs)) ≡ (resolve_in S own node xs (map o ps)).ty
  unfolding resolve_in source_of type_from none_fits
  places_ty [] x y w = refl
  places_ty (p ∷ ps) x y w = settled_ty p ps x y w

  places_reads : (ps : List Place) (b : BestPlace) (l : List Ty) (n first second : ℕ) → ReadsChildren l n first second (source_of t ps b)
  unfolding source_of ReadsChildren
  places_reads [] b l n first second = tt
  places_reads (p ∷ ps) (best_at s q m) l n first second = tt
  places_reads (p ∷ []) nowhere l n first second = tt
  places_reads (p ∷ q ∷ ps) nowhere l n first second = tt

-- ---- none of them fits
none_source : (t : List ℕ) (xs : List Arg) → error_source ≡ source_of t [] (chosen_at t [] xs)
unfolding source_of
none_source t xs = refl

none_diags : (t : List ℕ) (node : ℕ) (xs : List Arg) (k : Bool) (m : ℕ) → m ≡ length xs
    → all_unknown_at t [] xs ++ (none_fits k node m).diags ≡ (resolve_in (symbols_of t) k node xs []).diags
unfolding resolve_in all_unknown
none_diags t node xs k m e = ap (λ (n : ℕ). (none_fits k node n).diags) e

-- ---- the first of some places
none_first : (ps : List Place) → first_place ps ≡ None → ps ≡ []
unfolding first_place
none_first [] e = refl
none_first (p ∷ ps) e = absurd (let z : ◌≡◌ {A = ℕ} 0 1 = cc in omega arith)

-- the places behind it
others : List Place → List Place
others [] = []
others (p ∷ ps) = ps

some_first : (ps : List Place) (p : Place) → first_place ps ≡ Some p → ps ≡ p ∷ others ps
unfolding first_place others
some_first [] p e = absurd (let z : ◌≡◌ {A = ℕ} 0 1 = cc in omega arith)
some_first (q ∷ ps) p e = let z : q ≡ p = cc in ap (λ (x : Place). x ∷ ps) z

-- ---- the whole call
module _ (t : List ℕ) (clean : table_fault t ≡ 0) (owner id node : ℕ) (xs : List Arg) where
  abbrev os : List Overload
  os = (symbols_of t).functions_of owner id

  -- the overloads that are looked at
  resolve_places : resolve (symbols_of t) os node xs ≡ resolve_in (symbols_of t) (any_own os) node xs (map (overload_at t) (called_places t (length xs) owner id))
  unfolding resolve
  resolve_places =
      ap (λ (vs : List Overload). resolve_in (symbols_of t) (any_own os) node xs vs)
      (sym (picked-usable t (length xs) (function_places t owner id) os (overloads_placed t clean owner id)))

  module _ (k : Bool) (m : ℕ) (ek : k ≡ any_own os) (em : m ≡ length xs) where
    abbrev ps : List Place
    ps = picked t k m (function_places t owner id)

    same_places : ps ≡ called_places t (length xs) owner id
    same_places = λ i. picked t (ek i) (em i) (function_places t owner id)

    same_source : source_of t ps (chosen_at t ps xs) ≡ call_source t owner id xs
    unfolding call_source
    same_source = ap (λ (qs : List Place). source_of t qs (chosen_at t qs xs)) same_places

    same_diags : (resolve_in (symbols_of t) k node xs (map (overload_at t) ps)).diags ≡ (resolve (symbols_of t) os node xs).diags
    same_diags =
        ap (λ (z : Bool). (resolve_in (symbols_of t) z node xs (map (overload_at t) ps)).diags) ek
        ∙ ap (λ (qs : List Place). (resolve_in (symbols_of t) (any_own os) node xs (map (overload_at t) qs)).diags) same_places
        ∙ ap (λ (v : Verdict). v.diags) (sym resolve_places)

    module _ (w : Tally) (tally : w ≡ tally_of t xs ps) where
      -- none fits
      module _ (e : w.first ≡ None) where
        nothing : ps ≡ []
        nothing = none_first ps (sym (ap (λ (z : Tally). z.first) tally) ∙ e)

        pub source_of_none : error_source ≡ call_source t owner id xs
        source_of_none = none_source t xs ∙ ap (λ (qs : List Place). source_of t qs (chosen_at t qs xs)) (sym nothing) ∙ same_source

        pub told_of_none : (b : Reports) {b₁ b' : Reports} → b₁ ≡ reported b (all_unknown_at t ps xs) → b' ≡ reported b₁ (none_fits k node m).diags
            → b' ≡ reported b (resolve (symbols_of t) os node xs).diags
        told_of_none b f g =
            reported_both b (all_unknown_at t ps xs) (none_fits k node m).diags f g
            ∙ ap (λ (ds : List Diag). reported b ds)
            (ap (λ (qs : List Place). all_unknown_at t qs xs ++ (none_fits k node m).diags) nothing ∙ none_diags t node xs k m em
            ∙ ap (λ (qs : List Place). (resolve_in (symbols_of t) k node xs (map (overload_at t) qs)).diags) (sym nothing) ∙ same_diags)

      -- one fits, and the first that does stands at p
      module _ (p : Place) (e : w.first ≡ Some p) where
        firstly : ps ≡ p ∷ others ps
        firstly = some_first ps p (sym (ap (λ (z : Tally). z.first) tally) ∙ e)

        tallied : w ≡ tally_of t xs (p ∷ others ps)
        tallied = tally ∙ ap (λ (qs : List Place). tally_of t xs qs) firstly

        pub source_of_some : settled_source t p w ≡ call_source t owner id xs
        source_of_some =
            ap (λ (u : Tally). settled_source t p u) tallied ∙ settled_source_lem t node xs k p (others ps)
            ∙ ap (λ (qs : List Place). source_of t qs (chosen_at t qs xs)) (sym firstly) ∙ same_source

        pub told_of_some : (b : Reports) {b₁ b' : Reports} → b₁ ≡ reported b (all_unknown_at t ps xs) → b' ≡ reported b₁ (settled_diags t p node xs w)
            → b' ≡ reported b (resolve (symbols_of t) os node xs).diags
        told_of_some b f g =
            reported_both b (all_unknown_at t ps xs) (settled_diags t p node xs w) f g
            ∙ ap (λ (ds : List Diag). reported b ds)
            (ap (λ (qs : List Place). all_unknown_at t qs xs ++ settled_diags t p node xs w) firstly
            ∙ ap (λ (u : Tally). all_unknown_at t (p ∷ others ps) xs ++ settled_diags t p node xs u) tallied ∙ settled_diags_lem t node xs k p (others ps)
            ∙ ap (λ (qs : List Place). (resolve_in (symbols_of t) k node xs (map (overload_at t) qs)).diags) (sym firstly) ∙ same_diags)

  -- THE TYPE of a call's source is that of the definition
  pub called_is : (r : Source) → r ≡ call_source t owner id xs → CalledIs t (resolve (symbols_of t) os node xs) r
  unfolding call_source
  called_is r source =
      record {
        ty = λ x y.
            ap (λ (s : Source). type_from t x y s) source
            ∙ places_ty t node xs (any_own os) (called_places t (length xs) owner id) x y (places_stand t clean (any_own os) (length xs) owner id)
            ∙ ap (λ (v : Verdict). v.ty) (sym resolve_places);
        reads = λ l m first second.
            subst (λ (s : Source). ReadsChildren l m first second s) (sym source)
            (places_reads t node xs (any_own os) (called_places t (length xs) owner id) (chosen_at t (called_places t (length xs) owner id) xs) l m first second);
      }
