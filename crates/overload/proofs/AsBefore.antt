-- Where a call has at most one unnamed argument, and some overload matches or no argument is named, order 4 changes nothing.
use Prim.Native.Nat.{ℕ, suc, ◌≤◌}
use lib.ListN.{length}
use mathlib.Core.Bool.{Bool, true, false}
use mathlib.Core.List.Memᴰ
use mathlib.Core.List.{List, [], ◌∷◌, ◌++◌, Memᴰ}
use mathlib.Core.Logic.{◌⊎◌, inl, inr}
use mathlib.Core.Option.{Option, none, some}
use mathlib.Core.Path.{◌≡◌, refl, ap, sym, ◌∙◌}
use native.Mathlib.Omega.{arith}
use Rattle.area.specs.Diagnostic.{Diag}
use Rattle.overload.proofs.MarksBefore.{free_first}
use Rattle.overload.proofs.Taken.{free_unnamed, free_all, room}
use Rattle.overload.specs.Best.{Best, nobody, best, better, chosen}
use Rattle.overload.specs.Inside.AsBefore.{ParamsGood, MatchedOrUnnamed, AsBefore}
use Rattle.overload.specs.Inside.ResolveBefore.{chosen_before, mismatch_one_before, mismatches_before, settle_before, resolve_in_before, resolve_before}
use Rattle.overload.specs.Inside.ScoreBefore.{compared_with, named_one_before, named_score_before, unnamed_one_before, unnamed_score_before, score_before}
use Rattle.overload.specs.Order4.{count_by_name, unnamed_count, Matches}
use Rattle.overload.specs.Reports.{all_unknown, mismatch_one, mismatches}
use Rattle.overload.specs.Resolve.{settle, resolve_in, resolve}
use Rattle.scoring.proofs.NoneAndNil.{some≢none}
use Rattle.scoring.proofs.BothPasses.{score_split}
use Rattle.scoring.specs.Arg.{Arg, Verdict}
use Rattle.scoring.specs.Arity.{last_vararg, any_own, usable, fits, fitting}
use Rattle.scoring.specs.Inside.Passes.{named_one, named_score, unnamed_one, unnamed_score}
use Rattle.scoring.specs.Score.{plus, score_one, score}
use Rattle.scoring.specs.WithParams.{param_named, free_params, next_param, parameter_for, left_behind, in_turn, with_params}
use Rattle.symbol.specs.Symbols.{Param, Overload, Symbols}
use Rattle.ty.specs.Choose.{choose}

-- those that fit do
pub fitting_fits : (n : ℕ) (os : List Overload) (v : Overload) → Memᴰ v (fitting n os) → fits n v ≡ true
unfolding fitting choose
fitting_fits n [] v m = absurd (Memᴰ.not-nil m)
fitting_fits n (o ∷ os) v m = go (fits n o) refl m (fitting_fits n os v)
  where
    under : fits n o ≡ true → (v ≡ o) ⊎ Memᴰ v (fitting n os) → (Memᴰ v (fitting n os) → fits n v ≡ true) → fits n v ≡ true
    under i (inl e) f = rw e i
    under i (inr k) f = f k

    go : (b : Bool) → fits n o ≡ b → Memᴰ v (choose b (o ∷ fitting n os) (fitting n os)) → (Memᴰ v (fitting n os) → fits n v ≡ true) → fits n v ≡ true
    go true i k f = under i (Memᴰ.cases_cons k) f
    go false i k f = f k

module _ (S : Symbols) where
  -- ---- scores
  -- the named pass is the same
  named_same : (ps : List Param) (xs : List Arg) → named_score S ps xs ≡ named_score_before S ps xs
  unfolding named_score named_score_before compared_with score_one named_one_before named_one
  named_same ps [] = refl
  named_same ps (a ∷ xs) =
      ap (λ (z : Option ℕ). plus z (named_score S ps xs)) (one a.name) ∙ ap (λ (z : Option ℕ). plus (named_one_before S ps a.name a.ty) z) (named_same ps xs)
    where
      found : (o : Option Param) (id : ℕ) → score_one S o (some id) a.ty ≡ compared_with S o a.ty
      found none id = refl
      found (some p) id = refl

      one : (m : Option ℕ) → named_one S ps m a.ty ≡ named_one_before S ps m a.ty
      one none = refl
      one (some id) = found (param_named id ps) id

  -- without an unnamed argument the other pass adds nothing
  none_left : (fs : List Param) (f : Option Param) (v : Bool) (xs : List Arg) → unnamed_count xs ≤ 0 → unnamed_score S fs xs ≡ unnamed_score_before S f v xs
  unfolding unnamed_count count_by_name unnamed_score unnamed_one left_behind unnamed_score_before unnamed_one_before
  none_left fs f v [] h = refl
  none_left fs f v (a ∷ xs) h = go a.name h (λ gs l. none_left gs f v xs l)
    where
      go : (m : Option ℕ) → count_by_name m (unnamed_count xs) ≤ 0
          → ((gs : List Param) → unnamed_count xs ≤ 0 → unnamed_score S gs xs ≡ unnamed_score_before S f v xs)
          → plus (unnamed_one S fs m a.ty) (unnamed_score S (left_behind fs m) xs) ≡ plus (unnamed_one_before S f v m a.ty) (unnamed_score_before S f v xs)
      go none l k = absurd (omega (arith, l))
      go (some id) l k = ap (λ (z : Option ℕ). plus (some 0) z) (k fs l)

  -- one is compared with the first that is free
  one_same : (fs : List Param) (v : Bool) (xs : List Arg) → unnamed_count xs ≤ 1 → (v ≡ true) ⊎ (unnamed_count xs ≤ length fs)
      → unnamed_score S fs xs ≡ unnamed_score_before S (next_param fs) v xs
  unfolding unnamed_count count_by_name unnamed_score unnamed_one left_behind unnamed_score_before unnamed_one_before next_param score_one
  one_same fs v [] h r = refl
  one_same fs v (a ∷ xs) h r = go a.name h r (λ l q. one_same fs v xs l q)
    where
      here : (gs : List Param) (w : Bool) → (w ≡ true) ⊎ (suc (unnamed_count xs) ≤ length gs)
          → score_one S (next_param gs) none a.ty ≡ unnamed_one_before S (next_param gs) w none a.ty
      here (g ∷ gs) w q = refl
      here [] w (inl e) = rw e
      here [] w (inr l) = absurd (omega (arith, l))

      go : (m : Option ℕ) → count_by_name m (unnamed_count xs) ≤ 1 → (v ≡ true) ⊎ (count_by_name m (unnamed_count xs) ≤ length fs)
          → (unnamed_count xs ≤ 1 → (v ≡ true) ⊎ (unnamed_count xs ≤ length fs) → unnamed_score S fs xs ≡ unnamed_score_before S (next_param fs) v xs)
          → plus (unnamed_one S fs m a.ty) (unnamed_score S (left_behind fs m) xs)
          ≡ plus (unnamed_one_before S (next_param fs) v m a.ty) (unnamed_score_before S (next_param fs) v xs)
      go (some id) l q k = ap (λ (z : Option ℕ). plus (some 0) z) (k l q)
      go none l q k =
          ap (λ (z : Option ℕ). plus z (unnamed_score S (left_behind fs none) xs)) (here fs v q)
          ∙ ap (λ (z : Option ℕ). plus (unnamed_one_before S (next_param fs) v none a.ty) z)
          (none_left (left_behind fs none) (next_param fs) v xs (omega (arith, l)))

  score_same : (o : Overload) (xs : List Arg) → ParamsGood o.params → fits (length xs) o ≡ true → unnamed_count xs ≤ 1 → score S o xs ≡ score_before S o xs
  unfolding score score_before
  score_same o xs g f l =
      let ps = o.params in
      let fs = free_params ps xs in
      let v = last_vararg ps in
      score_split S ps fs xs
      ∙ ap (λ (z : Option ℕ). plus z (unnamed_score S fs xs)) (named_same ps xs)
      ∙ ap (λ (z : Option ℕ). plus (named_score_before S ps xs) z)
      (one_same fs v xs l (room o xs g.differ f) ∙ ap (λ (p : Option Param). unnamed_score_before S p v xs) (sym (free_first ps xs g.differ g.few)))

  -- ---- the whole call
  chosen_same : (xs : List Arg) (b : Best) (vs : List Overload) → ((v : Overload) → Memᴰ v vs → score S v xs ≡ score_before S v xs)
      → chosen S b vs xs ≡ chosen_before S b vs xs
  unfolding chosen chosen_before
  chosen_same xs b [] h = refl
  chosen_same xs b (v ∷ vs) h =
      ap (λ (z : Option ℕ). chosen S (better b v z) vs xs) (h v (Memᴰ.head refl))
      ∙ chosen_same xs (better b v (score_before S v xs)) vs (λ u m. h u (Memᴰ.tail m))

  -- a single unnamed argument gets the first parameter
  index_same : (ps : List Param) (xs : List Arg) → unnamed_count xs ≤ 1 → unnamed_count xs ≡ length xs
      → mismatches S 1 (with_params ps xs) ≡ mismatches_before S ps 1 xs
  unfolding in_turn mismatches mismatch_one mismatch_one_before mismatches_before unnamed_count count_by_name next_param parameter_for
  index_same ps [] h e = refl
  index_same ps (a ∷ b ∷ xs) h e = absurd (omega (arith, h, e))
  index_same ps (a ∷ []) h e = go a.name refl e
    where
      at_first : (qs : List Param) → mismatch_one S (next_param qs) 1 a ++ [] ≡ mismatches_before S qs 1 (a ∷ [])
      at_first [] = refl
      at_first (q ∷ qs) = refl

      go : (m : Option ℕ) → a.name ≡ m → count_by_name m 0 ≡ 1
          → mismatch_one S (parameter_for ps (free_params ps (a ∷ [])) a.name) 1 a ++ [] ≡ mismatches_before S ps 1 (a ∷ [])
      go (some id) q l = absurd (omega (arith, l))
      go none q l =
          ap (λ (m : Option ℕ). mismatch_one S (parameter_for ps (free_params ps (a ∷ [])) m) 1 a ++ []) q
          ∙ ap (λ (fs : List Param). mismatch_one S (next_param fs) 1 a ++ []) (free_unnamed a ps [] q ∙ free_all ps) ∙ at_first ps

  unmatched : (v : Overload) (xs : List Arg) → chosen S nobody (v ∷ []) xs ≡ nobody → score S v xs ≡ none
  unfolding chosen better
  unmatched v xs e = go (score S v xs) e
    where
      go : (r : Option ℕ) → better nobody v r ≡ nobody → r ≡ none
      go none f = refl
      go (some s) f = let z : ◌≡◌ {A = ℕ} 0 1 = cc in absurd (omega arith)

  -- a candidate matches, or no argument is named
  in_same : (u : Bool) (n : ℕ) (xs : List Arg) (vs : List Overload) → ((v : Overload) → Memᴰ v vs → score S v xs ≡ score_before S v xs) → unnamed_count xs ≤ 1
      → ((v : Overload) × Memᴰ v vs × Matches S v xs) ⊎ (unnamed_count xs ≡ length xs) → resolve_in S u n xs vs ≡ resolve_in_before S u n xs vs
  unfolding resolve_in resolve_in_before settle settle_before
  in_same u n xs [] h l w = refl
  in_same u n xs (v ∷ vs) h l w =
      go vs (chosen S nobody (v ∷ vs) xs) refl w ∙ ap (λ (b : Best). settle_before S n xs v vs b) (chosen_same xs nobody (v ∷ vs) h)
    where
      index : (ws : List Diag) → ws ≡ mismatches_before S v.params 1 xs
          → ◌≡◌ {A = Verdict} (record { ty = v.result; diags = all_unknown (v ∷ []) xs ++ ws })
          (record { ty = v.result; diags = all_unknown (v ∷ []) xs ++ mismatches_before S v.params 1 xs })
      index ws e = λ i. record { ty = v.result; diags = all_unknown (v ∷ []) xs ++ e i }

      only : (y : Overload) → (y ≡ v) ⊎ Memᴰ y [] → score S v xs ≡ none → (s : ℕ) → score S y xs ≡ some s → ⊥
      only y (inl p) q s f = let z : score S v xs ≡ some s = rw p at f in some≢none (sym z ∙ q)
      only y (inr m) q s f = Memᴰ.not-nil m

      go : (ws : List Overload) (b : Best) → chosen S nobody (v ∷ ws) xs ≡ b
          → ((y : Overload) × Memᴰ y (v ∷ ws) × Matches S y xs) ⊎ (unnamed_count xs ≡ length xs) → settle S n xs v ws b ≡ settle_before S n xs v ws b
      go ws (best s o many) p q = refl
      go (y ∷ ws) nobody p q = refl
      go [] nobody p (inl (y, m, (s, f))) = absurd (only y (Memᴰ.cases_cons m) (unmatched v xs p) s f)
      go [] nobody p (inr e) = index _ (index_same v.params xs l e)

  call_same : (os : List Overload) (n : ℕ) (xs : List Arg) → ((v : Overload) → Memᴰ v (fitting (length xs) (usable os)) → ParamsGood v.params)
      → unnamed_count xs ≤ 1 → MatchedOrUnnamed S os xs → resolve S os n xs ≡ resolve_before S os n xs
  unfolding resolve resolve_before
  call_same os n xs g l w =
      in_same (any_own os) n xs (fitting (length xs) (usable os)) (λ v m. score_same v xs (g v m) (fitting_fits (length xs) (usable os) v m) l) l w

  pub as_before : AsBefore S
  as_before = record { score = score_same; call = call_same }
