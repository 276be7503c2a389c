-- A call resolves silently exactly as its clean rule says.
use Prim.Native.Nat.{ℕ, suc, ◌≤◌}
use borrow.Author.Tests.{eqb-true, eqb-false, ltb-false}
use lib.Dec.{eqb, ltb}
use mathlib.Core.Bool.{Bool, true, false}
use mathlib.Core.List.Memᴰ
use mathlib.Core.List.{List, [], ◌∷◌, ◌++◌, nil≢cons, Memᴰ}
use mathlib.Core.Logic.{◌≢◌, ◌⊎◌, inl, inr, ◌↔◌}
use mathlib.Core.Option.{Option, none, some}
use mathlib.Core.Path.{◌≡◌, refl, ap, sym, ◌∙◌, subst}
use native.Mathlib.Omega.{arith}
use Rattle.area.specs.Diagnostic.{Diag}
use Rattle.scoring.proofs.NoneAndNil.{append_nil_left, append_nil_right, append_nils, some≢none}
use Rattle.scoring.specs.Arg.{Arg, Verdict, silent}
use Rattle.scoring.specs.Arity.{any_own}
use Rattle.overload.specs.Best.{Best, best, chosen, nobody}
use Rattle.overload.proofs.Exact.{bears}
use Rattle.overload.specs.Reports.{absent, all_unknown, unknown_one, unknowns}
use Rattle.overload.specs.Resolve.{none_fits, resolve, resolve_in, settle, tie_report}
use Rattle.scoring.specs.WithParams.{param_named}
use Rattle.operators.specs.Diag.{diag}
use Rattle.area.specs.DiagnosticKind.{tie_diag}
use Rattle.operators.specs.Out.{error_ty}
use Rattle.symbol.specs.Symbols.{Overload, Param, Symbols}
use Rattle.ty.specs.Bytes.{Ty}
use Rattle.ty.specs.Choose.{choose}
use Rattle.typing.proofs.Chosen.{wins_chosen, Stands, chosen_stands, chosen_nobody}
use Rattle.typing.specs.CleanCall.{AllKnown, ByScore, CleanArgs, Known, candidates}

-- known names
known_found : (id : ℕ) (ps : List Param) → Known id ps → param_named id ps ≡ none → ⊥
unfolding param_named choose
known_found id [] k e = Memᴰ.not-nil k.among
known_found id (p ∷ ps) k e = go (eqb p.name id) refl e (Memᴰ.cases_cons k.among) (known_found id ps)
  where
    go : (b : Bool) → eqb p.name id ≡ b → choose b (some p) (param_named id ps) ≡ none → (k.param ≡ p) ⊎ Memᴰ k.param ps → (Known id ps → param_named id ps ≡ none → ⊥) → ⊥
    go true q e' m f = some≢none e'
    go false q e' (inl r) f = eqb-false p.name id q (ap (λ (z : Param). z.name) (sym r) ∙ k.called)
    go false q e' (inr m) f = f (record { param = k.param; among = m; called = k.called }) e'

found_known : (id : ℕ) (ps : List Param) (p : Param) → param_named id ps ≡ some p → Known id ps
unfolding param_named choose
found_known id [] p e = absurd (some≢none (sym e))
found_known id (q ∷ ps) p e = go (eqb q.name id) refl e (found_known id ps p)
  where
    go : (b : Bool) → eqb q.name id ≡ b → choose b (some q) (param_named id ps) ≡ some p → (param_named id ps ≡ some p → Known id ps) → Known id (q ∷ ps)
    go true i e' f = record { param = q; among = Memᴰ.head refl; called = eqb-true q.name id i }
    go false i e' f = let k = f e' in record { param = k.param; among = Memᴰ.tail k.among; called = k.called }

-- the arguments' names are known to these parameters
abbrev KnownAll : List Param → List Arg → Type 0
KnownAll ps xs = (a : Arg) → Memᴰ a xs → (id : ℕ) → a.name ≡ some id → Known id ps

one-silent : (m : Option ℕ) (ps : List Param) (i n : ℕ) → ((id : ℕ) → m ≡ some id → Known id ps) → unknown_one m ps i n ≡ []
unfolding unknown_one absent
one-silent none ps i n h = refl
one-silent (some id) ps i n h = go (param_named id ps) refl
  where
    go : (o : Option Param) → param_named id ps ≡ o → absent o i n ≡ []
    go none e = absurd (known_found id ps (h id refl) e)
    go (some p) e = refl

silent-one : (m : Option ℕ) (ps : List Param) (i n : ℕ) → unknown_one m ps i n ≡ [] → (id : ℕ) → m ≡ some id → Known id ps
unfolding unknown_one absent
silent-one none ps i n e id q = absurd (some≢none (sym q))
silent-one (some j) ps i n e id q = go (param_named j ps) refl e
  where
    go : (o : Option Param) → param_named j ps ≡ o → absent o i n ≡ [] → Known id ps
    go none p e' = absurd (nil≢cons (sym e'))
    go (some p) r e' = let z : j ≡ id = cc in subst (λ (k : ℕ). Known k ps) z (found_known j ps p r)

known_silent : (ps : List Param) (i : ℕ) (xs : List Arg) → KnownAll ps xs → unknowns ps i xs ≡ []
unfolding unknowns
known_silent ps i [] h = refl
known_silent ps i (a ∷ xs) h =
    append_nils (one-silent a.name ps i a.node (h a (Memᴰ.head refl))) (known_silent ps (suc i) xs (λ b m. h b (Memᴰ.tail m)))

silent_known : (ps : List Param) (i : ℕ) (xs : List Arg) → unknowns ps i xs ≡ [] → KnownAll ps xs
unfolding unknowns
silent_known ps i [] e b m = absurd (Memᴰ.not-nil m)
silent_known ps i (a ∷ xs) e b m = go (Memᴰ.cases_cons m) (silent_known ps (suc i) xs (append_nil_right (unknown_one a.name ps i a.node) _ e) b)
  where
    go : (b ≡ a) ⊎ Memᴰ b xs → (Memᴰ b xs → (id : ℕ) → b.name ≡ some id → Known id ps) → (id : ℕ) → b.name ≡ some id → Known id ps
    go (inl p) f id q = silent-one a.name ps i a.node (append_nil_left _ _ e) id (ap (λ (z : Arg). z.name) (sym p) ∙ q)
    go (inr n) f id q = f n id q

-- no known name is reported
pub all_silent : (vs : List Overload) (xs : List Arg) → AllKnown vs xs → all_unknown vs xs ≡ []
unfolding all_unknown
all_silent [] xs h = refl
all_silent (v ∷ vs) xs h = append_nils (known_silent v.params 1 xs (h v (Memᴰ.head refl))) (all_silent vs xs (λ u m. h u (Memᴰ.tail m)))

silent_all : (vs : List Overload) (xs : List Arg) → all_unknown vs xs ≡ [] → AllKnown vs xs
unfolding all_unknown
silent_all [] xs e u m = absurd (Memᴰ.not-nil m)
silent_all (v ∷ vs) xs e u m = go (Memᴰ.cases_cons m) (silent_all vs xs (append_nil_right (unknowns v.params 1 xs) _ e) u)
  where
    go : (u ≡ v) ⊎ Memᴰ u vs → (Memᴰ u vs → KnownAll u.params xs) → KnownAll u.params xs
    go (inl p) f = rw p (silent_known v.params 1 xs (append_nil_left _ _ e))
    go (inr n) f = f n

tie-one : (n : ℕ) → tie_report n 1 ≡ []
unfolding tie_report choose
tie-one n = refl

tie_nil : (n c : ℕ) → tie_report n c ≡ [] → c ≤ 1
unfolding tie_report choose
tie_nil n c e = go (ltb 1 c) refl e
  where
    go : (b : Bool) → ltb 1 c ≡ b → choose b (diag tie_diag n c ∷ []) [] ≡ [] → c ≤ 1
    go true i e' = absurd (nil≢cons (sym e'))
    go false i e' = ltb-false 1 c i

verdict_silent : (t T : Ty) (ds : List Diag) → t ≡ T → ds ≡ [] → ◌≡◌ {A = Verdict} (record { ty = t; diags = ds }) (silent T)
verdict_silent t T ds p q = λ i. record { ty = p i; diags = q i }

module _ (S : Symbols) where
  forth : (u : Bool) (n : ℕ) (xs : List Arg) (vs : List Overload) (T : Ty) → AllKnown vs xs → ByScore S vs xs T → resolve_in S u n xs vs ≡ silent T
  unfolding resolve_in settle
  forth u n xs [] T k w = absurd (nil≢cons (sym (append_nil_right w.wins.front _ (sym w.wins.place))))
  forth u n xs (v ∷ vs) T k w =
      ap (settle S n xs v vs) (wins_chosen S xs (v ∷ vs) w.winner w.points w.wins)
      ∙ verdict_silent w.winner.result T _ (sym w.result) (append_nils (all_silent (v ∷ vs) xs k) (tie-one n))

  -- what is known of the fitting overloads where a call is silent and not Error
  record Ruled (vs : List Overload) (xs : List Arg) (T : Ty) : Type 0 where
    known : AllKnown vs xs
    chosen : ByScore S vs xs T

  back : (u : Bool) (n : ℕ) (xs : List Arg) (vs : List Overload) (T : Ty) → T ≢ error_ty → resolve_in S u n xs vs ≡ silent T → Ruled vs xs T
  unfolding resolve_in settle none_fits
  back u n xs [] T h e = absurd (h (ap (λ (z : Verdict). z.ty) (sym e)))
  back u n xs (v ∷ vs) T h e = go vs (chosen S nobody (v ∷ vs) xs) refl e
    where
      go : (ws : List Overload) (b : Best) → chosen S nobody (v ∷ ws) xs ≡ b → settle S n xs v ws b ≡ silent T → Ruled (v ∷ ws) xs T
      go ws (best s o c) p q =
          let d : all_unknown (v ∷ ws) xs ++ tie_report n c ≡ [] = ap (λ (z : Verdict). z.diags) q in
          let st : Stands S xs (v ∷ ws) s o c = chosen_stands S xs (v ∷ ws) s o c p in
          let le : c ≤ 1 = tie_nil n c (append_nil_right (all_unknown (v ∷ ws) xs) _ d) in
          let ge : 1 ≤ c = st.counted in
          record {
            known = silent_all (v ∷ ws) xs (append_nil_left _ _ d);
            chosen = record { winner = o; points = s; wins = st.single (omega arith); result = ap (λ (z : Verdict). z.ty) (sym q) };
          }
      go [] nobody p q = absurd (bears S v xs (chosen_nobody S xs (v ∷ []) p v (Memᴰ.head refl)) (ap (λ (z : Verdict). z.diags) q))
      go (w ∷ ws) nobody p q = absurd (h (ap (λ (z : Verdict). z.ty) (sym q)))

  -- a call is silent, and not Error, exactly where its clean rule holds
  pub law : (os : List Overload) (n : ℕ) (xs : List Arg) (T : Ty) → T ≢ error_ty → CleanArgs S os xs T ↔ (resolve S os n xs ≡ silent T)
  unfolding resolve
  law os n xs T h = (
    λ c. forth (any_own os) n xs (candidates os xs) T c.known c.chosen,
    λ e. let r = back (any_own os) n xs (candidates os xs) T h e in record { known = r.known; chosen = r.chosen },
  )
