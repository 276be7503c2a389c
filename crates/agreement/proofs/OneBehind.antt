-- A list of functions with one more behind it resolves as before, where the new one is dropped as builtin, does not fit in number, or the call stays with an
-- old one.
use Prim.Native.Nat.{ℕ, suc, ◌<◌}
use lib.ListN.{length}
use mathlib.Core.Bool.{Bool, true, false, not, ◌||◌, true≢false}
use mathlib.Core.List.Memᴰ
use mathlib.Core.List.{List, [], ◌∷◌, ◌++◌, append-nil, append_assoc, Memᴰ}
use mathlib.Core.Logic.{◌⊎◌, inl, inr}
use mathlib.Core.Option.{none, some}
use mathlib.Core.Path.{◌≡◌, refl, ap, sym, ◌∙◌}
use native.Mathlib.Omega.{arith}
use Rattle.agreement.specs.Undisturbed.{StaysWithOld, Dropped, OldMatch, ScoresLess, Undisturbed, Unfit}
use Rattle.area.specs.Diagnostic.{Diag}
use Rattle.overload.specs.Best.{Best, best, better, chosen, nobody}
use Rattle.overload.specs.Reports.{all_unknown, unknowns}
use Rattle.overload.specs.Resolve.{resolve, resolve_in, settle, tie_report}
use Rattle.scoring.proofs.NoneAndNil.{some≢none}
use Rattle.scoring.specs.Arg.{Arg}
use Rattle.scoring.specs.Arity.{any_own, fits, fitting, own, usable}
use Rattle.scoring.specs.Score.{score}
use Rattle.symbol.specs.Symbols.{Overload, Symbols}
use Rattle.ty.proofs.Choice.{by_choice}
use Rattle.ty.specs.Choose.{choose}
use Rattle.typing.proofs.Base.{some_inj}
use Rattle.typing.proofs.Chosen.{Stands, chosen_keep, chosen_nobody, chosen_stands}
use Rattle.typing.proofs.Resolve.{all_silent}
use Rattle.typing.specs.CleanCall.{AllKnown, Lower, candidates}

-- ---- which functions a call looks at
any_own_behind : (os : List Overload) (f : Overload) → (any_own os ≡ true) ⊎ (f.builtin ≡ true) → any_own (os ++ (f ∷ [])) ≡ any_own os
unfolding any_own
any_own_behind [] f (inl e) = absurd (true≢false (sym e))
any_own_behind [] f (inr e) = rw e
any_own_behind (o ∷ os) f (inl e) = go o.builtin e (λ p. any_own_behind os f (inl p))
  where
    go : (b : Bool) → (not b || any_own os) ≡ true → (any_own os ≡ true → any_own (os ++ (f ∷ [])) ≡ any_own os)
        → (not b || any_own (os ++ (f ∷ []))) ≡ (not b || any_own os)
    go true p g = g p
    go false p g = refl
any_own_behind (o ∷ os) f (inr e) = ap (λ (b : Bool). not o.builtin || b) (any_own_behind os f (inr e))

own_append : (os ps : List Overload) → own (os ++ ps) ≡ own os ++ own ps
unfolding own choose
own_append [] ps = refl
own_append (o ∷ os) ps = go o.builtin (own_append os ps)
  where
    go : (b : Bool) → own (os ++ ps) ≡ own os ++ own ps → choose b (own (os ++ ps)) (o ∷ own (os ++ ps)) ≡ choose b (own os) (o ∷ own os) ++ own ps
    go true e = e
    go false e = ap (λ (vs : List Overload). o ∷ vs) e

fitting_append : (n : ℕ) (os ps : List Overload) → fitting n (os ++ ps) ≡ fitting n os ++ fitting n ps
unfolding fitting choose
fitting_append n [] ps = refl
fitting_append n (o ∷ os) ps = go (fits n o) (fitting_append n os ps)
  where
    go : (b : Bool) → fitting n (os ++ ps) ≡ fitting n os ++ fitting n ps
        → choose b (o ∷ fitting n (os ++ ps)) (fitting n (os ++ ps)) ≡ choose b (o ∷ fitting n os) (fitting n os) ++ fitting n ps
    go true e = ap (λ (vs : List Overload). o ∷ vs) e
    go false e = e

-- the new one, where it is looked at beside the old ones
abbrev added_candidates : List Overload → Overload → List Arg → List Overload
added_candidates os f xs = fitting (length xs) (choose (any_own os) (own (f ∷ [])) (f ∷ []))

candidates_behind : (os : List Overload) (f : Overload) (xs : List Arg) → any_own (os ++ (f ∷ [])) ≡ any_own os
    → candidates (os ++ (f ∷ [])) xs ≡ candidates os xs ++ added_candidates os f xs
unfolding usable choose
candidates_behind os f xs e =
    ap (λ (b : Bool). fitting (length xs) (choose b (own (os ++ (f ∷ []))) (os ++ (f ∷ [])))) e
    ∙ ap (fitting (length xs)) (go (any_own os))
    ∙ fitting_append (length xs) (usable os) _
  where
    go : (b : Bool) → choose b (own (os ++ (f ∷ []))) (os ++ (f ∷ [])) ≡ choose b (own os) os ++ choose b (own (f ∷ [])) (f ∷ [])
    go true = own_append os (f ∷ [])
    go false = refl

-- what holds of none, and of the new one where it is neither dropped nor unfit, holds of these
by_candidates : (P : List Overload → Type 0) (os : List Overload) (f : Overload) (xs : List Arg)
    → P [] → (¬ Dropped os f → ¬ Unfit f xs → P (f ∷ [])) → P (added_candidates os f xs)
unfolding own fitting
by_candidates P os f xs p q =
    by_choice (λ (vs : List Overload). P (fitting (length xs) vs)) (any_own os)
    (λ a. by_choice (λ (vs : List Overload). P (fitting (length xs) vs)) f.builtin (λ _. p) (λ b. fit (λ d. true≢false (sym d.1 ∙ b))))
    (λ a. fit (λ d. true≢false (sym d.0 ∙ a)))
  where
    fit : ¬ Dropped os f → P (fitting (length xs) (f ∷ []))
    fit h = by_choice P (fits (length xs) f) (λ e. q h (λ u. true≢false (sym e ∙ u))) (λ _. p)

module _ (S : Symbols) (xs : List Arg) where
  -- ---- more of them, that score less than an old one
  chosen_append : (b : Best) (vs ws : List Overload) → chosen S b (vs ++ ws) xs ≡ chosen S (chosen S b vs xs) ws xs
  unfolding chosen
  chosen_append b [] ws = refl
  chosen_append b (v ∷ vs) ws = chosen_append (better b v (score S v xs)) vs ws

  all_unknown_append : (vs ws : List Overload) → all_unknown (vs ++ ws) xs ≡ all_unknown vs xs ++ all_unknown ws xs
  unfolding all_unknown
  all_unknown_append [] ws = refl
  all_unknown_append (v ∷ vs) ws =
      ap (λ (ds : List Diag). unknowns v.params 1 xs ++ ds) (all_unknown_append vs ws)
      ∙ sym (append_assoc (unknowns v.params 1 xs) (all_unknown vs xs) (all_unknown ws xs))

  lower_resolve : (u : Bool) (n : ℕ) (vs ws : List Overload) (w : Overload) (t : ℕ) → Memᴰ w vs → score S w xs ≡ some t
      → AllKnown ws xs → Lower S ws xs t → resolve_in S u n xs (vs ++ ws) ≡ resolve_in S u n xs vs
  unfolding resolve_in settle
  lower_resolve u n [] ws w t m e k l = absurd (Memᴰ.not-nil m)
  lower_resolve u n (v ∷ vs) ws w t m e k l =
      ap (settle S n xs v (vs ++ ws)) (chosen_append nobody (v ∷ vs) ws) ∙ go (chosen S nobody (v ∷ vs) xs) refl
    where
      go : (b : Best) → chosen S nobody (v ∷ vs) xs ≡ b → settle S n xs v (vs ++ ws) (chosen S b ws xs) ≡ settle S n xs v vs b
      go nobody p = absurd (some≢none (sym e ∙ chosen_nobody S xs (v ∷ vs) p w m))
      go (best s o c) p =
          let st : Stands S xs (v ∷ vs) s o c = chosen_stands S xs (v ∷ vs) s o c p in
          let top : t < suc s = st.at_most w m t e in
          let under : Lower S ws xs s = λ x q z r. let g : z < t = l x q z r in omega arith in
          let d : all_unknown (v ∷ (vs ++ ws)) xs ≡ all_unknown (v ∷ vs) xs =
          all_unknown_append (v ∷ vs) ws ∙ ap (λ (ds : List Diag). all_unknown (v ∷ vs) xs ++ ds) (all_silent ws xs k)
          ∙ append-nil (all_unknown (v ∷ vs) xs) in
          ap (settle S n xs v (vs ++ ws)) (chosen_keep S xs ws s o c under)
          ∙ (λ i. record { ty = o.result; diags = d i ++ tie_report n c })

  -- ---- the one
  lower_one : (f : Overload) (t : ℕ) → ((s : ℕ) → score S f xs ≡ some s → s < t) → Lower S (f ∷ []) xs t
  lower_one f t h v m s e = h s (sym (ap (λ (o : Overload). score S o xs) (Memᴰ.eq_of_singleton m)) ∙ e)

  module _ (os : List Overload) (n : ℕ) where
    -- the call resolves as before with ws behind the old ones that it looks at
    abbrev AsWithOld : List Overload → Type 0
    AsWithOld ws = resolve_in S (any_own os) n xs (candidates os xs ++ ws) ≡ resolve_in S (any_own os) n xs (candidates os xs)

    stays_resolve : (f : Overload) → StaysWithOld S os f xs → AsWithOld (f ∷ [])
    stays_resolve f b = go b.less
      where
        by : (t : ℕ) → OldMatch S os xs t → ((s : ℕ) → score S f xs ≡ some s → s < t) → AsWithOld (f ∷ [])
        by t m h = lower_resolve (any_own os) n (candidates os xs) (f ∷ []) m.overload t m.usable m.scores b.known (lower_one f t h)

        go : (score S f xs ≡ none) ⊎ ScoresLess S os f xs → AsWithOld (f ∷ [])
        go (inl e) = by b.old.0 b.old.1 (λ s p. absurd (some≢none (sym p ∙ e)))
        go (inr r) = by r.old_points r.old (λ z p. let q : z ≡ r.points = some_inj (sym p ∙ r.new) in omega (arith, r.less))

pub behind_resolves : (S : Symbols) (os : List Overload) (f : Overload) (n : ℕ) (xs : List Arg) → (any_own os ≡ true) ⊎ (f.builtin ≡ true)
    → Undisturbed S os f xs → resolve S (os ++ (f ∷ [])) n xs ≡ resolve S os n xs
unfolding resolve
behind_resolves S os f n xs k h =
    (λ i. resolve_in S (any_own_behind os f k i) n xs (candidates_behind os f xs (any_own_behind os f k) i))
    ∙ by_candidates (AsWithOld S xs os n) os f xs (ap (resolve_in S (any_own os) n xs) (append-nil (candidates os xs))) (go h)
  where
    go : Undisturbed S os f xs → ¬ Dropped os f → ¬ Unfit f xs → AsWithOld S xs os n (f ∷ [])
    go (inl d) nd nu = absurd (nd d)
    go (inr (inl u)) nd nu = absurd (nu u)
    go (inr (inr b)) nd nu = stays_resolve S xs os n f b
