-- An overload matches exactly where it draws neither an unknown name nor a mismatch. Document 02, order 4: "where just one overload fits, a call without a
-- match then always bears a diagnostic".
use Prim.Native.Nat.{ℕ, suc, ◌+◌}
use mathlib.Core.Bool.{Bool, true, false, ◌||◌, true≢false}
use mathlib.Core.List.{List, [], ◌∷◌, ◌++◌, nil≢cons}
use mathlib.Core.Logic.{◌↔◌}
use mathlib.Core.Option.{Option, none, some}
use mathlib.Core.Path.{◌≡◌, refl, sym, ap, ◌∙◌}
use Rattle.area.specs.DiagnosticKind.{mismatch_diag}
use Rattle.operators.proofs.Assigns.{assigns_by}
use Rattle.operators.specs.Assign.{assigns_at_once, assign_step, assigns}
use Rattle.operators.specs.Diag.{diag}
use Rattle.operators.specs.Operand.{is_kind}
use Rattle.operators.specs.declared.assign.Next.TheVariants.{Yes}
use Rattle.overload.specs.Reports.{absent, unknown_one, unknowns, all_unknown, suits, mismatch_one, mismatches}
use Rattle.below.specs.Below.{is_below}
use Rattle.rules.specs.Accept.{is_type_variable, param_accepts}
use Rattle.scoring.proofs.NoneAndNil.{some≢none, append_nil_left, append_nil_right, append_nils}
use Rattle.scoring.proofs.ScoreSums.{plus-left, plus_right}
use Rattle.scoring.specs.Arg.{Arg}
use Rattle.scoring.specs.Score.{plus, compared, score_one, total, score}
use Rattle.scoring.specs.WithParams.{param_named, next_param, parameter_for, left_behind, in_turn, with_params}
use Rattle.symbol.specs.Symbols.{Param, Overload, Symbols}
use Rattle.ty.proofs.Choice.{choose_yes}
use Rattle.ty.specs.Bytes.{Ty, same_bytes}
use Rattle.ty.specs.Choose.{choose}
use Rattle.ty.specs.Kind.{any_kind, error_kind}

module _ (S : Symbols) where
  -- Error and Any assign to every type
  assigns_from : (a b : Ty) → (is_kind error_kind a || is_kind any_kind a) ≡ true → assigns S a b ≡ true
  unfolding assign_step
  assigns_from a b e =
      let o : assigns_at_once a b ≡ true =
      once (same_bytes a b) (is_kind any_kind b) (is_kind error_kind b) (is_kind error_kind a) (is_kind any_kind a) _ e in
      assigns_by (is_below S) a b Yes (sym (choose_yes _ _ _ o))
    where
      once : (s p q e n r : Bool) → (e || n) ≡ true → (s || ((p || (q || e)) || (n || r))) ≡ true
      once true p q e n r h = refl
      once false true q e n r h = refl
      once false false true e n r h = refl
      once false false false true n r h = refl
      once false false false false true r h = refl
      once false false false false false r h = absurd (true≢false (sym h))

  -- so the test of a mismatch asks nothing but whether the parameter accepts the argument
  suits_accepts : (p : Param) (x : Ty) → suits S p.ty x p.vararg ≡ param_accepts S p.ty x p.vararg
  unfolding param_accepts
  suits_accepts p x =
      go (same_bytes x p.ty) (assigns S x p.ty) (is_type_variable S p.ty) p.vararg (is_kind any_kind p.ty) (is_kind error_kind x) (is_kind any_kind x)
      (assigns_from x p.ty)
    where
      go : (s g t v y e n : Bool) → ((e || n) ≡ true → g ≡ true) → ((s || (g || (t || (v || y)))) || (y || (e || n))) ≡ (s || (g || (t || (v || y))))
      go true g t v y e n h = refl
      go false true t v y e n h = refl
      go false false t v y true n h = absurd (true≢false (sym (h refl)))
      go false false t v y false true h = absurd (true≢false (sym (h refl)))
      go false false true v y false false h = refl
      go false false false true y false false h = refl
      go false false false false true false false h = refl
      go false false false false false false false h = refl

  -- ---- an argument against a parameter
  module _ (p : Param) (i : ℕ) (a : Arg) where
    mismatch_is : mismatch_one S (some p) i a ≡ choose (param_accepts S p.ty a.ty p.vararg) [] (diag mismatch_diag a.node i ∷ [])
    unfolding mismatch_one
    mismatch_is = ap (λ (b : Bool). choose b [] (diag mismatch_diag a.node i ∷ [])) (suits_accepts p a.ty)

    abbrev others : Bool
    others = assigns S a.ty p.ty || (is_type_variable S p.ty || (p.vararg || is_kind any_kind p.ty))

    compared_silent : (s : ℕ) → compared S p a.ty ≡ some s → mismatch_one S (some p) i a ≡ []
    unfolding compared param_accepts choose
    compared_silent s e = mismatch_is ∙ go (same_bytes a.ty p.ty) others e
      where
        go : (b c : Bool) → choose b (some 2) (choose (b || c) (some 1) none) ≡ some s → choose (b || c) [] (diag mismatch_diag a.node i ∷ []) ≡ []
        go true c f = refl
        go false true f = refl
        go false false f = absurd (some≢none (sym f))

    silent_compared : mismatch_one S (some p) i a ≡ [] → (s : ℕ) × (compared S p a.ty ≡ some s)
    unfolding compared param_accepts choose
    silent_compared e = go (same_bytes a.ty p.ty) others (sym mismatch_is ∙ e)
      where
        go : (b c : Bool) → choose (b || c) [] (diag mismatch_diag a.node i ∷ []) ≡ [] → (s : ℕ) × (choose b (some 2) (choose (b || c) (some 1) none) ≡ some s)
        go true c f = (2, refl)
        go false true f = (1, refl)
        go false false f = absurd (nil≢cons (sym f))

  -- ---- an argument in its turn
  one_silent : (m : Option ℕ) (ps fs : List Param) (i : ℕ) (a : Arg) (s : ℕ) → score_one S (parameter_for ps fs m) m a.ty ≡ some s
      → (unknown_one m ps i a.node ≡ []) × (mismatch_one S (parameter_for ps fs m) i a ≡ [])
  unfolding score_one parameter_for unknown_one absent mismatch_one
  one_silent none ps fs i a s e = (refl, go (next_param fs) e)
    where
      go : (o : Option Param) → score_one S o none a.ty ≡ some s → mismatch_one S o i a ≡ []
      go none f = refl
      go (some p) f = compared_silent p i a s f
  one_silent (some id) ps fs i a s e = go (param_named id ps) e
    where
      go : (o : Option Param) → score_one S o (some id) a.ty ≡ some s → (absent o i a.node ≡ []) × (mismatch_one S o i a ≡ [])
      go none f = absurd (some≢none (sym f))
      go (some p) f = (refl, compared_silent p i a s f)

  silent_one : (m : Option ℕ) (ps fs : List Param) (i : ℕ) (a : Arg) → unknown_one m ps i a.node ≡ [] → mismatch_one S (parameter_for ps fs m) i a ≡ []
      → (s : ℕ) × (score_one S (parameter_for ps fs m) m a.ty ≡ some s)
  unfolding score_one parameter_for unknown_one absent mismatch_one
  silent_one none ps fs i a u e = go (next_param fs) e
    where
      go : (o : Option Param) → mismatch_one S o i a ≡ [] → (s : ℕ) × (score_one S o none a.ty ≡ some s)
      go none f = (1, refl)
      go (some p) f = silent_compared p i a f
  silent_one (some id) ps fs i a u e = go (param_named id ps) u e
    where
      go : (o : Option Param) → absent o i a.node ≡ [] → mismatch_one S o i a ≡ [] → (s : ℕ) × (score_one S o (some id) a.ty ≡ some s)
      go none v f = absurd (nil≢cons (sym v))
      go (some p) v f = silent_compared p i a f

  -- ---- all of them
  matched_silent : (ps fs : List Param) (i : ℕ) (xs : List Arg) (s : ℕ) → total S (in_turn ps fs xs) ≡ some s
      → (unknowns ps i xs ≡ []) × (mismatches S i (in_turn ps fs xs) ≡ [])
  unfolding in_turn total unknowns mismatches
  matched_silent ps fs i [] s e = (refl, refl)
  matched_silent ps fs i (a ∷ xs) s e =
      let here = score_one S (parameter_for ps fs a.name) a.name a.ty in
      let there = total S (in_turn ps (left_behind fs a.name) xs) in
      let (x, p) = plus-left here there s e in
      let (y, q) = plus_right here there s e in
      let (u, m) = one_silent a.name ps fs i a x p in
      let (us, ms) = matched_silent ps (left_behind fs a.name) (suc i) xs y q in
      (append_nils u us, append_nils m ms)

  silent_matched : (ps fs : List Param) (i : ℕ) (xs : List Arg) → unknowns ps i xs ≡ [] → mismatches S i (in_turn ps fs xs) ≡ []
      → (s : ℕ) × (total S (in_turn ps fs xs) ≡ some s)
  unfolding in_turn total unknowns mismatches plus
  silent_matched ps fs i [] u m = (0, refl)
  silent_matched ps fs i (a ∷ xs) u m =
      let (x, p) = silent_one a.name ps fs i a (append_nil_left _ _ u) (append_nil_left _ _ m) in
      let (y, q) = silent_matched ps (left_behind fs a.name) (suc i) xs (append_nil_right (unknown_one a.name ps i a.node) _ u)
      (append_nil_right (mismatch_one S (parameter_for ps fs a.name) i a) _ m) in
      (x + y, rw (p, q))

  -- an overload matches exactly if it draws neither 16 nor 17
  pub exactly : (o : Overload) (xs : List Arg)
      → ((s : ℕ) × (score S o xs ≡ some s)) ↔ ((unknowns o.params 1 xs ≡ []) × (mismatches S 1 (with_params o.params xs) ≡ []))
  unfolding score
  exactly o xs = (
    λ (s, e). matched_silent o.params _ 1 xs s e,
    λ (u, m). silent_matched o.params _ 1 xs u m,
  )

  -- so a single overload that does not match draws one of them
  pub bears : (v : Overload) (xs : List Arg) → score S v xs ≡ none → all_unknown (v ∷ []) xs ++ mismatches S 1 (with_params v.params xs) ≡ [] → ⊥
  unfolding all_unknown
  bears v xs e d =
      let (s, f) = (exactly v xs).1 (append_nil_left _ _ (append_nil_left _ _ d), append_nil_right (unknowns v.params 1 xs ++ []) _ d) in
      some≢none (sym f ∙ e)
