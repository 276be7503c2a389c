-- Small facts: tests, types, lists of given types over ranges of numbers.
use Prim.Native.Nat.{ℕ, suc, ◌≤◌, ◌<◌}
use borrow.Author.Tests.{eq-eqb, ne_eqb, ltb-true, ltb-false}
use lib.Dec.{eqb, ltb}
use mathlib.Core.Bool.{Bool, true, false, ◌&&◌, not, false≢true}
use mathlib.Core.List.{List, [], ◌∷◌, ◌++◌, nil≢cons}
use mathlib.Core.Logic.{◌≢◌, ◌⊎◌, inl, inr}
use mathlib.Core.Option.{Option, none, some}
use mathlib.Core.Path.{◌≡◌, refl, ap, sym, ◌∙◌, subst}
use native.Mathlib.Omega.{arith}
use Rattle.area.specs.Diagnostic.{Diag}
use Rattle.scoring.proofs.NoneAndNil.{some≢none}
use Rattle.operators.specs.Out.{error_ty}
use Rattle.ty.proofs.Choice.{and_left, and_right}
use Rattle.ty.proofs.Same.{ne_differ, same_refl}
use Rattle.ty.specs.Bytes.{Ty, same_bytes}
use Rattle.ty.specs.Choose.{choose}
use Rattle.typing.specs.Judge.{Given}
use Rattle.typing.specs.Mark.{no_diag, no_error, type_in}
use Rattle.typing.specs.Visits.{Choice}

pub and_both : {a b : Bool} → a ≡ true → b ≡ true → (a && b) ≡ true
and_both {a} {b} p q = rw p q

pub some_inj : {A : Type 0} {a b : A} → ◌≡◌ {A = Option A} (some a) (some b) → a ≡ b
some_inj e = cc

pub not_same : (t u : Ty) → not (same_bytes t u) ≡ true → t ≢ u
not_same t u e p =
    let s : same_bytes t u ≡ true = subst (λ (v : Ty). same_bytes t v ≡ true) p (same_refl t) in
    false≢true (rw s at e)

pub no_diag_nil : (ds : List Diag) → no_diag ds ≡ true → ds ≡ []
unfolding no_diag
no_diag_nil [] e = refl
no_diag_nil (d ∷ ds) e = absurd (false≢true e)

pub nil_no_diag : (ds : List Diag) → ds ≡ [] → no_diag ds ≡ true
unfolding no_diag
nil_no_diag [] e = refl
nil_no_diag (d ∷ ds) e = absurd (nil≢cons (sym e))

-- no Error among joined lists
pub no_error_append : (gs hs : List Given) → no_error gs ≡ true → no_error hs ≡ true → no_error (gs ++ hs) ≡ true
unfolding no_error
no_error_append [] hs p q = q
no_error_append (g ∷ gs) hs p q =
    let t = not (same_bytes g.ty error_ty) in
    and_both (and_left t (no_error gs) p) (no_error_append gs hs (and_right t (no_error gs) p) q)

pub no_error-left : (gs hs : List Given) → no_error (gs ++ hs) ≡ true → no_error gs ≡ true
unfolding no_error
no_error-left [] hs p = refl
no_error-left (g ∷ gs) hs p =
    let t = not (same_bytes g.ty error_ty) in
    and_both (and_left t (no_error (gs ++ hs)) p) (no_error-left gs hs (and_right t (no_error (gs ++ hs)) p))

pub no_error_right : (gs hs : List Given) → no_error (gs ++ hs) ≡ true → no_error hs ≡ true
unfolding no_error
no_error_right [] hs p = p
no_error_right (g ∷ gs) hs p = no_error_right gs hs (and_right (not (same_bytes g.ty error_ty)) (no_error (gs ++ hs)) p)

pub no_error-one : (n : ℕ) (t : Ty) → t ≢ error_ty → no_error (record { node = n; ty = t } ∷ []) ≡ true
unfolding no_error
no_error-one n t h = rw (ne_differ t error_ty h)

pub no_error-one_real : (n : ℕ) (t : Ty) → no_error (record { node = n; ty = t } ∷ []) ≡ true → t ≢ error_ty
unfolding no_error
no_error-one_real n t e = not_same t error_ty (and_left (not (same_bytes t error_ty)) true e)

-- the type that joined lists give to a number
pub type_in_none_left : (gs hs : List Given) (k : ℕ) → type_in gs k ≡ none → type_in (gs ++ hs) k ≡ type_in hs k
unfolding type_in choose
type_in_none_left [] hs k e = refl
type_in_none_left (g ∷ gs) hs k e = go (eqb g.node k) e (type_in_none_left gs hs k)
  where
    go : (b : Bool) → choose b (some g.ty) (type_in gs k) ≡ none → (type_in gs k ≡ none → type_in (gs ++ hs) k ≡ type_in hs k)
        → choose b (some g.ty) (type_in (gs ++ hs) k) ≡ type_in hs k
    go true p f = absurd (some≢none p)
    go false p f = f p

pub type_in_none_right : (gs hs : List Given) (k : ℕ) → type_in hs k ≡ none → type_in (gs ++ hs) k ≡ type_in gs k
unfolding type_in choose
type_in_none_right [] hs k e = e
type_in_none_right (g ∷ gs) hs k e = ap (choose (eqb g.node k) (some g.ty)) (type_in_none_right gs hs k e)

pub type_in-one : (n : ℕ) (t : Ty) → type_in (record { node = n; ty = t } ∷ []) n ≡ some t
unfolding type_in choose
type_in-one n t = rw (eq-eqb n n refl)

pub type_in_other : (n : ℕ) (t : Ty) (k : ℕ) → n ≢ k → type_in (record { node = n; ty = t } ∷ []) k ≡ none
unfolding type_in choose
type_in_other n t k h = rw (ne_eqb n k h)

-- a list gives types to numbers from a up to e only
pub record Within (gs : List Given) (a e : ℕ) : Type 0 where
  pub ordered : a ≤ e
  pub below : (k : ℕ) → k < a → type_in gs k ≡ none
  pub above : (k : ℕ) → e ≤ k → type_in gs k ≡ none

-- a choice is the list's between a and e
abbrev pub Same : Choice → List Given → ℕ → ℕ → Type 0
Same τ gs a e = (k : ℕ) → a ≤ k → k < e → τ k ≡ type_in gs k

pub split : (k m : ℕ) → (k < m) ⊎ (m ≤ k)
split k m = go (ltb k m) refl
  where
    go : (b : Bool) → ltb k m ≡ b → (k < m) ⊎ (m ≤ k)
    go true e = inl (ltb-true k m e)
    go false e = inr (ltb-false k m e)

pub within_nil : (a : ℕ) → Within [] a a
unfolding type_in choose
within_nil a = record { ordered = omega arith; below = λ k h. refl; above = λ k h. refl }

pub within_join : (gs hs : List Given) {a m e : ℕ} → Within gs a m → Within hs m e → Within (gs ++ hs) a e
within_join gs hs {a} {m} {e} w v = record {
  ordered = omega arith;
  below = λ k h. type_in_none_left gs hs k (w.below k h) ∙ v.below k (omega arith);
  above = λ k h. type_in_none_left gs hs k (w.above k (omega arith)) ∙ v.above k h;
}

pub within_done : (gs : List Given) {n e : ℕ} (t : Ty) → Within gs (suc n) e → Within (gs ++ (record { node = n; ty = t } ∷ [])) n e
within_done gs {n} {e} t w = record {
  ordered = omega arith;
  below = λ k h. type_in_none_left gs _ k (w.below k (omega arith)) ∙ type_in_other n t k (omega arith);
  above = λ k h. type_in_none_left gs _ k (w.above k (omega arith)) ∙ type_in_other n t k (omega arith);
}

-- a list that gives nothing behind m is within a longer range
pub within_wide : (gs : List Given) {a m e : ℕ} → Within gs a m → m ≤ e → Within gs a e
within_wide gs w h = record { ordered = omega arith; below = w.below; above = λ k p. w.above k (omega arith) }

module _ (τ : Choice) where
  pub same_join : (gs hs : List Given) {a m e : ℕ} → Within gs a m → Within hs m e → Same τ gs a m → Same τ hs m e → Same τ (gs ++ hs) a e
  same_join gs hs {a} {m} {e} w v p q k h l = go (split k m)
    where
      go : (k < m) ⊎ (m ≤ k) → τ k ≡ type_in (gs ++ hs) k
      go (inl s) = p k h s ∙ sym (type_in_none_right gs hs k (v.below k s))
      go (inr s) = q k s l ∙ sym (type_in_none_left gs hs k (w.above k s))

  pub same_left : (gs hs : List Given) {a m e : ℕ} → Within hs m e → Same τ (gs ++ hs) a e → Same τ gs a m
  same_left gs hs v p k h l = p k h (omega arith) ∙ type_in_none_right gs hs k (v.below k l)

  pub same_right : (gs hs : List Given) {a m e : ℕ} → Within gs a m → Same τ (gs ++ hs) a e → Same τ hs m e
  same_right gs hs w p k h l = p k (omega arith) l ∙ type_in_none_left gs hs k (w.above k h)

  pub same_done : (gs : List Given) {n e : ℕ} (t : Ty) → Within gs (suc n) e → Same τ gs (suc n) e → τ n ≡ some t → Same τ (gs ++ (record { node = n; ty = t } ∷ [])) n e
  same_done gs {n} {e} t w p q k h l = go (split n k)
    where
      go : (n < k) ⊎ (k ≤ n) → τ k ≡ type_in (gs ++ (record { node = n; ty = t } ∷ [])) k
      go (inl s) = p k s l ∙ sym (type_in_none_right gs _ k (type_in_other n t k (omega arith)))
      go (inr s) =
          let z : k ≡ n = omega arith in
          rw z (q ∙ sym (type_in_none_left gs _ n (w.below n (omega arith)) ∙ type_in-one n t))

  pub same_here : (gs : List Given) {n e : ℕ} (t : Ty) → Within gs (suc n) e → Same τ (gs ++ (record { node = n; ty = t } ∷ [])) n e → τ n ≡ some t
  same_here gs {n} {e} t w p = p n (omega arith) (omega arith) ∙ type_in_none_left gs _ n (w.below n (omega arith)) ∙ type_in-one n t

  pub same_under : (gs : List Given) {n e : ℕ} (t : Ty) → Within gs (suc n) e → Same τ (gs ++ (record { node = n; ty = t } ∷ [])) n e → Same τ gs (suc n) e
  same_under gs {n} {e} t w p k h l = p k (omega arith) l ∙ type_in_none_right gs _ k (type_in_other n t k (omega arith))
