-- Any two typings are alike, and there is one exactly where the judgement passes.
use Prim.Native.Nat.{ℕ, ◌≤◌, ◌<◌}
use mathlib.Core.Bool.{Bool, true, not}
use mathlib.Core.List.Memᴰ
use mathlib.Core.List.{List, [], ◌∷◌, Memᴰ}
use mathlib.Core.Logic.{◌≢◌, ◌⊎◌, inl, inr, ◌↔◌}
use mathlib.Core.Path.{◌≡◌, refl, ap, sym, ◌∙◌}
use native.Mathlib.Omega.{arith}
use Rattle.question.specs.Tree.{Node, number_after}
use Rattle.question.specs.declared.Header.{Header}
use Rattle.operators.specs.Out.{error_ty}
use Rattle.symbol.specs.Symbols.{Symbols}
use Rattle.ty.proofs.Choice.{and_left, and_right}
use Rattle.ty.proofs.Same.{ne_differ}
use Rattle.ty.specs.Bytes.{same_bytes}
use Rattle.typing.proofs.Back.{back}
use Rattle.typing.proofs.Base.{and_both, not_same, no_diag_nil, nil_no_diag, split}
use Rattle.typing.proofs.Forward.{Agrees, forward}
use Rattle.typing.proofs.Range.{node_within}
use Rattle.typing.proofs.Structural.{Structural}
use Rattle.typing.specs.Judge.{Given, judge}
use Rattle.typing.specs.Mark.{no_diag, no_error, passes, type_in}
use Rattle.typing.specs.Visits.{Choice}

-- no visited node has type Error, as a statement on each
abbrev pub NoErrorIn : List Given → Type 0
NoErrorIn gs = (g : Given) → Memᴰ g gs → g.ty ≢ error_ty

pub no_error_no_error : (gs : List Given) → no_error gs ≡ true → NoErrorIn gs
unfolding no_error
no_error_no_error [] e g m = absurd (Memᴰ.not-nil m)
no_error_no_error (h ∷ gs) e g m = go (no_error_no_error gs (and_right t (no_error gs) e) g) (Memᴰ.cases_cons m)
  where
    t : Bool
    t = not (same_bytes h.ty error_ty)

    go : (Memᴰ g gs → g.ty ≢ error_ty) → (g ≡ h) ⊎ Memᴰ g gs → g.ty ≢ error_ty
    go f (inl p) = rw p (not_same h.ty error_ty (and_left t (no_error gs) e))
    go f (inr n) = f n

pub no_error-no_error : (gs : List Given) → NoErrorIn gs → no_error gs ≡ true
unfolding no_error
no_error-no_error [] h = refl
no_error-no_error (g ∷ gs) h = and_both (ap not (ne_differ g.ty error_ty (h g (Memᴰ.head refl)))) (no_error-no_error gs (λ x m. h x (Memᴰ.tail m)))

module _ (S : Symbols) (H : Header) where
  whole : (tree : Node) (τ : Choice) (t : Structural S H tree τ) → Agrees τ (judge S H tree 0) 0 (number_after tree 0) t.root
  whole tree τ t = forward S H τ tree 0 t.root t.obeys

  -- a typing gives each number what the judgement gives it
  pub typing_types : (tree : Node) (τ : Choice) → Structural S H tree τ → (k : ℕ) → τ k ≡ type_in (judge S H tree 0).typed k
  typing_types tree τ t k = go (split k (number_after tree 0))
    where
      go : (k < number_after tree 0) ⊎ (number_after tree 0 ≤ k) → τ k ≡ type_in (judge S H tree 0).typed k
      go (inl s) = (whole tree τ t).same k (omega arith) s
      go (inr s) = t.past k s ∙ sym ((node_within S H tree 0).above k s)

  pub typing_root : (tree : Node) (τ : Choice) (t : Structural S H tree τ) → t.root ≡ (judge S H tree 0).ty
  typing_root tree τ t = sym (whole tree τ t).is_ty

  pub typing_passes : (tree : Node) (τ : Choice) → Structural S H tree τ → passes (judge S H tree 0) ≡ true
  unfolding passes
  typing_passes tree τ t = let a = whole tree τ t in and_both (nil_no_diag _ a.quiet) a.good

  -- any two typings are alike
  pub typings_alike : (tree : Node) (τ σ : Choice) → Structural S H tree τ → Structural S H tree σ → (k : ℕ) → τ k ≡ σ k
  typings_alike tree τ σ t s k = typing_types tree τ t k ∙ sym (typing_types tree σ s k)

  -- a judgement that passes is a typing
  pub passes_typing : (tree : Node) → passes (judge S H tree 0) ≡ true → Structural S H tree (type_in (judge S H tree 0).typed)
  unfolding passes
  passes_typing tree p =
      let j = judge S H tree 0 in
      record {
        root = j.ty;
        obeys = back S H (type_in j.typed) tree 0
            (record { quiet = no_diag_nil j.diags (and_left (no_diag j.diags) (no_error j.typed) p); good = and_right (no_diag j.diags) (no_error j.typed) p; same = λ k a b. refl });
        past = (node_within S H tree 0).above;
      }

  pub passes_iff : (tree : Node) → (passes (judge S H tree 0) ≡ true) ↔ ((τ : Choice) × Structural S H tree τ)
  passes_iff tree = (λ p. (type_in (judge S H tree 0).typed, passes_typing tree p), λ t. typing_passes tree t.0 t.1)

  -- the mark says: no diagnostic, and no visited node of type Error
  pub passes-clean : (tree : Node) → (passes (judge S H tree 0) ≡ true) ↔ (((judge S H tree 0).diags ≡ []) × NoErrorIn (judge S H tree 0).typed)
  unfolding passes
  passes-clean tree =
      let j = judge S H tree 0 in (
        λ p. (no_diag_nil j.diags (and_left (no_diag j.diags) (no_error j.typed) p), no_error_no_error j.typed (and_right (no_diag j.diags) (no_error j.typed) p)),
        λ c. and_both (nil_no_diag j.diags c.0) (no_error-no_error j.typed c.1),
      )
