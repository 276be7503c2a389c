-- Stores in a row, none twice in one slot: each slot holds what was stored there, and what belongs to another number is as it was.
use Prim.Native.Nat.{ℕ, ◌≤◌}
use borrow.Author.Tests.{eq-eqb, ne_eqb, eqb-true, eqb-false}
use lib.Dec.{eqb}
use lib.ListN.{length, set, length-set}
use lib.Seq.{get_or-set_other}
use mathlib.Core.Bool.{Bool, true, false}
use mathlib.Core.List.Memᴰ
use mathlib.Core.List.{List, [], ◌∷◌, Memᴰ}
use mathlib.Core.Logic.{◌⊎◌, inl, inr}
use mathlib.Core.Option.{none, some}
use mathlib.Core.Path.{◌≡◌, refl, sym, ap, ◌∙◌}
use native.Mathlib.Omega.{arith}
use Rattle.area.proofs.SlotsHeld.{holds_here}
use Rattle.area.specs.Inside.Slot.{type_at, Holds}
use Rattle.nodes.proofs.Filling.{slots_long}
use Rattle.typing.proofs.Spreading.{NumbersIn, NoNumber, NumbersDiffer}
use Rattle.nodes.specs.Inside.SlotsFilled.{store_all}
use Rattle.scoring.proofs.NoneAndNil.{some≢none}
use Rattle.ty.specs.Bytes.{Ty}
use Rattle.ty.specs.Choose.{choose}
use Rattle.typing.proofs.Base.{some_inj}
use Rattle.typing.specs.Judge.{Given}
use Rattle.typing.specs.Mark.{type_in}

-- ---- stores in a row
-- a slot into which nothing is stored is left alone
pub type_kept : (gs : List Given) (ts : List Ty) (m : ℕ) → NoNumber m gs → type_at (store_all ts gs) m ≡ type_at ts m
unfolding store_all NoNumber
type_kept [] ts m w = refl
type_kept (g ∷ gs) ts m w = type_kept gs (set ts g.node g.ty) m w.1 ∙ get_or-set_other ts g.node m g.ty [] (λ e. w.0 (sym e))

held_kept : (gs : List Given) (ts : List Ty) (m : ℕ) (u : Ty) → NoNumber m gs → Holds ts m u → Holds (store_all ts gs) m u
held_kept gs ts m u w v = record { is = type_kept gs ts m w ∙ v.is; inside = rw (slots_long ts gs) v.inside }

pub all_held : (gs : List Given) (ts : List Ty) (lo hi : ℕ) → hi ≤ length ts → NumbersIn lo hi gs → NumbersDiffer gs
    → (k : ℕ) (u : Ty) → type_in gs k ≡ some u → Holds (store_all ts gs) k u
unfolding store_all NumbersIn NumbersDiffer type_in choose
all_held [] ts lo hi h w d k u e = absurd (some≢none (sym e))
all_held (g ∷ gs) ts lo hi h w d k u e =
    go (eqb g.node k) refl e (λ v. all_held gs _ lo hi (rw (length-set ts g.node g.ty) h) w.2 d.1 k u v)
  where
    go : (b : Bool) → eqb g.node k ≡ b → choose b (some g.ty) (type_in gs k) ≡ some u
        → (type_in gs k ≡ some u → Holds (store_all (set ts g.node g.ty) gs) k u) → Holds (store_all (set ts g.node g.ty) gs) k u
    go true n e f =
        let num : g.node ≡ k = eqb-true g.node k n in
        let ty : g.ty ≡ u = some_inj e in
        rw (← num, ← ty) (held_kept gs _ g.node g.ty d.0 (holds_here ts g.node g.ty (omega (arith, w.1))))
    go false n e f = f e

-- ---- which numbers are finished
pub type_absent : (gs : List Given) (k : ℕ) → type_in gs k ≡ none → NoNumber k gs
unfolding type_in NoNumber choose
type_absent [] k e = tt
type_absent (g ∷ gs) k e = go (eqb g.node k) refl e (type_absent gs k)
  where
    go : (b : Bool) → eqb g.node k ≡ b → choose b (some g.ty) (type_in gs k) ≡ none → (type_in gs k ≡ none → NoNumber k gs) → (g.node ≡ k → ⊥) × NoNumber k gs
    go true n e f = absurd (some≢none e)
    go false n e f = (eqb-false g.node k n, f e)

absent_differs : (gs : List Given) (m : ℕ) (g : Given) → NoNumber m gs → Memᴰ g gs → g.node ≡ m → ⊥
unfolding NoNumber
absent_differs [] m g w i e = Memᴰ.not-nil i
absent_differs (h ∷ gs) m g w i e = go (Memᴰ.cases_cons i) (absent_differs gs m g w.1)
  where
    go : (g ≡ h) ⊎ Memᴰ g gs → (Memᴰ g gs → g.node ≡ m → ⊥) → ⊥
    go (inl z) f = w.0 (sym (ap (λ (y : Given). y.node) z) ∙ e)
    go (inr z) f = f z e

-- a finished node has the type that the list gives to its number
pub member_type : (gs : List Given) → NumbersDiffer gs → (g : Given) → Memᴰ g gs → type_in gs g.node ≡ some g.ty
unfolding NumbersDiffer type_in choose
member_type [] d g i = absurd (Memᴰ.not-nil i)
member_type (h ∷ gs) d g i = go (Memᴰ.cases_cons i) (member_type gs d.1 g)
  where
    go : (g ≡ h) ⊎ Memᴰ g gs → (Memᴰ g gs → type_in gs g.node ≡ some g.ty) → choose (eqb h.node g.node) (some h.ty) (type_in gs g.node) ≡ some g.ty
    go (inl z) f = rw z (rw (eq-eqb h.node h.node refl) refl)
    go (inr z) f = rw (ne_eqb h.node g.node (λ e. absent_differs gs h.node g d.0 z (sym e))) (f z)
