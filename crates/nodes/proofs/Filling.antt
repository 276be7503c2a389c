-- Laws of stores in a row, on plain values: one behind another, and what the slots hold behind them.
use Prim.Native.Nat.{ℕ, ◌<◌}
use lib.ListN.{length, set, length-set}
use mathlib.Core.List.{List, [], ◌∷◌, ◌++◌}
use mathlib.Core.Path.{◌≡◌, refl, sym, ap, ◌∙◌}
use native.Mathlib.Omega.{arith}
use Rattle.area.proofs.SlotsHeld.{holds_here, holds_under}
use Rattle.area.specs.Inside.Slot.{Holds}
use Rattle.nodes.specs.Inside.SlotsFilled.{SlotsFilled, store_all}
use Rattle.ty.specs.Bytes.{Ty}
use Rattle.typing.proofs.Spreading.{NumbersIn}
use Rattle.typing.specs.Judge.{Given}

-- ---- one way behind another
slots_append : (ts : List Ty) (gs hs : List Given) → store_all ts (gs ++ hs) ≡ store_all (store_all ts gs) hs
unfolding store_all
slots_append ts [] hs = refl
slots_append ts (g ∷ gs) hs = slots_append (set ts g.node g.ty) gs hs

pub filled_none : (ts : List Ty) → SlotsFilled ts ts []
unfolding store_all
filled_none ts = record { slots = refl }

pub filled-one : {ts ts' : List Ty} {n : ℕ} {t : Ty} → ts' ≡ set ts n t → SlotsFilled ts ts' (record { node = n; ty = t } ∷ [])
unfolding store_all
filled-one e = record { slots = e }

one-filled : {ts ts' : List Ty} {n : ℕ} {t : Ty} → SlotsFilled ts ts' (record { node = n; ty = t } ∷ []) → ts' ≡ set ts n t
unfolding store_all
one-filled f = f.slots

pub filled_join : {ts ts₁ ts₂ : List Ty} {g h : List Given} → SlotsFilled ts ts₁ g → SlotsFilled ts₁ ts₂ h → SlotsFilled ts ts₂ (g ++ h)
filled_join {ts} {g = g} {h = h} x y =
    record { slots = y.slots ∙ ap (λ (w : List Ty). store_all w h) x.slots ∙ sym (slots_append ts g h) }

pub filled-first : (ts : List Ty) (g : List Given) → SlotsFilled ts (store_all ts g) g
filled-first ts g = record { slots = refl }

pub filled-rest : {ts ts' : List Ty} (g h : List Given) → SlotsFilled ts ts' (g ++ h) → SlotsFilled (store_all ts g) ts' h
filled-rest {ts} g h x = record { slots = x.slots ∙ slots_append ts g h }

pub filled_as : {ts ts' : List Ty} {g h : List Given} → g ≡ h → SlotsFilled ts ts' g → SlotsFilled ts ts' h
filled_as e x = rw (← e) x

-- ---- as many slots as before
pub slots_long : (ts : List Ty) (gs : List Given) → length (store_all ts gs) ≡ length ts
unfolding store_all
slots_long ts [] = refl
slots_long ts (g ∷ gs) = slots_long (set ts g.node g.ty) gs ∙ length-set ts g.node g.ty

pub filled-long : {ts ts' : List Ty} {gs : List Given} → SlotsFilled ts ts' gs → length ts' ≡ length ts
filled-long {ts} {gs = gs} f = ap (λ (w : List Ty). length w) f.slots ∙ slots_long ts gs

-- ---- what the slots hold
-- the last store is held
pub filled-last : {ts ts' : List Ty} (gs : List Given) (n : ℕ) (t : Ty) → SlotsFilled ts ts' (gs ++ (record { node = n; ty = t } ∷ [])) → n < length ts → Holds ts' n t
filled-last {ts} gs n t f h =
    rw (one-filled (filled-rest gs _ f)) (holds_here (store_all ts gs) n t (rw (slots_long ts gs) h))

-- a slot before all of them is left alone
kept_under : (gs : List Given) (ts : List Ty) (lo hi m : ℕ) (u : Ty) → m < lo → NumbersIn lo hi gs → Holds ts m u → Holds (store_all ts gs) m u
unfolding store_all NumbersIn
kept_under [] ts lo hi m u h w v = v
kept_under (g ∷ gs) ts lo hi m u h w v = kept_under gs _ lo hi m u h w.2 (holds_under ts m g.node g.ty u (omega (arith, w.0)) v)

pub filled-under : {ts ts' : List Ty} {gs : List Given} → SlotsFilled ts ts' gs → (lo hi : ℕ) → NumbersIn lo hi gs → (m : ℕ) (u : Ty) → m < lo → Holds ts m u → Holds ts' m u
filled-under {ts} {gs = gs} f lo hi w m u h v = rw f.slots (kept_under gs ts lo hi m u h w v)
