-- The first record with a key in an accepted table, and what is told of it.
use Prim.Native.Nat.{ℕ, zero, suc, ◌-◌, ◌≤◌, ◌<◌}
use borrow.Author.Tests.{ltb-true, ltb-false}
use lib.Dec.{ltb}
use lib.ListN.{length, drop}
use mathlib.Core.Bool.{Bool, true, false}
use mathlib.Core.List.{List, []}
use mathlib.Core.Path.{◌≡◌, refl, sym, ap, ◌∙◌, subst}
use native.Mathlib.Omega.{arith}
use Rattle.index.proofs.ListSearch.{first_yes, first_no, sits_cons, sits_next, sits_later, sits-length, here_is}
use Rattle.index.specs.Inside.Found.{first_in, first_with, found_at, FoundIs, first_behind}
use Rattle.index.specs.Inside.Found.{Found}
use Rattle.record.proofs.Accepts.{with_no}
use Rattle.record.proofs.Records.{at_start, records-end}
use Rattle.record.specs.Inside.Front.{front_of}
use Rattle.record.specs.Inside.FrontRecord.{front_record}
use Rattle.record.specs.Inside.Keyed.{is_of, records_with}
use Rattle.record.specs.Inside.Walk.{Sits, behind}
use Rattle.record.specs.Table.{Record, records_of}
use Rattle.record.specs.TableRefused.{table_fault}

-- a record without the key is passed over, and behind the last there is none
pub first-behind : (t : List ℕ) (k a b p : ℕ) → Sits t p → p < length t → is_of k a b (front_of (front_record (drop p t))) ≡ false
    → first_in k a b p (records_of (drop p t)) ≡ first_in k a b (behind t p) (records_of (drop (behind t p) t))
first-behind t k a b p w s lacks =
    ap (first_in k a b p) (sits_cons t p w s) ∙ first_no k a b p (front_record (drop p t)) _ lacks
    ∙ ap (λ (z : ℕ). first_in k a b z (records_of (drop (behind t p) t))) (sits-length t p w s)

pub first-end : (t : List ℕ) (k a b p : ℕ) → length t ≤ p → first_in k a b p (records_of (drop p t)) ≡ 0
unfolding first_in
first-end t k a b p h = ap (first_in k a b p) (records-end t p h)

with_end : (t : List ℕ) (k a b p : ℕ) → length t ≤ p → records_with k a b (records_of (drop p t)) ≡ []
unfolding records_with
with_end t k a b p h = ap (records_with k a b) (records-end t p h)

-- ---- what is told of it
module _ (t : List ℕ) (clean : table_fault t ≡ 0) (k a b : ℕ) where
  abbrev Told : ℕ → Type 0
  Told p = FoundIs t (records_with k a b (records_of (drop p t))) k a b (found_at (first_in k a b p (records_of (drop p t))))

  told_end : (p : ℕ) → length t ≤ p → Told p
  told_end p h = subst (λ (v : ℕ). FoundIs t (records_with k a b (records_of (drop p t))) k a b (found_at v)) (sym (first-end t k a b p h)) (with_end t k a b p h)

  module _ (p : ℕ) (w : Sits t p) (some : p < length t) where
    told_here : is_of k a b (front_of (front_record (drop p t))) ≡ true → Told p
    told_here has =
        subst (λ (v : ℕ). FoundIs t (records_with k a b (records_of (drop p t))) k a b (found_at v))
        (sym (ap (first_in k a b p) (sits_cons t p w some) ∙ first_yes k a b p _ _ has))
        (here_is t p w some clean k a b has (records_with k a b (records_of (drop p t))) refl)

    told_on : is_of k a b (front_of (front_record (drop p t))) ≡ false → Told (behind t p) → Told p
    told_on lacks h =
        subst (λ (rs : List Record). FoundIs t rs k a b (found_at (first_in k a b p (records_of (drop p t)))))
        (sym (ap (records_with k a b) (sits_cons t p w some) ∙ with_no k a b _ _ lacks))
        (subst (λ (v : ℕ). FoundIs t (records_with k a b (records_of (drop (behind t p) t))) k a b (found_at v)) (sym (first-behind t k a b p w some lacks)) h)

  told : (m p : ℕ) → length t - p ≤ m → Sits t p → Told p
  told zero p h w = told_end p (omega arith)
  told (suc m) p h w =
      go (ltb p (length t)) refl (is_of k a b (front_of (front_record (drop p t)))) refl
      (λ s. told m (behind t p) (omega (arith, sits_later t p w s)) (sits_next t p w s))
    where
      go : (u : Bool) → ltb p (length t) ≡ u → (v : Bool) → is_of k a b (front_of (front_record (drop p t))) ≡ v → (p < length t → Told (behind t p)) → Told p
      go false q v z ih = told_end p (ltb-false p (length t) q)
      go true q true z ih = told_here p w (ltb-true p (length t) q) z
      go true q false z ih = let s = ltb-true p (length t) q in told_on p w s z (ih s)

  -- of the first in the table
  pub found_first : (r : Found) → r ≡ found_at (first_with t k a b) → FoundIs t (records_with k a b (records_of t)) k a b r
  found_first r e =
      subst (λ (z : Found). FoundIs t (records_with k a b (records_of t)) k a b z) (sym e) (told (length t) 0 (omega arith) (record { index = 0; at = at_start t }))

-- of the first behind a record
pub found_behind : (t : List ℕ) → table_fault t ≡ 0 → (k a b p : ℕ) → Sits t p → p < length t → (r : Found) → r ≡ found_at (first_behind t k a b p)
    → FoundIs t (records_with k a b (records_of (drop (behind t p) t))) k a b r
found_behind t clean k a b p w some r e =
    subst (λ (z : Found). FoundIs t (records_with k a b (records_of (drop (behind t p) t))) k a b z) (sym e)
    (told t clean k a b (length t) (behind t p) (omega arith) (sits_next t p w some))
