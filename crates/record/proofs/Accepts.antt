-- Every record of an accepted table draws no number.
use Prim.Native.Nat.{ℕ, zero, suc, ◌≤◌, ◌<◌}
use borrow.Author.Tests.{ne_eqb}
use lib.ListN.{length, drop}
use lib.Seq.{drop-cons}
use mathlib.Core.Bool.{false}
use mathlib.Core.List.{List, [], ◌∷◌}
use mathlib.Core.Path.{◌≡◌, refl, sym, ◌∙◌, subst}
use native.Mathlib.Omega.{arith, not-le}
use Rattle.ty.specs.Choose.{choose}
use Rattle.record.proofs.NoFault.{Clean, clean_record}
use Rattle.record.proofs.Faults.{fault_stop, fault_on, short_fault, long_fault}
use Rattle.record.specs.Inside.Front.{front_of}
use Rattle.record.specs.Inside.Keyed.{is_of, records_with}
use Rattle.record.specs.Inside.HeadFault.{last_kind, head_fault, found_from}
use Rattle.record.specs.TableRefused.{table_fault}
use Rattle.record.specs.Table.{Record, records_of, before}
use Rattle.record.specs.Inside.Walk.{CursorAt}
use Rattle.record.specs.Inside.Front.{Front}
use Rattle.record.specs.declared.walk.Cursor.{Cursor}

abbrev pub CleanFrom : List Record → List Record → Type 0
CleanFrom earlier [] = Unit
CleanFrom earlier (r ∷ rs) = Clean earlier r (r ∷ rs) × CleanFrom (r ∷ earlier) rs

clean-from : (earlier rs : List Record) → found_from earlier rs ≡ 0 → CleanFrom earlier rs
clean-from earlier [] e = tt
clean-from earlier (r ∷ rs) e = go (head_fault earlier r (r ∷ rs)) refl (λ q. clean-from (r ∷ earlier) rs q)
  where
    go : (f : ℕ) → head_fault earlier r (r ∷ rs) ≡ f → (found_from (r ∷ earlier) rs ≡ 0 → CleanFrom (r ∷ earlier) rs) → CleanFrom earlier (r ∷ rs)
    go zero q ih = (clean_record earlier r (r ∷ rs) q, ih (sym (fault_on earlier r rs q) ∙ e))
    go (suc f) q ih =
        let z : suc f ≡ 0 = sym q ∙ sym (fault_stop earlier r rs (λ w. omega arith)) ∙ e in
        absurd (omega arith)

-- AN ACCEPTED TABLE has at most 60,000 bytes
pub accepted_short : (t : List ℕ) → table_fault t ≡ 0 → length t ≤ 60000
accepted_short t e = let l = not-le 60001 (length t) (λ h. omega (arith, long_fault t h)) in omega arith

-- and its records are clean
pub accepted_clean : (t : List ℕ) → table_fault t ≡ 0 → CleanFrom [] (records_of t)
accepted_clean t e = clean-from [] (records_of t) (sym (short_fault t (accepted_short t e)) ∙ e)

pub clean_drop : (n : ℕ) (rs : List Record) → n ≤ length rs → CleanFrom [] rs → CleanFrom (before n rs) (drop n rs)
unfolding before
clean_drop zero rs h c = c
clean_drop (suc n) rs h c =
    (subst (λ (z : List Record). CleanFrom (before n rs) z) (drop-cons rs n [] h) (clean_drop n rs (omega arith) c)).1

-- from a cursor on
pub clean_at : (t : List ℕ) (c : Cursor) → CursorAt t c → table_fault t ≡ 0 → CleanFrom (before c.index (records_of t)) (records_of (drop c.at t))
clean_at t c a e =
    subst (λ (z : List Record). CleanFrom (before c.index (records_of t)) z) (sym a.sits)
    (clean_drop c.index (records_of t) a.count (accepted_clean t e))

-- a record of another kind is not found
pub other_kind : (k a b : ℕ) (h : Front) → (h.kind ≡ k → ⊥) → is_of k a b h ≡ false
other_kind k a b h n = rw (ne_eqb _ _ n)

pub with_no : (k a b : ℕ) (r : Record) (rs : List Record) → is_of k a b (front_of r) ≡ false → records_with k a b (r ∷ rs) ≡ records_with k a b rs
unfolding records_with choose
with_no k a b r rs h = rw h

-- behind a later kind there is none
pub with_past : (k a b : ℕ) (earlier rs : List Record) → CleanFrom earlier rs → k < last_kind earlier → records_with k a b rs ≡ []
unfolding records_with
with_past k a b earlier [] c l = refl
with_past k a b earlier (r ∷ rs) c l =
    let h = c.0.rises in
    with_no k a b r rs (other_kind k a b (front_of r) (λ e. omega arith)) ∙ with_past k a b (r ∷ earlier) rs c.1 (omega arith)
