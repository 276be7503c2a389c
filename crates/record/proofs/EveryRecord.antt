-- What holds of every record of an accepted table that a lookup finds.
use Prim.Native.Nat.{ℕ, zero, suc, ◌≤◌, ◌<◌}
use borrow.Author.Tests.{eqb-true}
use lib.Dec.{eqb}
use lib.ListN.{length, drop, length-drop}
use lib.Seq.{length-take-le}
use mathlib.Core.Bool.{Bool, true, false}
use mathlib.Core.List.{List, [], ◌∷◌}
use mathlib.Core.Path.{◌≡◌, refl, sym, ap, ◌∙◌, subst}
use native.Mathlib.Nat.{not-suc-le-zero}
use native.Mathlib.Omega.{arith}
use Rattle.record.proofs.Accepts.{CleanFrom}
use Rattle.record.proofs.Bounds.{head_bounded}
use Rattle.record.proofs.Own.{head_own}
use Rattle.record.proofs.Records.{records-here, records-end}
use Rattle.record.specs.Inside.Front.{front_of}
use Rattle.record.specs.Inside.Keyed.{is_of, records_with}
use Rattle.record.specs.Inside.FrontRecord.{front_record}
use Rattle.record.specs.Table.{Record, records_of}
use Rattle.record.specs.Inside.Front.{Front}
use Rattle.ty.proofs.Choice.{and_left}
use Rattle.ty.specs.Choose.{choose}

module _ {A : Type 0} where
  abbrev pub Every : (A → Type 0) → List A → Type 0
  Every P [] = Unit
  Every P (x ∷ xs) = P x × Every P xs

-- each record of a table has the length that it says
abbrev pub Own : Record → Type 0
Own r = (front_of r).len ≡ length r

pub records-own : (n : ℕ) (s : List ℕ) → length s ≤ n → Every Own (records_of s)
records-own zero [] h = rw (records-end [] 0 (omega arith)) tt
records-own zero (b ∷ bs) h = absurd (not-suc-le-zero h)
records-own (suc n) [] h = rw (records-end [] 0 (omega arith)) tt
records-own (suc n) (b ∷ bs) h =
    let o : 0 < length (b ∷ bs) = omega arith in
    let w = head_bounded (b ∷ bs) o in
    let m = length-drop (front_of (b ∷ bs)).len (b ∷ bs) in
    let l : length (front_record (b ∷ bs)) ≡ (front_of (b ∷ bs)).len = length-take-le (front_of (b ∷ bs)).len (b ∷ bs) w.high in
    subst (λ (x : List Record). Every Own x) (sym (records-here (b ∷ bs) o)) (
      ap (λ (x : Front). x.len) (head_own (b ∷ bs) o) ∙ sym l,
      records-own n (drop (front_of (b ∷ bs)).len (b ∷ bs)) (omega (arith, w.low)),
    )

-- what holds of each clean record of a kind holds of those with a key
module _ (P : Record → Type 0) (k a b : ℕ)
    (each : (r : Record) → (front_of r).kind ≡ k → (front_of r).error ≡ false → (front_of r).repeated ≡ false → Own r → P r) where
  pub with_every : (earlier rs : List Record) → CleanFrom earlier rs → Every Own rs → Every P (records_with k a b rs)
  unfolding records_with choose
  with_every earlier [] c o = tt
  with_every earlier (r ∷ rs) c o = go (is_of k a b (front_of r)) refl (with_every (r ∷ earlier) rs c.1 o.1)
    where
      go : (v : Bool) → is_of k a b (front_of r) ≡ v → Every P (records_with k a b rs) → Every P (choose (is_of k a b (front_of r)) (r ∷ records_with k a b rs) (records_with k a b rs))
      go true q ih =
          let e = eqb-true (front_of r).kind k (and_left (eqb (front_of r).kind k) _ q) in
          rw q (each r e c.0.typed c.0.distinct o.0, ih)
      go false q ih = rw q ih
