-- The names of an accepted table come first, 26 bytes each.
use Prim.Native.Nat.{ℕ, zero, suc, ◌+◌, ◌*◌, ◌≤◌, ◌<◌}
use borrow.Author.Tests.{eq-eqb, ne_eqb, ltb-true, ltb-false}
use lib.Dec.{ltb}
use lib.ListN.{length, get_or, drop}
use lib.Seq.{get_or-drop, get_or-take}
use mathlib.Core.Bool.{Bool, true, false}
use mathlib.Core.List.{List, [], ◌∷◌}
use mathlib.Core.Path.{◌≡◌, refl, sym, ap, ◌∙◌, subst}
use native.Mathlib.Nat.{not-suc-le-zero, le_of_suc-le-suc}
use native.Mathlib.Omega.{arith}
use Rattle.record.proofs.Accepts.{CleanFrom}
use Rattle.record.proofs.Laid.{same_kind, same_count}
use Rattle.record.proofs.Own.{head_own}
use Rattle.record.proofs.Records.{records-here, records-end}
use Rattle.record.proofs.RecordSizes.{head_fits, head_known}
use Rattle.record.specs.Inside.Front.{front_of}
use Rattle.record.specs.Inside.HeadFault.{last_kind}
use Rattle.record.specs.Inside.FrontRecord.{front_record, count_of}
use Rattle.record.specs.Table.{Record, records_of, of_kind, name_count}
use Rattle.record.specs.Inside.Front.{Front}
use Rattle.ty.specs.Choose.{choose}

-- how many records are before the first whose kind is k or more
unfoldable pub count_below : ℕ → List Record → ℕ
count_below k [] = 0
count_below k (r ∷ rs) = choose (ltb (front_of r).kind k) (suc (count_below k rs)) 0

no_names_lem : (earlier rs : List Record) → CleanFrom earlier rs → 1 < last_kind earlier → of_kind 1 rs ≡ []
unfolding of_kind choose
no_names_lem earlier [] c l = refl
no_names_lem earlier (r ∷ rs) c l =
    let h = c.0.rises in
    rw (← same_kind r, ne_eqb (front_of r).kind 1 (λ z. omega arith)) (no_names_lem (r ∷ earlier) rs c.1 (omega arith))

-- the first record: a name, or no name is behind it
name_first : (earlier : List Record) (r : Record) (rs : List Record) → CleanFrom earlier (r ∷ rs) → (front_of r).kind < 2 → of_kind 1 (r ∷ rs) ≡ r ∷ of_kind 1 rs
unfolding of_kind choose
name_first earlier r rs c l =
    let k = head_known r c.0.whole in
    let e : (front_of r).kind ≡ 1 = omega arith in
    rw (← same_kind r, eq-eqb (front_of r).kind 1 e)

-- behind the names there is none
pub names_past : (i : ℕ) (earlier rs : List Record) → CleanFrom earlier rs → count_below 2 rs ≤ i → get_or (of_kind 1 rs) i [] ≡ []
unfolding count_below choose
names_past i earlier [] c h = none
  where
    none : get_or (of_kind 1 []) i [] ≡ []
    none = unfold of_kind in refl
names_past i earlier (r ∷ rs) c h = go i h (ltb (front_of r).kind 2) refl (λ j l. names_past j (r ∷ earlier) rs c.1 l)
  where
    go : (i : ℕ) → choose (ltb (front_of r).kind 2) (suc (count_below 2 rs)) 0 ≤ i → (v : Bool) → ltb (front_of r).kind 2 ≡ v
        → ((j : ℕ) → count_below 2 rs ≤ j → get_or (of_kind 1 rs) j [] ≡ [])
        → get_or (of_kind 1 (r ∷ rs)) i [] ≡ []
    go zero h true q ih = absurd (not-suc-le-zero (rw q at h))
    go (suc i) h true q ih =
        ap (λ (x : List Record). get_or x (suc i) []) (name_first earlier r rs c (ltb-true (front_of r).kind 2 q)) ∙ ih i (le_of_suc-le-suc (rw q at h))
    go i h false q ih =
        let l = ltb-false (front_of r).kind 2 q in
        ap (λ (x : List Record). get_or x i []) (later ∙ no_names_lem (r ∷ earlier) rs c.1 (omega arith))
      where
        later : of_kind 1 (r ∷ rs) ≡ of_kind 1 rs
        later = unfold of_kind in rw (← same_kind r, ne_eqb (front_of r).kind 1 (λ z. omega (arith, ltb-false (front_of r).kind 2 q)))

-- a name at the front of some bytes
record NameFirst (s : List ℕ) (earlier : List Record) : Type 0 where
  len : (front_of s).len ≡ 26
  names : of_kind 1 (records_of s) ≡ front_record s ∷ of_kind 1 (records_of (drop 26 s))
  count : count_below 2 (records_of s) ≡ suc (count_below 2 (records_of (drop 26 s)))
  clean : CleanFrom (front_record s ∷ earlier) (records_of (drop 26 s))

name_front : (s : List ℕ) (earlier : List Record) → CleanFrom earlier (records_of s) → 0 < count_below 2 (records_of s) → NameFirst s earlier
unfolding count_below choose
name_front [] earlier c h = absurd (omega (arith, ap (count_below 2) (records-end [] 0 (omega arith))))
name_front (b ∷ bs) earlier c h = go (ltb (front_of r).kind 2) refl
  where
    s : List ℕ
    s = b ∷ bs

    r : Record
    r = front_record (b ∷ bs)

    some : 0 < length (b ∷ bs)
    some = omega arith

    here : records_of (b ∷ bs) ≡ front_record (b ∷ bs) ∷ records_of (drop (front_of (b ∷ bs)).len (b ∷ bs))
    here = records-here (b ∷ bs) some

    clean : CleanFrom earlier (front_record (b ∷ bs) ∷ records_of (drop (front_of (b ∷ bs)).len (b ∷ bs)))
    clean = subst (λ (x : List Record). CleanFrom earlier x) here c

    go : (v : Bool) → ltb (front_of (front_record (b ∷ bs))).kind 2 ≡ v → NameFirst (b ∷ bs) earlier
    go false q =
        let z : count_below 2 (records_of (b ∷ bs)) ≡ 0 = ap (count_below 2) here ∙ rw q in
        absurd (omega arith)
    go true q =
        let k = head_known (front_record (b ∷ bs)) clean.0.whole in
        let l = ltb-true (front_of (front_record (b ∷ bs))).kind 2 q in
        let o : (front_of (front_record (b ∷ bs))).kind ≡ (front_of (b ∷ bs)).kind = ap (λ (x : Front). x.kind) (head_own (b ∷ bs) some) in
        let n : (front_of (b ∷ bs)).len ≡ 26 = (head_fits (b ∷ bs)).name (omega arith) in
        record {
          len = n;
          names =
              ap (of_kind 1) here
              ∙ name_first earlier (front_record (b ∷ bs)) (records_of (drop (front_of (b ∷ bs)).len (b ∷ bs))) clean l
              ∙ ap (λ (x : ℕ). front_record (b ∷ bs) ∷ of_kind 1 (records_of (drop x (b ∷ bs)))) n;
          count = ap (count_below 2) here ∙ rw q (ap (λ (x : ℕ). suc (count_below 2 (records_of (drop x (b ∷ bs))))) n);
          clean = subst (λ (x : ℕ). CleanFrom (front_record (b ∷ bs) ∷ earlier) (records_of (drop x (b ∷ bs)))) n clean.1;
        }

-- NAME i has its 26 bytes from byte 26 i on
pub name_at_lem : (i : ℕ) (s : List ℕ) (earlier : List Record) → CleanFrom earlier (records_of s) → i < count_below 2 (records_of s) → (j : ℕ) → j < 26
    → get_or (get_or (of_kind 1 (records_of s)) i []) j 0 ≡ get_or s (26 * i + j) 0
name_at_lem zero s earlier c h j l =
    let f = name_front s earlier c h in
    let z : j ≡ 26 * zero + j = omega arith in
    ap (λ (x : List Record). get_or (get_or x 0 []) j 0) f.names
    ∙ get_or-take (front_of s).len s j 0 (omega (arith, f.len))
    ∙ ap (λ (k : ℕ). get_or s k 0) z
name_at_lem (suc i) s earlier c h j l =
    let f = name_front s earlier c (omega arith) in
    let e : 26 + (26 * i + j) ≡ 26 * suc i + j = omega arith in
    ap (λ (x : List Record). get_or (get_or x (suc i) []) j 0) f.names
    ∙ name_at_lem i (drop 26 s) (front_record s ∷ earlier) f.clean (omega (arith, f.count)) j l
    ∙ get_or-drop 26 s (26 * i + j) 0
    ∙ ap (λ (k : ℕ). get_or s k 0) e

-- they are as many as the names
count_none : (earlier rs : List Record) → CleanFrom earlier rs → 1 < last_kind earlier → count_of 1 rs ≡ 0
unfolding count_of choose
count_none earlier [] c l = refl
count_none earlier (r ∷ rs) c l =
    let h = c.0.rises in
    rw (ne_eqb (front_of r).kind 1 (λ z. omega arith)) (omega (arith, count_none (r ∷ earlier) rs c.1 (omega arith)))

counted : (earlier rs : List Record) → CleanFrom earlier rs → count_of 1 rs ≡ count_below 2 rs
unfolding count_below count_of choose
counted earlier [] c = refl
counted earlier (r ∷ rs) c = go (ltb (front_of r).kind 2) refl (counted (r ∷ earlier) rs c.1)
  where
    go : (v : Bool) → ltb (front_of r).kind 2 ≡ v → count_of 1 rs ≡ count_below 2 rs → count_of 1 (r ∷ rs) ≡ choose (ltb (front_of r).kind 2) (suc (count_below 2 rs)) 0
    go true q ih =
        let k = head_known r c.0.whole in
        let l = ltb-true (front_of r).kind 2 q in
        let e : (front_of r).kind ≡ 1 = omega arith in
        rw (q, eq-eqb (front_of r).kind 1 e) (omega (arith, ih))
    go false q ih =
        let l = ltb-false (front_of r).kind 2 q in
        let n : (front_of r).kind ≡ 1 → ⊥ = λ z. omega arith in
        rw (q, ne_eqb (front_of r).kind 1 n) (omega (arith, count_none (r ∷ earlier) rs c.1 (omega arith)))

pub names_counted : (earlier rs : List Record) → CleanFrom earlier rs → name_count rs ≡ count_below 2 rs
names_counted earlier rs c = sym (same_count 1 rs) ∙ counted earlier rs c
