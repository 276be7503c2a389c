-- Names have 26 bytes each, so there are few before a cursor, and ids that are defined there are low.
use Prim.Native.Nat.{ℕ, zero, suc, ◌+◌, ◌*◌, ◌≤◌, ◌<◌}
use borrow.Author.Tests.{eqb-true, ne_eqb, ltb-true, lt-ltb}
use lib.Dec.{eqb, ltb}
use lib.ListN.{length, get_or, drop, length-append, length-drop}
use lib.Seq.{drop-cons, length-take-le}
use mathlib.Core.Bool.{Bool, true, false}
use mathlib.Core.List.{List, [], ◌∷◌}
use mathlib.Core.Path.{◌≡◌, refl, sym, ap, ◌∙◌, subst}
use native.Mathlib.Omega.{arith}
use Rattle.record.specs.declared.front.Head.{Head}
use Rattle.record.specs.Inside.Front.{front_of_head}
use Rattle.record.specs.RecordKind.{record_kind_number}
use Rattle.ty.specs.Choose.{choose}
use Rattle.ty.proofs.Choice.{by_choice, choose_no}
use Rattle.index.proofs.ListSearch.{drop_id}
use Rattle.ty.specs.Bytes.{id_at}
use Rattle.ty.specs.Name.{first_table_id, no_id, id_defined}
use Rattle.record.proofs.Bounds.{head_bounded}
use Rattle.record.proofs.Own.{head_own}
use Rattle.record.proofs.Records.{records-here, records-joined, records-end}
use Rattle.record.proofs.RecordSizes.{head_fits, head_by_lem}
use Rattle.index.specs.Inside.Ahead.{late_size}
use Rattle.record.specs.Inside.Front.{broken_head, plain_head, or_none, class_head, head_by, front_of}
use Rattle.record.specs.Inside.FrontRecord.{front_record, count_of}
use Rattle.record.specs.Table.{Record, records_of, joined, before}
use Rattle.record.specs.Inside.Walk.{CursorAt, Stands}
use Rattle.record.specs.Inside.Front.{Front}
use Rattle.record.specs.declared.walk.Cursor.{Cursor}

-- each name among some records has 26 bytes
abbrev Sized : List Record → Type 0
Sized rs = (k : ℕ) → k < length rs → (front_of (get_or rs k [])).kind ≡ 1 → length (get_or rs k []) ≡ 26

sized_cons : (r : Record) (rs : List Record) → ((front_of r).kind ≡ 1 → length r ≡ 26) → Sized rs → Sized (r ∷ rs)
sized_cons r rs h t zero l e = h e
sized_cons r rs h t (suc k) l e = t k (omega arith) e

front_sized : (s : List ℕ) → 0 < length s → (front_of (front_record s)).kind ≡ 1 → length (front_record s) ≡ 26
front_sized s h q =
    let o : (front_of (front_record s)).kind ≡ (front_of s).kind = ap (λ (x : Front). x.kind) (head_own s h) in
    length-take-le (front_of s).len s (head_bounded s h).high ∙ (head_fits s).name (sym o ∙ q)

records_sized : (n : ℕ) (s : List ℕ) → length s ≤ n → Sized (records_of s)
records_sized zero s h = subst (λ (x : List Record). Sized x) (sym (records-end s 0 h)) (λ k l e. absurd (omega arith))
records_sized (suc n) [] h = subst (λ (x : List Record). Sized x) (sym (records-end [] 0 (omega arith))) (λ k l e. absurd (omega arith))
records_sized (suc n) (b ∷ bs) h =
    let s = b ∷ bs in
    let some : 0 < length s = omega arith in
    subst (λ (x : List Record). Sized x) (sym (records-here s some))
    (sized_cons (front_record s) (records_of (drop (front_of s).len s)) (front_sized s some)
    (records_sized n (drop (front_of s).len s) (omega (arith, length-drop (front_of s).len s, (head_bounded s some).low))))

-- the first n of some records, and the bytes of the others
names-before : (rs : List Record) → Sized rs → (n : ℕ) → n ≤ length rs → 26 * count_of 1 (before n rs) + length (joined (drop n rs)) ≤ length (joined rs)
unfolding before count_of
names-before rs z zero h = omega arith
names-before rs z (suc n) h =
    let i = names-before rs z n (omega arith) in
    let d : length (joined (drop n rs)) ≡ length (get_or rs n []) + length (joined (drop (suc n) rs))
    = ap (λ (x : List Record). length (joined x)) (drop-cons rs n [] h) ∙ joined_length (get_or rs n []) (drop (suc n) rs) in
    let m = name_most (eqb (front_of (get_or rs n [])).kind 1) refl in
    omega arith
  where
    joined_length : (r : Record) (x : List Record) → length (joined (r ∷ x)) ≡ length r + length (joined x)
    joined_length r x = unfold joined in length-append r (joined x)

    name_most : (b : Bool) → eqb (front_of (get_or rs n [])).kind 1 ≡ b → 26 * choose b 1 0 ≤ length (get_or rs n [])
    name_most true e = unfold choose in omega (arith, z n h (eqb-true _ _ e))
    name_most false e = unfold choose in omega arith

module _ (t : List ℕ) (c : Cursor) (a : CursorAt t c) where
  -- THE NAMES BEFORE A CURSOR HAVE 26 BYTES EACH
  pub names_fit : 26 * count_of 1 (before c.index (records_of t)) ≤ c.at
  names_fit =
      let b = names-before (records_of t) (records_sized (length t) t (omega arith)) c.index a.count in
      let e : joined (drop c.index (records_of t)) ≡ drop c.at t = ap joined (sym a.sits) ∙ records-joined (drop c.at t) in
      omega (arith, ap (λ (x : List ℕ). length x) e, ap (λ (x : List ℕ). length x) (records-joined t), length-drop c.at t, a.inside)

  -- so an id that is defined there is low
  module _ (id : ℕ) (d : id_defined id (count_of 1 (before c.index (records_of t))) ≡ true) where
    below : id < first_table_id + count_of 1 (before c.index (records_of t))
    below = ltb-true id (first_table_id + count_of 1 (before c.index (records_of t))) d

    pub id_low : id < late_size (length t)
    id_low = omega (arith, below, names_fit, a.inside)

-- ---- superclass and interfaces are among the ids that a class record examines
pub record Examined (s : List ℕ) (h : Front) : Type 0 where
  pub two : h.kind ≡ 2 → or_none h.two ≤ h.top
  pub first_interface : h.kind ≡ 2 → or_none (id_at s 5) ≤ h.top
  pub second_interface : h.kind ≡ 2 → or_none (id_at s 7) ≤ h.top

pub class_examined : (s : List ℕ) → Examined s (class_head s)
unfolding class_head plain_head
class_examined s =
    by_choice (Examined s) (ltb (length s) 12) (λ _. broken) λ _.
    by_choice (Examined s) (ltb 1 (get_or s 11 0)) (λ _. broken)
    (λ _. record { two = λ _. omega arith; first_interface = λ _. omega arith; second_interface = λ _. omega arith })
  where
    broken : Examined s (broken_head s)
    broken = record { two = λ e. absurd (omega arith); first_interface = λ e. absurd (omega arith); second_interface = λ e. absurd (omega arith) }

-- so they are defined where the record's highest id is, if they are given
abbrev pub DefinedIn : ℕ → ℕ → Type 0
DefinedIn names id = (id ≡ no_id → ⊥) → id_defined id names ≡ true

pub record ParentsDefined (t : List ℕ) (c : Cursor) (h : Head) (names : ℕ) : Type 0 where
  pub two : DefinedIn names h.two
  pub first_interface : DefinedIn names (id_at t (c.at + 5))
  pub second_interface : DefinedIn names (id_at t (c.at + 7))

pub parents_defined : (t : List ℕ) (c : Cursor) (h : Head) → Stands t c h → record_kind_number h.kind ≡ 2 → (names : ℕ) → id_defined h.top names ≡ true
    → ParentsDefined t c h names
parents_defined t c h st k names d =
    let e : front_of_head h ≡ class_head (drop c.at t) = st.head ∙ head_by_lem (drop c.at t) 2 (omega arith) (sym (ap (λ (x : Front). x.kind) st.head) ∙ k) ∙ by_class (drop c.at t) in
    let x : Examined (drop c.at t) (front_of_head h) = subst (Examined (drop c.at t)) (sym e) (class_examined (drop c.at t)) in
    record {
      two = defined h.two (x.two k);
      first_interface = subst (DefinedIn names) (drop_id t c.at 5) (defined (id_at (drop c.at t) 5) (x.first_interface k));
      second_interface = subst (DefinedIn names) (drop_id t c.at 7) (defined (id_at (drop c.at t) 7) (x.second_interface k));
    }
  where
    by_class : (s : List ℕ) → head_by 2 s ≡ class_head s
    by_class s = unfold head_by choose in refl

    defined : (id : ℕ) → or_none id ≤ h.top → DefinedIn names id
    defined id l n =
        let e : or_none id ≡ id = unfold or_none in choose_no (eqb id no_id) 0 id (ne_eqb _ _ n) in
        lt-ltb id (first_table_id + names) (omega (arith, ltb-true h.top (first_table_id + names) d))
