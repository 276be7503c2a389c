-- Number 6: a superclass or interface without an earlier record has a later one exactly where the classes ahead say so.
use Prim.Native.Nat.{ℕ, ◌+◌, ◌≤◌}
use borrow.Author.Tests.{eqb-false, eq-eqb, ne_eqb}
use lib.Dec.{eqb, ltb}
use lib.ListN.{get_or, drop}
use mathlib.Core.Bool.{Bool, true, false, not, ◌&&◌, ◌||◌}
use mathlib.Core.List.{List}
use mathlib.Core.Path.{◌≡◌, refl, sym, ap, ◌∙◌}
use native.Mathlib.Omega.{arith}
use Rattle.record.proofs.RecordSizes.{stands_own, head_fits}
use Rattle.record.proofs.Records.{record_byte}
use Rattle.record.specs.RecordKind.{record_kind_number}
use Rattle.record.specs.Inside.HeadFault.{has_class, id_missing, id_late, first_interface_at, second_interface_at, some_parent, parent_late, parent_missing}
use Rattle.record.specs.Inside.Front.{Front, front_of}
use Rattle.record.specs.Table.{Record, records_of, before}
use Rattle.symbol.specs.Inside.Asked.{missing_one, none_missing, missing_of, missing_at, any_missing, is_ahead, any_ahead}
use Rattle.symbol.specs.Inside.Join.{AheadAsked, KeyAsked}
use Rattle.record.specs.Inside.Walk.{CursorAt, Stands, record_at}
use Rattle.std.specs.Prelude.{Option}
use Rattle.ty.proofs.Choice.{choose_yes, choose_no, and_left}
use Rattle.ty.specs.Bytes.{id_at}
use Rattle.ty.specs.Choose.{choose}
use Rattle.ty.specs.Name.{no_id}
use Rattle.symbol.specs.declared.checks.Entry.{Entry}
use Rattle.symbol.specs.declared.checks.Missing.{Missing}
use Rattle.record.specs.declared.front.Head.{Head}
use Rattle.record.specs.declared.walk.Cursor.{Cursor}
use Rattle.index.proofs.Aheads.{ahead_class}

-- ---- one id where no earlier record is its class
module _ (earlier : List Record) (id : ℕ) where
  one_some : not (eqb (missing_one earlier id) no_id) ≡ id_missing earlier id
  unfolding choose
  one_some = go (id_missing earlier id) refl
    where
      go : (v : Bool) → id_missing earlier id ≡ v → not (eqb (choose v id no_id) no_id) ≡ v
      go true q = and_left (not (eqb id no_id)) (not (has_class id earlier)) q
      go false q = refl

  pub one_is : (missing_one earlier id ≡ no_id → ⊥) → (id_missing earlier id ≡ true) × (missing_one earlier id ≡ id)
  unfolding choose
  one_is n = go (id_missing earlier id) refl n
    where
      go : (v : Bool) → id_missing earlier id ≡ v → (choose v id no_id ≡ no_id → ⊥) → (id_missing earlier id ≡ true) × (choose v id no_id ≡ id)
      go true q m = (q, refl)
      go false q m = absurd (m refl)

  -- what tests say of it
  pub one_none : id ≡ no_id → no_id ≡ missing_one earlier id
  one_none e = sym (choose_no _ _ _ (rw (eq-eqb _ _ e)))

  pub one_before : (v : Bool) → v ≡ has_class id earlier → v ≡ true → no_id ≡ missing_one earlier id
  one_before v q e = sym (choose_no _ _ _ (ap (λ (b : Bool). not (eqb id no_id) && not b) (sym q ∙ e) ∙ and_no (not (eqb id no_id))))
    where
      and_no : (b : Bool) → b && false ≡ false
      and_no true = refl
      and_no false = refl

  pub one_told : (id ≡ no_id → ⊥) → (v : Bool) → v ≡ has_class id earlier → v ≡ false → id ≡ missing_one earlier id
  one_told n v q e = sym (choose_yes _ _ _ (rw (ne_eqb _ _ n, ← q, e)))

-- ---- those of a record: those of a class
abbrev pub three : List Record → ℕ → ℕ → ℕ → Missing
three earlier a b d =
    record { superclass = missing_one earlier a; first_interface = missing_one earlier b; second_interface = missing_one earlier d }

module _ (earlier : List Record) (r : Record) where
  abbrev pub own-three : Missing
  own-three = three earlier (front_of r).two (first_interface_at r) (second_interface_at r)

  pub missing_some : (m : Missing) → m ≡ missing_of earlier r → any_missing m ≡ parent_missing earlier r
  unfolding parent_missing choose
  missing_some m e = ap any_missing e ∙ go (eqb (front_of r).kind 2)
    where
      go : (v : Bool) → any_missing (choose v own-three none_missing) ≡ (v && some_parent (id_missing earlier) r)
      go true = λ i. one_some earlier (front_of r).two i || (one_some earlier (first_interface_at r) i || one_some earlier (second_interface_at r) i)
      go false = refl

  -- one of them, by the field of `Missing`
  module _ (field : Missing → ℕ) (absent : field none_missing ≡ no_id) (m : Missing) (e : m ≡ missing_of earlier r) where
    pub of-class : (field m ≡ no_id → ⊥) → (eqb (front_of r).kind 2 ≡ true) × (field m ≡ field own-three)
    unfolding choose
    of-class n = go (eqb (front_of r).kind 2) refl e
      where
        go : (v : Bool) → eqb (front_of r).kind 2 ≡ v → m ≡ choose v own-three none_missing → (eqb (front_of r).kind 2 ≡ true) × (field m ≡ field own-three)
        go true q w = (q, ap field w)
        go false q w = absurd (n (ap field w ∙ absent))

-- ---- what the code reads of them
module _ (t : List ℕ) (c : Cursor) (h : Head) (st : Stands t c h) where
  abbrev earlier : List Record
  earlier = before c.index (records_of t)

  pub missing_other : (record_kind_number h.kind ≡ 2 → ⊥) → none_missing ≡ missing_at t c
  missing_other n = let x = stands_own t c h st in sym (choose_no _ _ _ (rw (← x, ne_eqb _ _ n)))

  module _ (k : record_kind_number h.kind ≡ 2) where
    -- a class has twelve bytes
    pub class_id : (i : ℕ) → i + 2 ≤ 12 → id_at (record_at t c) i ≡ id_at t (c.at + i)
    class_id i l =
        let f = (head_fits (drop c.at t)).class (sym (ap (λ (x : Front). x.kind) st.head) ∙ k) in
        let e : c.at + (i + 1) ≡ c.at + i + 1 = omega arith in
        rw (record_byte t c i 0 (omega arith), record_byte t c (i + 1) 0 (omega arith), e)

    pub missing_class : three earlier h.two (id_at t (c.at + 5)) (id_at t (c.at + 7)) ≡ missing_at t c
    missing_class =
        let x = stands_own t c h st in
        (λ i. three earlier (x i).two (sym (class_id 5 (omega arith)) i) (sym (class_id 7 (omega arith)) i))
        ∙ sym (choose_yes _ _ _ (rw (← x, eq-eqb _ _ k)))

-- ---- whether one has a later record
module _ (t late : List ℕ) (c : Cursor) (at : CursorAt t c) where
  abbrev rest : List Record
  rest = records_of (drop c.at t)

  one_late : (id m : ℕ) → m ≡ missing_one (before c.index (records_of t)) id → AheadAsked t late c m
      → is_ahead late c.at m ≡ id_late (before c.index (records_of t)) rest id
  one_late id m e k = go (eqb m no_id) refl
    where
      some : not (eqb m no_id) ≡ id_missing (before c.index (records_of t)) id
      some = ap (λ (x : ℕ). not (eqb x no_id)) e ∙ one_some (before c.index (records_of t)) id

      go : (v : Bool) → eqb m no_id ≡ v → not (eqb m no_id) && ltb c.at (get_or late m 0) ≡ id_late (before c.index (records_of t)) rest id
      go true q =
          ap (λ (b : Bool). not b && ltb c.at (get_or late m 0)) q
          ∙ ap (λ (b : Bool). b && has_class id rest) (sym (ap not q) ∙ some)
      go false q =
          let n = eqb-false m no_id q in
          let i = one_is (before c.index (records_of t)) id (λ z. n (e ∙ z)) in
          let a = k.ahead n in
          ap (λ (b : Bool). not b && ltb c.at (get_or late m 0)) q
          ∙ sym (ahead_class t late a.from c.at m a.ahead (record { index = c.index; at = at }) a.low (k.low n))
          ∙ ap (λ (j : ℕ). has_class j rest) (e ∙ i.1) ∙ ap (λ (u : Bool). u && has_class id rest) (sym i.0)

module _ (t late : List ℕ) (c : Cursor) (h : Head) (e : Option Entry) (m : Missing) (k : KeyAsked t late c h e m) where
  pub late_is : any_ahead late c.at m ≡ parent_late (before c.index (records_of t)) (record_at t c) (records_of (drop c.at t))
  unfolding parent_late choose
  late_is = go (eqb (front_of (record_at t c)).kind 2) k.is
    where
      go : (v : Bool) → m ≡ choose v (own-three (before c.index (records_of t)) (record_at t c)) none_missing
          → any_ahead late c.at m ≡ (v && some_parent (id_late (before c.index (records_of t)) (records_of (drop c.at t))) (record_at t c))
      go true q =
          let at = k.stands.at in
          λ i.
          one_late t late c at _ m.superclass (ap (λ (x : Missing). x.superclass) q) k.superclass i
          || (one_late t late c at _ m.first_interface (ap (λ (x : Missing). x.first_interface) q) k.first_interface i
          || one_late t late c at _ m.second_interface (ap (λ (x : Missing). x.second_interface) q) k.second_interface i)
      go false q = ap (any_ahead late c.at) q
