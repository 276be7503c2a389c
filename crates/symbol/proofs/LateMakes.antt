-- The entries for the classes ahead, record by record.
use Prim.Native.Nat.{ℕ, ◌+◌, ◌≤◌}
use borrow.Author.Tests.{eq-eqb, ne_eqb}
use lib.ListN.{length, drop}
use mathlib.Core.Bool.{Bool, true, false, ◌||◌}
use mathlib.Core.List.{List, ◌∷◌}
use mathlib.Core.Path.{◌≡◌, refl, sym, ap, ◌∙◌, subst}
use native.Mathlib.Omega.{arith}
use Rattle.index.proofs.Aheads.{ahead_made}
use Rattle.index.specs.Inside.Ahead.{marked_from, Looked}
use Rattle.record.proofs.Records.{here_cons, before_next, records-end}
use Rattle.record.specs.Inside.Front.{front_of}
use Rattle.record.specs.Inside.HeadFault.{parent_missing, own_fault, key_fault}
use Rattle.record.specs.Inside.Walk.{start, Sits, CursorAt, StepIs, record_at}
use Rattle.record.specs.Table.{Record, records_of, before}
use Rattle.record.specs.Inside.Front.{Front}
use Rattle.record.specs.declared.walk.Cursor.{Cursor}
use Rattle.record.specs.declared.walk.Step.{Step}
use Rattle.symbol.specs.Inside.LateMade.{late_looked, late_from, late_made}
use Rattle.ty.proofs.Choice.{choose_yes, choose_no}
use Rattle.ty.specs.Choose.{choose}

-- ---- one record
module _ (t : List ℕ) (e : ℕ) (missing looked : Bool) (late : List ℕ) where
  pub look_before : looked ≡ true → late ≡ late_looked t e missing looked late
  unfolding late_looked
  look_before h = sym (choose_yes _ _ _ h)

  pub look_none : looked ≡ false → missing ≡ false → late ≡ late_looked t e missing looked late
  unfolding late_looked
  look_none h z = sym (choose_no _ _ _ h ∙ choose_no _ _ _ z)

  pub look_made : (late' : List ℕ) → late' ≡ marked_from t e late → looked ≡ false → missing ≡ true → late' ≡ late_looked t e missing looked late
  unfolding late_looked
  look_made late' a h z = a ∙ sym (choose_no _ _ _ h ∙ choose_yes _ _ _ z)

-- the entries serve the record
look_serves : (t : List ℕ) (e : ℕ) (late : List ℕ) → Sits t e → (missing looked : Bool) → Looked t late e looked
    → Looked t (late_looked t e missing looked late) e (looked || missing)
unfolding late_looked choose
look_serves t e late w missing true a = a
look_serves t e late w true false a = record { from = e; low = omega arith; ahead = ahead_made t late (record { at = e; index = w.index }) w.at a _ refl }
look_serves t e late w false false a = a

module _ (t : List ℕ) (e : ℕ) (late : List ℕ) (w : Sits t e) (missing looked : Bool) (a : Looked t late e looked) (late' : List ℕ) (r : Bool) (turned : r ≡ (looked || missing))
    (made : late' ≡ late_looked t e missing looked late) where
  pub look_after : Looked t late' e r
  look_after =
      subst (λ (z : List ℕ). Looked t z e r) (sym made)
      (subst (λ (z : Bool). Looked t (late_looked t e missing looked late) e z) (sym turned) (look_serves t e late w missing looked a))

  pub look_seen : missing ≡ true → r ≡ true
  look_seen z = turned ∙ ap (λ (v : Bool). looked || v) z ∙ or_true looked
    where
      or_true : (v : Bool) → (v || true) ≡ true
      or_true true = refl
      or_true false = refl

-- ---- the pass: what is left to be done comes to the same as all of it
abbrev pub Noting : List ℕ → List ℕ → List ℕ → Cursor → Bool → Type 0
Noting t late₀ late c looked =
    choose looked late (late_from t c.at (before c.index (records_of t)) (records_of (drop c.at t)) late) ≡ late_made t late₀

pub noting_start : (t late : List ℕ) (c : Cursor) → c ≡ start → Noting t late late c false
unfolding before late_made choose
noting_start t late c e = ap (λ (z : Cursor). late_from t z.at (before z.index (records_of t)) (records_of (drop z.at t)) late) e

module _ (t : List ℕ) (p : ℕ) (earlier : List Record) (r : Record) (rs : List Record) (late : List ℕ) where
  late_own : (own_fault earlier r ≡ 0 → ⊥) → late_from t p earlier (r ∷ rs) late ≡ late
  unfolding late_from
  late_own h = choose_no _ _ _ (ne_eqb _ _ h)

  module _ (own : own_fault earlier r ≡ 0) where
    late_missing : parent_missing earlier r ≡ true → late_from t p earlier (r ∷ rs) late ≡ marked_from t p late
    unfolding late_from
    late_missing m = choose_yes _ _ _ (eq-eqb _ _ own) ∙ choose_yes _ _ _ m

    late_key : parent_missing earlier r ≡ false → (key_fault earlier r (r ∷ rs) ≡ 0 → ⊥) → late_from t p earlier (r ∷ rs) late ≡ late
    unfolding late_from
    late_key m h = choose_yes _ _ _ (eq-eqb _ _ own) ∙ choose_no _ _ _ m ∙ choose_no _ _ _ (ne_eqb _ _ h)

    late_on : parent_missing earlier r ≡ false → key_fault earlier r (r ∷ rs) ≡ 0
        → late_from t p earlier (r ∷ rs) late ≡ late_from t (p + (front_of r).len) (r ∷ earlier) rs late
    unfolding late_from
    late_on m h = choose_yes _ _ _ (eq-eqb _ _ own) ∙ choose_no _ _ _ m ∙ choose_yes _ _ _ (eq-eqb _ _ h)

module _ (t late₀ late : List ℕ) (c : Cursor) (looked : Bool) (m : Noting t late₀ late c looked) where
  abbrev Left : List Record → List ℕ
  Left rs = late_from t c.at (before c.index (records_of t)) rs late

  -- at the end
  pub noting_done : length t ≤ c.at → late ≡ late_made t late₀
  unfolding late_from choose
  noting_done end = go looked m
    where
      go : (v : Bool) → choose v late (Left (records_of (drop c.at t))) ≡ late_made t late₀ → late ≡ late_made t late₀
      go true q = q
      go false q = sym (ap Left (records-end t c.at end)) ∙ q

  -- at a record
  module _ (a : CursorAt t c) (p : Step) (st : StepIs t c p) where
    abbrev Here : List Record
    Here = record_at t c ∷ records_of (drop p.next.at t)

    cons : Left (records_of (drop c.at t)) ≡ Left Here
    cons = ap Left (here_cons t c a p st)

    module _ (f : ℕ) (own : f ≡ own_fault (before c.index (records_of t)) (record_at t c)) where
      pub noting_own : (f ≡ 0 → ⊥) → late ≡ late_made t late₀
      unfolding choose
      noting_own h = go looked m
        where
          go : (v : Bool) → choose v late (Left (records_of (drop c.at t))) ≡ late_made t late₀ → late ≡ late_made t late₀
          go true q = q
          go false q = sym (cons ∙ late_own t c.at _ _ _ late (λ z. h (own ∙ z))) ∙ q

      module _ (zero : f ≡ 0) (missing : Bool) (is : missing ≡ parent_missing (before c.index (records_of t)) (record_at t c)) (late' : List ℕ)
          (made : late' ≡ late_looked t c.at missing looked late) (f₂ : ℕ)
          (key : f₂ ≡ key_fault (before c.index (records_of t)) (record_at t c) (records_of (drop c.at t))) where
        key_here_lem : f₂ ≡ key_fault (before c.index (records_of t)) (record_at t c) Here
        key_here_lem = key ∙ ap (key_fault (before c.index (records_of t)) (record_at t c)) (here_cons t c a p st)

        pub noting_key : (f₂ ≡ 0 → ⊥) → late' ≡ late_made t late₀
        unfolding late_looked choose
        noting_key h = made ∙ go looked m missing is
          where
            go : (v : Bool) → choose v late (Left (records_of (drop c.at t))) ≡ late_made t late₀ → (w : Bool)
                → w ≡ parent_missing (before c.index (records_of t)) (record_at t c) → late_looked t c.at w v late ≡ late_made t late₀
            go true q w z = q
            go false q true z = sym (cons ∙ late_missing t c.at _ _ _ late (sym own ∙ zero) (sym z)) ∙ q
            go false q false z = sym (cons ∙ late_key t c.at _ _ _ late (sym own ∙ zero) (sym z) (λ y. h (key_here_lem ∙ y))) ∙ q

        pub noting_next : f₂ ≡ 0 → (r : Bool) → r ≡ (looked || missing) → Noting t late₀ late' p.next r
        unfolding late_looked choose
        noting_next h r turned =
            (λ i. choose (turned i) (made i) (late_from t p.next.at (before p.next.index (records_of t)) (records_of (drop p.next.at t)) (made i)))
            ∙ go looked m missing is
          where
            next : (l : List ℕ) → late_from t p.next.at (before p.next.index (records_of t)) (records_of (drop p.next.at t)) l
                ≡ late_from t (c.at + (front_of (record_at t c)).len) (record_at t c ∷ before c.index (records_of t)) (records_of (drop p.next.at t)) l
            next l =
                let q : p.next.at ≡ c.at + (front_of (record_at t c)).len = st.next ∙ ap (λ (x : Front). c.at + x.len) (sym st.head ∙ st.own) in
                λ i. late_from t (q i) (before_next t c a p st i) (records_of (drop p.next.at t)) l

            go : (v : Bool) → choose v late (Left (records_of (drop c.at t))) ≡ late_made t late₀ → (w : Bool)
                → w ≡ parent_missing (before c.index (records_of t)) (record_at t c)
                → choose (v || w) (late_looked t c.at w v late) (late_from t p.next.at (before p.next.index (records_of t)) (records_of (drop p.next.at t)) (late_looked t c.at w v late))
                ≡ late_made t late₀
            go true q w z = q
            go false q true z = sym (cons ∙ late_missing t c.at _ _ _ late (sym own ∙ zero) (sym z)) ∙ q
            go false q false z = next late ∙ sym (cons ∙ late_on t c.at _ _ _ late (sym own ∙ zero) (sym z) (sym key_here_lem ∙ h)) ∙ q
