-- Whether one of the records before a byte matches a test.
use Prim.Native.Nat.{ℕ, zero, suc, ◌+◌, ◌-◌, ◌≤◌, ◌<◌}
use borrow.Author.Tests.{eqb-true, eq-eqb, ne_eqb}
use lib.Dec.{eqb, ltb}
use lib.ListN.{length, get_or, drop, length-drop}
use lib.Seq.{get_or-drop}
use mathlib.Core.Bool.{Bool, true, false, ◌&&◌, ◌||◌, true≢false}
use mathlib.Core.List.{List, [], ◌∷◌}
use mathlib.Core.Path.{◌≡◌, refl, sym, ap, ◌∙◌, subst}
use native.Mathlib.Omega.{arith, not-le}
use Rattle.ty.specs.Bytes.{id_at, same_bytes}
use Rattle.index.proofs.Chains.{behind-before}
use Rattle.index.proofs.ListSearch.{sits_before, sits-own, sits_at, sits_later, raw_test}
use Rattle.record.proofs.Records.{at_start}
use Rattle.record.proofs.RecordSizes.{head_kind}
use Rattle.record.specs.Inside.Front.{front_of}
use Rattle.record.specs.Inside.HeadFault.{name_bytes, same_key, has_key, is_class, has_class}
use Rattle.record.specs.Inside.FrontRecord.{front_record}
use Rattle.record.specs.Table.{Record, records_of, before}
use Rattle.index.specs.Inside.SearchKey.{name_bytes_at, key_matches}
use Rattle.record.specs.Inside.Walk.{CursorAt, Sits, WholeRecordAt, behind}
use Rattle.index.proofs.StandingFront.{Standing, standing_room, standing_bytes}
use Rattle.index.specs.declared.index.Place.{Place}
use Rattle.index.specs.declared.tree.Key.{Key}
use Rattle.index.specs.declared.tree.Key.TheVariants.{Name, Ids}
use Rattle.record.specs.declared.walk.Cursor.{Cursor}

-- some record of a list matches a test
unfoldable pub any_of : (Record → Bool) → List Record → Bool
any_of f [] = false
any_of f (r ∷ rs) = f r || any_of f rs

pub any_key : (x : Record) (rs : List Record) → any_of (λ r. same_key r x) rs ≡ has_key x rs
unfolding any_of has_key
any_key x [] = refl
any_key x (r ∷ rs) = ap (λ (v : Bool). same_key r x || v) (any_key x rs)

pub any-class : (id : ℕ) (rs : List Record) → any_of (λ r. is_class id (front_of r)) rs ≡ has_class id rs
unfolding any_of has_class
any-class id [] = refl
any-class id (r ∷ rs) = ap (λ (v : Bool). is_class id (front_of r) || v) (any-class id rs)

-- the byte where a record begins says its number
one_number : (t : List ℕ) (p i j : ℕ) → CursorAt t (record { at = p; index = i }) → CursorAt t (record { at = p; index = j }) → i ≡ j
one_number t p i j a b =
    let e = sym a.sits ∙ b.sits in
    omega (arith, length-drop i (records_of t), length-drop j (records_of t), ap (λ (l : List Record). length l) e, a.count, b.count)

module _ (t : List ℕ) (f : Record → Bool) where
  -- what matches among the records before that at p
  abbrev some_before : (p : ℕ) → Sits t p → Bool
  some_before p w = any_of f (before w.index (records_of t))

  abbrev sits_behind : (p : ℕ) (w : Sits t p) → p < length t → Sits t (behind t p)
  sits_behind p w s = record { index = w.index + 1; at = sits_at t p w s }

  one_more : (p : ℕ) (w : Sits t p) (s : p < length t) → some_before (behind t p) (sits_behind p w s) ≡ (f (front_record (drop p t)) || some_before p w)
  unfolding any_of
  one_more p w s = ap (any_of f) (sits_before t p w s)

  same_byte : (p q : ℕ) (w : Sits t p) (v : Sits t q) → p ≡ q → some_before p w ≡ some_before q v
  same_byte p q w v e =
      ap (λ (i : ℕ). any_of f (before i (records_of t)))
      (one_number t p w.index v.index w.at (subst (λ (z : ℕ). CursorAt t (record { at = z; index = v.index })) (sym e) v.at))

  -- what passed before p matches before e
  stays : (e : ℕ) (v : Sits t e) (m p : ℕ) → e - p ≤ m → (w : Sits t p) → p ≤ e → some_before p w ≡ true → some_before e v ≡ true
  stays e v zero p h w l y = sym (same_byte p e w v (omega arith)) ∙ y
  stays e v (suc m) p h w l y = go (eqb p e) refl (λ s k z. stays e v m (behind t p) (omega (arith, sits_later t p w s)) (sits_behind p w s) k z)
    where
      go : (u : Bool) → eqb p e ≡ u → ((s : p < length t) → behind t p ≤ e → some_before (behind t p) (sits_behind p w s) ≡ true → some_before e v ≡ true) → some_before e v ≡ true
      go true q ih = sym (same_byte p e w v (eqb-true p e q)) ∙ y
      go false q ih =
          let a : p < e = not-le e p (λ k. true≢false (sym (eq-eqb p e (omega arith)) ∙ q)) in
          let s : p < length t = omega (arith, v.at.inside) in
          ih s (behind-before t p e w v a) (one_more p w s ∙ rw y (or_true (f (front_record (drop p t)))))
        where
          or_true : (b : Bool) → b || true ≡ true
          or_true true = refl
          or_true false = refl

  -- what passed at p matches before e
  pub passed_before : (e : ℕ) (v : Sits t e) (p : ℕ) (w : Sits t p) → p < e → f (front_record (drop p t)) ≡ true → some_before e v ≡ true
  passed_before e v p w l y =
      let s : p < length t = omega (arith, l, v.at.inside) in
      stays e v (e - behind t p) (behind t p) (omega arith) (sits_behind p w s) (behind-before t p e w v l)
      (one_more p w s ∙ ap (λ (u : Bool). u || some_before p w) y)

  -- where no record before e matches
  none_before : (e : ℕ) (v : Sits t e) → ((q : ℕ) → Sits t q → q < e → f (front_record (drop q t)) ≡ false)
      → (m p : ℕ) → e - p ≤ m → (w : Sits t p) → p ≤ e → some_before p w ≡ false → some_before e v ≡ false
  none_before e v fails zero p h w l y = same_byte e p v w (omega arith) ∙ y
  none_before e v fails (suc m) p h w l y =
      go (eqb p e) refl (λ s k z. none_before e v fails m (behind t p) (omega (arith, sits_later t p w s)) (sits_behind p w s) k z)
    where
      go : (u : Bool) → eqb p e ≡ u → ((s : p < length t) → behind t p ≤ e → some_before (behind t p) (sits_behind p w s) ≡ false → some_before e v ≡ false) → some_before e v ≡ false
      go true q ih = same_byte e p v w (sym (eqb-true p e q)) ∙ y
      go false q ih =
          let a : p < e = not-le e p (λ k. true≢false (sym (eq-eqb p e (omega arith)) ∙ q)) in
          let s : p < length t = omega (arith, v.at.inside) in
          ih s (behind-before t p e w v a) (one_more p w s ∙ ap (λ (u : Bool). u || some_before p w) (fails p w a) ∙ y)

  pub failed_before : (e : ℕ) (v : Sits t e) → ((q : ℕ) → Sits t q → q < e → f (front_record (drop q t)) ≡ false) → some_before e v ≡ false
  unfolding before any_of
  failed_before e v fails = none_before e v fails e 0 (omega arith) (record { index = 0; at = at_start t }) (omega arith) refl

-- ---- a record by its bytes
module _ (t : List ℕ) (p : ℕ) (w : WholeRecordAt t p) where
  pub begun_own : front_of (front_record (drop p t)) ≡ front_of (drop p t)
  begun_own = sits-own t p w.sits w.some

  pub begun_kind : (front_of (drop p t)).kind ≡ get_or t p 0
  begun_kind = let e : p + 0 ≡ p = omega arith in head_kind (drop p t) w.whole ∙ get_or-drop p t 0 0 ∙ ap (λ (n : ℕ). get_or t n 0) e

  abbrev place : Cursor
  place = record { at = p; index = w.sits.index }

  pub begun_stands : Standing t place (front_of (drop p t))
  begun_stands = record { at = w.sits.at; some = w.some; head = refl }

  -- the test of a key by the record's bytes
  pub has_other : (k : Key) (a : Place) → k ≡ Name a → (get_or t p 0 ≡ 1 → ⊥) → false ≡ key_matches t k (front_record (drop p t))
  has_other k a e n =
      subst (λ (z : Key). false ≡ key_matches t z (front_record (drop p t))) (sym e)
      (rw (begun_own, begun_kind, ne_eqb _ _ n))

  pub has_name : (k : Key) (a : Place) → k ≡ Name a → get_or t p 0 ≡ 1 → same_bytes (name_bytes_at t p) (name_bytes_at t a.at) ≡ key_matches t k (front_record (drop p t))
  has_name k a e n =
      let o : name_bytes_at t p ≡ name_bytes (front_record (drop p t)) = standing_bytes t place (front_of (drop p t)) begun_stands (begun_kind ∙ n) in
      subst (λ (z : Key). same_bytes (name_bytes_at t p) (name_bytes_at t a.at) ≡ key_matches t z (front_record (drop p t))) (sym e)
      (rw (begun_own, begun_kind, eq-eqb _ _ n, ← o))

  pub has_ids : (k : Key) (kind a b : ℕ) → k ≡ Ids kind a b → 2 ≤ kind
      → (eqb (get_or t p 0) kind && (eqb (id_at t (p + 1)) a && (ltb kind 4 || eqb (id_at t (p + 3)) b))) ≡ key_matches t k (front_record (drop p t))
  has_ids k kind a b e l =
      subst (λ (z : Key). (eqb (get_or t p 0) kind && (eqb (id_at t (p + 1)) a && (ltb kind 4 || eqb (id_at t (p + 3)) b))) ≡ key_matches t z (front_record (drop p t))) (sym e)
      (raw_test t p w.sits w.some w.whole kind a b l)

  pub has_room : get_or t p 0 ≡ 1 → p + 26 ≤ length t
  has_room n = standing_room t place (front_of (drop p t)) begun_stands (begun_kind ∙ n)
