-- One function of a search along a bucket.
use Prim.Native.Nat.{ℕ, zero, suc, ◌+◌, ◌-◌, ◌*◌, ◌%◌, ◌≤◌, ◌<◌}
use borrow.Author.Tests.{eqb-true, eq-eqb, ne_eqb, ltb-true, ltb-false, le-ltb}
use lib.Dec.{eqb, ltb}
use lib.ListN.{length, get_or, drop, take, length-drop}
use lib.Seq.{drop-drop, get_or-drop, length-take-le}
use mathlib.Core.Bool.{Bool, true, false, ◌&&◌, ◌||◌, false≢true}
use mathlib.Core.List.{List, [], ◌∷◌}
use mathlib.Core.Path.{◌≡◌, refl, sym, ap, ◌∙◌, subst}
use native.Mathlib.Numerals.{add-one}
use native.Mathlib.Omega.{arith, not-le}
use Rattle.index.proofs.Buckets.{list-below, list_kind_of}
use Rattle.index.specs.Inside.Bucket.{key_bucket, bucket_of}
use Rattle.index.proofs.Counted.{counted, counted_found}
use Rattle.index.specs.Inside.Found.{Found, found_at, place_at, first_in, first_from, HereIs, FunctionAt, first_with, first_behind}
use Rattle.index.specs.Inside.Index.{list_count, list_in, first_at, next_in, next_from, next_at}
use Rattle.index.specs.Inside.IndexedTable.{IndexedTable}
use Rattle.index.specs.Inside.Searched.{Searched}
use Rattle.index.specs.declared.index.Place.{Place}
use Rattle.record.proofs.Accepts.{CleanFrom, clean_at, with_no}
use Rattle.record.proofs.Agree.{same_size, same_error}
use Rattle.record.proofs.Bounds.{head_bounded}
use Rattle.record.proofs.Laid.{same_kind, kind_byte, function_key}
use Rattle.record.proofs.NoFault.{Clean}
use Rattle.record.proofs.Own.{head_own}
use Rattle.record.proofs.RecordSizes.{Fits, head_fits, head_kind, head_ids}
use Rattle.record.proofs.Records.{at_start, records-here, records-end, record_byte, record_part}
use Rattle.record.specs.Inside.Front.{front_of}
use Rattle.record.specs.Inside.FrontRecord.{front_record}
use Rattle.record.specs.Inside.Keyed.{is_of, records_with}
use Rattle.record.specs.Inside.Walk.{CursorAt, Sits, behind}
use Rattle.record.specs.Table.{Record, first_record, records_of, key_of, before}
use Rattle.record.specs.TableRefused.{table_fault}
use Rattle.record.specs.Inside.Front.{Front}
use Rattle.record.specs.declared.walk.Cursor.{Cursor}
use Rattle.ty.proofs.Choice.{and_left, and_right, choose_yes, choose_no}
use Rattle.ty.specs.Bytes.{id_at}
use Rattle.ty.specs.Choose.{choose}
use Rattle.std.specs.Prelude.{None, Some}

with_yes : (k a b : ℕ) (r : Record) (rs : List Record) → is_of k a b (front_of r) ≡ true → records_with k a b (r ∷ rs) ≡ r ∷ records_with k a b rs
unfolding records_with choose
with_yes k a b r rs h = rw h

-- ---- the first record with a key
pub first_yes : (k a b p : ℕ) (r : Record) (rs : List Record) → is_of k a b (front_of r) ≡ true → first_in k a b p (r ∷ rs) ≡ suc p
unfolding first_in
first_yes k a b p r rs h = choose_yes _ _ _ h

pub first_no : (k a b p : ℕ) (r : Record) (rs : List Record) → is_of k a b (front_of r) ≡ false → first_in k a b p (r ∷ rs) ≡ first_in k a b (p + length r) rs
unfolding first_in
first_no k a b p r rs h = choose_no _ _ _ h

-- ---- records with one key have one bucket
pub key_bucket_lem : (k a b : ℕ) (r : Record) → 2 ≤ k → is_of k a b (front_of r) ≡ true → bucket_of r ≡ key_bucket k a b
unfolding bucket_of key_bucket choose
key_bucket_lem k a b r l e =
    let d : (front_of r).kind ≡ k = eqb-true _ _ (and_left (eqb (front_of r).kind k) (eqb (front_of r).one a && (ltb k 4 || eqb (front_of r).two b)) e) in
    let f = and_right (eqb (front_of r).kind k) (eqb (front_of r).one a && (ltb k 4 || eqb (front_of r).two b)) e in
    let o : (front_of r).one ≡ a = eqb-true _ _ (and_left (eqb (front_of r).one a) (ltb k 4 || eqb (front_of r).two b) f) in
    let g = and_right (eqb (front_of r).one a) (ltb k 4 || eqb (front_of r).two b) f in
    let n : k ≡ 1 → ⊥ = λ z. omega arith in
    rw (d, o, ne_eqb k 1 n) (go (ltb k 4) g)
  where
    go : (v : Bool) → v || eqb (front_of r).two b ≡ true → choose v a ((a * 509 + (front_of r).two) % 65536) ≡ choose v a ((a * 509 + b) % 65536)
    go true h = refl
    go false h = rw (eqb-true (front_of r).two b h)

pub drop_id : (t : List ℕ) (p i : ℕ) → id_at (drop p t) i ≡ id_at t (p + i)
drop_id t p i = let e : p + (i + 1) ≡ p + i + 1 = omega arith in rw (get_or-drop p t i 0, get_or-drop p t (i + 1) 0, e)

-- what a cons behind k elements says
module _ (all : List Record) (k : ℕ) (x : Record) (xs : List Record) (e : drop k all ≡ x ∷ xs) where
  cons_rest : drop (k + 1) all ≡ xs
  cons_rest = sym (drop-drop 1 k all) ∙ ap (λ (z : List Record). drop 1 z) e

  cons_first : get_or all k [] ≡ x
  cons_first =
      let z : k + 0 ≡ k = omega arith in
      ap (λ (n : ℕ). get_or all n []) (sym z) ∙ sym (get_or-drop k all 0 []) ∙ ap (λ (l : List Record). get_or l 0 []) e

  cons_long : k < length all
  cons_long = omega (arith, length-drop k all, ap (λ (l : List Record). length l) e)

-- ---- a record begins at byte p
module _ (t : List ℕ) (p : ℕ) (w : Sits t p) (some : p < length t) where
  abbrev here : Record
  here = front_record (drop p t)

  more : 0 < length (drop p t)
  more = omega (arith, length-drop p t)

  pub sits_cons : records_of (drop p t) ≡ here ∷ records_of (drop (behind t p) t)
  sits_cons =
      records-here (drop p t) more ∙ ap (λ (z : List ℕ). here ∷ records_of z) (drop-drop (front_of (drop p t)).len p t)

  pub sits-own : front_of here ≡ front_of (drop p t)
  sits-own = head_own (drop p t) more

  pub sits-inside : behind t p ≤ length t
  sits-inside = omega (arith, length-drop p t, (head_bounded (drop p t) more).high)

  pub sits_later : p < behind t p
  sits_later = omega (arith, (head_bounded (drop p t) more).low)

  pub sits-length : p + length here ≡ behind t p
  sits-length = omega (arith, length-take-le (front_of (drop p t)).len (drop p t) (head_bounded (drop p t) more).high)

  from_here : drop w.index (records_of t) ≡ here ∷ records_of (drop (behind t p) t)
  from_here = sym w.at.sits ∙ sits_cons

  pub sits_at : CursorAt t (record { at = behind t p; index = w.index + 1 })
  sits_at =
      record {
        sits = sym (cons_rest (records_of t) w.index _ _ from_here);
        behind = omega (arith, w.at.behind, sits_later);
        inside = sits-inside;
        count = omega (arith, cons_long (records_of t) w.index _ _ from_here);
      }

  -- the records behind the next one: this one first
  pub sits_before : before (w.index + 1) (records_of t) ≡ here ∷ before w.index (records_of t)
  unfolding before
  sits_before =
      ap (λ (k : ℕ). before k (records_of t)) (add-one w.index)
      ∙ ap (λ (z : Record). z ∷ before w.index (records_of t)) (cons_first (records_of t) w.index _ _ from_here)

  pub sits_next : Sits t (behind t p)
  sits_next = record { index = w.index + 1; at = sits_at }

  -- a record with a bucket of a list is a function
  pub list_kind_lem : (b : ℕ) → b < list_count (length t) → list_in (length t) here ≡ b → (front_of (drop p t)).kind ≡ 4
  list_kind_lem b l e = sym (ap (λ (h : Front). h.kind) sits-own) ∙ list_kind_of (length t) here b l e

  module _ (clean : table_fault t ≡ 0) where
    pub sits-clean : Clean (before w.index (records_of t)) here (here ∷ records_of (drop (behind t p) t))
    sits-clean =
        (subst (λ (z : List Record). CleanFrom (before w.index (records_of t)) z) sits_cons
        (clean_at t (record { at = p; index = w.index }) w.at clean)).0

    pub sits-whole : (front_of (drop p t)).malformed ≡ false
    sits-whole = sym (ap (λ (h : Front). h.malformed) sits-own) ∙ sits-clean.whole

  module _ (whole : (front_of (drop p t)).malformed ≡ false) where
    byte : get_or (drop p t) 0 0 ≡ get_or t p 0
    byte = let e : p + 0 ≡ p = omega arith in get_or-drop p t 0 0 ∙ ap (λ (n : ℕ). get_or t n 0) e

    -- the test of a key by the record's bytes
    pub raw_test : (k a b : ℕ) → 2 ≤ k
        → (eqb (get_or t p 0) k && (eqb (id_at t (p + 1)) a && (ltb k 4 || eqb (id_at t (p + 3)) b))) ≡ is_of k a b (front_of here)
    raw_test k a b l =
        let q : (front_of here).kind ≡ get_or t p 0 = ap (λ (h : Front). h.kind) sits-own ∙ head_kind (drop p t) whole ∙ byte in
        rw (← q) (go (eqb (front_of here).kind k) refl)
      where
        go : (v : Bool) → eqb (front_of here).kind k ≡ v → v && (eqb (id_at t (p + 1)) a && (ltb k 4 || eqb (id_at t (p + 3)) b)) ≡ v && (eqb (front_of here).one a && (ltb k 4 || eqb (front_of here).two b))
        go false e = refl
        go true e =
            let d : (front_of here).kind ≡ k = eqb-true _ _ e in
            let m : 2 ≤ (front_of (drop p t)).kind = omega (arith, ap (λ (h : Front). h.kind) sits-own) in
            let i = head_ids (drop p t) m in
            let one : (front_of here).one ≡ id_at t (p + 1) = ap (λ (h : Front). h.one) sits-own ∙ i.0 ∙ drop_id t p 1 in
            let two : (front_of here).two ≡ id_at t (p + 3) = ap (λ (h : Front). h.two) sits-own ∙ i.1 ∙ drop_id t p 3 in
            rw (one, two)

-- ---- functions with one key have one bucket
key_list : (n a b : ℕ) (r : Record) → is_of 4 a b (front_of r) ≡ true → list_in n r ≡ key_bucket 4 a b % list_count n
unfolding list_in
key_list n a b r e =
    let d : (front_of r).kind ≡ 4 = eqb-true _ _ (and_left (eqb (front_of r).kind 4) (eqb (front_of r).one a && (ltb 4 4 || eqb (front_of r).two b)) e) in
    choose_yes _ _ _ (eq-eqb _ _ d) ∙ ap (λ (z : ℕ). z % list_count n) (key_bucket_lem 4 a b r (omega arith) e)

-- ---- the first function of a bucket
module _ (t : List ℕ) (n b a c : ℕ) (is : key_bucket 4 a c % list_count n ≡ b) where
  other : (r : Record) → eqb (list_in n r) b ≡ false → is_of 4 a c (front_of r) ≡ false
  other r e = go (is_of 4 a c (front_of r)) refl
    where
      go : (v : Bool) → is_of 4 a c (front_of r) ≡ v → v ≡ false
      go false h = refl
      go true h = absurd (false≢true (sym e ∙ eq-eqb _ _ (key_list n a c r h ∙ is)))

  pub none_left : (p : ℕ) (rs : List Record) → next_in n b p rs ≡ 0 → records_with 4 a c rs ≡ []
  unfolding next_in choose
  none_left p [] e = unfold records_with in refl
  none_left p (r ∷ rs) e = go (eqb (list_in n r) b) refl e (none_left (p + length r) rs)
    where
      go : (v : Bool) → eqb (list_in n r) b ≡ v → choose (eqb (list_in n r) b) (suc p) (next_in n b (p + length r) rs) ≡ 0
          → (next_in n b (p + length r) rs ≡ 0 → records_with 4 a c rs ≡ []) → records_with 4 a c (r ∷ rs) ≡ []
      go true h q ih = absurd (omega (arith, rw h at q))
      go false h q ih = with_no 4 a c r rs (other r h) ∙ ih (rw h at q)

  pub none_first : (p : ℕ) (rs : List Record) → next_in n b p rs ≡ 0 → first_in 4 a c p rs ≡ 0
  unfolding next_in choose
  none_first p [] e = unfold first_in in refl
  none_first p (r ∷ rs) e = go (eqb (list_in n r) b) refl e (none_first (p + length r) rs)
    where
      go : (v : Bool) → eqb (list_in n r) b ≡ v → choose (eqb (list_in n r) b) (suc p) (next_in n b (p + length r) rs) ≡ 0
          → (next_in n b (p + length r) rs ≡ 0 → first_in 4 a c (p + length r) rs ≡ 0) → first_in 4 a c p (r ∷ rs) ≡ 0
      go true h q ih = absurd (omega (arith, rw h at q))
      go false h q ih = first_no 4 a c p r rs (other r h) ∙ ih (rw h at q)

-- it begins at byte q, and the records before it have other buckets
pub record Reached (t : List ℕ) (b p q : ℕ) : Type 0 where
  pub sits : Sits t q
  pub some : q < length t
  pub own : list_in (length t) (front_record (drop q t)) ≡ b
  pub later : p ≤ q
  pub same : (a c : ℕ) → key_bucket 4 a c % list_count (length t) ≡ b
      → records_with 4 a c (records_of (drop p t)) ≡ records_with 4 a c (records_of (drop q t))
  pub first : (a c : ℕ) → key_bucket 4 a c % list_count (length t) ≡ b
      → first_in 4 a c p (records_of (drop p t)) ≡ first_in 4 a c q (records_of (drop q t))

module _ (t : List ℕ) (b q p : ℕ) (w : Sits t p) (e : next_from t b p ≡ suc q) where
  reach_end : length t ≤ p → Reached t b p q
  unfolding next_in
  reach_end l = let f : 0 ≡ suc q = sym (ap (next_in (length t) b p) (records-end t p l)) ∙ e in absurd (omega arith)

  module _ (some : p < length t) where
    reach_here : eqb (list_in (length t) (front_record (drop p t))) b ≡ true → Reached t b p q
    unfolding next_in choose
    reach_here u =
        let d : next_from t b p ≡ suc p = ap (next_in (length t) b p) (sits_cons t p w some) ∙ (rw u) in
        let f : suc p ≡ suc q = sym d ∙ e in
        let g : p ≡ q = omega arith in
        subst (λ (z : ℕ). Reached t b p z) g
        (record { sits = w; some = some; own = eqb-true _ _ u; later = omega arith; same = λ a c i. refl; first = λ a c i. refl })

    module _ (u : eqb (list_in (length t) (front_record (drop p t))) b ≡ false) where
      reach_next : next_from t b (behind t p) ≡ suc q
      unfolding next_in choose
      reach_next =
          let g : next_from t b p ≡ next_in (length t) b (p + length (front_record (drop p t))) (records_of (drop (behind t p) t))
          = ap (next_in (length t) b p) (sits_cons t p w some) ∙ (rw u) in
          sym (g ∙ ap (λ (z : ℕ). next_in (length t) b z (records_of (drop (behind t p) t))) (sits-length t p w some)) ∙ e

      reach_past : Reached t b (behind t p) q → Reached t b p q
      reach_past r =
          record {
            sits = r.sits;
            some = r.some;
            own = r.own;
            later = omega (arith, r.later, sits_later t p w some);
            same = λ a c i.
                ap (records_with 4 a c) (sits_cons t p w some) ∙ with_no 4 a c _ _ (other t (length t) b a c i (front_record (drop p t)) u) ∙ r.same a c i;
            first = λ a c i.
                ap (first_in 4 a c p) (sits_cons t p w some)
                ∙ first_no 4 a c p (front_record (drop p t)) _ (other t (length t) b a c i (front_record (drop p t)) u)
                ∙ ap (λ (z : ℕ). first_in 4 a c z (records_of (drop (behind t p) t))) (sits-length t p w some)
                ∙ r.first a c i;
          }

pub reach : (t : List ℕ) (b q m p : ℕ) → length t - p ≤ m → Sits t p → next_from t b p ≡ suc q → Reached t b p q
reach t b q zero p h w e = reach_end t b q p w e (omega arith)
reach t b q (suc m) p h w e =
    go (ltb p (length t)) refl (eqb (list_in (length t) (front_record (drop p t))) b) refl
    (λ l some u. reach t b q m (behind t p) l (sits_next t p w some) (reach_next t b q p w e some u))
  where
    go : (v : Bool) → ltb p (length t) ≡ v → (y : Bool) → eqb (list_in (length t) (front_record (drop p t))) b ≡ y
        → (length t - behind t p ≤ m → (some : p < length t) → eqb (list_in (length t) (front_record (drop p t))) b ≡ false → Reached t b (behind t p) q)
        → Reached t b p q
    go false f y u ih = reach_end t b q p w e (ltb-false p (length t) f)
    go true f true u ih = reach_here t b q p w e (ltb-true p (length t) f) u
    go true f false u ih =
        let some = ltb-true p (length t) f in
        reach_past t b q p w e some u (ih (omega (arith, sits_later t p w some)) some u)

-- ---- the search
pub positive : (v : ℕ) → (v ≡ 0 → ⊥) → v ≡ suc (v - 1)
positive v h = let l = not-le v 0 (λ m. h (omega arith)) in omega arith

abbrev pub left_of : ℕ → ℕ → ℕ
left_of n zero = 0
left_of n (suc p) = suc (n - p)

-- what the test of a key by the record's bytes says
module _ (t : List ℕ) (p : ℕ) (w : Sits t p) (some : p < length t) (clean : table_fault t ≡ 0) (k a b : ℕ)
    (yes : is_of k a b (front_of (front_record (drop p t))) ≡ true) where
  own : front_of (front_record (drop p t)) ≡ front_of (drop p t)
  own = sits-own t p w some

  pair : eqb (front_of (front_record (drop p t))).one a && (ltb k 4 || eqb (front_of (front_record (drop p t))).two b) ≡ true
  pair = and_right (eqb (front_of (front_record (drop p t))).kind k) (eqb (front_of (front_record (drop p t))).one a && (ltb k 4 || eqb (front_of (front_record (drop p t))).two b)) yes

  second : 4 ≤ k → ltb k 4 || eqb (front_of (front_record (drop p t))).two b ≡ true → eqb (front_of (front_record (drop p t))).two b ≡ true
  second l g = rw (le-ltb k 4 l) at g

  pub here_is : (all : List Record) → all ≡ records_with k a b (records_of (drop p t)) → HereIs t all k a b (record { at = p })
  here_is all e =
      record {
        first = e ∙ ap (records_with k a b) (sits_cons t p w some) ∙ with_yes k a b _ _ yes;
        kind = sym (ap (λ (h : Front). h.kind) own) ∙ eqb-true _ _ (and_left (eqb (front_of (front_record (drop p t))).kind k) (eqb (front_of (front_record (drop p t))).one a && (ltb k 4 || eqb (front_of (front_record (drop p t))).two b)) yes);
        one = sym (ap (λ (h : Front). h.one) own) ∙ eqb-true _ _ (and_left (eqb (front_of (front_record (drop p t))).one a) (ltb k 4 || eqb (front_of (front_record (drop p t))).two b) pair);
        two = λ l. sym (ap (λ (h : Front). h.two) own) ∙ eqb-true _ _ (second l (and_right (eqb (front_of (front_record (drop p t))).one a) (ltb k 4 || eqb (front_of (front_record (drop p t))).two b) pair));
        error = sym (ap (λ (h : Front). h.error) own) ∙ (sits-clean t p w some clean).typed;
        some = some;
        sits = w;
      }

-- a place that was found, by the number of its entry
found_next : (v : ℕ) (p : Place) → found_at v ≡ Some p → v ≡ suc p.at
found_next v p e = sym (counted_found v) ∙ ap counted e

module _ (t x : List ℕ) (ok : IndexedTable t x) (a b : ℕ) (f : Found) (s : Searched t f a b) where
  abbrev bucket : ℕ
  bucket = key_bucket 4 a b % list_count (length t)

  module _ (p : Place) (e : f ≡ Some p) where
    pub searched_at : Reached t bucket s.from p.at
    searched_at = reach t bucket p.at (length t - s.from) s.from (omega arith) s.sits (found_next _ p (sym s.is ∙ e))

    abbrev test : Bool
    test = eqb (get_or t p.at 0) 4 && (eqb (id_at t (p.at + 1)) a && eqb (id_at t (p.at + 3)) b)

    tested : test ≡ is_of 4 a b (front_of (front_record (drop p.at t)))
    tested = raw_test t p.at searched_at.sits searched_at.some (sits-whole t p.at searched_at.sits searched_at.some ok.clean) 4 a b (omega arith)

    cons : first_from t 4 a b f ≡ found_at (first_in 4 a b p.at (front_record (drop p.at t) ∷ records_of (drop (behind t p.at) t)))
    cons =
        ap (first_from t 4 a b) e
        ∙ ap (λ (z : List Record). found_at (first_in 4 a b p.at z)) (sits_cons t p.at searched_at.sits searched_at.some)

    pub searched_first : test ≡ true → first_from t 4 a b f ≡ f
    searched_first h = cons ∙ ap found_at (first_yes 4 a b p.at _ _ (sym tested ∙ h)) ∙ sym e

    pub searched_kind : (front_of (drop p.at t)).kind ≡ 4
    searched_kind = list_kind_lem t p.at searched_at.sits searched_at.some bucket (list-below (key_bucket 4 a b) (length t)) searched_at.own

    module _ (f' : Found) (next : f' ≡ place_at x (next_at (length t) p.at)) where
      is_next : f' ≡ found_at (next_from t bucket (behind t p.at))
      is_next =
          next
          ∙ ap found_at
          (ok.indexed.next p.at searched_at.sits searched_at.some searched_kind ∙ ap (λ (z : ℕ). next_from t z (behind t p.at)) searched_at.own)

      pub searched_on : Searched t f' a b
      searched_on = record { from = behind t p.at; sits = sits_next t p.at searched_at.sits searched_at.some; is = is_next }

      pub searched_less : left_of (length t) (counted f') < left_of (length t) (counted f)
      searched_less =
          subst (λ (z : Found). left_of (length t) (counted f') < left_of (length t) (counted z)) (sym e)
          (subst (λ (z : ℕ). left_of (length t) z < suc (length t - p.at)) (sym (ap counted is_next ∙ counted_found _))
          (go (next_from t bucket (behind t p.at)) refl))
        where
          go : (z : ℕ) → z ≡ next_from t bucket (behind t p.at) → left_of (length t) z < suc (length t - p.at)
          go zero q = omega arith
          go (suc r) q =
              let w = reach t bucket r (length t - behind t p.at) (behind t p.at) (omega arith) (sits_next t p.at searched_at.sits searched_at.some) (sym q) in
              omega (arith, w.later, w.some, sits_later t p.at searched_at.sits searched_at.some)

-- the first function of a search is the table's first from its byte on
pub searched_from : (t : List ℕ) (a b : ℕ) (f : Found) (s : Searched t f a b)
    → first_from t 4 a b f ≡ found_at (first_in 4 a b s.from (records_of (drop s.from t)))
searched_from t a b None s =
    sym (ap found_at (none_first t (length t) _ a b refl s.from _ (sym (counted_found _) ∙ ap counted (sym s.is))))
searched_from t a b (Some p) s =
    sym (ap found_at
    ((reach t (key_bucket 4 a b % list_count (length t)) p.at (length t - s.from) s.from (omega arith) s.sits (found_next _ p (sym s.is))).first a b refl))

module _ (t x : List ℕ) (ok : IndexedTable t x) (a b : ℕ) (f : Found) (s : Searched t f a b) (p : Place) (e : f ≡ Some p) (f' : Found)
    (next : f' ≡ place_at x (next_at (length t) p.at)) where
  pub searched_same : (eqb (get_or t p.at 0) 4 && (eqb (id_at t (p.at + 1)) a && eqb (id_at t (p.at + 3)) b)) ≡ false
      → first_from t 4 a b f' ≡ first_from t 4 a b f
  unfolding searched_on
  searched_same h =
      let at = searched_at t x ok a b f s p e in
      searched_from t a b f' (searched_on t x ok a b f s p e f' next)
      ∙ ap (λ (z : ℕ). found_at (first_in 4 a b z (records_of (drop (behind t p.at) t)))) (sym (sits-length t p.at at.sits at.some))
      ∙ sym (cons t x ok a b f s p e ∙ ap found_at (first_no 4 a b p.at (front_record (drop p.at t)) _ (sym (tested t x ok a b f s p e) ∙ h)))

-- ---- a function at a place: its head and its key
module _ (t : List ℕ) (p : Place) (f : FunctionAt t p) where
  pub function_kind_lem : (front_of (drop p.at t)).kind ≡ 4
  function_kind_lem = same_kind (drop p.at t) ∙ f.kind

  pub function-error : (front_of (drop p.at t)).error ≡ false
  function-error = same_error (drop p.at t) (kind_byte (drop p.at t) (omega (arith, f.kind))).0 ∙ f.error

function-ids : (t : List ℕ) (p : Place) (f : FunctionAt t p)
    → ((front_of (front_record (drop p.at t))).one ≡ id_at t (p.at + 1)) × ((front_of (front_record (drop p.at t))).two ≡ id_at t (p.at + 3))
function-ids t p f =
    let o = sits-own t p.at f.sits f.some in
    let i = head_ids (drop p.at t) (omega (arith, function_kind_lem t p f)) in
    (ap (λ (h : Front). h.one) o ∙ i.0 ∙ drop_id t p.at 1, ap (λ (h : Front). h.two) o ∙ i.1 ∙ drop_id t p.at 3)

pub function-keyed : (t : List ℕ) (p : Place) → FunctionAt t p → key_of (first_record (drop p.at t)) ≡ id_at t (p.at + 1) ∷ id_at t (p.at + 3) ∷ []
function-keyed t p f =
    let o = sits-own t p.at f.sits f.some in
    let i = function-ids t p f in
    ap (λ (n : ℕ). key_of (take n (drop p.at t))) (sym (same_size (drop p.at t)))
    ∙ function_key (front_record (drop p.at t)) (ap (λ (h : Front). h.kind) o ∙ function_kind_lem t p f)
    ∙ (λ j. i.0 j ∷ i.1 j ∷ [])

-- ---- where a search begins
module _ (t x : List ℕ) (ok : IndexedTable t x) where
  sits-start : Sits t 0
  sits-start = record { index = 0; at = at_start t }

  pub list-first : (a b r : ℕ) → r ≡ key_bucket 4 a b % list_count (length t) → r < list_count (length t)
      → (g : Found) → g ≡ place_at x (first_at (length t) r) → Searched t g a b
  list-first a b r e h g q =
      record { from = 0; sits = sits-start; is = q ∙ ap found_at (ok.indexed.first r h ∙ ap (λ (z : ℕ). next_from t z 0) e) }

  pub first_of_list : (a b r : ℕ) (e : r ≡ key_bucket 4 a b % list_count (length t)) (h : r < list_count (length t)) (g : Found)
      (q : g ≡ place_at x (first_at (length t) r))
      → first_from t 4 a b g ≡ found_at (first_with t 4 a b)
  unfolding list-first
  first_of_list a b r e h g q = searched_from t a b g (list-first a b r e h g q)

  module _ (p : Place) (f : FunctionAt t p) (a b : ℕ) (ea : a ≡ id_at t (p.at + 1)) (eb : b ≡ id_at t (p.at + 3)) (g : Found)
      (q : g ≡ place_at x (next_at (length t) p.at)) where
    key : list_in (length t) (front_record (drop p.at t)) ≡ key_bucket 4 a b % list_count (length t)
    unfolding list_in bucket_of choose
    key =
        let o = sits-own t p.at f.sits f.some in
        let k : (front_of (front_record (drop p.at t))).kind ≡ 4 = ap (λ (h : Front). h.kind) o ∙ function_kind_lem t p f in
        let i = function-ids t p f in
        let one : (front_of (front_record (drop p.at t))).one ≡ a = i.0 ∙ sym ea in
        let two : (front_of (front_record (drop p.at t))).two ≡ b = i.1 ∙ sym eb in
        rw (k, one, two)

    pub next_first : Searched t g a b
    next_first =
        record {
          from = behind t p.at;
          sits = sits_next t p.at f.sits f.some;
          is = q ∙ ap found_at (ok.indexed.next p.at f.sits f.some (function_kind_lem t p f) ∙ ap (λ (z : ℕ). next_from t z (behind t p.at)) key);
        }

    pub next_of_list : first_from t 4 a b g ≡ found_at (first_behind t 4 a b p.at)
    unfolding next_first
    next_of_list = searched_from t a b g next_first

-- ---- what stands in a record that was found
module _ (t : List ℕ) (all : List Record) (k a b : ℕ) (p : Place) (h : HereIs t all k a b p) where
  abbrev place : Cursor
  place = record { at = p.at; index = 0 }

  pub place-fits : Fits k (front_of (drop p.at t)).len
  place-fits = rw (← h.kind) (head_fits (drop p.at t))

  pub place_inside : behind t p.at ≤ length t
  place_inside = sits-inside t p.at h.sits h.some

  pub place_byte : (i : ℕ) → i < (front_of (drop p.at t)).len → get_or (front_record (drop p.at t)) i 0 ≡ get_or t (p.at + i) 0
  place_byte i l = record_byte t place i 0 l

  pub place_id : (i : ℕ) → i + 2 ≤ (front_of (drop p.at t)).len → id_at (front_record (drop p.at t)) i ≡ id_at t (p.at + i)
  place_id i l =
      let e : p.at + (i + 1) ≡ p.at + i + 1 = omega arith in
      rw (place_byte i (omega arith), place_byte (i + 1) (omega arith), e)

  pub place-part : (i : ℕ) → drop i (front_record (drop p.at t)) ≡ take ((front_of (drop p.at t)).len - i) (drop (p.at + i) t)
  place-part i = record_part t place i

  ids : 2 ≤ k → ((front_of (drop p.at t)).one ≡ id_at (drop p.at t) 1) × ((front_of (drop p.at t)).two ≡ id_at (drop p.at t) 3)
  ids l = head_ids (drop p.at t) (omega (arith, h.kind))

  pub place-one : 2 ≤ k → id_at t (p.at + 1) ≡ a
  place-one l = sym ((ids l).0 ∙ drop_id t p.at 1) ∙ h.one

  pub place_key : 4 ≤ k → id_at t (p.at + 3) ≡ b
  place_key l = sym ((ids (omega arith)).1 ∙ drop_id t p.at 3) ∙ h.two l

  pub place-two : 2 ≤ k → (front_of (front_record (drop p.at t))).two ≡ id_at t (p.at + 3)
  place-two l = ap (λ (x : Front). x.two) (sits-own t p.at h.sits h.some) ∙ (ids l).1 ∙ drop_id t p.at 3
