-- The lists of functions before a byte, and one record more.
use Prim.Native.Nat.{ℕ, zero, suc, ◌+◌, ◌-◌, ◌≤◌, ◌<◌}
use borrow.Author.Tests.{eqb-true, eq-eqb, ne_eqb, le-leb, lt-leb, leb-true, leb-false}
use lib.Dec.{eqb, leb}
use lib.ListN.{length, get_or, drop, set, length-drop, length-set}
use lib.Seq.{get_or-set_same, get_or-set_other}
use mathlib.Core.Bool.{Bool, true, false, true≢false}
use mathlib.Core.List.{List}
use mathlib.Core.Logic.{◌⊎◌, inl, inr, ⊎_elim}
use mathlib.Core.Path.{◌≡◌, refl, sym, ap, ◌∙◌, subst}
use native.Mathlib.Omega.{arith, not-le}
use Rattle.ty.specs.Choose.{choose}
use Rattle.index.proofs.Buckets.{list-below, list-function, list_other, ways_some}
use Rattle.index.proofs.ListSearch.{Reached, reach, list_kind_lem, sits_cons, sits-own, sits_at, sits_next, sits_later, sits-length}
use Rattle.record.proofs.Records.{at_start, records-joined, at_more}
use Rattle.record.proofs.RecordSizes.{head_long, head_ways}
use Rattle.index.specs.Inside.Bucket.{bucket_of}
use Rattle.index.specs.Inside.Entered.{clipped, Entered, EntryAsked, link_at, entered, Lasts}
use Rattle.index.specs.Inside.Found.{found_at, place_at}
use Rattle.record.specs.Inside.Front.{front_of}
use Rattle.record.specs.Inside.FrontRecord.{front_record}
use Rattle.record.specs.Table.{records_of, joined}
use Rattle.index.specs.Inside.Index.{list_count, list_in, first_at, last_at, child_at, next_at, next_in, next_from, index_size}
use Rattle.index.specs.Inside.SearchTree.{ways_at}
use Rattle.record.specs.Inside.Walk.{CursorAt, Sits, behind}
use Rattle.record.specs.Inside.Front.{Front}

-- ---- where records begin

-- the number of a record says where it begins
one_place : (t : List ℕ) (p q i : ℕ) → CursorAt t (record { at = p; index = i }) → CursorAt t (record { at = q; index = i }) → p ≡ q
one_place t p q i a b =
    let e : drop p t ≡ drop q t = sym (records-joined (drop p t)) ∙ ap joined (a.sits ∙ sym b.sits) ∙ records-joined (drop q t) in
    omega (arith, length-drop p t, length-drop q t, ap (λ (l : List ℕ). length l) e, a.inside, b.inside)

-- a lower number begins earlier
in_order : (t : List ℕ) (m p q i j : ℕ) → j - i ≤ m → i ≤ j → CursorAt t (record { at = p; index = i }) → CursorAt t (record { at = q; index = j }) → p ≤ q
in_order t zero p q i j h l a b =
    let e : j ≡ i = omega arith in
    omega (arith, one_place t p q i a (subst (λ (z : ℕ). CursorAt t (record { at = q; index = z })) e b))
in_order t (suc m) p q i j h l a b = go (eqb i j) refl (λ k w. in_order t m (behind t p) q (i + 1) j (omega arith) k (sits_at t p (record { index = i; at = a }) w) b)
  where
    go : (v : Bool) → eqb i j ≡ v → (i + 1 ≤ j → p < length t → behind t p ≤ q) → p ≤ q
    go true e ih = let f : j ≡ i = sym (eqb-true i j e) in omega (arith, one_place t p q i a (subst (λ (z : ℕ). CursorAt t (record { at = q; index = z })) f b))
    go false e ih =
        let n : i ≡ j → ⊥ = λ z. true≢false (sym (eq-eqb i j z) ∙ e) in
        let k : i < j = not-le j i (λ m. n (omega arith)) in
        let w = at_more t (record { at = p; index = i }) a (omega (arith, b.count)) in
        omega (arith, ih (omega arith) w, sits_later t p (record { index = i; at = a }) w)

-- of two records, the later begins behind the earlier
pub behind-before : (t : List ℕ) (p q : ℕ) → Sits t p → Sits t q → p < q → behind t p ≤ q
behind-before t p q w v l =
    let k : w.index < v.index = not-le v.index w.index (λ m. omega (arith, in_order t (w.index - v.index) q p v.index w.index (omega arith) m v.at w.at)) in
    let s = at_more t (record { at = p; index = w.index }) w.at (omega (arith, v.at.count)) in
    in_order t (v.index - (w.index + 1)) (behind t p) q (w.index + 1) v.index (omega arith) (omega arith) (sits_at t p w s) v.at

-- two records have entries of their own
pub apart_of : (t : List ℕ) (p q : ℕ) → (front_of (drop p t)).malformed ≡ false → Sits t p → (front_of (drop q t)).malformed ≡ false → Sits t q → (p ≡ q → ⊥)
    → (k : ℕ) → k < ways_at t q → next_at (length t) p ≡ child_at (length t) q k → ⊥
apart_of t p q m v n w d k l f = go (leb p q) refl
  where
    go : (u : Bool) → leb p q ≡ u → ⊥
    go true s =
        let i : p < q = not-le q p (λ m. d (omega (arith, leb-true p q s))) in
        omega (arith, behind-before t p q v w i, head_long (drop p t) m)
    go false s =
        let i = leb-false p q s in
        omega (arith, behind-before t q p w v i, head_ways (drop q t) n, l)

-- ---- the next record of a bucket
module _ (t : List ℕ) (b p : ℕ) (w : Sits t p) where
  abbrev own : ℕ → ℕ
  own q = list_in (length t) (front_record (drop q t))

  pub next_here : p < length t → own p ≡ b → next_from t b p ≡ suc p
  unfolding next_in choose
  next_here s e = ap (next_in (length t) b p) (sits_cons t p w s) ∙ (rw (eq-eqb _ _ e))

  pub next_past : p < length t → (own p ≡ b → ⊥) → next_from t b p ≡ next_from t b (behind t p)
  unfolding next_in choose
  next_past s n =
      let g : next_from t b p ≡ next_in (length t) b (p + length (front_record (drop p t))) (records_of (drop (behind t p) t))
      = ap (next_in (length t) b p) (sits_cons t p w s) ∙ (rw (ne_eqb _ _ n)) in
      g ∙ ap (λ (z : ℕ). next_in (length t) b z (records_of (drop (behind t p) t))) (sits-length t p w s)

  pub next_reached : (q : ℕ) → next_from t b p ≡ suc q → Reached t b p q
  next_reached q e = reach t b q (length t - p) p (omega arith) w e

  -- it begins at p or behind it, and in the table
  pub next_bounds : (v : ℕ) → next_from t b p ≡ v → (v ≡ 0) ⊎ ((p < v) × (v ≤ length t))
  next_bounds zero e = inl refl
  next_bounds (suc q) e = let r = next_reached q e in inr (omega (arith, r.later), omega (arith, r.some))

pub clipped_in : (e v : ℕ) → v ≤ e → clipped e v ≡ v
unfolding clipped choose
clipped_in e v h = rw (le-leb v e h)

pub clipped-out : (e v : ℕ) → e < v → clipped e v ≡ 0
unfolding clipped choose
clipped-out e v h = rw (lt-leb v e h)

-- whether a record is clipped
pub clip : (e v : ℕ) → ((v ≤ e) × (clipped e v ≡ v)) ⊎ ((e < v) × (clipped e v ≡ 0))
clip e v = go (leb v e) refl
  where
    go : (u : Bool) → leb v e ≡ u → ((v ≤ e) × (clipped e v ≡ v)) ⊎ ((e < v) × (clipped e v ≡ 0))
    go true q = let h = leb-true v e q in inl (h, clipped_in e v h)
    go false q = let h = leb-false v e q in inr (h, clipped-out e v h)

-- where there is none before e, the next one from p on is the next one from e on
pub none_before : (t : List ℕ) (b e : ℕ) → Sits t e → (m p : ℕ) → e - p ≤ m → Sits t p → p ≤ e → clipped e (next_from t b p) ≡ 0 → next_from t b p ≡ next_from t b e
none_before t b e v zero p h w l c = let q : p ≡ e = omega arith in ap (next_from t b) q
none_before t b e v (suc m) p h w l c =
    go (eqb p e) refl (eqb (list_in (length t) (front_record (drop p t))) b) refl
    (λ k s d. none_before t b e v m (behind t p) (omega (arith, sits_later t p w s)) (sits_next t p w s) k d)
  where
    go : (x : Bool) → eqb p e ≡ x → (y : Bool) → eqb (list_in (length t) (front_record (drop p t))) b ≡ y
        → (behind t p ≤ e → p < length t → clipped e (next_from t b (behind t p)) ≡ 0 → next_from t b (behind t p) ≡ next_from t b e)
        → next_from t b p ≡ next_from t b e
    go true q y u ih = ap (next_from t b) (eqb-true p e q)
    go false q y u ih = further y u
      where
        ahead : p < e
        ahead = not-le e p (λ k. true≢false (sym (eq-eqb p e (omega arith)) ∙ q))

        some : p < length t
        some = omega (arith, ahead, v.at.inside)

        further : (y : Bool) → eqb (list_in (length t) (front_record (drop p t))) b ≡ y → next_from t b p ≡ next_from t b e
        further true u =
            let f = next_here t b p w some (eqb-true _ _ u) in
            let d : clipped e (suc p) ≡ 0 = sym (ap (clipped e) f) ∙ c in
            absurd (omega (arith, clipped_in e (suc p) ahead))
        further false u =
            let f = next_past t b p w some (λ z. true≢false (sym (eq-eqb _ _ z) ∙ u)) in
            f ∙ ih (behind-before t p e w v ahead) some (sym (ap (clipped e) f) ∙ c)

-- a record of the bucket at q or behind p is met at q at the latest
pub met-before : (t : List ℕ) (b q : ℕ) → Sits t q → q < length t → list_in (length t) (front_record (drop q t)) ≡ b → (m p : ℕ) → q - p ≤ m → Sits t p → p ≤ q
    → (1 ≤ next_from t b p) × (next_from t b p ≤ suc q)
met-before t b q v s o zero p h w l =
    let e : p ≡ q = omega arith in
    let f : next_from t b p ≡ suc q = ap (next_from t b) e ∙ next_here t b q v s o in
    (omega arith, omega arith)
met-before t b q v s o (suc m) p h w l =
    go (eqb p q) refl (eqb (list_in (length t) (front_record (drop p t))) b) refl
    (λ k z. met-before t b q v s o m (behind t p) (omega (arith, sits_later t p w z)) (sits_next t p w z) k)
  where
    go : (x : Bool) → eqb p q ≡ x → (y : Bool) → eqb (list_in (length t) (front_record (drop p t))) b ≡ y
        → (behind t p ≤ q → p < length t → (1 ≤ next_from t b (behind t p)) × (next_from t b (behind t p) ≤ suc q))
        → (1 ≤ next_from t b p) × (next_from t b p ≤ suc q)
    go true e y u ih =
        let f : next_from t b p ≡ suc q = ap (next_from t b) (eqb-true p q e) ∙ next_here t b q v s o in
        (omega arith, omega arith)
    go false e true u ih =
        let f = next_here t b p w (omega arith) (eqb-true _ _ u) in
        (omega arith, omega arith)
    go false e false u ih =
        let d : p < q = not-le q p (λ k. true≢false (sym (eq-eqb p q (omega arith)) ∙ e)) in
        let f = next_past t b p w (omega arith) (λ z. true≢false (sym (eq-eqb _ _ z) ∙ u)) in
        let r = ih (behind-before t p q w v d) (omega arith) in
        (omega (arith, r.0), omega (arith, r.1))

-- ---- one record more
entered-length : (n b p : ℕ) (x : List ℕ) → length (entered n b p x) ≡ length x
unfolding entered
entered-length n b p x =
    length-set (set x (link_at n b (place_at x (last_at n b))) (suc p)) (last_at n b) (suc p) ∙ length-set x (link_at n b (place_at x (last_at n b))) (suc p)

pub link_low : (x : List ℕ) (n b p : ℕ) → EntryAsked x n b p → link_at n b (place_at x (last_at n b)) < length x
link_low x n b p a = go (get_or x (last_at n b) 0) a.last
  where
    go : (v : ℕ) → v ≤ n → link_at n b (found_at v) < length x
    go zero h = omega (arith, a.bucket, a.long)
    go (suc q) h = omega (arith, a.long)

module _ (t x : List ℕ) (e : ℕ) (g : Entered t x e) (l : Lasts t x e) (some : e < length t) (whole : (front_of (drop e t)).malformed ≡ false) where
  abbrev n : ℕ
  n = length t

  abbrev b₀ : ℕ
  b₀ = list_in n (front_record (drop e t))

  abbrev e' : ℕ
  e' = behind t e

  later : e + 5 ≤ e'
  later = omega (arith, head_long (drop e t) whole)

  -- the next record of bucket b from p on, before e'
  module _ (b p : ℕ) (w : Sits t p) (h : p ≤ e) where
    -- as it was, where there was one
    kept : (clipped e (next_from t b p) ≡ 0 → ⊥) → clipped e' (next_from t b p) ≡ clipped e (next_from t b p)
    kept z =
        ⊎_elim (λ c. clipped_in e' _ (omega (arith, c.0, later)) ∙ sym c.1) (λ c. absurd (z c.1)) (clip e (next_from t b p))

    -- none, where the new one has another bucket
    still : clipped e (next_from t b p) ≡ 0 → (b₀ ≡ b → ⊥) → clipped e' (next_from t b p) ≡ 0
    still z d =
        let f : next_from t b p ≡ next_from t b e' = none_before t b e g.end (e - p) p (omega arith) w h z ∙ next_past t b e g.end some d in
        ap (clipped e') f ∙ ⊎_elim (λ q. ap (clipped e') q ∙ clipped_in e' 0 (omega arith)) (λ q. clipped-out e' _ q.0) (next_bounds t b e' (sits_next t e g.end some) _ refl)

    -- the new one, where it has this bucket
    come : clipped e (next_from t b p) ≡ 0 → b₀ ≡ b → clipped e' (next_from t b p) ≡ suc e
    come z d =
        let f : next_from t b p ≡ suc e = none_before t b e g.end (e - p) p (omega arith) w h z ∙ next_here t b e g.end some d in
        ap (clipped e') f ∙ clipped_in e' (suc e) (omega (arith, later))

    other : (b₀ ≡ b → ⊥) → clipped e' (next_from t b p) ≡ clipped e (next_from t b p)
    other d = go (eqb (clipped e (next_from t b p)) 0) refl
      where
        go : (u : Bool) → eqb (clipped e (next_from t b p)) 0 ≡ u → clipped e' (next_from t b p) ≡ clipped e (next_from t b p)
        go true q = let z = eqb-true _ _ q in still z d ∙ sym z
        go false q = kept (λ z. true≢false (sym (eq-eqb _ _ z) ∙ q))

  -- records before e, and the one at e, have entries of their own
  apart : (p q : ℕ) → Sits t p → Sits t q → (front_of (drop p t)).malformed ≡ false → q < e → (p ≡ q → ⊥) → next_at n p ≡ next_at n q → ⊥
  apart p q v w m b d f = apart_of t p q m v (g.whole q w b) w d 0 (ways_some (front_of (drop q t)).kind) f

  -- a record before e' that is not at e is before e
  before_e : (p : ℕ) → Sits t p → p < e' → (p ≡ e → ⊥) → p < e
  before_e p v h d = not-le e p (λ m. let k : e < p = not-le p e (λ r. d (omega arith)) in omega (arith, behind-before t e p g.end v k))

  -- behind the new one there is none
  new_last : clipped e' (next_from t b₀ e') ≡ 0
  new_last =
      ⊎_elim (λ q. ap (clipped e') q ∙ clipped_in e' 0 (omega arith)) (λ q. clipped-out e' _ q.0) (next_bounds t b₀ e' (sits_next t e g.end some) _ refl)

  is_whole : (p : ℕ) → Sits t p → p < e' → (front_of (drop p t)).malformed ≡ false
  is_whole p w h = go (eqb p e) refl
    where
      go : (u : Bool) → eqb p e ≡ u → (front_of (drop p t)).malformed ≡ false
      go true s = subst (λ (i : ℕ). (front_of (drop i t)).malformed ≡ false) (sym (eqb-true p e s)) whole
      go false s = g.whole p w (before_e p w h (λ r. true≢false (sym (eq-eqb _ _ r) ∙ s)))

  -- ---- another record, for which an entry is written that belongs to no list
  module _ (nf : (front_of (drop e t)).kind ≡ 4 → ⊥) (a : ℕ) (far : (b : ℕ) → b < list_count n → (first_at n b ≡ a → ⊥) × (last_at n b ≡ a → ⊥))
      (away : (p : ℕ) → Sits t p → p < e → (front_of (drop p t)).kind ≡ 4 → next_at n p ≡ a → ⊥) (front : a < next_at n e') where
    abbrev z : List ℕ
    z = set x a (suc e)

    same : (j : ℕ) → (j ≡ a → ⊥) → get_or z j 0 ≡ get_or x j 0
    same j h = get_or-set_other x a j (suc e) 0 h

    none_of : (b : ℕ) → b < list_count n → b₀ ≡ b → ⊥
    none_of b low d =
        let k : (front_of (front_record (drop e t))).kind ≡ 4 → ⊥ = λ r. nf (sym (ap (λ (h : Front). h.kind) (sits-own t e g.end some)) ∙ r) in
        omega (arith, list_other n (front_record (drop e t)) k, d, low)

    zero_sits : Sits t 0
    zero_sits = record { index = 0; at = at_start t }

    past_next : (p : ℕ) → Sits t p → p < e → (front_of (drop p t)).kind ≡ 4
        → get_or z (next_at n p) 0 ≡ clipped e' (next_from t (list_in n (front_record (drop p t))) (behind t p))
    past_next p w h k =
        let s : p < length t = omega (arith, h, some) in
        let o : (front_of (front_record (drop p t))).kind ≡ 4 = ap (λ (h : Front). h.kind) (sits-own t p w s) ∙ k in
        let low : list_in n (front_record (drop p t)) < list_count n
        = subst (λ (i : ℕ). i < list_count n) (sym (list-function n (front_record (drop p t)) o)) (list-below (bucket_of (front_record (drop p t))) n) in
        same (next_at n p) (away p w h k) ∙ g.next p w h k
        ∙ sym (other (list_in n (front_record (drop p t))) (behind t p) (sits_next t p w s) (behind-before t p e w g.end h) (none_of _ low))

    pub entered_past : Entered t z e'
    entered_past =
        record {
          end = sits_next t e g.end some;
          first = λ b low. same (first_at n b) (far b low).0 ∙ g.first b low ∙ sym (other b 0 zero_sits (omega arith) (none_of b low));
          next = λ p w h k. past_next p w (before_e p w h (λ d. nf (subst (λ (i : ℕ). (front_of (drop i t)).kind ≡ 4) d k))) k;
          whole = is_whole;
        }

    last_same : (b : ℕ) → b < list_count n → get_or z (last_at n b) 0 ≡ get_or x (last_at n b) 0
    last_same b low = same (last_at n b) (far b low).1

    pub lasts_past : Lasts t z e'
    lasts_past =
        record {
          none = λ b low q. still b 0 zero_sits (omega arith) (l.none b low (sym (last_same b low) ∙ q)) (none_of b low);
          sits = λ b q low y. l.sits b q low (sym (last_same b low) ∙ y);
          here = λ b q low y.
              let k = l.here b q low (sym (last_same b low) ∙ y) in
              let v = l.sits b q low (sym (last_same b low) ∙ y) in (
                omega (arith, k.0, later),
                k.1,
                still b (behind t q) (sits_next t q v (omega (arith, k.0, some))) (behind-before t q e v g.end k.0) k.2 (none_of b low),
              );
          blank = λ j h. same j (λ d. omega (arith, front)) ∙ l.blank j (omega (arith, later));
          long = omega (arith, length-set x a (suc e), l.long);
        }

  -- ---- a function
  module _ (fn : (front_of (drop e t)).kind ≡ 4) where
    bucket_low : b₀ < list_count n
    bucket_low =
        let k : (front_of (front_record (drop e t))).kind ≡ 4 = ap (λ (h : Front). h.kind) (sits-own t e g.end some) ∙ fn in
        subst (λ (i : ℕ). i < list_count n) (sym (list-function n (front_record (drop e t)) k)) (list-below (bucket_of (front_record (drop e t))) n)

    abbrev last : ℕ
    last = get_or x (last_at n b₀) 0

    abbrev y : List ℕ
    y = set x (link_at n b₀ (found_at last)) (suc e)

    abbrev x' : List ℕ
    x' = entered n b₀ e x

    -- ---- the entries
    last_other : (j : ℕ) → (j ≡ last_at n b₀ → ⊥) → get_or x' j 0 ≡ get_or y j 0
    unfolding entered
    last_other j h = get_or-set_other y (last_at n b₀) j (suc e) 0 h

    abbrev Kept : ℕ → Type 0
    Kept j = get_or x' j 0 ≡ get_or x j 0

    linked_first : last ≡ 0 → y ≡ set x (first_at n b₀) (suc e)
    linked_first z = ap (λ (v : ℕ). set x (link_at n b₀ (found_at v)) (suc e)) z

    linked_next : (q : ℕ) → last ≡ suc q → y ≡ set x (next_at n q) (suc e)
    linked_next q z = ap (λ (v : ℕ). set x (link_at n b₀ (found_at v)) (suc e)) z

    long-y : length y ≡ length x
    long-y = length-set x (link_at n b₀ (found_at last)) (suc e)

    long-x' : length x' ≡ length x
    long-x' = entered-length n b₀ e x

    -- an entry that is none of those written stays
    kept-first : last ≡ 0 → (j : ℕ) → (j ≡ last_at n b₀ → ⊥) → (j ≡ first_at n b₀ → ⊥) → Kept j
    kept-first z j h k =
        last_other j h ∙ ap (λ (u : List ℕ). get_or u j 0) (linked_first z) ∙ get_or-set_other x (first_at n b₀) j (suc e) 0 k

    kept_next : (q : ℕ) → last ≡ suc q → (j : ℕ) → (j ≡ last_at n b₀ → ⊥) → (j ≡ next_at n q → ⊥) → Kept j
    kept_next q z j h k =
        last_other j h ∙ ap (λ (u : List ℕ). get_or u j 0) (linked_next q z) ∙ get_or-set_other x (next_at n q) j (suc e) 0 k

    -- those written
    written_last : get_or x' (last_at n b₀) 0 ≡ suc e
    unfolding entered
    written_last = get_or-set_same y (last_at n b₀) (suc e) 0 (omega (arith, long-y, l.long, bucket_low))

    written_first : last ≡ 0 → get_or x' (first_at n b₀) 0 ≡ suc e
    written_first z =
        last_other (first_at n b₀) (λ w. omega (arith, bucket_low)) ∙ ap (λ (u : List ℕ). get_or u (first_at n b₀) 0) (linked_first z)
        ∙ get_or-set_same x (first_at n b₀) (suc e) 0 (omega (arith, l.long, bucket_low))

    written_next : (q : ℕ) → last ≡ suc q → q < e → get_or x' (next_at n q) 0 ≡ suc e
    written_next q z h =
        last_other (next_at n q) (λ w. omega (arith, bucket_low)) ∙ ap (λ (u : List ℕ). get_or u (next_at n q) 0) (linked_next q z)
        ∙ get_or-set_same x (next_at n q) (suc e) 0 (omega (arith, l.long, some))

    next_first : (b : ℕ) → b < list_count n → get_or x' (first_at n b) 0 ≡ clipped e' (next_from t b 0)
    next_first b low = go last refl (eqb b₀ b) refl
      where
        start : Sits t 0
        start = record { index = 0; at = at_start t }

        go : (v : ℕ) → last ≡ v → (u : Bool) → eqb b₀ b ≡ u → get_or x' (first_at n b) 0 ≡ clipped e' (next_from t b 0)
        go zero z true s =
            let d : b₀ ≡ b = eqb-true _ _ s in
            let c : clipped e (next_from t b 0) ≡ 0 = subst (λ (k : ℕ). clipped e (next_from t k 0) ≡ 0) d (l.none b₀ bucket_low z) in
            ap (λ (k : ℕ). get_or x' (first_at n k) 0) (sym d) ∙ written_first z ∙ sym (come b 0 start (omega arith) c d)
        go zero z false s =
            let d : b₀ ≡ b → ⊥ = λ r. true≢false (sym (eq-eqb _ _ r) ∙ s) in
            kept-first z (first_at n b) (λ r. omega (arith, low)) (λ r. d (omega arith)) ∙ g.first b low ∙ sym (other b 0 start (omega arith) d)
        go (suc q) z true s =
            let d : b₀ ≡ b = eqb-true _ _ s in
            let h = l.here b₀ q bucket_low z in
            let m = met-before t b q (l.sits b₀ q bucket_low z) (omega (arith, h.0)) (h.1 ∙ d) q 0 (omega arith) start (omega arith) in
            let c : clipped e (next_from t b 0) ≡ next_from t b 0 = clipped_in e _ (omega (arith, m.1, h.0)) in
            kept_next q z (first_at n b) (λ r. omega (arith, low)) (λ r. omega (arith, low)) ∙ g.first b low
            ∙ sym (kept b 0 start (omega arith) (λ r. omega (arith, m.0, c)))
        go (suc q) z false s =
            let d : b₀ ≡ b → ⊥ = λ r. true≢false (sym (eq-eqb _ _ r) ∙ s) in
            kept_next q z (first_at n b) (λ r. omega (arith, low)) (λ r. omega (arith, low)) ∙ g.first b low ∙ sym (other b 0 start (omega arith) d)

    module _ (p : ℕ) (w : Sits t p) (f : (front_of (drop p t)).kind ≡ 4) where
      abbrev b : ℕ
      b = list_in n (front_record (drop p t))

      -- a record before e
      module _ (h : p < e) where
        inside : behind t p ≤ e
        inside = behind-before t p e w g.end h

        far : (j : ℕ) → j ≡ next_at n p → (j ≡ last_at n b₀ → ⊥) × (j ≡ first_at n b₀ → ⊥)
        far j f = (λ r. omega (arith, bucket_low), λ r. omega (arith, bucket_low))

        next_sits : Sits t (behind t p)
        next_sits = sits_next t p w (omega (arith, h, some))

        next_old : (v : ℕ) → last ≡ v → get_or x' (next_at n p) 0 ≡ clipped e' (next_from t b (behind t p))
        next_old zero z = kept-first z (next_at n p) (far _ refl).0 (far _ refl).1 ∙ g.next p w h f ∙ sym (other b (behind t p) next_sits inside (λ d. none d))
          where
            none : b₀ ≡ b → ⊥
            none d =
                let c : clipped e (next_from t b 0) ≡ 0 = subst (λ (k : ℕ). clipped e (next_from t k 0) ≡ 0) d (l.none b₀ bucket_low z) in
                let m = met-before t b p w (omega (arith, h, some)) refl p 0 (omega arith) (record { index = 0; at = at_start t }) (omega arith) in
                omega (arith, m.0, clipped_in e (next_from t b 0) (omega (arith, m.1, h)))
        next_old (suc q) z = go (eqb p q) refl
          where
            k : (q < e) × (list_in (length t) (front_record (drop q t)) ≡ b₀) × (clipped e (next_from t b₀ (behind t q)) ≡ 0)
            k = l.here b₀ q bucket_low z

            v : Sits t q
            v = l.sits b₀ q bucket_low z

            go : (u : Bool) → eqb p q ≡ u → get_or x' (next_at n p) 0 ≡ clipped e' (next_from t b (behind t p))
            go true s =
                let d : p ≡ q = eqb-true _ _ s in
                let f : b ≡ b₀ = ap (λ (i : ℕ). list_in (length t) (front_record (drop i t))) d ∙ k.1 in
                let c : clipped e (next_from t b (behind t p)) ≡ 0
                = ap (λ (i : ℕ). clipped e (next_from t b (behind t i))) d ∙ ap (λ (i : ℕ). clipped e (next_from t i (behind t q))) f ∙ k.2 in
                ap (λ (i : ℕ). get_or x' (next_at n i) 0) d ∙ written_next q z k.0 ∙ sym (come b (behind t p) next_sits inside c (sym f))
            go false s =
                let d : p ≡ q → ⊥ = λ r. true≢false (sym (eq-eqb _ _ r) ∙ s) in
                kept_next q z (next_at n p) (far _ refl).0 (λ r. apart p q w v (g.whole p w h) k.0 d r) ∙ g.next p w h f ∙ sym (same (eqb b₀ b) refl)
              where
                d : p ≡ q → ⊥
                d r = true≢false (sym (eq-eqb _ _ r) ∙ s)

                same : (y : Bool) → eqb b₀ b ≡ y → clipped e' (next_from t b (behind t p)) ≡ clipped e (next_from t b (behind t p))
                same false o = other b (behind t p) next_sits inside (λ r. true≢false (sym (eq-eqb _ _ r) ∙ o))
                same true o = kept b (behind t p) next_sits inside met
                  where
                    f₂ : b₀ ≡ b
                    f₂ = eqb-true _ _ o

                    met : clipped e (next_from t b (behind t p)) ≡ 0 → ⊥
                    met r = order (leb p q) refl
                      where
                        order : (y : Bool) → leb p q ≡ y → ⊥
                        order true a =
                            let i : p < q = not-le q p (λ m. d (omega (arith, leb-true p q a))) in
                            let m = met-before t b q v (omega (arith, k.0, some)) (k.1 ∙ f₂) (q - behind t p) (behind t p) (omega arith) next_sits (behind-before t p q w v i) in
                            omega (arith, m.0, clipped_in e (next_from t b (behind t p)) (omega (arith, m.1, k.0)))
                        order false a =
                            let i = leb-false p q a in
                            let m = met-before t b₀ p w (omega (arith, h, some)) (sym f₂) (p - behind t q) (behind t q) (omega arith)
                            (sits_next t q v (omega (arith, k.0, some))) (behind-before t q p v w i) in
                            omega (arith, m.0, k.2, clipped_in e (next_from t b₀ (behind t q)) (omega (arith, m.1, h)))

      next_link : p < e' → get_or x' (next_at n p) 0 ≡ clipped e' (next_from t b (behind t p))
      next_link h = go (eqb p e) refl
        where
          go : (u : Bool) → eqb p e ≡ u → get_or x' (next_at n p) 0 ≡ clipped e' (next_from t b (behind t p))
          go false s = next_old (before_e p w h (λ r. true≢false (sym (eq-eqb _ _ r) ∙ s))) last refl
          go true s = subst (λ (i : ℕ). get_or x' (next_at n i) 0 ≡ clipped e' (next_from t (list_in n (front_record (drop i t))) (behind t i))) (sym (eqb-true p e s)) (at_e last refl)
            where
              at_e : (v : ℕ) → last ≡ v → get_or x' (next_at n e) 0 ≡ clipped e' (next_from t b₀ (behind t e))
              at_e zero z =
                  kept-first z (next_at n e) (λ r. omega (arith, bucket_low)) (λ r. omega (arith, bucket_low)) ∙ l.blank (next_at n e) (omega arith) ∙ sym new_last
              at_e (suc q) z =
                  let k = l.here b₀ q bucket_low z in
                  kept_next q z (next_at n e) (λ r. omega (arith, bucket_low))
                  (λ r. apart e q g.end (l.sits b₀ q bucket_low z) whole k.0 (λ d. omega (arith, k.0)) r)
                  ∙ l.blank (next_at n e) (omega arith) ∙ sym new_last

    pub entered_next : Entered t x' e'
    entered_next =
        record {
          end = sits_next t e g.end some;
          first = next_first;
          next = λ p w h k. next_link p w k h;
          whole = is_whole;
        }

    -- an entry of no list stays
    pub entered-kept : (j : ℕ) → (j ≡ last_at n b₀ → ⊥) → (j ≡ first_at n b₀ → ⊥)
        → ((q : ℕ) → Sits t q → q < e → (front_of (drop q t)).kind ≡ 4 → j ≡ next_at n q → ⊥) → get_or x' j 0 ≡ get_or x j 0
    entered-kept j h k away = go last refl
      where
        go : (v : ℕ) → last ≡ v → get_or x' j 0 ≡ get_or x j 0
        go zero z = kept-first z j h k
        go (suc q) z =
            let i = l.here b₀ q bucket_low z in
            let w = l.sits b₀ q bucket_low z in
            kept_next q z j h (away q w i.0 (list_kind_lem t q w (omega (arith, i.0, some)) b₀ bucket_low i.1))

    -- the last records
    last-kept : (b : ℕ) → b < list_count n → (b₀ ≡ b → ⊥) → get_or x' (last_at n b) 0 ≡ get_or x (last_at n b) 0
    last-kept b low d = go last refl
      where
        go : (v : ℕ) → last ≡ v → Kept (last_at n b)
        go zero z = kept-first z (last_at n b) (λ r. d (omega arith)) (λ r. omega (arith, bucket_low))
        go (suc q) z = kept_next q z (last_at n b) (λ r. d (omega arith)) (λ r. omega (arith, low))

    pub lasts_next : Lasts t x' e'
    lasts_next =
        record {
          none = λ b low z. none b low z (eqb b₀ b) refl;
          sits = λ b q low z. sits b q low z (eqb b₀ b) refl;
          here = λ b q low z. here b q low z (eqb b₀ b) refl;
          blank = blank;
          long = omega (arith, long-x', l.long);
        }
      where
        differs : (b : ℕ) → eqb b₀ b ≡ false → b₀ ≡ b → ⊥
        differs b s r = true≢false (sym (eq-eqb _ _ r) ∙ s)

        is_e : (b v : ℕ) → b₀ ≡ b → get_or x' (last_at n b) 0 ≡ v → v ≡ suc e
        is_e b v d z = sym z ∙ ap (λ (k : ℕ). get_or x' (last_at n k) 0) (sym d) ∙ written_last

        none : (b : ℕ) → b < list_count n → get_or x' (last_at n b) 0 ≡ 0 → (u : Bool) → eqb b₀ b ≡ u → clipped e' (next_from t b 0) ≡ 0
        none b low z true s = absurd (omega (arith, is_e b 0 (eqb-true _ _ s) z))
        none b low z false s =
            let d = differs b s in
            still b 0 (record { index = 0; at = at_start t }) (omega arith) (l.none b low (sym (last-kept b low d) ∙ z)) d

        sits : (b q : ℕ) → b < list_count n → get_or x' (last_at n b) 0 ≡ suc q → (u : Bool) → eqb b₀ b ≡ u → Sits t q
        sits b q low z true s = let f : q ≡ e = omega (arith, is_e b (suc q) (eqb-true _ _ s) z) in subst (λ (i : ℕ). Sits t i) (sym f) g.end
        sits b q low z false s = l.sits b q low (sym (last-kept b low (differs b s)) ∙ z)

        here : (b q : ℕ) → b < list_count n → get_or x' (last_at n b) 0 ≡ suc q → (u : Bool) → eqb b₀ b ≡ u
            → (q < e') × (list_in (length t) (front_record (drop q t)) ≡ b) × (clipped e' (next_from t b (behind t q)) ≡ 0)
        here b q low z true s =
            let d : b₀ ≡ b = eqb-true _ _ s in
            let f : q ≡ e = omega (arith, is_e b (suc q) d z) in
            subst (λ (i : ℕ). (i < e') × (list_in (length t) (front_record (drop i t)) ≡ b) × (clipped e' (next_from t b (behind t i)) ≡ 0)) (sym f)
            (omega (arith, later), d, ap (λ (k : ℕ). clipped e' (next_from t k e')) (sym d) ∙ new_last)
        here b q low z false s =
            let d = differs b s in
            let y = sym (last-kept b low d) ∙ z in
            let k = l.here b q low y in
            let v = l.sits b q low y in (
              omega (arith, k.0, later),
              k.1,
              still b (behind t q) (sits_next t q v (omega (arith, k.0, some))) (behind-before t q e v g.end k.0) k.2 d,
            )

        blank : (j : ℕ) → next_at n e' ≤ j → get_or x' j 0 ≡ 0
        blank j h = go last refl
          where
            go : (v : ℕ) → last ≡ v → get_or x' j 0 ≡ 0
            go zero z =
                kept-first z j (λ r. omega (arith, bucket_low)) (λ r. omega (arith, bucket_low)) ∙ l.blank j (omega (arith, later))
            go (suc q) z =
                let k = l.here b₀ q bucket_low z in
                kept_next q z j (λ r. omega (arith, bucket_low)) (λ r. omega (arith, k.0, later)) ∙ l.blank j (omega (arith, later))

-- ---- at the start and at the end
module _ (t x : List ℕ) (z : (i : ℕ) → get_or x i 0 ≡ 0) (m : index_size (length t) ≤ length x) where
  start-sits : Sits t 0
  start-sits = record { index = 0; at = at_start t }

  blank_next : (b : ℕ) → clipped 0 (next_from t b 0) ≡ 0
  blank_next b =
      ⊎_elim (λ q. ap (clipped 0) q ∙ clipped_in 0 0 (omega arith)) (λ q. clipped-out 0 _ q.0) (next_bounds t b 0 start-sits _ refl)

  pub entered-start : Entered t x 0
  entered-start =
      record {
        end = start-sits;
        first = λ b low. z (first_at (length t) b) ∙ sym (blank_next b);
        next = λ p w h k. absurd (omega arith);
        whole = λ p w h. absurd (omega arith);
      }

  pub lasts_start : Lasts t x 0
  lasts_start =
      record {
        none = λ b low q. blank_next b;
        sits = λ b q low y. absurd (omega (arith, z (last_at (length t) b)));
        here = λ b q low y. absurd (omega (arith, z (last_at (length t) b)));
        blank = λ j h. z j;
        long = m;
      }

module _ (t x : List ℕ) (e : ℕ) (g : Entered t x e) (end : length t ≤ e) where
  all_in : (b p : ℕ) → Sits t p → clipped e (next_from t b p) ≡ next_from t b p
  all_in b p w =
      ⊎_elim (λ q. ap (clipped e) q ∙ clipped_in e 0 (omega arith) ∙ sym q) (λ q. clipped_in e _ (omega (arith, q.1))) (next_bounds t b p w _ refl)

  pub first_done : (b : ℕ) → b < list_count (length t) → get_or x (first_at (length t) b) 0 ≡ next_from t b 0
  first_done b low = g.first b low ∙ all_in b 0 (record { index = 0; at = at_start t })

  pub next_done : (p : ℕ) → Sits t p → p < length t → (front_of (drop p t)).kind ≡ 4
      → get_or x (next_at (length t) p) 0 ≡ next_from t (list_in (length t) (front_record (drop p t))) (behind t p)
  next_done p w h k = g.next p w (omega arith) k ∙ all_in _ (behind t p) (sits_next t p w h)
