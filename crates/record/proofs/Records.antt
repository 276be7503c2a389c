-- The records of a table, and a cursor that walks them.
use Prim.Native.Nat.{ℕ, zero, suc, ◌+◌, ◌-◌, ◌≤◌, ◌<◌}
use lib.ListN.{length, take, drop, get_or, length-drop, drop_of_length-le, take-append-drop}
use lib.Seq.{drop-drop, get_or-drop, get_or-take}
use mathlib.Core.List.{List, [], ◌∷◌, ◌++◌}
use mathlib.Core.Path.{◌≡◌, refl, sym, ap, ◌∙◌, subst}
use native.Mathlib.Nat.{not-suc-le-zero}
use native.Mathlib.Numerals.{add-one}
use native.Mathlib.Omega.{arith, not-le}
use Rattle.record.proofs.Agree.{same_size}
use Rattle.record.proofs.Bounds.{head_bounded}
use Rattle.record.proofs.Own.{head_own, drop-take}
use Rattle.record.specs.Inside.Front.{front_of}
use Rattle.record.specs.Inside.FrontRecord.{front_record}
use Rattle.record.specs.Table.{Record, records_from, records_of, joined, before}
use Rattle.record.specs.Inside.Walk.{start, CursorAt, record_at, StepIs}
use Rattle.record.specs.declared.walk.Cursor.{Cursor}
use Rattle.record.specs.declared.walk.Step.{Step}

-- to skip n bytes is to start behind them
records_skip : (bs : List ℕ) (n : ℕ) → records_from bs n ≡ records_from (drop n bs) 0
unfolding records_from
records_skip [] zero = refl
records_skip [] (suc n) = refl
records_skip (b ∷ bs) zero = refl
records_skip (b ∷ bs) (suc n) = records_skip bs n

drop_suc : (b : ℕ) (bs : List ℕ) (n : ℕ) → 1 ≤ n → drop (n - 1) bs ≡ drop n (b ∷ bs)
drop_suc b bs n h =
    let e : suc (n - 1) ≡ n = omega arith in
    ap (λ (k : ℕ). drop k (b ∷ bs)) e

-- the record at the front, and the records behind it
pub records-here : (s : List ℕ) → 0 < length s → records_of s ≡ front_record s ∷ records_of (drop (front_of s).len s)
unfolding records_from
records-here [] h = absurd (not-suc-le-zero h)
records-here (b ∷ bs) h =
    (λ i. take (sym (same_size (b ∷ bs)) i) (b ∷ bs) ∷ records_from bs (sym (same_size (b ∷ bs)) i - 1))
    ∙ ap (λ (rs : List Record). front_record (b ∷ bs) ∷ rs)
    (records_skip bs ((front_of (b ∷ bs)).len - 1)
    ∙ ap (λ (z : List ℕ). records_from z 0) (drop_suc b bs (front_of (b ∷ bs)).len (head_bounded (b ∷ bs) h).low))

-- past the end there is no record
pub records-end : (t : List ℕ) (a : ℕ) → length t ≤ a → records_of (drop a t) ≡ []
unfolding records_from
records-end t a h = ap (λ (z : List ℕ). records_from z 0) (drop_of_length-le t h)

-- THE RECORDS OF A TABLE, JOINED, ARE THE TABLE
pub records-joined : (t : List ℕ) → joined (records_of t) ≡ t
records-joined t = go (length t) t (omega arith)
  where
    go : (n : ℕ) (s : List ℕ) → length s ≤ n → joined (records_of s) ≡ s
    go zero [] h = nil
      where
        nil : joined (records_of []) ≡ []
        nil = unfold joined records_from in refl
    go zero (b ∷ bs) h = absurd (not-suc-le-zero h)
    go (suc n) [] h = unfold joined records_from in refl
    go (suc n) (b ∷ bs) h =
        let s = b ∷ bs in
        let some : 0 < length s = omega arith in
        let l = (head_bounded s some).low in
        ap joined (records-here s some)
        ∙ cons s
        ∙ ap (λ (z : List ℕ). front_record s ++ z) (go n (drop (front_of s).len s) (omega (arith, length-drop (front_of s).len s)))
        ∙ take-append-drop (front_of s).len s
      where
        cons : (s : List ℕ) → joined (front_record s ∷ records_of (drop (front_of s).len s)) ≡ front_record s ++ joined (records_of (drop (front_of s).len s))
        cons s = unfold joined in refl

-- what a cons behind k elements says
module _ (all : List Record) (k : ℕ) (x : Record) (xs : List Record) (e : drop k all ≡ x ∷ xs) where
  cons_next : drop (k + 1) all ≡ xs
  cons_next = sym (drop-drop 1 k all) ∙ ap (λ (z : List Record). drop 1 z) e

  cons_at : get_or all k [] ≡ x
  cons_at =
      let z : k + 0 ≡ k = omega arith in
      ap (λ (n : ℕ). get_or all n []) (sym z) ∙ sym (get_or-drop k all 0 []) ∙ ap (λ (l : List Record). get_or l 0 []) e

  cons_long : k < length all
  cons_long = omega (arith, length-drop k all, ap (λ (l : List Record). length l) e)

pub at_start : (t : List ℕ) → CursorAt t start
at_start t = record { sits = refl; behind = omega arith; inside = omega arith; count = omega arith }

pub at_new : (t : List ℕ) (c : Cursor) → c ≡ start → CursorAt t c
at_new t c e = subst (λ (z : Cursor). CursorAt t z) (sym e) (at_start t)

-- what stands in the record at a cursor stands there in the table
module _ (t : List ℕ) (c : Cursor) where
  pub record_byte : (i d : ℕ) → i < (front_of (drop c.at t)).len → get_or (record_at t c) i d ≡ get_or t (c.at + i) d
  record_byte i d h = get_or-take (front_of (drop c.at t)).len (drop c.at t) i d h ∙ get_or-drop c.at t i d

  pub record_part : (k : ℕ) → drop k (record_at t c) ≡ take ((front_of (drop c.at t)).len - k) (drop (c.at + k) t)
  record_part k =
      drop-take k (front_of (drop c.at t)).len (drop c.at t)
      ∙ ap (λ (z : List ℕ). take ((front_of (drop c.at t)).len - k) z) (drop-drop k c.at t)

  pub record_own : c.at < length t → front_of (record_at t c) ≡ front_of (drop c.at t)
  record_own h = head_own (drop c.at t) (omega (arith, length-drop c.at t))

-- a cursor that a step moved
module _ (t : List ℕ) (c : Cursor) (a : CursorAt t c) (s : Step) (r : StepIs t c s) where
  next_at_lem : s.next.at ≡ c.at + (front_of (drop c.at t)).len
  next_at_lem = r.next

  -- the records from here on
  pub here_cons : records_of (drop c.at t) ≡ record_at t c ∷ records_of (drop s.next.at t)
  here_cons =
      records-here (drop c.at t) (omega (arith, length-drop c.at t, r.low, r.high))
      ∙ ap (λ (z : List ℕ). record_at t c ∷ records_of z) (drop-drop (front_of (drop c.at t)).len c.at t ∙ ap (λ (k : ℕ). drop k t) (sym next_at_lem))

  table_cons : drop c.index (records_of t) ≡ record_at t c ∷ records_of (drop s.next.at t)
  table_cons = sym a.sits ∙ here_cons

  pub at_next : CursorAt t s.next
  at_next =
      record {
        sits = sym (cons_next (records_of t) c.index _ _ table_cons) ∙ ap (λ (k : ℕ). drop k (records_of t)) (sym r.index);
        behind = omega arith;
        inside = r.high;
        count = omega (arith, cons_long (records_of t) c.index _ _ table_cons);
      }

  -- the records behind the next cursor: this one first
  pub before_next : before s.next.index (records_of t) ≡ record_at t c ∷ before c.index (records_of t)
  unfolding before
  before_next =
      ap (λ (k : ℕ). before k (records_of t)) (r.index ∙ add-one c.index)
      ∙ ap (λ (z : Record). z ∷ before c.index (records_of t)) (cons_at (records_of t) c.index _ _ table_cons)

-- a cursor with records left is not at the end
pub at_more : (t : List ℕ) (c : Cursor) → CursorAt t c → c.index < length (records_of t) → c.at < length t
at_more t c a h =
    not-le (length t) c.at
    (λ l.
    let e : drop c.index (records_of t) ≡ [] = sym a.sits ∙ records-end t c.at l in
    omega (arith, length-drop c.index (records_of t), ap (λ (z : List Record). length z) e))
