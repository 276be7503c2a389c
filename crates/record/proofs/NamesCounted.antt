-- The number of names that a walk carries.
use Prim.Native.Nat.{ℕ, zero, suc, ◌+◌, ◌≤◌}
use lib.Dec.{eqb}
use lib.ListN.{length, take, drop, get_or}
use mathlib.Core.Bool.{Bool, true, false}
use mathlib.Core.List.{List, [], ◌∷◌}
use mir.Val.{bool_byte}
use mathlib.Core.Path.{◌≡◌, refl, sym, ap, ◌∙◌, subst}
use native.Mathlib.Omega.{arith}
use Rattle.std.proofs.Common.{Fits, w16}
use Rattle.record.proofs.Laid.{same_kind, same_count}
use Rattle.record.proofs.NameRecords.{name_some, named_step, name_step}
use Rattle.record.proofs.Records.{record_own, at_new, at_next, before_next}
use Rattle.record.specs.Inside.Front.{Front, front_of, front_at}
use Rattle.record.specs.Inside.FrontRecord.{count_of}
use Rattle.record.specs.Inside.Walk.{CursorAt, StepIs, record_at}
use Rattle.record.specs.Layout.{record_kind}
use Rattle.record.specs.Inside.NamesBefore.{WalkAt, WalkOn, NameHere, walk_start, behind_name}
use Rattle.record.specs.Table.{Record, records_of, name_count, before}
use Rattle.record.specs.declared.walk.Cursor.{Cursor}
use Rattle.record.specs.declared.walk.Step.{Step}
use Rattle.record.specs.declared.walk.TableWalk.{TableWalk}
use Rattle.ty.specs.Choose.{choose}

-- counted the latest first, or the first first
pub count_before : (k : ℕ) (rs : List Record) → k ≤ length rs → count_of 1 (take k rs) ≡ count_of 1 (before k rs)
unfolding before count_of
count_before zero rs h = refl
count_before (suc k) rs h = last k rs h ∙ ap (λ (n : ℕ). choose (eqb (front_of (get_or rs k [])).kind 1) 1 0 + n) (count_before k rs (omega (arith, h)))
  where
    last : (k : ℕ) (rs : List Record) → suc k ≤ length rs
        → count_of 1 (take (suc k) rs) ≡ choose (eqb (front_of (get_or rs k [])).kind 1) 1 0 + count_of 1 (take k rs)
    last zero (r ∷ rs) h = refl
    last zero [] h = absurd (omega (arith, h))
    last (suc k) [] h = absurd (omega (arith, h))
    last (suc k) (r ∷ rs) h =
        let i = last k rs (omega (arith, h)) in
        omega (arith, i)

-- the names among the first k records, the latest first or the first first
pub names_taken : (k : ℕ) (rs : List Record) → k ≤ length rs → name_count (before k rs) ≡ name_count (take k rs)
names_taken k rs h = sym (same_count 1 (before k rs)) ∙ sym (count_before k rs h) ∙ same_count 1 (take k rs)

-- one record more
pub names_next : (k : ℕ) (rs : List Record) → suc k ≤ length rs
    → name_count (take (suc k) rs) ≡ name_count (take k rs) + choose (eqb (record_kind (get_or rs k [])) 1) 1 0
unfolding before count_of
names_next k rs h =
    sym (same_count 1 (take (suc k) rs)) ∙ count_before (suc k) rs h
    ∙ (λ i. choose (eqb (same_kind (get_or rs k []) i) 1) 1 0 + (sym (count_before k rs (omega (arith, h))) ∙ same_count 1 (take k rs)) i) ∙ omega arith

-- no more names than records
pub count_few : (k n : ℕ) (rs : List Record) → count_of k (before n rs) ≤ n
unfolding before count_of choose
count_few k zero rs = omega arith
count_few k (suc n) rs = go (count_few k n rs) (eqb (front_of (get_or rs n [])).kind k)
  where
    go : count_of k (before n rs) ≤ n → (b : Bool) → choose b 1 0 + count_of k (before n rs) ≤ suc n
    go i true = omega (arith, i)
    go i false = omega (arith, i)

module _ (t : List ℕ) (w : TableWalk) (a : WalkAt t w) where
  -- the number by the records before, the latest first
  pub walk_names : w.names ≡ count_of 1 (before w.here.index (records_of t))
  walk_names = a.names ∙ sym (same_count 1 (take w.here.index (records_of t))) ∙ count_before w.here.index (records_of t) a.at.count

-- such a number makes a walk
pub walk_at : (t : List ℕ) (w : TableWalk) → CursorAt t w.here → w.names ≡ count_of 1 (before w.here.index (records_of t)) → WalkAt t w
walk_at t w a e =
    record { at = a; names = e ∙ sym (count_before w.here.index (records_of t) a.count) ∙ same_count 1 (take w.here.index (records_of t)) }

-- at the start
pub walk_new : (t : List ℕ) (w : TableWalk) → w ≡ walk_start → WalkAt t w
unfolding before count_of
walk_new t w e = subst (WalkAt t) (sym e) (walk_at t walk_start (at_new t walk_start.here refl) refl)

-- behind a record: one more where that is a name
pub walk_next : (t : List ℕ) (w : TableWalk) (a : WalkAt t w) (s : Step) (r : StepIs t w.here s) (v : TableWalk) → v.here ≡ s.next
    → v.names ≡ w.names + choose (eqb (front_of (record_at t w.here)).kind 1) 1 0 → WalkAt t v
unfolding count_of
walk_next t w a s r v h n =
    walk_at t v (subst (CursorAt t) (sym h) (at_next t w.here a.at s r))
    (n ∙ ap (λ (z : ℕ). z + choose (eqb (front_of (record_at t w.here)).kind 1) 1 0) (walk_names t w a) ∙ omega arith
    ∙ sym (ap (count_of 1) (ap (λ (i : ℕ). before i (records_of t)) (ap (λ (z : Cursor). z.index) h) ∙ before_next t w.here a.at s r)))

-- what a step makes of the number
module _ (t : List ℕ) (w : TableWalk) (on : WalkOn t w) (s : Step) (r : StepIs t w.here s) (b : Bool) (is : (z : List ℕ) → b ≡ eqb (front_at z s.head).kind 1)
    (n : ℕ) (u : n ≡ bool_byte b) where
  one : n ≡ choose (eqb (front_of (record_at t w.here)).kind 1) 1 0
  unfolding choose
  one = u ∙ go b ∙ ap (λ (z : Bool). choose z 1 0) (is (drop w.here.at t) ∙ ap (λ (z : Front). eqb z.kind 1) r.own)
    where
      go : (v : Bool) → bool_byte v ≡ choose v 1 0
      go true = refl
      go false = refl

  pub step_fits : Fits w16 (w.names + n)
  step_fits = go b u
    where
      go : (v : Bool) → n ≡ bool_byte v → Fits w16 (w.names + n)
      go true e = omega (arith, walk_names t w on.walk, count_few 1 w.here.index (records_of t), on.walk.at.behind, on.walk.at.inside, on.short, e)
      go false e = omega (arith, walk_names t w on.walk, count_few 1 w.here.index (records_of t), on.walk.at.behind, on.walk.at.inside, on.short, e)

  pub stepped : WalkAt t (record { here = s.next; names = w.names + n })
  stepped = walk_next t w on.walk s r (record { here = s.next; names = w.names + n }) refl (ap (λ (z : ℕ). w.names + z) one)

-- behind a whole name
pub behind_counted : (t : List ℕ) (w v : TableWalk) → v ≡ behind_name w → WalkAt t w → NameHere t w.here → WalkAt t v
unfolding choose
behind_counted t w v e a n =
    let one : ℕ = 1 in
    let k : choose (eqb (front_of (record_at t w.here)).kind 1) 1 0 ≡ one
    = ap (λ (z : Front). choose (eqb z.kind 1) 1 0) (record_own t w.here (name_some t w.here n.byte) ∙ n.front) in
    let c : suc w.names ≡ w.names + choose (eqb (front_of (record_at t w.here)).kind 1) 1 0 = omega (arith, k) in
    subst (WalkAt t) (sym e) (walk_next t w a (named_step t w.here n.byte) (name_step t w.here n.byte n.front) (behind_name w) refl c)
