-- The last class record of an id, from a byte on and from a later one.
use Prim.Native.Nat.{ℕ, zero, suc, ◌+◌, ◌-◌, ◌≤◌, ◌<◌}
use borrow.Author.Tests.{eqb-true, eq-eqb, lt-ltb, le-ltb, ltb-true, ltb-false}
use lib.Dec.{eqb, ltb}
use lib.ListN.{length, get_or, set, drop, length-set}
use lib.Seq.{get_or-set_same, get_or-set_other}
use mathlib.Core.Bool.{Bool, true, false, ◌&&◌, ◌||◌, true≢false}
use mathlib.Core.List.{List, [], ◌∷◌}
use mathlib.Core.Path.{◌≡◌, refl, sym, ap, ◌∙◌, subst}
use native.Mathlib.Omega.{arith, not-le}
use Rattle.index.proofs.Chains.{behind-before}
use Rattle.index.proofs.ListSearch.{sits_at, sits_cons, sits-own, sits_next, sits_later, sits-length}
use Rattle.index.specs.Inside.Ahead.{or_else, last_class, Ahead, marked, all_marked, marked_from, Looked}
use Rattle.record.proofs.Records.{records-end}
use Rattle.record.specs.Inside.Front.{front_of, front_at}
use Rattle.record.specs.Inside.FrontRecord.{front_record}
use Rattle.record.specs.Inside.HeadFault.{is_class, has_class}
use Rattle.record.specs.Inside.Walk.{CursorAt, Sits, StepIs, record_at, behind}
use Rattle.record.specs.Table.{Record, records_of}
use Rattle.record.specs.Inside.Front.{Front}
use Rattle.record.specs.declared.walk.Cursor.{Cursor}
use Rattle.record.specs.declared.walk.Step.{Step}
use Rattle.ty.specs.Choose.{choose}

-- ---- one record or another
or_nested : (u v w : ℕ) → or_else (or_else u v) w ≡ or_else u (or_else v w)
unfolding or_else
or_nested zero v w = refl
or_nested (suc u) v w = refl

-- one that does not lie behind p decides nothing there
or_past : (p v w : ℕ) → w ≤ p → ltb p (or_else v w) ≡ ltb p v
unfolding or_else
or_past p zero w h = le-ltb p w h ∙ sym (le-ltb p 0 (omega arith))
or_past p (suc v) w h = refl

-- ---- the last class record among some
abbrev own : ℕ → ℕ → Record → ℕ
own id p r = choose (is_class id (front_of r)) (suc p) 0

own_most : (id p : ℕ) (r : Record) → own id p r ≤ suc p
own_most id p r = go (is_class id (front_of r))
  where
    go : (b : Bool) → choose b (suc p) 0 ≤ suc p
    go true = unfold choose in omega arith
    go false = unfold choose in omega arith

-- there is one if the class has a record
last_has : (id p : ℕ) (rs : List Record) → ltb 0 (last_class id p rs) ≡ has_class id rs
unfolding last_class has_class
last_has id p [] = le-ltb 0 0 (omega arith)
last_has id p (r ∷ rs) = go (is_class id (front_of r)) (last_class id (p + length r) rs) (last_has id (p + length r) rs)
  where
    go : (b : Bool) (v : ℕ) → ltb 0 v ≡ has_class id rs → ltb 0 (or_else v (choose b (suc p) 0)) ≡ (b || has_class id rs)
    go true zero h = unfold or_else choose in lt-ltb 0 (suc p) (omega arith)
    go true (suc v) h = unfold or_else in lt-ltb 0 (suc v) (omega arith)
    go false zero h = unfold or_else choose in h
    go false (suc v) h = unfold or_else in h

-- and it begins at p or behind it
last_low : (id p : ℕ) (rs : List Record) → 0 < last_class id p rs → p < last_class id p rs
unfolding last_class
last_low id p [] h = absurd (omega arith)
last_low id p (r ∷ rs) h = go (is_class id (front_of r)) (last_class id (p + length r) rs) (last_low id (p + length r) rs) h
  where
    go : (b : Bool) (v : ℕ) → (0 < v → p + length r < v) → 0 < or_else v (choose b (suc p) 0) → p < or_else v (choose b (suc p) 0)
    go true zero l h = unfold or_else choose in omega arith
    go true (suc v) l h = unfold or_else in omega (arith, l (omega arith))
    go false zero l h = absurd (unfold or_else choose in omega (arith, h))
    go false (suc v) l h = unfold or_else in omega (arith, l (omega arith))

last_from_lem : (id p : ℕ) (rs : List Record) → ltb p (last_class id p rs) ≡ has_class id rs
last_from_lem id p rs = go (last_class id p rs) (last_low id p rs) ∙ last_has id p rs
  where
    go : (v : ℕ) → (0 < v → p < v) → ltb p v ≡ ltb 0 v
    go zero l = le-ltb p 0 (omega arith) ∙ sym (le-ltb 0 0 (omega arith))
    go (suc v) l = lt-ltb p (suc v) (l (omega arith)) ∙ sym (lt-ltb 0 (suc v) (omega arith))

-- ---- from a record on, and from the next one
abbrev pub last_from : List ℕ → ℕ → ℕ → ℕ
last_from t id p = last_class id p (records_of (drop p t))

last_next : (t : List ℕ) (id p : ℕ) → Sits t p → p < length t → last_from t id p ≡ or_else (last_from t id (behind t p)) (own id p (front_record (drop p t)))
unfolding last_class
last_next t id p w s =
    ap (last_class id p) (sits_cons t p w s)
    ∙ ap (λ (k : ℕ). or_else (last_class id k (records_of (drop (behind t p) t))) (own id p (front_record (drop p t)))) (sits-length t p w s)

-- what lies behind p is the same from each earlier record on
last_later : (t : List ℕ) (id p : ℕ) → Sits t p → (m q : ℕ) → p - q ≤ m → Sits t q → q ≤ p → ltb p (last_from t id q) ≡ ltb p (last_from t id p)
last_later t id p v zero q h w l = let e : q ≡ p = omega arith in ap (λ (k : ℕ). ltb p (last_from t id k)) e
last_later t id p v (suc m) q h w l =
    go (eqb q p) refl (λ s k. last_later t id p v m (behind t q) (omega (arith, sits_later t q w s)) (sits_next t q w s) k)
  where
    go : (b : Bool) → eqb q p ≡ b → (q < length t → behind t q ≤ p → ltb p (last_from t id (behind t q)) ≡ ltb p (last_from t id p)) → ltb p (last_from t id q) ≡ ltb p (last_from t id p)
    go true e ih = ap (λ (k : ℕ). ltb p (last_from t id k)) (eqb-true q p e)
    go false e ih =
        let a : q < p = not-le p q (λ k. true≢false (sym (eq-eqb q p (omega arith)) ∙ e)) in
        let s : q < length t = omega (arith, v.at.inside) in
        ap (ltb p) (last_next t id q w s)
        ∙ or_past p (last_from t id (behind t q)) (own id q (front_record (drop q t))) (omega (arith, own_most id q (front_record (drop q t))))
        ∙ ih s (behind-before t q p w v a)

-- A CLASS HAS A RECORD FROM p ON if its last one from e on begins at p or behind it
pub ahead_class : (t late : List ℕ) (e p id : ℕ) → Ahead t late e → Sits t p → e ≤ p → id < length late → has_class id (records_of (drop p t)) ≡ ltb p (get_or late id 0)
ahead_class t late e p id a w l i =
    sym
    (ap (ltb p) (a.last id i)
    ∙ last_later t id p w (p - e) e (omega arith) a.sits l
    ∙ last_from_lem id p (records_of (drop p t)))

-- ---- the entries hold the last class records from e on before the cursor
record Looking (t late : List ℕ) (e : ℕ) (c : Cursor) : Type 0 where
  pub sits : Sits t e
  pub at : CursorAt t c
  pub last : (id : ℕ) → id < length late → last_from t id e ≡ or_else (last_from t id c.at) (get_or late id 0)

looking_start : (t late : List ℕ) (c : Cursor) → CursorAt t c → ((i : ℕ) → get_or late i 0 ≡ 0) → Looking t late c.at c
looking_start t late c a blank =
    record {
      sits = record { index = c.index; at = a };
      at = a;
      last = λ id i. sym (ap (or_else (last_from t id c.at)) (blank id) ∙ or_none_lem (last_from t id c.at));
    }
  where
    or_none_lem : (v : ℕ) → or_else v 0 ≡ v
    or_none_lem zero = unfold or_else in refl
    or_none_lem (suc v) = unfold or_else in refl

marked-length : (kind one p : ℕ) (late : List ℕ) → length (marked kind one p late) ≡ length late
unfolding marked
marked-length kind one p late = go (eqb kind 2)
  where
    go : (b : Bool) → length (choose b (set late one (suc p)) late) ≡ length late
    go true = unfold choose in length-set late one (suc p)
    go false = unfold choose in refl

-- an entry, with one record more
marked_entry : (h : Front) (p : ℕ) (late : List ℕ) (id : ℕ) → id < length late → get_or (marked h.kind h.one p late) id 0 ≡ or_else (choose (is_class id h) (suc p) 0) (get_or late id 0)
unfolding marked choose or_else
marked_entry h p late id i = go (eqb h.kind 2) (eqb h.one id) refl
  where
    go : (k o : Bool) → eqb h.one id ≡ o → get_or (choose k (set late h.one (suc p)) late) id 0 ≡ or_else (choose (k && o) (suc p) 0) (get_or late id 0)
    go false o e = refl
    go true true e =
        let q : h.one ≡ id = eqb-true h.one id e in
        ap (λ (k : ℕ). get_or (set late k (suc p)) id 0) q ∙ get_or-set_same late id (suc p) 0 i
    go true false e =
        get_or-set_other late h.one id (suc p) 0 (λ z. true≢false (sym (eq-eqb h.one id (sym z)) ∙ e))

-- behind the record at a cursor
abbrev next_of : List ℕ → Cursor → Cursor
next_of t c = record { at = behind t c.at; index = c.index + 1 }

-- that record comes into the entries
abbrev marked_here : List ℕ → Cursor → List ℕ → List ℕ
marked_here t c late = marked (front_of (drop c.at t)).kind (front_of (drop c.at t)).one c.at late

module _ (t late : List ℕ) (e : ℕ) (c : Cursor) (g : Looking t late e c) where
  looking_done : length t ≤ c.at → Ahead t late e
  unfolding last_class or_else
  looking_done end =
      record {
        sits = g.sits;
        last = λ id i. sym (g.last id i ∙ ap (λ (rs : List Record). or_else (last_class id c.at rs) (get_or late id 0)) (records-end t c.at end));
      }

  abbrev h : Front
  h = front_of (drop c.at t)

  looking_next : c.at < length t → Looking t (marked_here t c late) e (next_of t c)
  looking_next some =
      record {
        sits = g.sits;
        at = sits_at t c.at w some;
        last = λ id i.
            let j : id < length late = omega (arith, marked-length h.kind h.one c.at late) in
            g.last id j
            ∙ ap (λ (k : ℕ). or_else k (get_or late id 0)) (here id)
            ∙ or_nested (last_from t id (behind t c.at)) (choose (is_class id h) (suc c.at) 0) (get_or late id 0)
            ∙ ap (or_else (last_from t id (behind t c.at))) (sym (marked_entry h c.at late id j));
      }
    where
      w : Sits t c.at
      w = record { index = c.index; at = g.at }

      here : (id : ℕ) → last_from t id c.at ≡ or_else (last_from t id (behind t c.at)) (choose (is_class id h) (suc c.at) 0)
      here id =
          last_next t id c.at w some
          ∙ ap (λ (z : Front). or_else (last_from t id (behind t c.at)) (choose (is_class id z) (suc c.at) 0)) (sits-own t c.at w some)

-- ---- the records from a cursor on come into the entries
module _ (t late : List ℕ) (c : Cursor) (a : CursorAt t c) where
  pub marked-end : length t ≤ c.at → late ≡ marked_from t c.at late
  unfolding all_marked
  marked-end end = ap (λ (rs : List Record). all_marked c.at rs late) (sym (records-end t c.at end))

  marked_on : c.at < length t → marked_from t (behind t c.at) (marked_here t c late) ≡ marked_from t c.at late
  unfolding all_marked
  marked_on some =
      ap (λ (h : Front). marked_from t (behind t c.at) (marked h.kind h.one c.at late)) (sym (sits-own t c.at w some))
      ∙ ap (λ (k : ℕ). all_marked k (records_of (drop (behind t c.at) t)) here) (sym (sits-length t c.at w some))
      ∙ ap (λ (rs : List Record). all_marked c.at rs late) (sym (sits_cons t c.at w some))
    where
      w : Sits t c.at
      w = record { index = c.index; at = a }

      here : List ℕ
      here = marked (front_of (record_at t c)).kind (front_of (record_at t c)).one c.at late

  pub marked_next : (s : Step) → StepIs t c s → c.at < length t → (late' : List ℕ)
      → late' ≡ marked (front_at (drop c.at t) s.head).kind (front_at (drop c.at t) s.head).one c.at late
      → marked_from t s.next.at late' ≡ marked_from t c.at late
  marked_next s st some late' is =
      ap (marked_from t s.next.at) (is ∙ ap (λ (h : Front). marked h.kind h.one c.at late) st.head)
      ∙ ap (λ (k : ℕ). marked_from t k (marked_here t c late)) st.next ∙ marked_on some

-- and so they have the last class records
module _ (t : List ℕ) (e : ℕ) where
  made_end : (late : List ℕ) (c : Cursor) → Looking t late e c → length t ≤ c.at → Ahead t (marked_from t c.at late) e
  made_end late c g end = subst (λ (z : List ℕ). Ahead t z e) (marked-end t late c g.at end) (looking_done t late e c g end)

  made : (m : ℕ) (late : List ℕ) (c : Cursor) → length t - c.at ≤ m → Looking t late e c → Ahead t (marked_from t c.at late) e
  made zero late c h g = made_end late c g (omega arith)
  made (suc m) late c h g =
      go (ltb c.at (length t)) refl
      (λ some.
      let l = sits_later t c.at (record { index = c.index; at = g.at }) some in
      made m (marked_here t c late) (next_of t c) (omega arith) (looking_next t late e c g some))
    where
      go : (u : Bool) → ltb c.at (length t) ≡ u → (c.at < length t → Ahead t (marked_from t (behind t c.at) (marked_here t c late)) e)
          → Ahead t (marked_from t c.at late) e
      go false q ih = made_end late c g (ltb-false c.at (length t) q)
      go true q ih =
          let some = ltb-true c.at (length t) q in
          subst (λ (z : List ℕ). Ahead t z e) (marked_on t late c g.at some) (ih some)

pub ahead_made : (t late : List ℕ) (c : Cursor) → CursorAt t c → ((i : ℕ) → get_or late i 0 ≡ 0) → (made : List ℕ) → made ≡ marked_from t c.at late
    → Ahead t made c.at
ahead_made t late c a blank z e =
    subst (λ (y : List ℕ). Ahead t y c.at) (sym e) (made t c.at (length t) late c (omega arith) (looking_start t late c a blank))

-- entries that were made at a byte or before it serve later records
pub looked_on : (t late : List ℕ) (p q : ℕ) → p ≤ q → (looked : Bool) → Looked t late p looked → Looked t late q looked
looked_on t late p q l true a = record { from = a.from; low = omega (arith, a.low); ahead = a.ahead }
looked_on t late p q l false a = a
