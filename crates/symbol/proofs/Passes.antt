-- The pass over a table: what holds at each record of it, and what follows at its end.
use Prim.Native.Nat.{ℕ, zero, suc, ◌+◌, ◌≤◌, ◌<◌}
use borrow.Author.Tests.{eqb-true, eqb-false, ne_eqb, le-ltb, ltb-false}
use lib.Dec.{eqb, ltb}
use lib.ListN.{length, get_or, drop, set, length-drop, length-take}
use lib.Seq.{drop-cons, get_or-drop, get_or-set_same, get_or-set_other}
use mathlib.Core.Bool.{Bool, true, false, not, ◌||◌, true≢false}
use mathlib.Core.List.{List, [], ◌∷◌}
use mathlib.Core.Path.{◌≡◌, refl, sym, ap, ◌∙◌, subst}
use native.Mathlib.Omega.{arith, not-le}
use Rattle.ty.proofs.Choice.{chosen}
use Rattle.ty.specs.Choose.{choose}
use Rattle.ty.specs.Name.{no_id, id_defined}
use Rattle.index.proofs.Aheads.{looked_on}
use Rattle.index.proofs.Chains.{entered-start, lasts_start, first_done, next_done}
use Rattle.record.proofs.Faults.{fault_stop, fault_on, own-number, key_number, own-clean, own_rises, key_clean, missing_given, short_fault}
use Rattle.record.proofs.Bounds.{short_head}
use Rattle.record.proofs.Laid.{same_count}
use Rattle.record.proofs.RecordParts.{or_true}
use Rattle.record.proofs.RecordSizes.{head_kind, head_known}
use Rattle.record.proofs.NamesCounted.{walk_names, walk_new}
use Rattle.record.specs.Inside.NamesBefore.{WalkAt, walk_start}
use Rattle.record.specs.declared.walk.TableWalk.{TableWalk}
use Rattle.symbol.specs.Inside.NamesChecked.{RecordsPassed, NamesDone}
use Rattle.symbol.proofs.Joins.{Joining, joining}
use Rattle.symbol.proofs.IndexMakes.{placed-joined}
use Rattle.symbol.proofs.LateMakes.{look_after, look_seen}
use Rattle.symbol.proofs.NamesFit.{DefinedIn, ParentsDefined, parents_defined, id_low}
use Rattle.symbol.proofs.ParentLate.{own-three, one_is, of-class, missing_some, class_id}
use Rattle.record.proofs.Records.{here_cons, before_next, records-end, record_own}
use Rattle.index.proofs.SearchTrees.{tree_same, tree_start_lem}
use Rattle.record.specs.Inside.Walk.{Sits, StepIs, Stands, record_at, behind}
use Rattle.index.specs.Inside.IndexedTable.{IndexRoom, IndexedTable}
use Rattle.index.specs.Inside.Ahead.{late_size, LateRoom, Looked}
use Rattle.symbol.specs.Inside.Asked.{KindLimit, Asked, Prepared, missing_one, none_missing, missing_at, any_missing, fault_at, own_fault_at, key_fault_at}
use Rattle.record.specs.Inside.HeadFault.{first_interface_at, second_interface_at, id_missing, parent_missing, own_fault, key_fault, has_key, last_kind, head_fault, found_from}
use Rattle.record.specs.Inside.Front.{front_of, front_of_head, front_at}
use Rattle.record.specs.Inside.FrontRecord.{count_of}
use Rattle.record.specs.TableRefused.{table_fault}
use Rattle.record.specs.Table.{Record, records_of, name_count, before}
use Rattle.index.specs.Inside.Index.{root_at, first_at, child_at, next_at}
use Rattle.symbol.specs.Inside.Join.{EntryIs, AheadAsked, KeyAsked, JoinAsked, index_joined}
use Rattle.symbol.specs.Inside.IndexMade.{placed}
use Rattle.symbol.specs.Inside.LateMade.{late_looked}
use Rattle.index.specs.Inside.SearchTree.{Tree}
use Rattle.symbol.specs.declared.checks.Entry.{Entry}
use Rattle.symbol.specs.declared.checks.Missing.{Missing}
use Rattle.record.specs.Inside.Front.{Front}
use Rattle.record.specs.RecordKind.{record_kind_number}
use Rattle.record.specs.declared.front.Head.{Head}
use Rattle.record.specs.declared.front.RecordKind.{RecordKind}
use Rattle.record.specs.declared.front.RecordKind.TheVariants.{Class}
use Rattle.std.specs.Prelude.{Option, Some, None}
use Rattle.record.specs.declared.walk.Cursor.{Cursor}
use Rattle.record.specs.declared.walk.Step.{Step}

-- ---- how many of a kind
pub count_split : (k n : ℕ) (rs : List Record) → n ≤ length rs → count_of k (before n rs) + count_of k (drop n rs) ≡ count_of k rs
unfolding before count_of
count_split k zero rs h = omega arith
count_split k (suc n) rs h =
    let i = count_split k n rs (omega arith) in
    let d : count_of k (drop n rs) ≡ choose (eqb (front_of (get_or rs n [])).kind k) 1 0 + count_of k (drop (suc n) rs)
    = ap (count_of k) (drop-cons rs n [] h) in
    omega arith

-- ---- the records before a walk draw no number, and the index has them
-- a record that draws none draws none by itself, and none beside the others
module _ (earlier : List Record) (r : Record) (rest : List Record) (e : head_fault earlier r rest ≡ 0) where
  pub own_zero : own_fault earlier r ≡ 0
  own_zero = go (eqb (own_fault earlier r) 0) refl
    where
      go : (v : Bool) → eqb (own_fault earlier r) 0 ≡ v → own_fault earlier r ≡ 0
      go true q = eqb-true _ 0 q
      go false q = let h = eqb-false _ 0 q in absurd (h (sym (own-number earlier r rest h) ∙ e))

  pub key_zero : key_fault earlier r rest ≡ 0
  key_zero = sym (key_number earlier r rest own_zero) ∙ e

module _ (t x : List ℕ) (w : TableWalk) (g : RecordsPassed t x w) where
  abbrev c : Cursor
  c = w.here

  -- at the end
  module _ (end : length t ≤ c.at) where
    rest : records_of (drop c.at t) ≡ []
    rest = records-end t c.at end

    clean : table_fault t ≡ 0
    unfolding found_from
    clean = g.fault ∙ ap (found_from (before c.index (records_of t))) rest

    all_names : w.names ≡ count_of 1 (records_of t)
    unfolding count_of
    all_names =
        let e : count_of 1 (drop c.index (records_of t)) ≡ 0 = ap (count_of 1) (sym g.walk.at.sits ∙ rest) in
        omega (arith, count_split 1 c.index (records_of t) g.walk.at.count, walk_names t w g.walk)

    pub passed_clean : 0 ≡ table_fault t
    passed_clean = sym clean

    pub passed_names : w.names ≡ name_count (records_of t)
    passed_names = all_names ∙ same_count 1 (records_of t)

    pub passed_room : 0 < length x
    passed_room = omega (arith, g.lasts.long)

    whole-tree : Tree t (set x 0 w.names) (length t)
    whole-tree =
        let e : c.at ≡ length t = omega (arith, g.walk.at.inside) in
        subst (λ (i : ℕ). Tree t (set x 0 w.names) i) e
        (tree_same t x (set x 0 w.names) c.at g.tree (λ b l. get_or-set_other x 0 (root_at b) w.names 0 (λ z. omega arith))
        (λ p u i l. get_or-set_other x 0 (child_at (length t) p i) w.names 0 (λ z. omega arith)))

    pub passed_accepted : (y : List ℕ) → y ≡ set x 0 w.names → IndexedTable t y
    passed_accepted y e =
        subst (λ (z : List ℕ). IndexedTable t z) (sym e)
        (record {
          clean = clean;
          indexed =
              record {
                names = get_or-set_same x 0 w.names 0 passed_room ∙ passed_names;
                first = λ b low. get_or-set_other x 0 (first_at (length t) b) w.names 0 (λ z. omega arith) ∙ first_done t x c.at g.entered end b low;
                next = λ p u h f. get_or-set_other x 0 (next_at (length t) p) w.names 0 (λ z. omega arith) ∙ next_done t x c.at g.entered end p u h f;
                tree = whole-tree;
              };
        })

  -- at a record
  module _ (p : Step) (st : StepIs t c p) (some : c.at < length t) where
    -- a malformed one draws 2
    pub passed_broken : p.head ≡ None → 2 ≡ own_fault (before c.index (records_of t)) (record_at t c)
    unfolding own_fault
    passed_broken m =
        let u : (front_of (record_at t c)).malformed ≡ true
        = sym (ap (λ (h : Front). h.malformed) st.own) ∙ ap (λ (z : Option Head). (front_at (drop c.at t) z).malformed) m in
        chosen _ _ _ _ u refl

    -- another one
    module _ (h : Head) (read : p.head ≡ Some h) where
      pub passed_stands : Stands t c h
      passed_stands = record { at = g.walk.at; some = some; head = ap (front_at (drop c.at t)) (sym read) ∙ st.head }

      pub own-front : front_of_head h ≡ front_of (record_at t c)
      own-front = ap (front_at (drop c.at t)) (sym read) ∙ st.own

    -- its number
    module _ (f : ℕ) (fault : f ≡ fault_at t c) where
      here : head_fault (before c.index (records_of t)) (record_at t c) (record_at t c ∷ records_of (drop p.next.at t)) ≡ f
      here = sym (fault ∙ ap (head_fault (before c.index (records_of t)) (record_at t c)) (here_cons t c g.walk.at p st))

      onward : table_fault t ≡ found_from (before c.index (records_of t)) (record_at t c ∷ records_of (drop p.next.at t))
      onward = g.fault ∙ ap (found_from (before c.index (records_of t))) (here_cons t c g.walk.at p st)

      pub passed_refused : (f ≡ 0 → ⊥) → f ≡ table_fault t
      passed_refused h = sym (onward ∙ fault_stop _ _ _ (λ z. h (sym here ∙ z)) ∙ here)

      next_fault : f ≡ 0 → table_fault t ≡ found_from (before p.next.index (records_of t)) (records_of (drop p.next.at t))
      next_fault z = onward ∙ fault_on _ _ _ (here ∙ z) ∙ rw (before_next t c g.walk.at p st)

      -- it comes into the index
      module _ (zero : f ≡ 0) (h : Head) (s : Stands t c h) (e : Option Entry) (entry : EntryIs t x c e) where
        fresh : has_key (record_at t c) (before c.index (records_of t)) ≡ false
        fresh = key_clean _ _ (records_of (drop c.at t)) (key_zero _ _ _ (sym fault ∙ zero))

        joins : Joining t x c.at e
        joins = joining t x c h s g.entered g.lasts g.tree e (entry.key ∙ fresh) entry.place

        pub passed_placed : index_joined (length t) c.at e x ≡ placed (length t) c.at (record_at t c) x
        passed_placed = placed-joined t x c h s e (entry.key ∙ fresh) entry.place

        pub passed_join : length t ≤ 60000 → JoinAsked x (length t) c.at e
        passed_join l = joins.asked l

        is_behind : p.next.at ≡ behind t c.at
        is_behind = st.next

        pub passed_next : (v : TableWalk) → v.here ≡ p.next → WalkAt t v → (y : List ℕ) → y ≡ index_joined (length t) c.at e x → RecordsPassed t y v
        passed_next v k a y q =
            let i : v.here.at ≡ behind t c.at = ap (λ (z : Cursor). z.at) k ∙ is_behind in
            record {
              walk = a;
              fault = next_fault zero ∙ sym (ap (λ (z : Cursor). found_from (before z.index (records_of t)) (records_of (drop z.at t))) k);
              entered = rw (q, i) joins.entered;
              lasts = rw (q, i) joins.lasts;
              tree = rw (q, i) joins.tree;
            }

    -- by the record itself
    module _ (f : ℕ) (own : f ≡ own_fault_at t c) where
      pub own_is : (f ≡ 0 → ⊥) → f ≡ fault_at t c
      own_is h = own ∙ sym (own-number (before c.index (records_of t)) (record_at t c) (records_of (drop c.at t)) (λ z. h (own ∙ z)))

      pub own-refused : (f ≡ 0 → ⊥) → f ≡ table_fault t
      own-refused h = passed_refused f (own_is h) h

      pub own-stopped : (f ≡ 0 → ⊥) → table_fault t ≡ 0 → ⊥
      own-stopped h e = h (own-refused h ∙ e)

    -- by itself it draws none
    module _ (own : own_fault_at t c ≡ 0) (f : ℕ) (key : f ≡ key_fault_at t c) where
      pub both : f ≡ fault_at t c
      both = key ∙ sym (key_number (before c.index (records_of t)) (record_at t c) (records_of (drop c.at t)) own)

      pub key_refused : (f ≡ 0 → ⊥) → f ≡ table_fault t
      key_refused l = passed_refused f both l

      pub key_stopped : (f ≡ 0 → ⊥) → table_fault t ≡ 0 → ⊥
      key_stopped l z = l (key_refused l ∙ z)

-- at the start
pub passed_start : (t x : List ℕ) (w : TableWalk) → length t ≤ 60000 → w ≡ walk_start → IndexRoom t x → RecordsPassed t x w
unfolding before
passed_start t x w h e r = subst (λ (z : TableWalk). RecordsPassed t x z) (sym e) first
  where
    first : RecordsPassed t x walk_start
    first =
        record {
          walk = walk_new t walk_start refl;
          fault = short_fault t h;
          entered = entered-start t x r.blank (r.long h);
          lasts = lasts_start t x r.blank (r.long h);
          tree = tree_start_lem t x r.blank;
        }

-- ---- the records behind the names
pub record Going (t x late : List ℕ) (w : TableWalk) (k : RecordKind) (looked : Bool) : Type 0 where
  pub passed : RecordsPassed t x w
  pub kind : KindLimit t w.here k
  pub ahead : Looked t late w.here.at looked
  pub long : late_size (length t) ≤ length late

-- a whole record is in the table
whole_some : (t : List ℕ) (b : Cursor) → (front_of (record_at t b)).malformed ≡ false → b.at < length t
unfolding front_of
whole_some t b m =
    not-le (length t) b.at
    (λ l.
    let f = short_head (get_or (record_at t b) 0 0) (record_at t b) (omega (arith, length-drop b.at t, length-take (front_of (drop b.at t)).len (drop b.at t), l)) in
    true≢false (sym (ap (λ (h : Front). h.malformed) f) ∙ m))

-- behind the names
pub going_start : (t x₀ x late : List ℕ) (w : TableWalk) → NamesDone t x₀ x w → LateRoom t late → Going t x late w Class false
going_start t x₀ x late w d r =
    record { passed = d.names.passed; kind = record { low = omega arith; same = same }; ahead = r.blank; long = r.long }
  where
    same : (front_of (record_at t w.here)).malformed ≡ false
        → ltb (front_of (record_at t w.here)).kind 2 ≡ ltb (front_of (record_at t w.here)).kind (last_kind (before w.here.index (records_of t)))
    same m =
        let some = whole_some t w.here m in
        let o = record_own t w.here some in
        let whole : (front_of (drop w.here.at t)).malformed ≡ false = ap (λ (h : Front). h.malformed) (sym o) ∙ m in
        let b = head_kind (drop w.here.at t) whole in
        let z : w.here.at + 0 ≡ w.here.at = omega arith in
        let f : (front_of (record_at t w.here)).kind ≡ get_or t w.here.at 0
        = ap (λ (h : Front). h.kind) o ∙ b ∙ get_or-drop w.here.at t 0 0 ∙ ap (λ (i : ℕ). get_or t i 0) z in
        let n : (front_of (record_at t w.here)).kind ≡ 1 → ⊥ = λ e. d.other (sym f ∙ e) in
        let k = head_known (record_at t w.here) m in
        le-ltb (front_of (record_at t w.here)).kind 2 (omega (arith, k, n))
        ∙ sym (le-ltb (front_of (record_at t w.here)).kind (last_kind (before w.here.index (records_of t))) (omega (arith, k, d.names.kind)))

module _ (t x late : List ℕ) (w : TableWalk) (k : RecordKind) (looked : Bool) (g : Going t x late w k looked) (p : Step) (st : StepIs t w.here p)
    (some : w.here.at < length t) (h : Head) (read : p.head ≡ Some h) where
  stands : Stands t w.here h
  stands = passed_stands t x w g.passed p st some h read

  own : front_of_head h ≡ front_of (record_at t w.here)
  own = own-front t x w g.passed p st some h read

  -- what the check of a record by itself is told
  pub going_asked : Asked t w h k
  going_asked = record { stands = stands; walk = g.passed.walk; kind = g.kind }

  -- it draws no number by itself
  module _ (clean : own_fault_at t w.here ≡ 0) where
    by_itself : ((front_of (record_at t w.here)).malformed ≡ false)
        × (id_defined (front_of (record_at t w.here)).top (count_of 1 (before w.here.index (records_of t))) ≡ true)
    by_itself = own-clean (before w.here.index (records_of t)) (record_at t w.here) (records_of (drop w.here.at t)) clean

    pub going_prepared : length t ≤ 60000 → Prepared t x w.here h
    going_prepared l = record { stands = stands; planted = record { short = l; entered = g.passed.entered; tree = g.passed.tree } }

    high : 2 ≤ record_kind_number h.kind
    high =
        let r = own_rises (before w.here.index (records_of t)) (record_at t w.here) (records_of (drop w.here.at t)) clean in
        let n = ltb-false (front_of (record_at t w.here)).kind (record_kind_number k) (g.kind.same by_itself.0 ∙ r) in
        omega (arith, g.kind.low, n, ap (λ (z : Front). z.kind) own)

    pub going_other : record_kind_number h.kind ≡ 1 → ⊥
    going_other e = omega (arith, high, e)

    -- beside the others
    module _ (late' : List ℕ) (more : length late' ≡ length late) (looked' missing : Bool) (turned : looked' ≡ (looked || missing))
        (made : late' ≡ late_looked t w.here.at missing looked late) (is : missing ≡ parent_missing (before w.here.index (records_of t)) (record_at t w.here))
        (e : Option Entry) (entry : EntryIs t x w.here e) where
      sits : Sits t w.here.at
      sits = record { index = w.here.index; at = g.passed.walk.at }

      look : Looked t late' w.here.at looked'
      look = look_after t w.here.at late sits missing looked g.ahead late' looked' turned made

      seen : missing ≡ true → looked' ≡ true
      seen = look_seen t w.here.at late sits missing looked g.ahead late' looked' turned made

      module _ (m : Missing) (told : m ≡ missing_at t w.here) where
        -- of one that is missing the record is looked for ahead
        ahead_asked : (field : Missing → ℕ) → field none_missing ≡ no_id → (not (eqb (field m) no_id) ≡ true → any_missing m ≡ true) → (id : ℕ)
            → field (own-three (before w.here.index (records_of t)) (record_at t w.here)) ≡ missing_one (before w.here.index (records_of t)) id
            → (record_kind_number h.kind ≡ 2 → DefinedIn (count_of 1 (before w.here.index (records_of t))) id)
            → AheadAsked t late' w.here (field m)
        ahead_asked field absent any id same defined =
            record {
              ahead = λ z. subst (λ (b : Bool). Looked t late' w.here.at b) (seen (missed z)) look;
              low = λ z. subst (λ (i : ℕ). i < length late') (sym (is_id z)) (low z);
            }
          where
            by : (field m ≡ no_id → ⊥) → (eqb (front_of (record_at t w.here)).kind 2 ≡ true)
                × (field m ≡ field (own-three (before w.here.index (records_of t)) (record_at t w.here)))
            by z = of-class (before w.here.index (records_of t)) (record_at t w.here) field absent m told z

            one : (field m ≡ no_id → ⊥) → (id_missing (before w.here.index (records_of t)) id ≡ true)
                × (missing_one (before w.here.index (records_of t)) id ≡ id)
            one z = one_is (before w.here.index (records_of t)) id (λ y. z ((by z).1 ∙ same ∙ y))

            is_id : (field m ≡ no_id → ⊥) → field m ≡ id
            is_id z = (by z).1 ∙ same ∙ (one z).1

            missed : (field m ≡ no_id → ⊥) → missing ≡ true
            missed z = is ∙ sym (missing_some (before w.here.index (records_of t)) (record_at t w.here) m told) ∙ any (ap not (ne_eqb _ _ z))

            low : (field m ≡ no_id → ⊥) → id < length late'
            low z =
                let d = defined (ap (λ (y : Front). y.kind) own ∙ eqb-true _ _ (by z).0) (missing_given (before w.here.index (records_of t)) id (one z).0) in
                omega (arith, id_low t w.here g.passed.walk.at id d, g.long, more)

        pub going_key : KeyAsked t late' w.here h e m
        going_key =
            record {
              stands = stands;
              key = entry.key;
              is = told;
              superclass =
                  ahead_asked (λ x. x.superclass) refl (λ z. ap (λ (b : Bool). b || (not (eqb m.first_interface no_id) || not (eqb m.second_interface no_id))) z)
                  (front_of (record_at t w.here)).two refl
                  (λ k. subst (DefinedIn (count_of 1 (before w.here.index (records_of t)))) (ap (λ (y : Front). y.two) own) (parents k).two);
              first_interface =
                  ahead_asked (λ x. x.first_interface) refl
                  (λ z. ap (λ (b : Bool). not (eqb m.superclass no_id) || (b || not (eqb m.second_interface no_id))) z ∙ or_true (not (eqb m.superclass no_id)))
                  (first_interface_at (record_at t w.here)) refl
                  (λ k. subst (DefinedIn (count_of 1 (before w.here.index (records_of t)))) (sym (class_id t w.here h stands k 5 (omega arith))) (parents k).first_interface);
              second_interface =
                  ahead_asked (λ x. x.second_interface) refl
                  (λ z. ap (λ (b : Bool). not (eqb m.superclass no_id) || (not (eqb m.first_interface no_id) || b)) z
                  ∙ ap (λ (b : Bool). not (eqb m.superclass no_id) || b) (or_true (not (eqb m.first_interface no_id))) ∙ or_true (not (eqb m.superclass no_id)))
                  (second_interface_at (record_at t w.here)) refl
                  (λ k. subst (DefinedIn (count_of 1 (before w.here.index (records_of t)))) (sym (class_id t w.here h stands k 7 (omega arith))) (parents k).second_interface);
            }
          where
            parents : record_kind_number h.kind ≡ 2 → ParentsDefined t w.here h (count_of 1 (before w.here.index (records_of t)))
            parents k =
                parents_defined t w.here h stands k (count_of 1 (before w.here.index (records_of t)))
                (ap (λ (z : Front). id_defined z.top (count_of 1 (before w.here.index (records_of t)))) own ∙ by_itself.1)

      module _ (f : ℕ) (key : f ≡ key_fault_at t w.here) (zero : f ≡ 0) where
        number : f ≡ fault_at t w.here
        number = both t x w g.passed p st some clean f key

        pub going_placed : index_joined (length t) w.here.at e x ≡ placed (length t) w.here.at (record_at t w.here) x
        going_placed = passed_placed t x w g.passed p st some f number zero h stands e entry

        pub going_join : length t ≤ 60000 → JoinAsked x (length t) w.here.at e
        going_join l = passed_join t x w g.passed p st some f number zero h stands e entry l

        pub going_next : (v : TableWalk) → v.here ≡ p.next → WalkAt t v → (y : List ℕ) → y ≡ index_joined (length t) w.here.at e x → Going t y late' v h.kind looked'
        going_next v q a y j =
            let i : v.here.at ≡ p.next.at = ap (λ (z : Cursor). z.at) q in
            let n : last_kind (before v.here.index (records_of t)) ≡ record_kind_number h.kind
            = ap (λ (z : Cursor). last_kind (before z.index (records_of t))) q ∙ ap last_kind (before_next t w.here g.passed.walk.at p st)
            ∙ ap (λ (z : Front). z.kind) (sym own) in
            record {
              passed = passed_next t x w g.passed p st some f number zero h stands e entry v q a y j;
              kind = record { low = high; same = λ m. ap (λ (z : ℕ). ltb (front_of (record_at t v.here)).kind z) (sym n) };
              ahead = looked_on t late' w.here.at v.here.at (omega (arith, st.low, i)) looked' look;
              long = omega (arith, g.long, more);
            }
