-- The index that the check of a table leaves, record by record.
use Prim.Native.Nat.{ℕ, zero, suc, ◌+◌, ◌-◌, ◌≤◌, ◌<◌}
use borrow.Author.Tests.{eqb-true, eq-eqb, ne_eqb, lt-ltb, le-ltb}
use lib.Dec.{eqb}
use lib.ListN.{length, get_or, drop, set}
use mathlib.Core.Bool.{Bool, true, false, true≢false}
use mathlib.Core.List.{List, ◌∷◌}
use mathlib.Core.Path.{◌≡◌, refl, sym, ap, ◌∙◌}
use native.Mathlib.Omega.{arith, not-le}
use Rattle.ty.proofs.Choice.{choose_yes, choose_no}
use Rattle.ty.specs.Choose.{choose}
use Rattle.index.proofs.Paths.{own_path}
use Rattle.record.proofs.Records.{here_cons, before_next, records-end}
use Rattle.record.proofs.RecordSizes.{stands_own}
use Rattle.record.specs.Inside.Walk.{start, CursorAt, StepIs, Stands, record_at}
use Rattle.index.specs.Inside.Entered.{entered}
use Rattle.record.specs.Inside.Front.{front_of}
use Rattle.record.specs.Inside.HeadFault.{head_fault}
use Rattle.record.specs.Inside.FrontRecord.{count_of}
use Rattle.record.specs.Table.{Record, records_of, before}
use Rattle.index.specs.Inside.Index.{tree_in, root_at, child_at}
use Rattle.symbol.specs.Inside.Join.{taken_of, EntryTreeIs, PlaceIs, index_joined}
use Rattle.index.specs.Inside.Bucket.{digit_of}
use Rattle.index.specs.Inside.SearchKey.{tree_for, digit_for, key_at}
use Rattle.symbol.specs.Inside.IndexMade.{end_from, entry_of, placed, made_from, index_made, Making}
use Rattle.index.specs.Inside.Spot.{FreeIs}
use Rattle.index.specs.Inside.SearchTree.{place_of, Led}
use Rattle.std.specs.Prelude.{Option, Some, None}
use Rattle.symbol.specs.declared.checks.Entry.{Entry}
use Rattle.symbol.specs.declared.checks.Entry.TheVariants as entry
use Rattle.record.specs.Inside.Front.{Front}
use Rattle.record.specs.declared.front.Head.{Head}
use Rattle.index.specs.declared.tree.Key.{Key}
use Rattle.record.specs.declared.walk.Cursor.{Cursor}
use Rattle.record.specs.declared.walk.Step.{Step}

-- ---- where a search ends
module _ (x : List ℕ) (n b : ℕ) (f : ℕ → ℕ) (depth : ℕ) (led : Led x n b f depth) (empty : get_or x (place_of x n b f depth) 0 ≡ 0) where
  end_at : (k d : ℕ) → d ≤ depth → depth < d + k → end_from k x n f d (place_of x n b f d) ≡ place_of x n b f depth
  unfolding end_from place_of
  end_at zero d l m = absurd (omega arith)
  end_at (suc k) d l m = go (eqb d depth) refl (λ h. end_at k (suc d) h (omega arith))
    where
      go : (v : Bool) → eqb d depth ≡ v
          → (d < depth → end_from k x n f (suc d) (child_at n (get_or x (place_of x n b f d) 0 - 1) (f d)) ≡ place_of x n b f depth)
          → choose (eqb (get_or x (place_of x n b f d) 0) 0) (place_of x n b f d) (end_from k x n f (suc d) (child_at n (get_or x (place_of x n b f d) 0 - 1) (f d)))
          ≡ place_of x n b f depth
      go true q ih =
          let e : d ≡ depth = eqb-true d depth q in
          choose_yes _ _ _ (eq-eqb _ _ (ap (λ (i : ℕ). get_or x (place_of x n b f i) 0) e ∙ empty)) ∙ ap (place_of x n b f) e
      go false q ih =
          let h : d < depth = not-le depth d (λ z. true≢false (sym (eq-eqb d depth (omega arith)) ∙ q)) in
          choose_no _ _ _ (ne_eqb _ _ (led d h)) ∙ ih h

-- of a search for a key that has a tree and digits
ends : (t x : List ℕ) (k : Key) (a : ℕ) → FreeIs t x k a → (b : ℕ) (f : ℕ → ℕ) → tree_for t k ≡ b → digit_for t k ≡ f
    → a ≡ end_from (2 + length t) x (length t) f 0 (root_at b)
unfolding place_of
ends t x k a free b f y z =
    free.place
    ∙ sym (end_at x (length t) (tree_for t k) (digit_for t k) free.depth free.led (ap (λ (i : ℕ). get_or x i 0) (sym free.place) ∙ free.empty) (2 + length t) 0
    (omega arith) (omega (arith, free.few)))
    ∙ ap (λ (i : ℕ). end_from (2 + length t) x (length t) (digit_for t k) 0 (root_at i)) y
    ∙ ap (λ (g : ℕ → ℕ). end_from (2 + length t) x (length t) g 0 (root_at b)) z

-- ---- what a record does in the index is what the definition says
module _ (t x : List ℕ) (c : Cursor) (h : Head) (st : Stands t c h) where
  own_kind : (front_of (record_at t c)).kind ≡ (front_of (drop c.at t)).kind
  own_kind = ap (λ (z : Front). z.kind) (sym (stands_own t c h st) ∙ st.head)

  in_tree : (a : ℕ) → EntryTreeIs t x c a → a ≡ entry_of (length t) (record_at t c) x
  unfolding entry_of
  in_tree a i =
      let p = own_path t c (front_of (drop c.at t)) (record { at = st.at; some = st.some; head = refl }) in
      ends t x (key_at c (front_of (drop c.at t))) a i.free (tree_in (length t) (record_at t c)) (digit_of (record_at t c)) p.0 p.1

  pub placed-joined : (e : Option Entry) → taken_of e ≡ false → PlaceIs t x c e → index_joined (length t) c.at e x ≡ placed (length t) c.at (record_at t c) x
  unfolding placed
  placed-joined None k i = absurd (true≢false k)
  placed-joined (Some (entry.Tree a)) k i =
      ap (λ (j : ℕ). set x j (suc c.at)) (in_tree a i) ∙ sym (choose_no _ _ _ (ne_eqb _ _ (λ z. i.other (sym own_kind ∙ z))))
  placed-joined (Some (entry.List b)) k i =
      ap (λ (j : ℕ). entered (length t) j c.at x) i.bucket ∙ sym (choose_yes _ _ _ (eq-eqb _ _ (own_kind ∙ i.function)))

-- ---- the pass
pub making_start : (t x : List ℕ) (c : Cursor) → length t ≤ 60000 → c ≡ start → Making t x x c
unfolding before index_made
making_start t x c h e =
    ap (λ (z : Cursor). made_from (length t) z.at (before z.index (records_of t)) (records_of (drop z.at t)) x) e
    ∙ sym (choose_no _ _ _ (le-ltb 60000 (length t) h))

-- a table that is too long
pub made_long : (t x : List ℕ) → 60000 < length t → x ≡ index_made t x
unfolding index_made
made_long t x h = sym (choose_yes _ _ _ (lt-ltb 60000 (length t) h))

made_stop : (n p : ℕ) (earlier : List Record) (r : Record) (rs : List Record) (x : List ℕ) → (head_fault earlier r (r ∷ rs) ≡ 0 → ⊥)
    → made_from n p earlier (r ∷ rs) x ≡ x
unfolding made_from
made_stop n p earlier r rs x h = choose_no _ _ _ (ne_eqb _ _ h)

made_on : (n p : ℕ) (earlier : List Record) (r : Record) (rs : List Record) (x : List ℕ) → head_fault earlier r (r ∷ rs) ≡ 0
    → made_from n p earlier (r ∷ rs) x ≡ made_from n (p + (front_of r).len) (r ∷ earlier) rs (placed n p r x)
unfolding made_from
made_on n p earlier r rs x h = choose_yes _ _ _ (eq-eqb _ _ h)

module _ (t x₀ x : List ℕ) (c : Cursor) (m : Making t x₀ x c) where
  -- at the end
  pub making_done : length t ≤ c.at → (n : ℕ) → n ≡ count_of 1 (before c.index (records_of t)) → set x 0 n ≡ index_made t x₀
  unfolding made_from
  making_done end n e =
      ap (set x 0) e
      ∙ sym (ap (λ (rs : List Record). made_from (length t) c.at (before c.index (records_of t)) rs x) (records-end t c.at end)) ∙ m

  -- at a record
  module _ (a : CursorAt t c) (p : Step) (st : StepIs t c p) (f : ℕ)
      (fault : f ≡ head_fault (before c.index (records_of t)) (record_at t c) (records_of (drop c.at t))) where
    here : head_fault (before c.index (records_of t)) (record_at t c) (record_at t c ∷ records_of (drop p.next.at t)) ≡ f
    here = sym (fault ∙ ap (head_fault (before c.index (records_of t)) (record_at t c)) (here_cons t c a p st))

    onward : made_from (length t) c.at (before c.index (records_of t)) (record_at t c ∷ records_of (drop p.next.at t)) x ≡ index_made t x₀
    onward = sym (ap (λ (rs : List Record). made_from (length t) c.at (before c.index (records_of t)) rs x) (here_cons t c a p st)) ∙ m

    pub making_stopped : (f ≡ 0 → ⊥) → x ≡ index_made t x₀
    making_stopped h = sym (made_stop (length t) c.at _ _ _ x (λ z. h (sym here ∙ z))) ∙ onward

    pub making_next : f ≡ 0 → (y : List ℕ) → y ≡ placed (length t) c.at (record_at t c) x → Making t x₀ y p.next
    making_next z y e =
        let q : p.next.at ≡ c.at + (front_of (record_at t c)).len = st.next ∙ ap (λ (h : Front). c.at + h.len) (sym st.head ∙ st.own) in
        ap (λ (i : ℕ). made_from (length t) i (before p.next.index (records_of t)) (records_of (drop p.next.at t)) y) q
        ∙ ap (λ (rs : List Record). made_from (length t) (c.at + (front_of (record_at t c)).len) rs (records_of (drop p.next.at t)) y) (before_next t c a p st)
        ∙ ap (made_from (length t) (c.at + (front_of (record_at t c)).len) (record_at t c ∷ before c.index (records_of t)) (records_of (drop p.next.at t))) e
        ∙ sym (made_on (length t) c.at _ _ _ x (here ∙ z)) ∙ onward
