-- The search trees of the records before a byte, and one record more.
use Prim.Native.Nat.{ℕ, zero, suc, ◌*◌, ◌-◌, ◌≤◌, ◌<◌}
use borrow.Author.Tests.{eqb-true, eq-eqb, ltb-true, ltb-false}
use lib.Dec.{eqb, ltb}
use lib.ListN.{length, get_or, drop, set}
use lib.Seq.{get_or-set_same, get_or-set_other}
use mathlib.Core.Bool.{Bool, true, false, true≢false}
use mathlib.Core.List.{List}
use mathlib.Core.Logic.{◌⊎◌, inl, inr, ⊎_elim}
use mathlib.Core.Path.{◌≡◌, refl, sym, ap, ◌∙◌, subst}
use native.Mathlib.Omega.{arith, not-le}
use Rattle.index.proofs.Buckets.{tree_low, ways_tree, tree_digit_low}
use Rattle.index.proofs.Chains.{behind-before}
use Rattle.index.proofs.ListSearch.{positive, sits_later, sits-own}
use Rattle.record.proofs.RecordSizes.{head_ways}
use Rattle.index.specs.Inside.Bucket.{digit_of}
use Rattle.record.specs.Inside.Front.{front_of}
use Rattle.record.specs.Inside.FrontRecord.{front_record}
use Rattle.index.specs.Inside.Index.{bucket_count, tree_in, root_at, child_at, ways_in, index_size}
use Rattle.record.specs.Inside.Walk.{ways_of, Sits, WholeRecordAt, behind}
use Rattle.index.specs.Inside.SearchTree.{place_of, Led, TreeMember, ways_at, Held, Tree}
use Rattle.record.specs.Inside.Front.{Front}

-- ---- a search in two indexes

-- it stands at the same entry where those before it are the same
pub place_kept : (x y : List ℕ) (n b : ℕ) (f : ℕ → ℕ) (d : ℕ) → ((i : ℕ) → i < d → get_or y (place_of x n b f i) 0 ≡ get_or x (place_of x n b f i) 0)
    → place_of y n b f d ≡ place_of x n b f d
unfolding place_of
place_kept x y n b f zero k = refl
place_kept x y n b f (suc d) k =
    let e = place_kept x y n b f d (λ i l. k i (omega arith)) in
    ap (λ (v : ℕ). child_at n (v - 1) (f d)) (ap (λ (z : ℕ). get_or y z 0) e ∙ k d (omega arith))

pub led_kept : (x y : List ℕ) (n b : ℕ) (f : ℕ → ℕ) (d : ℕ) → ((i : ℕ) → i < d → get_or y (place_of x n b f i) 0 ≡ get_or x (place_of x n b f i) 0)
    → Led x n b f d → Led y n b f d
led_kept x y n b f d k led i l z =
    let e = place_kept x y n b f i (λ j m. k j (omega arith)) in
    led i l (sym (ap (λ (j : ℕ). get_or y j 0) e ∙ k i l) ∙ z)

-- ---- what a search meets

-- an entry of one of the records, behind which there are w ways
pub record Below (t : List ℕ) (e w a : ℕ) : Type 0 where
  pub owner : ℕ
  pub which : ℕ
  pub node : TreeMember t e owner
  pub ways : ways_at t owner ≡ w
  pub low : which < ways_at t owner
  pub is : a ≡ child_at (length t) owner which

module _ (t x : List ℕ) (e : ℕ) (g : Tree t x e) (b : ℕ) (f : ℕ → ℕ) (low : b < 2 * bucket_count (length t)) (ways : (d : ℕ) → f d < ways_in (length t) b) where
  abbrev n : ℕ
  n = length t

  abbrev met : ℕ → ℕ
  met d = get_or x (place_of x n b f d) 0

  pub meets : (d q : ℕ) → Led x n b f d → met d ≡ suc q → TreeMember t e q × (ways_at t q ≡ ways_in n b)
  unfolding place_of
  meets zero q led z = g.root b low q z
  meets (suc d) q led z =
      let p : met d ≡ suc (met d - 1) = positive (met d) (led d (omega arith)) in
      let m = meets d (met d - 1) (λ i l. led i (omega arith)) p in
      let h = g.child (met d - 1) m.0 (f d) (subst (λ (w : ℕ). f d < w) (sym m.1) (ways d)) q z in
      (h.0, h.2 ∙ m.1)

  -- its digit is one of the ways behind the record that it meets
  goes : (d q : ℕ) → Led x n b f d → met d ≡ suc q → f d < ways_at t q
  goes d q led z = subst (λ (w : ℕ). f d < w) (sym (meets d q led z).1) (ways d)

  -- it stands at a root, or at an entry of one of the records
  pub stands : (d : ℕ) → Led x n b f d → (place_of x n b f d ≡ root_at b) ⊎ Below t e (ways_in n b) (place_of x n b f d)
  unfolding place_of
  stands zero led = inl refl
  stands (suc d) led =
      let p : met d ≡ suc (met d - 1) = positive (met d) (led d (omega arith)) in
      let l : Led x n b f d = λ i l. led i (omega arith) in
      inr (record { owner = met d - 1; which = f d; node = (meets d (met d - 1) l p).0; ways = (meets d (met d - 1) l p).1; low = goes d (met d - 1) l p; is = refl })

  -- and goes on to a later record
  pub meets_later : (d p q : ℕ) → Led x n b f d → met d ≡ suc p → get_or x (child_at n p (f d)) 0 ≡ suc q → p < q
  meets_later d p q led y z = (g.child p (meets d p led y).0 (f d) (goes d p led y) q z).1

-- ---- records that have entries of their own
module _ (t : List ℕ) (p q : ℕ) (w : WholeRecordAt t p) (v : Sits t q) (l : p < q) where
  pub own_entries : (c : ℕ) → c < ways_at t p → child_at (length t) p c < child_at (length t) q 0
  own_entries c h = omega (arith, behind-before t p q w.sits v l, head_ways (drop p t) w.whole, h)

pub one_owner : (t : List ℕ) (p q : ℕ) → WholeRecordAt t p → WholeRecordAt t q → (c k : ℕ) → c < ways_at t p → k < ways_at t q → child_at (length t) p c ≡ child_at (length t) q k → p ≡ q
one_owner t p q w v c k l m f = go (ltb p q) refl (ltb q p) refl
  where
    go : (a : Bool) → ltb p q ≡ a → (b : Bool) → ltb q p ≡ b → p ≡ q
    go true s b r = absurd (omega (arith, own_entries t p q w v.sits (ltb-true p q s) c l, f))
    go false s true r = absurd (omega (arith, own_entries t q p v w.sits (ltb-true q p r) k m, f))
    go false s false r = omega (arith, ltb-false p q s, ltb-false q p r)

-- ---- an index with the same trees
module _ (t x y : List ℕ) (e : ℕ) (g : Tree t x e) (roots : (b : ℕ) → b < 2 * bucket_count (length t) → get_or y (root_at b) 0 ≡ get_or x (root_at b) 0)
    (entries : (p : ℕ) → TreeMember t e p → (c : ℕ) → c < ways_at t p → get_or y (child_at (length t) p c) 0 ≡ get_or x (child_at (length t) p c) 0) where
  kept_held : (q : ℕ) → Held t x q → Held t y q
  kept_held q h =
      record {
        depth = h.depth;
        led = led_kept x y (length t) b f h.depth (λ i l. same i (λ j m. h.led j (omega arith))) h.led;
        is = ap (λ (j : ℕ). get_or y j 0) (place_kept x y (length t) b f h.depth (λ i l. same i (λ j m. h.led j (omega arith)))) ∙ same h.depth h.led ∙ h.is;
      }
    where
      b : ℕ
      b = tree_in (length t) (front_record (drop q t))

      f : ℕ → ℕ
      f = digit_of (front_record (drop q t))

      low : b < 2 * bucket_count (length t)
      low = tree_low (length t) (front_record (drop q t))

      same : (i : ℕ) → Led x (length t) b f i → get_or y (place_of x (length t) b f i) 0 ≡ get_or x (place_of x (length t) b f i) 0
      same i led =
          ⊎_elim (λ z. ap (λ (j : ℕ). get_or y j 0) z ∙ roots b low ∙ ap (λ (j : ℕ). get_or x j 0) (sym z))
          (λ z. ap (λ (j : ℕ). get_or y j 0) z.is ∙ entries z.owner z.node z.which z.low ∙ ap (λ (j : ℕ). get_or x j 0) (sym z.is))
          (stands t x e g b f low (tree_digit_low (length t) (front_record (drop q t))) i led)

  pub tree_same : Tree t y e
  tree_same =
      record {
        root = λ b l q z. g.root b l q (sym (roots b l) ∙ z);
        child = λ p k c l q z. g.child p k c l q (sym (entries p k c l) ∙ z);
        held = λ q k. kept_held q (g.held q k);
      }

-- ---- the trees with the record at e as well
module _ (t x : List ℕ) (e : ℕ) (g : Tree t x e) (end : Sits t e) (some : e < length t) where
  abbrev e' : ℕ
  e' = behind t e

  later : e < e'
  later = sits_later t e end some

  -- the records before e are before e', and the others there are the record at e
  pub node_more : (q : ℕ) → TreeMember t e q → TreeMember t e' q
  node_more q k = record { begun = k.begun; low = omega (arith, k.low, later); other = k.other }

  pub node_less : (q : ℕ) → TreeMember t e' q → (q ≡ e → ⊥) → TreeMember t e q
  node_less q k d =
      record {
        begun = k.begun;
        low = not-le e q (λ m. let l : e < q = not-le q e (λ r. d (omega arith)) in omega (arith, behind-before t e q end k.begun.sits l, k.low));
        other = k.other;
      }

  -- ---- a function: no tree changes
  module _ (y : List ℕ) (fn : (front_of (drop e t)).kind ≡ 4) (roots : (b : ℕ) → b < 2 * bucket_count (length t) → get_or y (root_at b) 0 ≡ get_or x (root_at b) 0)
      (entries : (p : ℕ) → TreeMember t e p → (c : ℕ) → c < ways_at t p → get_or y (child_at (length t) p c) 0 ≡ get_or x (child_at (length t) p c) 0) where
    old : (q : ℕ) → TreeMember t e' q → TreeMember t e q
    old q k = node_less q k (λ d. k.other (subst (λ (i : ℕ). (front_of (drop i t)).kind ≡ 4) (sym d) fn))

    pub tree-function : Tree t y e'
    tree-function =
        record {
          root = λ b l q z. let r = g.root b l q (sym (roots b l) ∙ z) in (node_more q r.0, r.1);
          child = λ p k c l q z. let r = g.child p (old p k) c l q (sym (entries p (old p k) c l) ∙ z) in (node_more q r.0, r.1, r.2);
          held = λ q k. kept_held t x y e g roots entries q (g.held q (old q k));
        }

  -- ---- another record: it stands in the empty entry where a search for its key ends
  module _ (whole : (front_of (drop e t)).malformed ≡ false) (nf : (front_of (drop e t)).kind ≡ 4 → ⊥) (a depth : ℕ)
      (led : Led x (length t) (tree_in (length t) (front_record (drop e t))) (digit_of (front_record (drop e t))) depth)
      (place : a ≡ place_of x (length t) (tree_in (length t) (front_record (drop e t))) (digit_of (front_record (drop e t))) depth) (empty : get_or x a 0 ≡ 0)
      (blank : (j : ℕ) → child_at (length t) e 0 ≤ j → get_or x j 0 ≡ 0) (long : index_size (length t) ≤ length x) where
    abbrev b₀ : ℕ
    b₀ = tree_in (length t) (front_record (drop e t))

    low₀ : b₀ < 2 * bucket_count (length t)
    low₀ = tree_low (length t) (front_record (drop e t))

    pub spot : (a ≡ root_at (tree_in (length t) (front_record (drop e t)))) ⊎ Below t e (ways_in (length t) (tree_in (length t) (front_record (drop e t)))) a
    spot =
        ⊎_elim (λ z. inl (place ∙ z)) (λ z. inr (subst (λ (i : ℕ). Below t e (ways_in (length t) b₀) i) (sym place) z))
        (stands t x e g b₀ (digit_of (front_record (drop e t))) low₀ (tree_digit_low (length t) (front_record (drop e t))) depth led)

    -- it is before the entries of the record at e
    pub front : a < child_at (length t) e 0
    front =
        ⊎_elim (λ z. omega (arith, z, low₀))
        (λ z. omega (arith, z.is, own_entries t z.owner e z.node.begun end z.node.low z.which z.low)) spot

    pub inside : a < length x
    inside = omega (arith, front, long, some)

    abbrev y : List ℕ
    y = set x a (suc e)

    written : get_or y a 0 ≡ suc e
    written = get_or-set_same x a (suc e) 0 inside

    kept : (j : ℕ) → (j ≡ a → ⊥) → get_or y j 0 ≡ get_or x j 0
    kept j h = get_or-set_other x a j (suc e) 0 h

    -- an entry with a record is kept
    full : (j : ℕ) → (get_or x j 0 ≡ 0 → ⊥) → get_or y j 0 ≡ get_or x j 0
    full j h = kept j (λ d. h (ap (λ (i : ℕ). get_or x i 0) d ∙ empty))

    new : TreeMember t e' e
    new = record { begun = record { sits = end; some = some; whole = whole }; low = later; other = nf }

    -- what stands in an entry: the record at e, or what stood there
    in_entry : (j q : ℕ) → get_or y j 0 ≡ suc q → ((j ≡ a) × (q ≡ e)) ⊎ (get_or x j 0 ≡ suc q)
    in_entry j q z = go (eqb j a) refl
      where
        go : (u : Bool) → eqb j a ≡ u → ((j ≡ a) × (q ≡ e)) ⊎ (get_or x j 0 ≡ suc q)
        go true s =
            let d : j ≡ a = eqb-true j a s in
            let f : suc q ≡ suc e = sym z ∙ ap (λ (i : ℕ). get_or y i 0) d ∙ written in
            inl (d, omega (arith, f))
        go false s = inr (sym (kept j (λ d. true≢false (sym (eq-eqb j a d) ∙ s))) ∙ z)

    -- it has the ways of its tree, and so has the record whose entry it fills
    own_ways : ways_at t e ≡ ways_in (length t) b₀
    own_ways = ap (λ (h : Front). ways_of h.kind) (sym (sits-own t e end some)) ∙ ways_tree (length t) (front_record (drop e t))

    root_tree : (b : ℕ) → b < 2 * bucket_count (length t) → root_at b ≡ a → b₀ ≡ b
    root_tree b l f = ⊎_elim (λ z. omega (arith, z, f)) (λ z. absurd (omega (arith, z.is, f, l))) spot

    child_ways : (p : ℕ) → TreeMember t e p → (c : ℕ) → c < ways_at t p → child_at (length t) p c ≡ a → ways_in (length t) b₀ ≡ ways_at t p
    child_ways p k c l f =
        ⊎_elim (λ z. absurd (omega (arith, z, f, low₀)))
        (λ z. sym z.ways ∙ ap (ways_at t) (sym (one_owner t p z.owner k.begun z.node.begun c z.which l z.low (f ∙ z.is)))) spot

    join_root : (b : ℕ) → b < 2 * bucket_count (length t) → (q : ℕ) → get_or y (root_at b) 0 ≡ suc q → TreeMember t e' q × (ways_at t q ≡ ways_in (length t) b)
    join_root b l q z =
        ⊎_elim (λ r. (subst (λ (i : ℕ). TreeMember t e' i) (sym r.1) new, ap (ways_at t) r.1 ∙ own_ways ∙ ap (ways_in (length t)) (root_tree b l r.0)))
        (λ r. let h = g.root b l q r in (node_more q h.0, h.1)) (in_entry (root_at b) q z)

    join_child : (p : ℕ) → TreeMember t e' p → (c : ℕ) → c < ways_at t p → (q : ℕ) → get_or y (child_at (length t) p c) 0 ≡ suc q
        → TreeMember t e' q × (p < q) × (ways_at t q ≡ ways_at t p)
    join_child p k c l q z = go (eqb p e) refl
      where
        go : (u : Bool) → eqb p e ≡ u → TreeMember t e' q × (p < q) × (ways_at t q ≡ ways_at t p)
        go true s =
            let d : p ≡ e = eqb-true p e s in
            let f : get_or y (child_at (length t) e c) 0 ≡ suc q = ap (λ (i : ℕ). get_or y (child_at (length t) i c) 0) (sym d) ∙ z in
            ⊎_elim (λ r. absurd (omega (arith, r.0, front))) (λ r. absurd (omega (arith, blank (child_at (length t) e c) (omega arith), r)))
            (in_entry (child_at (length t) e c) q f)
        go false s =
            let o = node_less p k (λ d. true≢false (sym (eq-eqb p e d) ∙ s)) in
            ⊎_elim (λ r. (subst (λ (i : ℕ). TreeMember t e' i) (sym r.1) new, omega (arith, r.1, o.low), ap (ways_at t) r.1 ∙ own_ways ∙ child_ways p o c l r.0))
            (λ r. let h = g.child p o c l q r in (node_more q h.0, h.1, h.2)) (in_entry (child_at (length t) p c) q z)

    join_new : Held t y e
    join_new =
        record {
          depth = depth;
          led = led_kept x y (length t) b₀ (digit_of (front_record (drop e t))) depth (λ i l. full _ (led i l)) led;
          is =
              ap (λ (j : ℕ). get_or y j 0)
              (place_kept x y (length t) b₀ (digit_of (front_record (drop e t))) depth (λ i l. full _ (led i l)) ∙ sym place)
              ∙ written;
        }

    join_old : (q : ℕ) → Held t x q → Held t y q
    join_old q h =
        record {
          depth = h.depth;
          led = led_kept x y (length t) _ _ h.depth (λ i l. full _ (h.led i l)) h.led;
          is =
              ap (λ (j : ℕ). get_or y j 0) (place_kept x y (length t) _ _ h.depth (λ i l. full _ (h.led i l)))
              ∙ full _ (λ r. omega (arith, h.is, r))
              ∙ h.is;
        }

    join_held : (q : ℕ) → TreeMember t e' q → Held t y q
    join_held q k = go (eqb q e) refl
      where
        go : (u : Bool) → eqb q e ≡ u → Held t y q
        go true s = subst (λ (i : ℕ). Held t y i) (sym (eqb-true q e s)) join_new
        go false s = join_old q (g.held q (node_less q k (λ d. true≢false (sym (eq-eqb q e d) ∙ s))))

    pub tree-joined : Tree t y e'
    tree-joined = record { root = join_root; child = join_child; held = join_held }

-- ---- at the start
pub tree_start_lem : (t x : List ℕ) → ((i : ℕ) → get_or x i 0 ≡ 0) → Tree t x 0
tree_start_lem t x z =
    record {
      root = λ b l q y. absurd (omega (arith, z (root_at b), y));
      child = λ p k c l q y. absurd (omega (arith, k.low));
      held = λ q k. absurd (omega (arith, k.low));
    }
