-- The path of a key: records with the key have its tree and its digits, so a search meets them.
use Prim.Native.Nat.{ℕ, suc, ◌+◌, ◌*◌, ◌/◌, ◌%◌, ◌^◌, ◌≤◌, ◌<◌}
use borrow.Author.Tests.{eqb-true, eq-eqb, ne_eqb, ltb-true, ltb-false}
use lib.Dec.{eqb, ltb}
use lib.ListN.{length, get_or, drop}
use mathlib.Core.Bool.{Bool, true, false, ◌&&◌, ◌||◌, true≢false}
use mathlib.Core.List.{List}
use mathlib.Core.Path.{◌≡◌, refl, sym, ap, ◌∙◌, subst}
use native.Mathlib.Omega.{arith, not-le}
use Rattle.ty.proofs.Choice.{and_left, and_right, choose_yes, choose_no}
use Rattle.ty.proofs.Same.{same_eq}
use Rattle.ty.specs.Bytes.{same_bytes}
use Rattle.ty.specs.Choose.{choose}
use Rattle.index.proofs.Buckets.{bucket-below, tree_name, tree_other, ways_name, ways_other, name_digit_low, key_digit_low}
use Rattle.index.proofs.ListSearch.{key_bucket_lem}
use Rattle.record.proofs.RecordSizes.{head_known}
use Rattle.record.specs.Inside.NameHash.{hash_of}
use Rattle.index.specs.Inside.Bucket.{name_digit, key_bucket, key_digits, key_digit, bucket_of, digit_of}
use Rattle.record.specs.Inside.Front.{front_of}
use Rattle.record.specs.Inside.Keyed.{is_of}
use Rattle.record.specs.Inside.HeadFault.{name_bytes, same_key}
use Rattle.record.specs.Inside.FrontRecord.{front_record}
use Rattle.record.specs.Table.{Record}
use Rattle.index.specs.Inside.Index.{bucket_count, tree_in, ways_in}
use Rattle.index.specs.Inside.SearchKey.{name_bytes_at, tree_for, digit_for, key_matches, Single, KeyIn, key_at}
use Rattle.index.specs.Inside.Spot.{FreeIs}
use Rattle.index.specs.Inside.SearchTree.{place_of, Led, TreeMember, Tree}
use Rattle.record.specs.Inside.Walk.{record_at}
use Rattle.index.proofs.StandingFront.{Standing, standing_own, standing_room, standing_bytes}
use Rattle.record.specs.Inside.Front.{Front}
use Rattle.index.specs.declared.tree.Key.{Key}
use Rattle.index.specs.declared.tree.Key.TheVariants.{Name, Ids}
use Rattle.record.specs.declared.walk.Cursor.{Cursor}

pub and_true : (v : Bool) → v && true ≡ v
and_true true = refl
and_true false = refl

-- ---- digits
pub digit_for_low : (t : List ℕ) (k : Key) (d : ℕ) → digit_for t k d < ways_in (length t) (tree_for t k)
digit_for_low t (Name p) d =
    subst (λ (w : ℕ). name_digit (name_bytes_at t p.at) d < w) (sym (ways_name (length t) _ (bucket-below (hash_of (name_bytes_at t p.at)) (length t))))
    (name_digit_low (name_bytes_at t p.at) d)
digit_for_low t (Ids k a b) d =
    subst (λ (w : ℕ). key_digit k a b d < w) (sym (ways_other (length t) (bucket_count (length t) + key_bucket k a b % bucket_count (length t)) (omega arith))) (key_digit_low k a b d)

pub tree_for_low : (t : List ℕ) (k : Key) → tree_for t k < 2 * bucket_count (length t)
tree_for_low t (Name p) = omega (arith, bucket-below (hash_of (name_bytes_at t p.at)) (length t))
tree_for_low t (Ids k a b) = omega (arith, bucket-below (key_bucket k a b) (length t))

-- ---- records with a key have its tree and its digits
named-digits : (r : Record) → (front_of r).kind ≡ 1 → digit_of r ≡ name_digit (name_bytes r)
unfolding digit_of
named-digits r k = choose_yes _ _ _ (eq-eqb _ _ k)

named-bucket : (r : Record) → (front_of r).kind ≡ 1 → bucket_of r ≡ hash_of (name_bytes r)
unfolding bucket_of
named-bucket r k = choose_yes _ _ _ (eq-eqb _ _ k)

id_digits : (r : Record) → ((front_of r).kind ≡ 1 → ⊥) → digit_of r ≡ key_digit (front_of r).kind (front_of r).one (front_of r).two
unfolding digit_of
id_digits r k = choose_no _ _ _ (ne_eqb _ _ k)

pub id_bucket : (r : Record) → ((front_of r).kind ≡ 1 → ⊥) → bucket_of r ≡ key_bucket (front_of r).kind (front_of r).one (front_of r).two
unfolding bucket_of
id_bucket r k = choose_no _ _ _ (ne_eqb _ _ k)

-- what the test of a key says
module _ (k a b : ℕ) (r : Record) (e : is_of k a b (front_of r) ≡ true) where
  pub of_kind_lem : (front_of r).kind ≡ k
  of_kind_lem = eqb-true _ _ (and_left (eqb (front_of r).kind k) (eqb (front_of r).one a && (ltb k 4 || eqb (front_of r).two b)) e)

  rest : eqb (front_of r).one a && (ltb k 4 || eqb (front_of r).two b) ≡ true
  rest = and_right (eqb (front_of r).kind k) (eqb (front_of r).one a && (ltb k 4 || eqb (front_of r).two b)) e

  pub of_one : (front_of r).one ≡ a
  of_one = eqb-true _ _ (and_left (eqb (front_of r).one a) (ltb k 4 || eqb (front_of r).two b) rest)

  pub of_two : choose (ltb k 4) 0 (front_of r).two ≡ choose (ltb k 4) 0 b
  of_two = go (ltb k 4) (and_right (eqb (front_of r).one a) (ltb k 4 || eqb (front_of r).two b) rest)
    where
      go : (v : Bool) → v || eqb (front_of r).two b ≡ true → choose v 0 (front_of r).two ≡ choose v 0 b
      go true h = unfold choose in refl
      go false h = ap (λ (z : ℕ). choose false 0 z) (eqb-true (front_of r).two b h)

  same_digits : key_digit (front_of r).kind (front_of r).one (front_of r).two ≡ key_digit k a b
  unfolding key_digits key_digit
  same_digits =
      let e : (front_of r).one + 65536 * choose (ltb (front_of r).kind 4) 0 (front_of r).two ≡ a + 65536 * choose (ltb k 4) 0 b = rw (of_kind_lem, of_one, of_two) in
      ap (λ (z : ℕ). λ (d : ℕ). z / 2 ^ (d % 32) % 2) e

  key_digits_lem : 2 ≤ k → digit_of r ≡ key_digit k a b
  key_digits_lem l = id_digits r (λ z. omega (arith, of_kind_lem, z)) ∙ same_digits

pub key_path : (t : List ℕ) (k : Key) (r : Record) → KeyIn t k → key_matches t k r ≡ true → (tree_in (length t) r ≡ tree_for t k) × (digit_of r ≡ digit_for t k)
key_path t (Name p) r l e =
    let k : (front_of r).kind ≡ 1 = eqb-true _ _ (and_left (eqb (front_of r).kind 1) (same_bytes (name_bytes r) (name_bytes_at t p.at)) e) in
    let n = same_eq (name_bytes r) (name_bytes_at t p.at) (and_right (eqb (front_of r).kind 1) (same_bytes (name_bytes r) (name_bytes_at t p.at)) e) in
    (tree_name (length t) r k ∙ ap (λ (z : ℕ). z % bucket_count (length t)) (named-bucket r k ∙ ap (hash_of) n), named-digits r k ∙ ap name_digit n)
key_path t (Ids k a b) r l e =
    (tree_other (length t) r (λ z. omega (arith, of_kind_lem k a b r e, l, z)) ∙ ap (λ (z : ℕ). bucket_count (length t) + z % bucket_count (length t)) (key_bucket_lem k a b r l e), key_digits_lem k a b r e l)

-- ---- a search that ends at an empty entry met no record with the key
module _ (t x : List ℕ) (e : ℕ) (g : Tree t x e) (k : Key) (i : KeyIn t k) (a : ℕ) (free : FreeIs t x k a) (q : ℕ) (node : TreeMember t e q)
    (yes : key_matches t k (front_record (drop q t)) ≡ true) where
  abbrev B : ℕ
  B = tree_for t k

  record OnPath : Type 0 where
    depth : ℕ
    led : Led x (length t) B (digit_for t k) depth
    is : get_or x (place_of x (length t) B (digit_for t k) depth) 0 ≡ suc q

  on_path : OnPath
  on_path =
      let h = g.held q node in
      let p = key_path t k (front_record (drop q t)) i yes in
      moved (tree_in (length t) (front_record (drop q t))) (digit_of (front_record (drop q t))) h.depth h.led h.is
      p.0 p.1
    where
      moved : (b : ℕ) (f : ℕ → ℕ) (d : ℕ) → Led x (length t) b f d → get_or x (place_of x (length t) b f d) 0 ≡ suc q → b ≡ B → f ≡ digit_for t k → OnPath
      moved b f d led is y z =
          record {
            depth = d;
            led = subst (λ (h : ℕ → ℕ). Led x (length t) B h d) z (subst (λ (c : ℕ). Led x (length t) c f d) y led);
            is = sym (ap (λ (h : ℕ → ℕ). get_or x (place_of x (length t) B h d) 0) z) ∙ sym (ap (λ (c : ℕ). get_or x (place_of x (length t) c f d) 0) y) ∙ is;
          }

  gone : get_or x (place_of x (length t) B (digit_for t k) free.depth) 0 ≡ 0
  gone = ap (λ (j : ℕ). get_or x j 0) (sym free.place) ∙ free.empty

  pub not-met : ⊥
  not-met = go (ltb on_path.depth free.depth) refl (ltb free.depth on_path.depth) refl
    where
      go : (u : Bool) → ltb on_path.depth free.depth ≡ u → (v : Bool) → ltb free.depth on_path.depth ≡ v → ⊥
      go true s v r = true≢false (sym yes ∙ free.met on_path.depth (ltb-true _ _ s) q on_path.is)
      go false s true r = on_path.led free.depth (ltb-true _ _ r) gone
      go false s false r =
          let d : on_path.depth ≡ free.depth = omega (arith, ltb-false on_path.depth free.depth s, ltb-false free.depth on_path.depth r) in
          omega (arith, gone, sym (ap (λ (j : ℕ). get_or x (place_of x (length t) B (digit_for t k) j) 0) d) ∙ on_path.is)

-- ---- two records of one key
same_name : (r y : Record) (b : List ℕ) → (front_of y).kind ≡ 1 → b ≡ name_bytes y → (eqb (front_of r).kind 1 && same_bytes (name_bytes r) b) ≡ same_key r y
unfolding same_key choose
same_name r y b k e = rw (k, e) (go (eqb (front_of r).kind 1))
  where
    go : (v : Bool) → v && same_bytes (name_bytes r) (name_bytes y)
        ≡ choose v
        (choose v (same_bytes (name_bytes r) (name_bytes y))
        (choose (ltb (front_of r).kind 4) (eqb (front_of r).one (front_of y).one)
        (choose (eqb (front_of r).kind 4) false (eqb (front_of r).one (front_of y).one && eqb (front_of r).two (front_of y).two))))
        false
    go true = refl
    go false = refl

same_ids : (r y : Record) → ((front_of y).kind ≡ 1 → ⊥) → ((front_of y).kind ≡ 4 → ⊥) → is_of (front_of y).kind (front_of y).one (front_of y).two (front_of r) ≡ same_key r y
unfolding same_key choose
same_ids r y n f = go (eqb (front_of r).kind (front_of y).kind) refl
  where
    inner : (v : Bool) → (eqb (front_of r).one (front_of y).one && (v || eqb (front_of r).two (front_of y).two))
        ≡ choose v (eqb (front_of r).one (front_of y).one) (eqb (front_of r).one (front_of y).one && eqb (front_of r).two (front_of y).two)
    inner true = and_true (eqb (front_of r).one (front_of y).one)
    inner false = refl

    go : (u : Bool) → eqb (front_of r).kind (front_of y).kind ≡ u
        → (u && (eqb (front_of r).one (front_of y).one && (ltb (front_of y).kind 4 || eqb (front_of r).two (front_of y).two)))
        ≡ choose u
        (choose (eqb (front_of r).kind 1) (same_bytes (name_bytes r) (name_bytes y))
        (choose (ltb (front_of r).kind 4) (eqb (front_of r).one (front_of y).one)
        (choose (eqb (front_of r).kind 4) false (eqb (front_of r).one (front_of y).one && eqb (front_of r).two (front_of y).two))))
        false
    go false q = refl
    go true q =
        let d : (front_of r).kind ≡ (front_of y).kind = eqb-true _ _ q in
        rw (d, ne_eqb (front_of y).kind 1 n, ne_eqb (front_of y).kind 4 f) (inner (ltb (front_of y).kind 4))

-- two records that pass the test of one key
pub of_both : (k a b : ℕ) (r y : Record) → Single k → is_of k a b (front_of r) ≡ true → is_of k a b (front_of y) ≡ true → same_key r y ≡ true
of_both k a b r y one e f =
    let ky : (front_of y).kind ≡ k = of_kind_lem k a b y f in
    sym (same_ids r y (λ z. omega (arith, one.low, ky, z)) (λ z. one.other (sym ky ∙ z))) ∙ both
  where
    inner : (v : Bool) → choose v 0 (front_of r).two ≡ choose v 0 b → choose v 0 (front_of y).two ≡ choose v 0 b → v || eqb (front_of r).two (front_of y).two ≡ true
    inner true g h = refl
    inner false g h = eq-eqb _ _ (sym (choose_no false 0 (front_of r).two refl) ∙ g ∙ sym h ∙ choose_no false 0 (front_of y).two refl)

    both : is_of (front_of y).kind (front_of y).one (front_of y).two (front_of r) ≡ true
    both =
        rw (
          of_kind_lem k a b y f,
          of_kind_lem k a b r e,
          of_one k a b y f,
          of_one k a b r e,
          eq-eqb k k refl,
          eq-eqb a a refl,
          inner (ltb k 4) (of_two k a b r e) (of_two k a b y f),
        )

-- ---- the key of a record
module _ (t : List ℕ) (c : Cursor) (h : Front) (s : Standing t c h) where
  own : h ≡ front_of (record_at t c)
  own = standing_own t c h s

  key_name : h.kind ≡ 1 → key_at c h ≡ Name (record { at = c.at })
  unfolding key_at
  key_name k = choose_yes _ _ _ (eq-eqb _ _ k)

  key_ids : (h.kind ≡ 1 → ⊥) → key_at c h ≡ Ids h.kind h.one h.two
  unfolding key_at
  key_ids k = choose_no _ _ _ (ne_eqb _ _ k)

  bytes : h.kind ≡ 1 → name_bytes_at t c.at ≡ name_bytes (record_at t c)
  bytes k = standing_bytes t c h s k

  pub own_path : (tree_for t (key_at c h) ≡ tree_in (length t) (record_at t c)) × (digit_for t (key_at c h) ≡ digit_of (record_at t c))
  own_path = go (eqb h.kind 1) refl
    where
      go : (v : Bool) → eqb h.kind 1 ≡ v → (tree_for t (key_at c h) ≡ tree_in (length t) (record_at t c)) × (digit_for t (key_at c h) ≡ digit_of (record_at t c))
      go true q =
          let k : h.kind ≡ 1 = eqb-true _ _ q in
          let m : (front_of (record_at t c)).kind ≡ 1 = sym (ap (λ (z : Front). z.kind) own) ∙ k in
          (ap (tree_for t) (key_name k) ∙ ap (λ (z : ℕ). z % bucket_count (length t)) (ap (hash_of) (bytes k) ∙ sym (named-bucket _ m)) ∙ sym (tree_name (length t) _ m), ap (digit_for t) (key_name k) ∙ ap name_digit (bytes k) ∙ sym (named-digits _ m))
      go false q =
          let k : h.kind ≡ 1 → ⊥ = λ z. true≢false (sym (eq-eqb _ _ z) ∙ q) in
          let m : (front_of (record_at t c)).kind ≡ 1 → ⊥ = λ z. k (ap (λ (z : Front). z.kind) own ∙ z) in (
            ap (tree_for t) (key_ids k) ∙ ap (λ (z : Front). bucket_count (length t) + key_bucket z.kind z.one z.two % bucket_count (length t)) own
                ∙ ap (λ (z : ℕ). bucket_count (length t) + z % bucket_count (length t)) (sym (id_bucket _ m)) ∙ sym (tree_other (length t) _ m),
            ap (digit_for t) (key_ids k) ∙ (rw own) ∙ sym (id_digits _ m),
          )

  -- a record that has the key of this one matches; what is no function has a key
  pub passes_key : (h.kind ≡ 4 → ⊥) → (r : Record) → key_matches t (key_at c h) r ≡ same_key r (record_at t c)
  passes_key f r = go (eqb h.kind 1) refl
    where
      go : (v : Bool) → eqb h.kind 1 ≡ v → key_matches t (key_at c h) r ≡ same_key r (record_at t c)
      go true q =
          let k : h.kind ≡ 1 = eqb-true _ _ q in
          ap (λ (z : Key). key_matches t z r) (key_name k)
          ∙ same_name r (record_at t c) (name_bytes_at t c.at) (sym (ap (λ (z : Front). z.kind) own) ∙ k) (bytes k)
      go false q =
          let k : h.kind ≡ 1 → ⊥ = λ z. true≢false (sym (eq-eqb _ _ z) ∙ q) in
          ap (λ (z : Key). key_matches t z r) (key_ids k) ∙ (rw own)
          ∙ same_ids r (record_at t c) (λ z. k (ap (λ (z : Front). z.kind) own ∙ z)) (λ z. f (ap (λ (z : Front). z.kind) own ∙ z))

  pub own_key_in : h.malformed ≡ false → KeyIn t (key_at c h)
  own_key_in w = go (eqb h.kind 1) refl
    where
      go : (v : Bool) → eqb h.kind 1 ≡ v → KeyIn t (key_at c h)
      go true q = let k : h.kind ≡ 1 = eqb-true _ _ q in subst (λ (z : Key). KeyIn t z) (sym (key_name k)) (standing_room t c h s k)
      go false q =
          let k : h.kind ≡ 1 → ⊥ = λ z. true≢false (sym (eq-eqb _ _ z) ∙ q) in
          let l : 1 ≤ h.kind = subst (λ (z : Front). 1 ≤ z.kind) (sym s.head) (head_known (drop c.at t) (sym (ap (λ (z : Front). z.malformed) s.head) ∙ w)) in
          subst (λ (z : Key). KeyIn t z) (sym (key_ids k)) (not-le h.kind 1 (λ m. k (omega arith)))
