-- How many buckets there are.
use Prim.Native.Nat.{ℕ, ◌+◌, ◌-◌, ◌*◌, ◌/◌, ◌%◌, ◌^◌, ◌≤◌, ◌<◌}
use borrow.Author.Tests.{eqb-true, eq-eqb, ne_eqb, lt-ltb, le-ltb}
use lib.Dec.{ltb, eqb}
use lib.ListN.{get_or}
use mathlib.Core.Bool.{Bool, true, false, true≢false}
use mathlib.Core.List.{List}
use mathlib.Core.Path.{◌≡◌, refl, sym, ◌∙◌, subst}
use native.Mathlib.Omega.{arith}
use Rattle.record.specs.Inside.NameHash.{hash_of}
use Rattle.index.specs.Inside.Bucket.{digest_of, bucket_of, name_digits, name_digit, key_digit, digit_of}
use Rattle.record.specs.Inside.Front.{front_of}
use Rattle.record.specs.Inside.HeadFault.{name_bytes}
use Rattle.record.specs.Table.{Record}
use Rattle.index.specs.Inside.Index.{size_of, sized, unit_base, bucket_count, list_count, tree_in, list_in, ways_in}
use Rattle.index.specs.declared.index.TableSize.{TableSize}
use Rattle.index.specs.declared.index.TableSize.TheVariants.{Short, Middle, Long}
use Rattle.record.specs.Inside.Walk.{ways_of}
use Rattle.ty.proofs.Choice.{by_choice}
use Rattle.ty.specs.Choose.{choose}

-- the size's number is that of the counts
sized_of : (n a b c : ℕ) → sized (size_of n) a b c ≡ choose (ltb 16384 n) c (choose (ltb 2048 n) b a)
unfolding size_of choose
sized_of n a b c = go (ltb 16384 n) (ltb 2048 n)
  where
    go : (u v : Bool) → sized (choose u Long (choose v Middle Short)) a b c ≡ choose u c (choose v b a)
    go true v = refl
    go false true = refl
    go false false = refl

-- a table of more than 2,048 bytes, and a short one
pub buckets_some : (n : ℕ) → n ≤ 16384 → 2048 < n → bucket_count n ≡ 2048
unfolding bucket_count choose
buckets_some n h l = rw (le-ltb 16384 n h, lt-ltb 2048 n l)

pub buckets_few : (n : ℕ) → n ≤ 2048 → bucket_count n ≡ 256
unfolding bucket_count choose
buckets_few n h = let l : n ≤ 16384 = omega arith in rw (le-ltb 16384 n l, le-ltb 2048 n h)

pub lists_some : (n : ℕ) → n ≤ 16384 → 2048 < n → list_count n ≡ 256
unfolding list_count choose
lists_some n h l = rw (le-ltb 16384 n h, lt-ltb 2048 n l)

pub lists_few : (n : ℕ) → n ≤ 2048 → list_count n ≡ 64
unfolding list_count choose
lists_few n h = let l : n ≤ 16384 = omega arith in rw (le-ltb 16384 n l, le-ltb 2048 n h)

-- what is picked by a size is what the counts say
module _ (s : TableSize) (n : ℕ) (e : s ≡ size_of n) where
  pub buckets_sized : sized s 256 2048 8192 ≡ bucket_count n
  unfolding bucket_count
  buckets_sized = rw e (sized_of n _ _ _)

  pub lists_sized : sized s 64 256 1024 ≡ list_count n
  unfolding list_count
  lists_sized = rw e (sized_of n _ _ _)

  pub base_sized : sized s 641 4609 18433 ≡ unit_base n
  unfolding bucket_count list_count choose
  base_sized = rw e (sized_of n _ _ _ ∙ go (ltb 16384 n) (ltb 2048 n))
    where
      go : (u v : Bool) → choose u 18433 (choose v 4609 641) ≡ 1 + 2 * choose u 8192 (choose v 2048 256) + 2 * choose u 1024 (choose v 256 64)
      go true v = refl
      go false true = refl
      go false false = refl

  pub reduced_sized : (h : ℕ) → sized s (h % 256) (h % 2048) (h % 8192) ≡ h % bucket_count n
  unfolding bucket_count choose
  reduced_sized h = rw e (sized_of n _ _ _ ∙ go (ltb 16384 n) (ltb 2048 n))
    where
      go : (u v : Bool) → choose u (h % 8192) (choose v (h % 2048) (h % 256)) ≡ h % choose u 8192 (choose v 2048 256)
      go true v = refl
      go false true = refl
      go false false = refl

  pub list_reduced_sized : (h : ℕ) → sized s (h % 64) (h % 256) (h % 1024) ≡ h % list_count n
  unfolding list_count choose
  list_reduced_sized h = rw e (sized_of n _ _ _ ∙ go (ltb 16384 n) (ltb 2048 n))
    where
      go : (u v : Bool) → choose u (h % 1024) (choose v (h % 256) (h % 64)) ≡ h % choose u 1024 (choose v 256 64)
      go true v = refl
      go false true = refl
      go false false = refl

pub bucket-below : (h n : ℕ) → h % bucket_count n < bucket_count n
unfolding bucket_count
bucket-below h n =
    by_choice (λ (b : ℕ). h % b < b) (ltb 16384 n) (λ _. omega arith) λ _.
    by_choice (λ (b : ℕ). h % b < b) (ltb 2048 n) (λ _. omega arith) (λ _. omega arith)

pub list-below : (h n : ℕ) → h % list_count n < list_count n
unfolding list_count
list-below h n =
    by_choice (λ (b : ℕ). h % b < b) (ltb 16384 n) (λ _. omega arith) λ _.
    by_choice (λ (b : ℕ). h % b < b) (ltb 2048 n) (λ _. omega arith) (λ _. omega arith)

pub buckets_bound : (n : ℕ) → (1 ≤ bucket_count n) × (bucket_count n ≤ 8192)
unfolding bucket_count
buckets_bound n =
    by_choice (λ (b : ℕ). (1 ≤ b) × (b ≤ 8192)) (ltb 16384 n) (λ _. (omega arith, omega arith)) λ _.
    by_choice (λ (b : ℕ). (1 ≤ b) × (b ≤ 8192)) (ltb 2048 n) (λ _. (omega arith, omega arith)) (λ _. (omega arith, omega arith))

pub lists_bound : (n : ℕ) → (1 ≤ list_count n) × (list_count n ≤ 1024)
unfolding list_count
lists_bound n =
    by_choice (λ (b : ℕ). (1 ≤ b) × (b ≤ 1024)) (ltb 16384 n) (λ _. (omega arith, omega arith)) λ _.
    by_choice (λ (b : ℕ). (1 ≤ b) × (b ≤ 1024)) (ltb 2048 n) (λ _. (omega arith, omega arith)) (λ _. (omega arith, omega arith))

-- names have trees of their own
pub tree_name : (n : ℕ) (r : Record) → (front_of r).kind ≡ 1 → tree_in n r ≡ bucket_of r % bucket_count n
unfolding tree_in choose
tree_name n r k = rw (eq-eqb _ _ k)

pub tree_other : (n : ℕ) (r : Record) → ((front_of r).kind ≡ 1 → ⊥) → tree_in n r ≡ bucket_count n + bucket_of r % bucket_count n
unfolding tree_in choose
tree_other n r k = rw (ne_eqb _ _ k)

pub tree_low : (n : ℕ) (r : Record) → tree_in n r < 2 * bucket_count n
unfolding tree_in
tree_low n r =
    by_choice (λ (b : ℕ). b < 2 * bucket_count n) (eqb (front_of r).kind 1) (λ _. omega (arith, bucket-below (bucket_of r) n))
    (λ _. omega (arith, bucket-below (bucket_of r) n))

-- only functions have a bucket among the lists
pub list-function : (n : ℕ) (r : Record) → (front_of r).kind ≡ 4 → list_in n r ≡ bucket_of r % list_count n
unfolding list_in choose
list-function n r k = rw (eq-eqb _ _ k)

pub list_other : (n : ℕ) (r : Record) → ((front_of r).kind ≡ 4 → ⊥) → list_in n r ≡ list_count n
unfolding list_in choose
list_other n r k = rw (ne_eqb _ _ k)

pub list_kind_of : (n : ℕ) (r : Record) (b : ℕ) → b < list_count n → list_in n r ≡ b → (front_of r).kind ≡ 4
list_kind_of n r b l e = go (eqb (front_of r).kind 4) refl
  where
    go : (v : Bool) → eqb (front_of r).kind 4 ≡ v → (front_of r).kind ≡ 4
    go true q = eqb-true _ _ q
    go false q =
        let d : list_in n r ≡ list_count n = list_other n r (λ k. absurd_at k q) in
        absurd (omega (arith, d, e))
      where
        absurd_at : (front_of r).kind ≡ 4 → eqb (front_of r).kind 4 ≡ false → ⊥
        absurd_at k z = true≢false (sym (eq-eqb _ _ k) ∙ z)

-- the ways of the trees of names, and of the others
pub ways_name : (n b : ℕ) → b < bucket_count n → ways_in n b ≡ 8
unfolding ways_in choose
ways_name n b l = rw (lt-ltb b (bucket_count n) l)

pub ways_other : (n b : ℕ) → bucket_count n ≤ b → ways_in n b ≡ 2
unfolding ways_in choose
ways_other n b l = rw (le-ltb b (bucket_count n) l)

pub ways_some : (k : ℕ) → 1 ≤ ways_of k
unfolding ways_of
ways_some k = by_choice (λ (w : ℕ). 1 ≤ w) (eqb k 1) (λ _. omega arith) (λ _. omega arith)

-- a record's tree has its ways
pub ways_tree : (n : ℕ) (r : Record) → ways_of (front_of r).kind ≡ ways_in n (tree_in n r)
unfolding tree_in ways_of choose
ways_tree n r = go (eqb (front_of r).kind 1)
  where
    go : (v : Bool) → choose v 8 2 ≡ ways_in n (choose v (bucket_of r % bucket_count n) (bucket_count n + bucket_of r % bucket_count n))
    go true = sym (ways_name n _ (bucket-below (bucket_of r) n))
    go false = sym (ways_other n _ (omega arith))

-- the numbers that a name's digits are taken from
pub digits-first : (name : List ℕ) (h d : ℕ) → h ≡ hash_of name → d ≡ 0 → h / 8192 ≡ name_digits name d
unfolding name_digits choose
digits-first name h d e z = rw (eq-eqb d 0 z, e)

pub digits_later : (name : List ℕ) (h d : ℕ) → h ≡ digest_of 15 name → (d ≡ 0 → ⊥) → h ≡ name_digits name d
unfolding name_digits choose
digits_later name h d e z = rw (ne_eqb d 0 z, e)

pub digits-kept : (name : List ℕ) (d : ℕ) → (d ≡ 0 → ⊥) → (d ≡ 1 → ⊥) → name_digits name (d - 1) ≡ name_digits name d
digits-kept name d z o = sym (digits_later name (digest_of 15 name) (d - 1) refl (λ e. o (omega arith))) ∙ digits_later name (digest_of 15 name) d refl z

-- the digits of a name
pub digit_mixed : (name : List ℕ) (h d : ℕ) → h ≡ name_digits name d → d < 21 → h / 2 ^ (3 * d) % 8 ≡ name_digit name d
unfolding name_digit choose
digit_mixed name h d e l = rw (lt-ltb d 21 l, e)

pub digit_own : (name : List ℕ) (b d : ℕ) → b ≡ get_or name (d % 24) 0 → 21 ≤ d → b / 2 ^ (3 * (d / 24 % 3)) % 8 ≡ name_digit name d
unfolding name_digit choose
digit_own name b d e l = rw (le-ltb d 21 l, e)

-- a digit is one of the ways
pub name_digit_low : (name : List ℕ) (d : ℕ) → name_digit name d < 8
unfolding name_digit
name_digit_low name d = by_choice (λ (v : ℕ). v < 8) (ltb d 21) (λ _. omega arith) (λ _. omega arith)

pub key_digit_low : (k a b d : ℕ) → key_digit k a b d < 2
unfolding key_digit
key_digit_low k a b d = omega arith

pub digit_low : (r : Record) (d : ℕ) → digit_of r d < ways_of (front_of r).kind
unfolding digit_of ways_of choose
digit_low r d = go (eqb (front_of r).kind 1)
  where
    go : (v : Bool) → choose v (name_digit (name_bytes r)) (key_digit (front_of r).kind (front_of r).one (front_of r).two) d < choose v 8 2
    go true = name_digit_low (name_bytes r) d
    go false = key_digit_low (front_of r).kind (front_of r).one (front_of r).two d

pub tree_digit_low : (n : ℕ) (r : Record) (d : ℕ) → digit_of r d < ways_in n (tree_in n r)
tree_digit_low n r d = subst (λ (w : ℕ). digit_of r d < w) (ways_tree n r) (digit_low r d)

-- the functions of index.rt
pub ruleset buckets = (buckets_sized, lists_sized, base_sized, buckets_bound, lists_bound)

-- the digits of a key
pub ruleset digit_rules = (digits-first, digits_later, digits-kept)
