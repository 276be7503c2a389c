-- The room that is enough for the check of a table of at most 2,048 bytes, of at most 16,384, and of any.
use Prim.Native.Nat.{ℕ, zero, suc, ◌+◌, ◌*◌, ◌≤◌}
use borrow.Author.Tests.{ltb-true, ltb-false}
use lib.Dec.{ltb}
use mathlib.Core.Bool.{Bool, true, false}
use lib.ListN.{length, get_or, replicate, length-replicate}
use mathlib.Core.List.{List}
use mathlib.Core.Path.{◌≡◌, refl}
use native.Mathlib.Omega.{arith}
use Rattle.index.specs.Inside.IndexedTable.{IndexRoom}
use Rattle.index.specs.Inside.Ahead.{late_size, LateRoom}
use Rattle.index.specs.Inside.Index.{bucket_count, list_count}
use Rattle.index.proofs.Buckets.{buckets_some, buckets_few, buckets_bound, lists_some, lists_few, lists_bound}

get_d_zeros : (n i : ℕ) → get_or (replicate {A = ℕ} n 0) i 0 ≡ 0
get_d_zeros zero zero = refl
get_d_zeros zero (suc i) = refl
get_d_zeros (suc n) zero = refl
get_d_zeros (suc n) (suc i) = get_d_zeros n i

-- the entries before those of the records
middle_counts : (n : ℕ) → n ≤ 16384 → 1 + 2 * bucket_count n + 2 * list_count n ≤ 4609
middle_counts n h = go (ltb 2048 n) refl
  where
    go : (v : Bool) → ltb 2048 n ≡ v → 1 + 2 * bucket_count n + 2 * list_count n ≤ 4609
    go true q = omega (arith, buckets_some n h (ltb-true 2048 n q), lists_some n h (ltb-true 2048 n q))
    go false q = omega (arith, buckets_few n (ltb-false 2048 n q), lists_few n (ltb-false 2048 n q))

pub room_short : (t : List ℕ) → length t ≤ 2048 → IndexRoom t (replicate 1461 0)
room_short t h =
    let n : length (replicate {A = ℕ} 1461 0) ≡ 1461 = length-replicate {A = ℕ} 1461 0 in
    record { long = λ _. omega (arith, buckets_few (length t) h, lists_few (length t) h); blank = get_d_zeros 1461 }

pub room_middle : (t : List ℕ) → length t ≤ 16384 → IndexRoom t (replicate 11163 0)
room_middle t h =
    let n : length (replicate {A = ℕ} 11163 0) ≡ 11163 = length-replicate {A = ℕ} 11163 0 in
    record { long = λ _. omega (arith, middle_counts (length t) h); blank = get_d_zeros 11163 }

pub room_long : (t : List ℕ) → IndexRoom t (replicate 42435 0)
room_long t =
    let n : length (replicate {A = ℕ} 42435 0) ≡ 42435 = length-replicate {A = ℕ} 42435 0 in
    record { long = λ h. omega (arith, (buckets_bound (length t)).1, (lists_bound (length t)).1); blank = get_d_zeros 42435 }

-- the room that is enough for the classes ahead
pub late_room : (t : List ℕ) (n : ℕ) → late_size (length t) ≤ n → LateRoom t (replicate n 0)
late_room t n h =
    let l : length (replicate {A = ℕ} n 0) ≡ n = length-replicate {A = ℕ} n 0 in
    record { long = omega arith; blank = get_d_zeros n }
