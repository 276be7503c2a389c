-- A search in the trees of the index, record by record, and what it finds.
use Prim.Native.Nat.{ℕ, zero, suc, ◌+◌, ◌-◌, ◌≤◌, ◌<◌}
use borrow.Author.Tests.{eqb-true, eq-eqb}
use lib.Dec.{eqb}
use lib.ListN.{length, get_or, drop}
use mathlib.Core.Bool.{Bool, true, false, true≢false}
use mathlib.Core.List.{List}
use mathlib.Core.Path.{◌≡◌, refl, sym, ap, ◌∙◌, subst}
use native.Mathlib.Numerals.{add-one}
use native.Mathlib.Omega.{arith, not-le}
use Rattle.index.proofs.ListSearch.{left_of}
use Rattle.index.proofs.Paths.{tree_for_low, digit_for_low}
use Rattle.index.proofs.SearchTrees.{meets, meets_later}
use Rattle.index.specs.Inside.Index.{child_at}
use Rattle.index.specs.Inside.SearchKey.{tree_for, digit_for, key_matches}
use Rattle.index.specs.Inside.Spot.{place_for, FreeIs}
use Rattle.record.specs.Inside.FrontRecord.{front_record}
use Rattle.index.specs.Inside.SearchTree.{place_of, Led, TreeMember, Tree}
use Rattle.index.specs.declared.tree.Key.{Key}

-- the search stands at entry a behind d records without the key, and the entry has v
pub record Seeking (t x : List ℕ) (k : Key) (a d v : ℕ) : Type 0 where
  pub place : a ≡ place_for t x k d
  pub value : v ≡ get_or x a 0
  pub led : Led x (length t) (tree_for t k) (digit_for t k) d
  pub met : (i : ℕ) → i < d → (q : ℕ) → get_or x (place_for t x k i) 0 ≡ suc q → key_matches t k (front_record (drop q t)) ≡ false
  pub few : d + left_of (length t) v ≤ suc (length t)

left_most : (n v : ℕ) → left_of n v ≤ suc n
left_most n zero = omega arith
left_most n (suc p) = omega arith

pub seeking_start : (t x : List ℕ) (k : Key) (b v : ℕ) → b ≡ tree_for t k → v ≡ get_or x (1 + b) 0 → Seeking t x k (1 + b) 0 v
unfolding place_of
seeking_start t x k b v e q =
    record {
      place = ap (λ (i : ℕ). 1 + i) e;
      value = q;
      led = λ i l. absurd (omega arith);
      met = λ i l. absurd (omega arith);
      few = omega (arith, left_most (length t) v);
    }

-- it ends at an empty entry
pub seeking_free : (t x : List ℕ) (k : Key) (a d v : ℕ) → Seeking t x k a d v → v ≡ 0 → FreeIs t x k a
seeking_free t x k a d v s z = record { depth = d; led = s.led; place = s.place; empty = sym s.value ∙ z; few = omega (arith, s.few); met = s.met }

place_next : (x : List ℕ) (n b : ℕ) (f : ℕ → ℕ) (d p : ℕ) → get_or x (place_of x n b f d) 0 ≡ suc p → place_of x n b f (suc d) ≡ child_at n p (f d)
unfolding place_of
place_next x n b f d p e = let q : get_or x (place_of x n b f d) 0 - 1 ≡ p = omega (arith, e) in ap (λ (i : ℕ). child_at n i (f d)) q

module _ (t x : List ℕ) (k : Key) (a d v p : ℕ) (s : Seeking t x k a d v) (z : v ≡ suc p) where
  stands_at : get_or x (place_for t x k d) 0 ≡ suc p
  stands_at = ap (λ (i : ℕ). get_or x i 0) (sym s.place) ∙ sym s.value ∙ z

  -- it meets a record
  module _ (e : ℕ) (g : Tree t x e) where
    pub seeking_node : TreeMember t e p
    seeking_node =
        (meets t x e g (tree_for t k) (digit_for t k) (tree_for_low t k) (digit_for_low t k) d p s.led stands_at).0

  module _ (v' : ℕ) (q : v' ≡ get_or x (child_at (length t) p (digit_for t k d)) 0) where
    pub seeking_less : (e : ℕ) → Tree t x e → e ≤ length t → left_of (length t) v' < left_of (length t) v
    seeking_less e g h = subst (λ (i : ℕ). left_of (length t) v' < left_of (length t) i) (sym z) (go v' q)
      where
        go : (i : ℕ) → i ≡ get_or x (child_at (length t) p (digit_for t k d)) 0 → left_of (length t) i < suc (length t - p)
        go zero y = omega arith
        go (suc r) y =
            let l = meets_later t x e g (tree_for t k) (digit_for t k) (tree_for_low t k) (digit_for_low t k) d p r s.led stands_at (sym y) in
            omega (arith, l, (seeking_node e g).low, h)

    -- and goes on
    module _ (a' : ℕ) (y : a' ≡ child_at (length t) p (digit_for t k d)) (no_key : key_matches t k (front_record (drop p t)) ≡ false)
        (less : left_of (length t) v' < left_of (length t) v) where
      next_led : Led x (length t) (tree_for t k) (digit_for t k) (suc d)
      next_led i l y₂ = go (eqb i d) refl
        where
          go : (u : Bool) → eqb i d ≡ u → ⊥
          go true r =
              let w : get_or x (place_for t x k d) 0 ≡ 0 = ap (λ (j : ℕ). get_or x (place_for t x k j) 0) (sym (eqb-true i d r)) ∙ y₂ in
              omega (arith, stands_at, w)
          go false r = s.led i (not-le d i (λ m. true≢false (sym (eq-eqb i d (omega arith)) ∙ r))) y₂

      next_met : (i : ℕ) → i < suc d → (r : ℕ) → get_or x (place_for t x k i) 0 ≡ suc r → key_matches t k (front_record (drop r t)) ≡ false
      next_met i l r w = go (eqb i d) refl
        where
          go : (u : Bool) → eqb i d ≡ u → key_matches t k (front_record (drop r t)) ≡ false
          go true o =
              let f : suc r ≡ suc p = sym w ∙ ap (λ (j : ℕ). get_or x (place_for t x k j) 0) (eqb-true i d o) ∙ stands_at in
              let j : r ≡ p = omega (arith, f) in
              ap (λ (j : ℕ). key_matches t k (front_record (drop j t))) j ∙ no_key
          go false o = s.met i (not-le d i (λ m. true≢false (sym (eq-eqb i d (omega arith)) ∙ o))) r w

      next_seeking : Seeking t x k a' (suc d) v'
      next_seeking =
          record {
            place = y ∙ sym (place_next x (length t) (tree_for t k) (digit_for t k) d p stands_at);
            value = q ∙ ap (λ (i : ℕ). get_or x i 0) (sym y);
            led = next_led;
            met = next_met;
            few = omega (arith, s.few, less);
          }

      pub seeking_next : Seeking t x k a' (d + 1) v'
      seeking_next = subst (λ (i : ℕ). Seeking t x k a' i v') (sym (add-one d)) next_seeking

-- an empty root
pub root_free : (t x : List ℕ) (k : Key) (b v : ℕ) → b ≡ tree_for t k → v ≡ get_or x (1 + b) 0 → v ≡ 0 → FreeIs t x k (1 + b)
root_free t x k b v e q z = seeking_free t x k (1 + b) 0 v (seeking_start t x k b v e q) z
