-- The cursor down the tree of a key, step by step, and what is told of the search's end.
use Prim.Native.Nat.{ℕ, zero, suc, ◌+◌, ◌-◌, ◌≤◌, ◌<◌}
use lib.ListN.{length, drop}
use mathlib.Core.Bool.{Bool, true, false}
use mathlib.Core.List.{List}
use mathlib.Core.Path.{◌≡◌, refl, sym, ap, ◌∙◌, subst}
use native.Mathlib.Omega.{arith}
use Rattle.index.proofs.Counted.{counted, counted_found}
use Rattle.index.proofs.ListSearch.{left_of}
use Rattle.index.proofs.Searches.{Seeking, seeking_start, seeking_node, seeking_less, seeking_next, seeking_free}
use Rattle.index.specs.Inside.SearchKey.{tree_for, digits_for, key_matches}
use Rattle.index.specs.Inside.SearchTree.{TreeMember, Tree}
use Rattle.index.specs.Inside.Spot.{Open, SpotIs}
use Rattle.index.specs.Inside.TreeWalk.{tree_start, tree_step, spot_of, spot_at, ends_at, tree_stepped, search_from, search_of}
use Rattle.index.specs.declared.tree.Key.{Key}
use Rattle.index.specs.declared.index.Place.{Place}
use Rattle.std.specs.Prelude.{Result, Ok, None, Some}
use Rattle.index.specs.Inside.Found.{Found}
use Rattle.index.specs.declared.tree.TreeCursor.{TreeCursor}
use Rattle.record.specs.Inside.FrontRecord.{front_record}
use Rattle.ty.proofs.Choice.{choose_yes, choose_no}

module _ (t x : List ℕ) (k : Key) where
  -- the record at a place has the key
  abbrev key_here : Place → Bool
  key_here p = key_matches t k (front_record (drop p.at t))

  -- ---- a search that ends here, and one that goes on
  search_ends : (m : ℕ) (c : TreeCursor) → ends_at t k c.here ≡ true → search_from m t x k c ≡ spot_at c
  unfolding search_from
  search_ends zero c h = refl
  search_ends (suc m) c h = choose_yes _ _ _ h

  search_on : (m : ℕ) (c : TreeCursor) (p : Place) → c.here ≡ Some p → key_here p ≡ false → search_from (suc m) t x k c ≡ search_from m t x k (tree_step t x k c p)
  unfolding search_from
  search_on m c p z h = choose_no _ _ _ (ap (ends_at t k) z ∙ h) ∙ ap (λ (f : Found). search_from m t x k (tree_stepped t x k c f)) z

  -- ---- the cursor of the search
  abbrev SeekingAt : TreeCursor → Type 0
  SeekingAt c = Seeking t x k c.entry c.depth (counted c.here)

  module _ (g : Open t x) where
    module _ (c : TreeCursor) (s : SeekingAt c) (p : Place) (z : c.here ≡ Some p) where
      pub cursor_node : (e : ℕ) → Tree t x e → TreeMember t e p.at
      cursor_node e tree = seeking_node t x k c.entry c.depth (counted c.here) p.at s (ap counted z) e tree

      pub cursor_less : left_of (length t) (counted (tree_step t x k c p).here) < left_of (length t) (counted c.here)
      unfolding tree_step
      cursor_less =
          seeking_less t x k c.entry c.depth (counted c.here) p.at s (ap counted z) _ (counted_found _) g.end g.tree g.inside

      cursor_next : key_here p ≡ false → SeekingAt (tree_step t x k c p)
      unfolding tree_step
      cursor_next lacks =
          seeking_next t x k c.entry c.depth (counted c.here) p.at s (ap counted z) _ (counted_found _) _ refl lacks
          (seeking_less t x k c.entry c.depth (counted c.here) p.at s (ap counted z) _ (counted_found _) g.end g.tree g.inside)

    cursor_start : SeekingAt (tree_start x (tree_for t k))
    unfolding tree_start
    cursor_start = seeking_start t x k (tree_for t k) _ refl (counted_found _)

    -- ---- what is told of the search's end
    module _ (e : ℕ) (tree : Tree t x e) where
      told_free : (m : ℕ) (c : TreeCursor) → SeekingAt c → c.here ≡ None → SpotIs t x e k (search_from m t x k c)
      told_free m c s z =
          subst (SpotIs t x e k) (sym (search_ends m c (ap (ends_at t k) z) ∙ ap (spot_of c.entry) z))
          (seeking_free t x k c.entry c.depth (counted c.here) s (ap counted z))

      told_taken : (m : ℕ) (c : TreeCursor) → SeekingAt c → (p : Place) → c.here ≡ Some p → key_here p ≡ true → SpotIs t x e k (search_from m t x k c)
      told_taken m c s p z h =
          subst (SpotIs t x e k) (sym (search_ends m c (ap (ends_at t k) z ∙ h) ∙ ap (spot_of c.entry) z))
          (record { node = cursor_node c s p z e tree; has = h })

      told : (m : ℕ) (c : TreeCursor) → SeekingAt c → left_of (length t) (counted c.here) ≤ m → SpotIs t x e k (search_from m t x k c)
      told zero c s l = told_free zero c s (go c.here l)
        where
          go : (f : Found) → left_of (length t) (counted f) ≤ 0 → f ≡ None
          go None h = refl
          go (Some p) h = absurd (omega arith)
      told (suc m) c s l = go c.here refl (λ p z lacks. told m (tree_step t x k c p) (cursor_next c s p z lacks) (omega (arith, cursor_less c s p z)))
        where
          at : (p : Place) → c.here ≡ Some p → (v : Bool) → key_here p ≡ v
              → (key_here p ≡ false → SpotIs t x e k (search_from m t x k (tree_step t x k c p)))
              → SpotIs t x e k (search_from (suc m) t x k c)
          at p z true h ih = told_taken (suc m) c s p z h
          at p z false h ih = subst (SpotIs t x e k) (sym (search_on m c p z h)) (ih h)

          go : (f : Found) → c.here ≡ f
              → ((p : Place) → c.here ≡ Some p → key_here p ≡ false → SpotIs t x e k (search_from m t x k (tree_step t x k c p)))
              → SpotIs t x e k (search_from (suc m) t x k c)
          go None z ih = told_free (suc m) c s z
          go (Some p) z ih = at p z (key_here p) refl (ih p z)

    pub search_spot : (r : Result Place ℕ) → r ≡ search_of t x k → (e : ℕ) → Tree t x e → SpotIs t x e k r
    unfolding search_of
    search_spot r q e tree =
        subst (SpotIs t x e k) (sym q) (told e tree (suc (length t)) (tree_start x (tree_for t k)) cursor_start (omega (arith, cursor_start.few)))

-- ---- the loop of a search: the cursor, the number for its digits, and what is left of the search
pub record Sought (t x : List ℕ) (k : Key) (c : TreeCursor) : Type 0 where
  pub seeking : SeekingAt t x k c
  pub digits : 0 < c.depth → c.digits ≡ digits_for t k (c.depth - 1)
  pub left : search_from (suc (length t) - c.depth) t x k c ≡ search_of t x k

module _ (t x : List ℕ) (k : Key) (g : Open t x) where
  start : Sought t x k (tree_start x (tree_for t k))
  unfolding tree_start search_of
  start =
      let z : suc (length t) - 0 ≡ suc (length t) = omega arith in
      record {
        seeking = cursor_start t x k g;
        digits = λ l. absurd (omega arith);
        left = ap (λ (i : ℕ). search_from i t x k (tree_start x (tree_for t k))) z;
      }

  pub sought_start : (b : ℕ) → b ≡ tree_for t k → (c : TreeCursor) → c ≡ tree_start x b → Sought t x k c
  sought_start b e c q = subst (Sought t x k) (sym (q ∙ ap (tree_start x) e)) start

  module _ (c : TreeCursor) (s : Sought t x k c) where
    pub sought_end : c.here ≡ None → spot_at c ≡ search_of t x k
    sought_end z = sym (search_ends t x k (suc (length t) - c.depth) c (ap (ends_at t k) z)) ∙ s.left

    module _ (p : Place) (z : c.here ≡ Some p) where
      pub sought_found : key_here t x k p ≡ true → Ok p ≡ search_of t x k
      sought_found h =
          sym (search_ends t x k (suc (length t) - c.depth) c (ap (ends_at t k) z ∙ h) ∙ ap (spot_of c.entry) z) ∙ s.left

      pub sought_node : TreeMember t g.end p.at
      sought_node = cursor_node t x k g c s.seeking p z g.end g.tree

      pub sought_less : (n : TreeCursor) → n ≡ tree_step t x k c p → left_of (length t) (counted n.here) < left_of (length t) (counted c.here)
      sought_less n q =
          subst (λ (y : TreeCursor). left_of (length t) (counted y.here) < left_of (length t) (counted c.here)) (sym q) (cursor_less t x k g c s.seeking p z)

      next : key_here t x k p ≡ false → Sought t x k (tree_step t x k c p)
      unfolding tree_step
      next lacks =
          let same : c.depth ≡ c.depth + 1 - 1 = omega arith in
          let some : left_of (length t) (counted c.here) ≡ suc (length t - p.at) = ap (λ (f : Found). left_of (length t) (counted f)) z in
          let more : suc (suc (length t) - (c.depth + 1)) ≡ suc (length t) - c.depth = omega (arith, s.seeking.few, some) in
          record {
            seeking = cursor_next t x k g c s.seeking p z lacks;
            digits = λ l. ap (digits_for t k) same;
            left =
                sym (search_on t x k (suc (length t) - (c.depth + 1)) c p z lacks) ∙ ap (λ (i : ℕ). search_from i t x k c) more ∙ s.left;
          }

      pub sought_next : key_here t x k p ≡ false → (n : TreeCursor) → n ≡ tree_step t x k c p → Sought t x k n
      sought_next lacks n q = subst (Sought t x k) (sym q) (next lacks)
