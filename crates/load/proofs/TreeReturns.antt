-- What each return of `write_tree` leaves, on plain values.
use Rattle.std.proofs.Common.{◌≡◌, ℕ, ◌+◌, ◌-◌, ◌*◌, ◌%◌, ◌^◌, ◌<◌, ◌≤◌, true, false, eqb, ltb, List, [], ◌∷◌, ◌++◌, length, sym, refl, ap, ◌∙◌, arith, le-leb, le-ltb}
use borrow.Author.Tests.{lt-leb}
use lib.Seq.{sets}
use Rattle.load.proofs.DrawnTrees.{left_low, binary_many, shaped, drawn-one, drawn_more}
use Rattle.load.proofs.Fits.{drawn_bytes}
use Rattle.load.specs.Draw.{stepped, taken_from}
use Rattle.load.specs.DrawnTree.{Drawn, drawn_leaf, unary_over, drawn_unary, left_nodes, binary_behind, drawn_binary, drawn_tree}
use Rattle.load.specs.Inside.Shape.{shape_of, ShapeIs}
use Rattle.load.specs.Inside.WritesTree.{WritesTree}
use Rattle.question.specs.Write.{write_tree}
use Rattle.ty.specs.Choose.{choose}
use Rattle.written.proofs.ListFacts.{sets-append}

-- the step, with the product wrapped before the sum
pub wrapped : (s : ℕ) → ((s * 1_664_525) % 2 ^ 32 + 1_013_904_223) % 2 ^ 32 ≡ stepped s
unfolding stepped
wrapped s = omega arith

-- the shape of two nodes, and of more
pub shape_two : (k s : ℕ) → k ≤ 2 → ShapeIs (ltb 2 k) s (shape_of k s)
unfolding shape_of choose
shape_two k s h = rw (le-leb k 2 h, le-ltb 2 k h) (record { answer = refl; behind = refl })

pub shape_drawn : (k s t d : ℕ) → 2 < k → t ≡ stepped s → d ≡ taken_from 2 (stepped s) → ShapeIs (eqb d 1) t (shape_of k s)
unfolding shape_of choose
shape_drawn k s t d h e f = rw (lt-leb k 2 h) (record { answer = ap (λ (n : ℕ). eqb n 1) f; behind = e })

-- the left side, as it is drawn
pub left_is : (k s t d : ℕ) → t ≡ stepped s → d ≡ taken_from (k - 2) t → 1 + d ≡ left_nodes k s
unfolding left_nodes
left_is k s t d e f = rw (f, e)

module _ (k state at : ℕ) (before after : List ℕ) (r : ℕ) where
  -- by what the tree is
  by_tree : (x : Drawn) → drawn_tree k state ≡ x → r ≡ x.state → after ≡ sets before at (write_tree x.tree) → WritesTree k state at before after r
  by_tree x e s b = record { behind = s ∙ ap (λ (y : Drawn). y.state) (sym e); buffer = b ∙ ap (λ (y : Drawn). sets before at (write_tree y.tree)) (sym e) }

  pub leaf_written : k ≡ 1 → r ≡ stepped state → (d : ℕ) → d ≡ taken_from 12 (stepped state) → after ≡ sets before at (0 ∷ d ∷ []) → WritesTree k state at before after r
  unfolding drawn_leaf write_tree
  leaf_written e s d f b = by_tree (drawn_leaf state) (ap (λ (m : ℕ). drawn_tree m state) e ∙ drawn-one state) s (b ∙ ap (λ (z : ℕ). sets before at (0 ∷ z ∷ [])) f)

  module _ (more : 2 ≤ k) (s : ℕ) (s-is : s ≡ stepped (shape_of k state).state) (mid : List ℕ) where
    pub unary_written : (shape_of k state).binary ≡ false → (d : ℕ) → d ≡ taken_from 7 s → mid ≡ sets before at (2 ∷ d ∷ []) → WritesTree (k - 1) s (at + 2) mid after r
        → WritesTree k state at before after r
    unfolding shaped drawn_unary unary_over write_tree
    unary_written n d f m g =
        let e : drawn_tree k state ≡ unary_over d (drawn_tree (k - 1) s) = drawn_more k state more ∙ rw (n, ← s-is, ← f) in
        by_tree (unary_over d (drawn_tree (k - 1) s)) e g.behind
        (g.buffer ∙ ap (λ (b : List ℕ). sets b (at + 2) (write_tree (drawn_tree (k - 1) s).tree)) m
        ∙ sets-append (2 ∷ d ∷ []) (write_tree (drawn_tree (k - 1) s).tree) before at)

    pub binary_written : (shape_of k state).binary ≡ true → (d : ℕ) → d ≡ taken_from 23 s → mid ≡ sets before at (1 ∷ d ∷ []) → (left t : ℕ) → t ≡ stepped s
        → left ≡ left_nodes k s → (u : ℕ) (late : List ℕ) → WritesTree left t (at + 2) mid late u → WritesTree (k - 1 - left) u (at + 2 + 2 * left) late after r
        → WritesTree k state at before after r
    unfolding shaped drawn_binary binary_behind write_tree
    binary_written n d f m left t t-is l u late g h =
        let x : Drawn = drawn_tree left t in
        let y : Drawn = drawn_tree (k - 1 - left) u in
        let low = left_low k s (binary_many k state n) in
        let e : drawn_tree k state ≡ binary_behind d (λ m t. drawn_tree m t) (k - 1 - left) x = drawn_more k state more ∙ rw (n, ← s-is, ← f, ← l, ← t-is) in
        let xs = write_tree x.tree in
        let ys = write_tree (drawn_tree (k - 1 - left) x.state).tree in
        let a : after ≡ sets late (at + 2 + 2 * left) ys =
        h.buffer ∙ ap (λ (z : ℕ). sets late (at + 2 + 2 * left) (write_tree (drawn_tree (k - 1 - left) z).tree)) g.behind in
        let two : at + 2 + 2 * left ≡ at + 2 + length xs = omega (arith, drawn_bytes left t (omega arith)) in
        by_tree (binary_behind d (λ m t. drawn_tree m t) (k - 1 - left) x) e
        (h.behind ∙ ap (λ (z : ℕ). (drawn_tree (k - 1 - left) z).state) g.behind)
        (a
        ∙ ap (λ (z : ℕ). sets late z ys) two
        ∙ ap (λ (b : List ℕ). sets b (at + 2 + length xs) ys) g.buffer
        ∙ sets-append xs ys mid (at + 2)
        ∙ ap (λ (b : List ℕ). sets b (at + 2) (xs ++ ys)) m
        ∙ sets-append (1 ∷ d ∷ []) (xs ++ ys) before at)
