-- The drawn tree by its root. How many levels are allowed does not matter where they are as many as the nodes.
use Rattle.std.proofs.Common.{◌≡◌, ℕ, zero, suc, ◌-◌, ◌<◌, ◌≤◌, Bool, true, false, eqb, leb, sym, refl, ap, ◌∙◌, true≢false, mod-lt, arith, le-leb, leb-false}
use borrow.Author.Tests.{lt-leb}
use Rattle.load.specs.Draw.{stepped, taken_from, drawn}
use Rattle.load.specs.DrawnTree.{Drawn, drawn_leaf, unary_over, drawn_unary, left_nodes, binary_behind, drawn_binary, drawn_inner, drawn_in, drawn_tree}
use Rattle.load.specs.Inside.Shape.{Shape, shape_of}
use Rattle.ty.proofs.Choice.{by_choice, choose_yes, choose_no}
use Rattle.ty.specs.Choose.{choose}

-- a draw is below what it is drawn of
pub taken_low : (n s : ℕ) → 1 ≤ n → taken_from n s < n
unfolding taken_from
taken_low n s h = mod-lt _ h

-- both sides of a binary have at least one node, and fewer than it
pub left_low : (k s : ℕ) → 3 ≤ k → (1 ≤ left_nodes k s) × (left_nodes k s ≤ k - 2)
unfolding left_nodes
left_low k s h = let l = taken_low (k - 2) (stepped s) (omega arith) in (omega arith, omega arith)

-- a binary has at least three nodes
pub binary_many : (k s : ℕ) → (shape_of k s).binary ≡ true → 3 ≤ k
unfolding shape_of
binary_many k s =
    by_choice (λ (h : Shape). h.binary ≡ true → 3 ≤ k) (leb k 2) (λ _ e. absurd (true≢false (sym e))) (λ l _. leb-false k 2 l)

-- ---- the root, by its shape and the trees of fewer nodes
unfoldable pub shaped : Bool → (ℕ → ℕ → Drawn) → ℕ → ℕ → Drawn
shaped true draw k s = drawn_binary draw k s
shaped false draw k s = drawn_unary draw k s

pub inner_shaped : (draw : ℕ → ℕ → Drawn) (k s : ℕ) → drawn_inner draw k s ≡ shaped (shape_of k s).binary draw k (shape_of k s).state
unfolding drawn_inner shape_of shaped choose
inner_shaped draw k s = go (leb k 2) (eqb (drawn 2 s) 1)
  where
    shape : Bool → Bool → Shape
    shape a b = choose a (record { binary = false; state = s }) (record { binary = b; state = stepped s })

    go : (a b : Bool)
        → choose a (drawn_unary draw k s) (choose b (drawn_binary draw k (stepped s)) (drawn_unary draw k (stepped s))) ≡ shaped (shape a b).binary draw k (shape a b).state
    go true b = refl
    go false true = refl
    go false false = refl

shaped_same : (b : Bool) (g h : ℕ → ℕ → Drawn) (k s : ℕ) → 2 ≤ k → (b ≡ true → 3 ≤ k) → ((m t : ℕ) → m < k → g m t ≡ h m t) → shaped b g k s ≡ shaped b h k s
unfolding shaped drawn_unary drawn_binary binary_behind
shaped_same false g h k s p q e = ap (unary_over (drawn 7 s)) (e (k - 1) (stepped s) (omega arith))
shaped_same true g h k s p q e =
    let l = left_low k (stepped s) (q refl) in
    let a : g (left_nodes k (stepped s)) (stepped (stepped s)) ≡ h (left_nodes k (stepped s)) (stepped (stepped s)) =
    e (left_nodes k (stepped s)) (stepped (stepped s)) (omega arith) in
    ap (binary_behind (drawn 23 s) g (k - 1 - left_nodes k (stepped s))) a
    ∙ rights (h (left_nodes k (stepped s)) (stepped (stepped s)))
  where
    rights : (x : Drawn) → binary_behind (drawn 23 s) g (k - 1 - left_nodes k (stepped s)) x ≡ binary_behind (drawn 23 s) h (k - 1 - left_nodes k (stepped s)) x
    rights x = rw (e (k - 1 - left_nodes k (stepped s)) x.state (omega arith))

inner_same : (g h : ℕ → ℕ → Drawn) (k s : ℕ) → 2 ≤ k → ((m t : ℕ) → m < k → g m t ≡ h m t) → drawn_inner g k s ≡ drawn_inner h k s
inner_same g h k s p e =
    inner_shaped g k s ∙ shaped_same (shape_of k s).binary g h k (shape_of k s).state p (binary_many k s) e ∙ sym (inner_shaped h k s)

-- ---- levels
same_drawn : (f g k s : ℕ) → k ≤ f → k ≤ g → drawn_in f k s ≡ drawn_in g k s
unfolding drawn_in
same_drawn zero zero k s p q = refl
same_drawn zero (suc g) k s p q = sym (choose_yes (leb k 1) _ _ (le-leb k 1 (omega arith)))
same_drawn (suc f) zero k s p q = choose_yes (leb k 1) _ _ (le-leb k 1 (omega arith))
same_drawn (suc f) (suc g) k s p q = go (leb k 1) refl (λ m t i j. same_drawn f g m t i j)
  where
    go : (b : Bool) → leb k 1 ≡ b → ((m t : ℕ) → m ≤ f → m ≤ g → drawn_in f m t ≡ drawn_in g m t) → drawn_in (suc f) k s ≡ drawn_in (suc g) k s
    go true e same = choose_yes (leb k 1) _ _ e ∙ sym (choose_yes (leb k 1) _ _ e)
    go false e same =
        let n = leb-false k 1 e in
        choose_no (leb k 1) _ _ e
        ∙ inner_same (λ m t. drawn_in f m t) (λ m t. drawn_in g m t) k s (omega arith) (λ m t i. same m t (omega arith) (omega arith))
        ∙ sym (choose_no (leb k 1) _ _ e)

-- one node
pub drawn-one : (s : ℕ) → drawn_tree 1 s ≡ drawn_leaf s
unfolding drawn_tree drawn_in choose
drawn-one s = refl

-- more
pub drawn_more : (k s : ℕ) → 2 ≤ k → drawn_tree k s ≡ shaped (shape_of k s).binary (λ m t. drawn_tree m t) k (shape_of k s).state
unfolding drawn_tree drawn_in
drawn_more zero s h = absurd (omega arith)
drawn_more (suc f) s h =
    choose_no (leb (suc f) 1) _ _ (lt-leb (suc f) 1 (omega arith))
    ∙ inner_same (λ m t. drawn_in f m t) (λ m t. drawn_in m m t) (suc f) s h (λ m t i. same_drawn f m m t (omega arith) (omega arith))
    ∙ inner_shaped (λ m t. drawn_in m m t) (suc f) s
