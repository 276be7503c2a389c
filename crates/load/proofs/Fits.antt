-- The drawn tree has exactly the wanted nodes, two bytes each, and is legal under any names.
use Rattle.std.proofs.Common.{◌≡◌, ℕ, zero, suc, ◌-◌, ◌*◌, ◌<◌, ◌≤◌, Bool, true, false, leb, length, refl, ◌∙◌, arith, leb-false, leb-true}
use Rattle.load.proofs.DrawnTrees.{taken_low, left_low, binary_many, shaped, inner_shaped}
use Rattle.load.specs.Draw.{stepped, drawn}
use Rattle.load.specs.DrawnTree.{Drawn, drawn_leaf, unary_over, drawn_unary, left_nodes, binary_behind, drawn_binary, drawn_in, drawn_tree}
use Rattle.load.specs.Inside.Shape.{shape_of}
use Rattle.question.proofs.WrittenTrees.{written_bytes, plain_legal}
use Rattle.question.specs.Legal.{Legal}
use Rattle.question.specs.Tree.{Node, binary, unary, size, bytes}
use Rattle.question.specs.Write.{write_tree}
use Rattle.question.specs.declared.Names.{Names}
use Rattle.ty.proofs.Choice.{by_choice}

pub record Fit (k : ℕ) (x : Node) : Type 0 where
  pub sized : size x ≡ k
  pub long : bytes x ≡ 2 * k
  pub legal : (N : Names) → Legal N x

leaf-fits : (k s : ℕ) → k ≡ 1 → Fit k (drawn_leaf s).tree
unfolding drawn_leaf size bytes
leaf-fits k s e =
    record { sized = omega arith; long = omega arith; legal = plain_legal (drawn 12 s) (taken_low 12 (stepped s) (omega arith)) }

unary-fits : (k op : ℕ) (x : Node) → 2 ≤ k → op < 7 → Fit (k - 1) x → Fit k (unary op x)
unfolding size bytes Legal
unary-fits k op x p o w =
    record { sized = omega (arith, w.sized); long = omega (arith, w.long); legal = λ N. (w.legal N, omega arith) }

binary-fits : (k left op : ℕ) (l r : Node) → left < k → op < 23 → Fit left l → Fit (k - 1 - left) r → Fit k (binary op l r)
unfolding size bytes Legal
binary-fits k left op l r p o v w =
    record {
      sized = omega (arith, v.sized, w.sized);
      long = omega (arith, v.long, w.long);
      legal = λ N. (v.legal N, w.legal N, omega arith);
    }

shaped-fits : (b : Bool) (g : ℕ → ℕ → Drawn) (k s : ℕ) → 2 ≤ k → (b ≡ true → 3 ≤ k) → ((m t : ℕ) → 1 ≤ m → m < k → Fit m (g m t).tree) → Fit k (shaped b g k s).tree
unfolding shaped drawn_unary unary_over drawn_binary binary_behind
shaped-fits false g k s p q f = unary-fits k (drawn 7 s) _ p (taken_low 7 (stepped s) (omega arith)) (f (k - 1) (stepped s) (omega arith) (omega arith))
shaped-fits true g k s p q f =
    let l = left_low k (stepped s) (q refl) in
    binary-fits k (left_nodes k (stepped s)) (drawn 23 s) _ _ (omega arith) (taken_low 23 (stepped s) (omega arith))
    (f (left_nodes k (stepped s)) (stepped (stepped s)) l.0 (omega arith))
    (f (k - 1 - left_nodes k (stepped s)) _ (omega arith) (omega arith))

drawn-fits : (f k s : ℕ) → 1 ≤ k → k ≤ f → Fit k (drawn_in f k s).tree
unfolding drawn_in
drawn-fits zero k s p q = absurd (omega arith)
drawn-fits (suc f) k s p q =
    by_choice (λ (x : Drawn). Fit k x.tree) (leb k 1)
    (λ e. let n = leb-true k 1 e in leaf-fits k s (omega arith))
    (λ e.
    let n = leb-false k 1 e in
    rw (inner_shaped (λ m t. drawn_in f m t) k s)
    (shaped-fits (shape_of k s).binary (λ m t. drawn_in f m t) k (shape_of k s).state (omega arith) (binary_many k s)
    (λ m t i j. drawn-fits f m t i (omega arith))))

pub fits : (k s : ℕ) → 1 ≤ k → Fit k (drawn_tree k s).tree
unfolding drawn_tree
fits k s h = drawn-fits k k s h (omega arith)

-- two bytes a node
pub drawn_bytes : (k s : ℕ) → 1 ≤ k → length (write_tree (drawn_tree k s).tree) ≡ 2 * k
drawn_bytes k s h = written_bytes (drawn_tree k s).tree ∙ (fits k s h).long
