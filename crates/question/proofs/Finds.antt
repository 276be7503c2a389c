-- What stands is found: the walks over a row that stands.
use Prim.Native.Nat.{ℕ, zero, suc, ◌+◌, ◌≤◌}
use mathlib.Core.List.{List}
use mathlib.Core.Path.{◌≡◌, refl, sym, ap, ◌∙◌}
use native.Mathlib.Omega.{arith}
use Rattle.question.proofs.NodeIds.{same_fault}
use Rattle.question.proofs.Opened.{inside, opened}
use Rattle.question.proofs.Trees.{some_size}
use Rattle.question.specs.Legal.{RowLegal}
use Rattle.question.specs.Inside.Skip.{skip_from, skip_at}
use Rattle.question.specs.Inside.Stands.{TreeStands, RowStands}
use Rattle.question.specs.Inside.Top.{read_fault}
use Rattle.question.specs.Parse.{most_nodes, row_at}
use Rattle.question.specs.NodeRead.{own_bytes}
use Rattle.question.specs.QuestionRefused.{node_fault, end_fault, nodes_fault}
use Rattle.question.specs.Tree.{Node, Row, nil, cons, size, sizes, count, bytess}
use Rattle.question.specs.declared.Names.{Names}
use Rattle.question.specs.declared.node.Skipped.{Skipped}
use Rattle.ty.specs.Choose.{choose}

none_left : (t : Node) (r : Row) → size t + sizes r ≤ 0 → ⊥
none_left t r h = omega (arith, some_size t)

passed : (at nodes at₁ nodes₁ : ℕ) → at ≡ at₁ → nodes ≡ nodes₁ → ◌≡◌ {A = Skipped} (record { at = at; nodes = nodes }) (record { at = at₁; nodes = nodes₁ })
passed at nodes at₁ nodes₁ e f = cc

module _ (q : List ℕ) where
  -- the row that stands is the one that is read
  pub finds : (left : ℕ) (r : Row) (at : ℕ) → RowStands q r at → sizes r ≤ left → row_at left q at (count r) ≡ r
  unfolding row_at RowStands sizes count
  finds zero nil at s h = refl
  finds zero (cons t r) at s h = absurd (none_left t r h)
  finds (suc left) nil at s h = refl
  finds (suc left) (cons t r) at s h =
      let o = opened q at t r s.0 s.1 in
      let e = finds left (inside t r) (at + own_bytes o.root) o.stands (omega (arith, o.sized)) in
      rw (o.read, o.counted, e) o.built

  -- no tree but one stands at a position
  pub only : (t u : Node) (at : ℕ) → TreeStands q t at → TreeStands q u at → t ≡ u
  unfolding RowStands sizes count
  only t u at s v =
      let e = finds (size t + size u) (cons t nil) at (s, tt) (omega arith) in
      let f = finds (size t + size u) (cons u nil) at (v, tt) (omega arith) in
      let g : cons t nil ≡ cons u nil = sym e ∙ f in
      cc

  -- `skip` passes the row that stands
  skips_from : (left : ℕ) (r : Row) (at nodes : ℕ) → RowStands q r at → sizes r ≤ left
      → skip_from left q at nodes (count r) ≡ record { at = at + bytess r; nodes = nodes + sizes r }
  unfolding skip_from RowStands sizes count bytess
  skips_from zero nil at nodes s h = passed at nodes (at + 0) (nodes + 0) (omega arith) (omega arith)
  skips_from zero (cons t r) at nodes s h = absurd (none_left t r h)
  skips_from (suc left) nil at nodes s h = passed at nodes (at + 0) (nodes + 0) (omega arith) (omega arith)
  skips_from (suc left) (cons t r) at nodes s h =
      let o = opened q at t r s.0 s.1 in
      let e = skips_from left (inside t r) (at + own_bytes o.root) (suc nodes) o.stands (omega (arith, o.sized)) in
      rw (o.read, o.counted, e) (passed _ _ _ _ o.ends (omega (arith, o.sized)))

  pub skips : (r : Row) (at : ℕ) → RowStands q r at → sizes r ≤ most_nodes → skip_at q at (count r) ≡ record { at = at + bytess r; nodes = sizes r }
  unfolding skip_at
  skips r at s h = skips_from most_nodes r at 0 s h ∙ passed _ _ _ _ refl (omega arith)

  -- a row that stands, with nothing undefined in it, has no fault but what stands behind it
  pub passes : (N : Names) (left : ℕ) (r : Row) (at : ℕ) → RowStands q r at → RowLegal N r → sizes r ≤ left
      → nodes_fault N left q at (count r) ≡ end_fault q (at + bytess r)
  unfolding nodes_fault RowStands sizes count bytess RowLegal choose
  passes N zero nil at s g h = let e : at ≡ at + 0 = omega arith in ap (end_fault q) e
  passes N zero (cons t r) at s g h = absurd (none_left t r h)
  passes N (suc left) nil at s g h = let e : at ≡ at + 0 = omega arith in ap (end_fault q) e
  passes N (suc left) (cons t r) at s g h =
      let o = opened q at t r s.0 s.1 in
      let w = o.fine N g.0 g.1 in
      let e = passes N left (inside t r) (at + own_bytes o.root) o.stands w.1 (omega (arith, o.sized)) in
      let z : node_fault N q at ≡ 0 = sym (same_fault N q at) ∙ ap (read_fault N) o.read ∙ w.0 in
      rw (z, o.read, o.counted, e) (ap (end_fault q) o.ends)
