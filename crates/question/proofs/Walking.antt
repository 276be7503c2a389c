-- One step of the walk over the nodes: of the check and of `skip`.
use Prim.Native.Nat.{ℕ, zero, suc, ◌+◌, ◌-◌, ◌<◌, ◌≤◌}
use borrow.Author.Tests.{eq-eqb, ne_eqb}
use mathlib.Core.Bool.{true, false}
use mathlib.Core.List.{List}
use mathlib.Core.Path.{◌≡◌, refl, sym, ap, ◌∙◌}
use native.Mathlib.Omega.{arith}
use Rattle.question.proofs.NodeReading.{step_small, step_few}
use Rattle.question.proofs.QuestionFaults.{failed, some_number}
use Rattle.question.proofs.NodeIds.{same_fault}
use Rattle.question.specs.Inside.Skip.{skip_from}
use Rattle.question.specs.Inside.Top.{read_fault}
use Rattle.question.specs.Inside.WalkStep.{WalkStep}
use Rattle.question.specs.Node.{read_of}
use Rattle.question.specs.Parse.{most_nodes}
use Rattle.question.specs.NodeRead.{node_at, own_bytes, children}
use Rattle.question.specs.QuestionRefused.{node_fault, more_fault, end_fault, nodes_fault}
use Rattle.question.specs.declared.Names.{Names}
use Rattle.question.specs.declared.node.Node.{Node}
use Rattle.question.specs.declared.node.NodeFault.{NodeFault}
use Rattle.question.specs.declared.node.Walk.{Walk}
use Rattle.std.specs.Prelude.{Result, Option, Some, None}
use Rattle.std.specs.Option.{is_some}
use Rattle.std.proofs.Common.{true≢false}
use Rattle.ty.specs.Choose.{choose}

module _ (N : Names) (q : List ℕ) (at : ℕ) where
  fault_end : (left pending : ℕ) → pending ≡ 0 → nodes_fault N left q at pending ≡ end_fault q at
  unfolding nodes_fault
  fault_end zero zero e = refl
  fault_end (suc left) zero e = refl
  fault_end left (suc pending) e = absurd (omega arith)

  fault_more : (left pending : ℕ) → (pending ≡ 0 → ⊥) → left ≡ 0 → nodes_fault N left q at pending ≡ more_fault (node_at q at)
  unfolding nodes_fault
  fault_more left zero p e = absurd (p refl)
  fault_more zero (suc pending) p e = refl
  fault_more (suc left) (suc pending) p e = absurd (omega arith)

  module _ (left pending : ℕ) (p : pending ≡ 0 → ⊥) (l : left ≡ 0 → ⊥) where
    fault_stop : (node_fault N q at ≡ 0 → ⊥) → nodes_fault N left q at pending ≡ node_fault N q at
    unfolding nodes_fault choose
    fault_stop e = stop left pending p l
      where
        stop : (left pending : ℕ) → (pending ≡ 0 → ⊥) → (left ≡ 0 → ⊥) → nodes_fault N left q at pending ≡ node_fault N q at
        stop left zero p l = absurd (p refl)
        stop zero (suc pending) p l = absurd (l refl)
        stop (suc left) (suc pending) p l = simp (ne_eqb (node_fault N q at) 0 e)

    fault_on : node_fault N q at ≡ 0
        → nodes_fault N left q at pending ≡ nodes_fault N (left - 1) q (at + own_bytes (node_at q at)) (pending - 1 + children (node_at q at))
    unfolding nodes_fault choose
    fault_on e = on left pending p l
      where
        on : (left pending : ℕ) → (pending ≡ 0 → ⊥) → (left ≡ 0 → ⊥)
            → nodes_fault N left q at pending ≡ nodes_fault N (left - 1) q (at + own_bytes (node_at q at)) (pending - 1 + children (node_at q at))
        on left zero p l = absurd (p refl)
        on zero (suc pending) p l = absurd (l refl)
        on (suc left) (suc pending) p l =
            let a : suc left - 1 ≡ left = omega arith in
            let b : suc pending - 1 ≡ pending = omega arith in
            rw (a, b, eq-eqb (node_fault N q at) 0 e)

-- a step of the check, by what is read
module _ (N : Names) (q : List ℕ) (left : ℕ) (w v : Walk) where
  pub none_fault : WalkStep q w v None → end_fault q v.at ≡ nodes_fault N left q w.at w.pending
  none_fault (p, same) = rw same (sym (fault_end N q w.at left w.pending p))

  module _ (read : Result Node NodeFault) (s : WalkStep q w v (Some read)) where
    pub more_fault_at : left ≡ 0 → more_fault (read_of read) ≡ nodes_fault N left q w.at w.pending
    more_fault_at l = ap more_fault s.1 ∙ sym (fault_more N q w.at left w.pending s.0 l)

    found : read_fault N (read_of read) ≡ node_fault N q w.at
    found = ap (read_fault N) s.1 ∙ same_fault N q w.at

    pub stop_fault : (left ≡ 0 → ⊥) → (read_fault N (read_of read) ≡ 0 → ⊥) → read_fault N (read_of read) ≡ nodes_fault N left q w.at w.pending
    stop_fault l e = found ∙ sym (fault_stop N q w.at left w.pending s.0 l (λ z. e (found ∙ z)))

    pub turn_fault : (left ≡ 0 → ⊥) → read_fault N (read_of read) ≡ 0 → nodes_fault N (left - 1) q v.at v.pending ≡ nodes_fault N left q w.at w.pending
    turn_fault l e = rw (s.2, s.3) (sym (fault_on N q w.at left w.pending s.0 l (sym found ∙ e)))

module _ (q : List ℕ) (at nodes : ℕ) where
  skip_end : (left pending : ℕ) → pending ≡ 0 → record { at = at; nodes = nodes } ≡ skip_from left q at nodes pending
  unfolding skip_from
  skip_end zero zero e = refl
  skip_end (suc left) zero e = refl
  skip_end left (suc pending) e = absurd (omega arith)

  pub skip_stop : (left pending : ℕ) → left ≡ 0 → record { at = at; nodes = nodes } ≡ skip_from left q at nodes pending
  unfolding skip_from
  skip_stop zero pending e = refl
  skip_stop (suc left) pending e = absurd (omega arith)

  skip_on : (left pending : ℕ) → (pending ≡ 0 → ⊥)
      → skip_from (suc left) q at nodes pending ≡ skip_from left q (at + own_bytes (node_at q at)) (nodes + 1) (pending - 1 + children (node_at q at))
  unfolding skip_from
  skip_on left zero p = absurd (p refl)
  skip_on left (suc pending) p =
      let b : suc pending - 1 ≡ pending = omega arith in
      let d : nodes + 1 ≡ suc nodes = omega arith in
      rw (b, d)

-- a step of `skip`
module _ (q : List ℕ) (w v : Walk) where
  -- few trees more are to come
  pub few_more : (r : Option (Result Node NodeFault)) → WalkStep q w v r → v.pending ≤ w.pending + 16
  few_more None (p, same) = rw same (omega arith)
  few_more (Some read) s = omega (arith, s, step_few q w.at)

  module _ (nodes : ℕ) where
    pub none_skip : (r : Option (Result Node NodeFault)) → is_some r ≡ false → WalkStep q w v r → (left : ℕ)
        → record { at = v.at; nodes = nodes } ≡ skip_from left q w.at nodes w.pending
    none_skip None f (p, same) left = rw same (skip_end q w.at nodes left w.pending p)
    none_skip (Some read) f s left = absurd (true≢false f)

    pub turn_skip : (r : Option (Result Node NodeFault)) → is_some r ≡ true → WalkStep q w v r → nodes < most_nodes
        → skip_from (most_nodes - (nodes + 1)) q v.at (nodes + 1) v.pending ≡ skip_from (most_nodes - nodes) q w.at nodes w.pending
    turn_skip None f s h = absurd (true≢false (sym f))
    turn_skip (Some read) f s h =
        let l : most_nodes - nodes ≡ suc (most_nodes - (nodes + 1)) = omega arith in
        rw (s.2, s.3, l) (sym (skip_on q w.at nodes (most_nodes - (nodes + 1)) w.pending s.0))

-- the loops' steps, and the bounds of a step
pub ruleset check_steps = (none_fault, more_fault_at, stop_fault, turn_fault, few_more, failed, some_number)

pub ruleset skip_steps = (none_skip, turn_skip, few_more, skip_stop)

pub ruleset step_bounds = (step_small, step_few)
