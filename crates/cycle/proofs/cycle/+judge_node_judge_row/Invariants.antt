-- The bytes of the question that are left count 18 each, the arguments of a row 1 each: a call has 4 bytes of its own and at most 16 arguments.
use Rattle.std.proofs.Common.{◌-◌, ◌+◌, ◌*◌, ◌≤◌, ◌≡◌, length}
use Rattle.cycle.proofs.Rows.{Turn}
use Rattle.cycle.specs.Inside.Contract.{RowAsked}
use Rattle.cycle.proofs.cycle.+judge_node_judge_row.Given as goal

abbrev pub decreases-judge_node : goal.decreases-judge_node
decreases-judge_node l = 18 * (length l.q.now - l.s.at)

abbrev pub decreases-judge_call : goal.decreases-judge_call
decreases-judge_call l = 18 * (length l.q.now - l.s.at) + l.n + 2

abbrev pub decreases-judge_row : goal.decreases-judge_row
decreases-judge_row l = 18 * (length l.q.now - l.s.at) + l.n + 1

abbrev pub invariant-judge_row-loop-k : goal.invariant-judge_row-loop-k
invariant-judge_row-loop-k l =
    (l.n ≤ 16) × (length l.args ≡ l._k)
    × ((x : RowAsked l.q l.initial.e l.initial.reports 0 l.n) → Turn l.table l.header l.q l.initial.e l.n l.initial.args l.initial.slots l.initial.reports l.args l.slots
    l.reports l._k l.e x.trees)
