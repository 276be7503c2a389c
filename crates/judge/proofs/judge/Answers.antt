use Rattle.judge.proofs.Answering.{answer_1, answer_3}
use Rattle.judge.proofs.judge.Goals as goal

pub returns-clause-demand1 : goal.returns-clause-demand1
returns-clause-demand1 c = rw c.with_type.ensures (answer_1 c.judge_into-outcome.ensures)

pub returns-clause-demand3 : goal.returns-clause-demand3
returns-clause-demand3 c = rw c.with_type.ensures (answer_3 c.judge_into-outcome.ensures)
