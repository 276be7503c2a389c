use Rattle.judge_text.proofs.Whole.{filled-part}
use Rattle.aura_judge.proofs.respond.Goals as goal

pub returns-clause-written : goal.returns-clause-written
returns-clause-written g c = rw (filled-part c.input_text-n.ensures.text) at c.write_all.ensures.bytes
