use Rattle.record.proofs.NamesCounted.{step_fits, stepped}
use Rattle.record.proofs.walk.TableWalk.step.Goals as goal

pub overflow_add-result : goal.overflow_add-result
overflow_add-result c = step_fits c.args.t.now c.args.self c.requires c.step-s.result c.step-s.ensures c.is_name-name.result c.is_name-name.ensures c.from.result c.from.ensures

pub returns : goal.returns
returns c = record {
  step = c.step-s.ensures;
  next = stepped c.args.t.now c.args.self c.requires c.step-s.result c.step-s.ensures c.is_name-name.result c.is_name-name.ensures c.from.result c.from.ensures;
}
