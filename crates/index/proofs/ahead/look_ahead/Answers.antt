use mathlib.Core.Path.{◌∙◌}
use Rattle.index.proofs.Aheads.{marked-end, marked_next}
use Rattle.record.proofs.Records.{at_next}
use Rattle.index.proofs.ahead.look_ahead.Goals as goal

pub loop-c-preserved : goal.loop-c-preserved
loop-c-preserved c = (
  c.mark.auto.late ∙ c.loop-c.invariant.0,
  at_next c.args.t.now c.loop-c.c c.loop-c.invariant.1 c.step-s.result c.step-s.ensures,
  marked_next c.args.t.now c.loop-c.late c.loop-c.c c.loop-c.invariant.1 c.step-s.result c.step-s.ensures c.loop-c-test.true _ (c.mark.ensures _)
      ∙ c.loop-c.invariant.2,
)

pub returns : goal.returns
returns c = marked-end c.args.t.now c.loop-c.late c.loop-c.c c.loop-c.invariant.1 c.loop-c-test.false ∙ c.loop-c.invariant.2
