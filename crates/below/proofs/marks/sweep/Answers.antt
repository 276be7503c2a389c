use mathlib.Core.Path.{◌∙◌}
use native.Mathlib.Omega.{arith}
use Rattle.below.proofs.MarkBits.{swept_next, swept_all}
use Rattle.below.specs.Inside.Marks.{has_mark}
use Rattle.symbol.specs.Inside.ClassRun.{class_at}
use Rattle.symbol.specs.Lookup.{symbols_of}
use Rattle.below.proofs.marks.sweep.Goals as goal

pub loop-left-preserved : goal.loop-left-preserved
loop-left-preserved c =
    record {
      within = let h = c.loop-left.invariant.within in omega arith;
      long = c.pass_on.ensures.long ∙ c.loop-left.invariant.long;
      bits = λ j. swept_next (symbols_of c.args.records.now) (class_at c.args.records.now) c.loop-left.left (has_mark c.loop-left.marks j)
          (has_mark c.pass_on.new.marks j) c.loop-left-test.true (c.pass_on.ensures.bits j)
          ∙ c.loop-left.invariant.bits j;
    }

pub returns-clause-bits : goal.returns-clause-bits
returns-clause-bits c = λ j.
    swept_all (symbols_of c.args.records.now) (class_at c.args.records.now) c.loop-left.left (has_mark c.loop-left.marks j) c.loop-left-test.false
    ∙ c.loop-left.invariant.bits j
