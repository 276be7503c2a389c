use Rattle.replay.proofs.Agreeing.{taken_case}
use Rattle.replay.proofs.read_case.Goals as goal

pub returns-then-agrees-clause-taken : goal.returns-then-agrees-clause-taken
returns-then-agrees-clause-taken g c =
    record {
      table = _;
      question = _;
      expected = _;
      parts = taken_case _ _ _ _ c.in-Some.t c.in-Some-read_part.q c.in-Some-read_part-2.e _ _ _ c.in-Some.ensures.bytes c.in-Some-read_part.ensures.bytes
          c.in-Some-read_part-2.ensures.bytes c.in-Some.ensures.room.counts.0 c.in-Some-read_part.ensures.room.counts.0 c.in-Some-read_part-2.ensures.room.counts.0;
      says = c.if-agrees.ensures.whole;
    }

pub returns-clause-taken : goal.returns-clause-taken
returns-clause-taken g c =
    record {
      table = _;
      question = _;
      expected = _;
      parts = taken_case _ _ _ _ c.in-Some.t c.in-Some-read_part.q c.in-Some-read_part-2.e _ _ _ c.in-Some.ensures.bytes c.in-Some-read_part.ensures.bytes
          c.in-Some-read_part-2.ensures.bytes c.in-Some.ensures.room.counts.0 c.in-Some-read_part.ensures.room.counts.0 c.in-Some-read_part-2.ensures.room.counts.0;
      says = c.if-agrees.ensures.whole;
    }
