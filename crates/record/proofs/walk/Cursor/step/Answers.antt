use lib.ListN.{length-drop}
use mathlib.Core.Path.{refl, sym, ap, ◌∙◌}
use native.Mathlib.Omega.{arith}
use Rattle.record.proofs.Records.{record_own}
use Rattle.record.specs.Inside.Front.{Front}
use Rattle.ty.proofs.Laws.{part-drop}
use Rattle.record.proofs.walk.Cursor.step.Goals as goal

pub returns : goal.returns
returns c =
    let h = rw (part-drop c.args.self.at c.args.t.now) at c.read_record-head.ensures in
    let l = (rw (part-drop c.args.self.at c.args.t.now) at c.record_len.ensures) ∙ ap (λ (f : Front). f.len) h.same in
    record {
      head = h.same;
      own = h.same ∙ sym (record_own c.args.t.now c.args.self c.requires.0);
      next = rw l;
      index = refl;
      low = omega (arith, h.low);
      high = omega (arith, h.high, length-drop c.args.self.at c.args.t.now);
    }
