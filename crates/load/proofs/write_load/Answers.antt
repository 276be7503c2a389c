use Rattle.load.proofs.LoadReturns.{load_many, load_short, load_wrote}
use Rattle.load.proofs.write_load.Goals as goal

pub returns-then-nodes : goal.returns-then-nodes
returns-then-nodes c =
    let w = load_many c.args.start c.args.nodes _ _ _ c.if-nodes.true c.refuse.ensures in
    record { writes = w.0; load_fine = w.1 }

pub returns-then-out-len : goal.returns-then-out-len
returns-then-out-len c =
    let w = load_short c.args.start _ _ _ _ c.if-nodes.false c.if-out-len.true c.refuse-then-out-len.ensures in
    record { writes = w.0; load_fine = w.1 }

pub returns : goal.returns
returns c =
    let w = load_wrote _ _ _ _ c.if-nodes.false c.if-out-len.false _ _ (c.fill.ensures.after (λ y e. e)) c.copy_in.ensures _ c.write_tree.ensures in
    record { writes = w.0; load_fine = w.1 }
