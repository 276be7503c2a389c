use Rattle.load.proofs.TreeReturns.{shape_drawn}
use Rattle.load.proofs.Draws.draw_binary.Goals as goal

pub returns-then-nodes-gt2 : goal.returns-then-nodes-gt2
returns-then-nodes-gt2 c = shape_drawn c.args.nodes c.args.self.now.state _ _ c.if-nodes-gt2.true c.draw.ensures.stepped c.draw.ensures.taken
