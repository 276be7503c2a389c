use Rattle.std.proofs.Common.{refl, sym, ap, ◌∙◌, arith}
use Rattle.load.proofs.TreeReturns.{leaf_written, unary_written, binary_written, left_is}
use Rattle.load.proofs.+write_tree.Goals as goal
use Rattle.load.specs.Draw.{taken_from, stepped}

pub returns-then-nodes-eq1 : goal.returns-then-nodes-eq1
returns-then-nodes-eq1 t c =
    leaf_written _ _ _ _ _ _ c.if-nodes-eq1.true c.draw.ensures.stepped _ c.draw.ensures.taken c.put_node.ensures

pub returns-then-draw_binary : goal.returns-then-draw_binary
returns-then-draw_binary t c =
    let shape = c.if-draw_binary.ensures in
    let op = c.draw-then-draw_binary.ensures in
    let split = c.draw-then-draw_binary-2.ensures in
    binary_written _ _ _ _ _ _ (omega arith) _ (op.stepped ∙ ap stepped shape.behind) _ (sym shape.answer)
    _ (op.taken ∙ ap (taken_from 23) (sym op.stepped)) c.put_node-then-draw_binary.ensures _ _ split.stepped
    (left_is _ _ _ _ refl split.taken)
    _ _ c.write_tree.ensures c.write_tree-then-draw_binary.ensures

pub returns : goal.returns
returns t c =
    let shape = c.if-draw_binary.ensures in
    let op = c.draw-2.ensures in
    unary_written _ _ _ _ _ _ (omega arith) _ (op.stepped ∙ ap stepped shape.behind) _ (sym shape.answer)
    _ (op.taken ∙ ap (taken_from 7) (sym op.stepped)) c.put_node-2.ensures c.write_tree-2.ensures
