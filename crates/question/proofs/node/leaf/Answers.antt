use mathlib.Core.Path.{sym, ◌∙◌}
use native.Mathlib.Omega.{arith}
use Rattle.question.specs.NodeRead.{leaf_of}
use Rattle.ty.proofs.TypeSizes.{whole}
use Rattle.question.proofs.node.leaf.Goals as goal

pub overflow_cast-result : goal.overflow_cast-result
unfolding leaf_of
overflow_cast-result c = omega (arith, whole c.args.s.now 192 _ _ _ (sym c.read_type.ensures ∙ c.in_ok-read.was))
