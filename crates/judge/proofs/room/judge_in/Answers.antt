use lib.ListN.{length}
use mathlib.Core.Path.{refl}
use Rattle.std.proofs.Common.{rules}
use Rattle.judge.proofs.Answering.{root_same, root_asked, root_filled, root_few, ret_judged}
use Rattle.judge.proofs.room.judge_in.Goals as goal

pub judge_node-s-requires : goal.judge_node-s-requires
judge_node-s-requires c = (c.requires.1, root_asked _ _ 0 c.requires.0.table c.requires.0.question refl)

pub answer_root-requires : goal.answer_root-requires
answer_root-requires c = (
  root_few _ _ (length c.args.diagnostics.now) c.requires.0.table c.requires.0.question c.read_header-header.ensures c.requires.0.clear.buffer refl
      c.judge_node-s.ensures,
  c.requires.0.clear.blank,
)

pub returns-clause-answered_into : goal.returns-clause-answered_into
returns-clause-answered_into c =
    let same = root_same _ _ (length c.args.diagnostics.now) c.requires.0.table c.requires.0.question c.read_header-header.ensures c.requires.0.clear.buffer refl
    c.judge_node-s.ensures in
    ret_judged _ _ _ c.requires.0.table c.requires.0.question c.read_header-header.ensures c.requires.0.clear.buffer refl c.judge_node-s.ensures c.requires.1
    (rw c.type_of.ensures at c.answer_root.ensures) (search rules)

pub returns-clause-judged_in : goal.returns-clause-judged_in
returns-clause-judged_in c = (root_filled _ _ (length c.args.diagnostics.now) c.requires.0.table c.requires.0.question
    c.read_header-header.ensures c.requires.0.clear.buffer refl c.judge_node-s.ensures)
