use borrow.Author.Rules.{rules}
use mathlib.Core.Path.{refl}
use Rattle.console.proofs.Writing.{wrote_all, filled_as}
use Rattle.console.specs.AnswerText.{printed}
use Rattle.console.proofs.print.print_answer.Goals as goal

pub returns : goal.returns
unfolding printed
returns c = filled_as (wrote_all c.args.out.now refl (c.fill.ensures.after (λ y e. e)) c.put_first_line.ensures c.put_lines.ensures) (search rules)
