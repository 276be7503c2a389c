use mathlib.Core.Path.{◌∙◌}
use Rattle.record.proofs.ParamSteps.{answer_field}
use Rattle.record.specs.Inside.Front.{class_head, operators_head, visibility_head, suspend_head, variant_head, head_by}
use Rattle.ty.specs.Choose.{choose}
use Rattle.record.proofs.front.read_kind.Goals as goal

pub returns-in-Field : goal.returns-in-Field
unfolding head_by choose
returns-in-Field c = c.typed_record.ensures
    ∙ rw (c.typed.ensures, c.new.ensures, c.max-in-Field.ensures, c.id_at-one.ensures, c.id_at-two.ensures, c.in-Field.is)
    (answer_field c.args.s.now c.if-s-lt5.false)

pub returns-in-Class : goal.returns-in-Class
unfolding head_by class_head choose
returns-in-Class c = c.plain.ensures ∙ rw c.in-Class.is (cc)

pub returns-in-Operators : goal.returns-in-Operators
unfolding head_by operators_head choose
returns-in-Operators c = c.plain-in-Operators.ensures ∙ rw c.in-Operators.is (cc)

pub returns-in-Visibility : goal.returns-in-Visibility
unfolding head_by visibility_head choose
returns-in-Visibility c = c.plain-in-Visibility.ensures ∙ rw c.in-Visibility.is (cc)

pub returns-in-Suspend : goal.returns-in-Suspend
unfolding head_by suspend_head choose
returns-in-Suspend c = c.plain-in-Suspend.ensures ∙ rw c.in-Suspend.is (cc)

pub returns-in-Variant : goal.returns-in-Variant
unfolding head_by variant_head choose
returns-in-Variant c = c.plain-in-Variant.ensures ∙ rw c.in-Variant.is (cc)
