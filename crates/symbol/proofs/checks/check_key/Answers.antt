use mathlib.Core.Path.{refl, sym, ◌∙◌}
use Rattle.symbol.proofs.Joins.{none_taken}
use Rattle.symbol.proofs.ParentLate.{late_is}
use Rattle.record.proofs.RecordSizes.{stands_own}
use Rattle.record.specs.Inside.HeadFault.{key_fault}
use Rattle.ty.proofs.Choice.{chosen, passed}
use Rattle.symbol.proofs.checks.check_key.Goals as goal

pub returns-then-any_ahead : goal.returns-then-any_ahead
unfolding key_fault
returns-then-any_ahead c = passed _ _ _ _ (sym c.requires.key ∙ none_taken c.args.entry _ c.is_none.ensures ∙ c.if-is_none.false)
    (chosen _ _ _ _ (sym (late_is c.args.t.now c.args.late.now c.args.me c.args.h c.args.entry c.args.missing c.requires) ∙ sym c.any_ahead.ensures ∙ c.if-any_ahead.true) refl)

pub returns-then-h : goal.returns-then-h
unfolding key_fault
returns-then-h c = let x = stands_own c.args.t.now c.args.me c.args.h c.requires.stands in
    passed _ _ _ _ (sym c.requires.key ∙ none_taken c.args.entry _ c.is_none.ensures ∙ c.if-is_none.false)
    (passed _ _ _ _ (sym (late_is c.args.t.now c.args.late.now c.args.me c.args.h c.args.entry c.args.missing c.requires) ∙ sym c.any_ahead.ensures ∙ c.if-any_ahead.false) (rw (← x) (chosen _ _ _ _ c.if-h.true refl)))

pub returns : goal.returns
unfolding key_fault
returns c = let x = stands_own c.args.t.now c.args.me c.args.h c.requires.stands in
    passed _ _ _ _ (sym c.requires.key ∙ none_taken c.args.entry _ c.is_none.ensures ∙ c.if-is_none.false)
    (passed _ _ _ _ (sym (late_is c.args.t.now c.args.late.now c.args.me c.args.h c.args.entry c.args.missing c.requires) ∙ sym c.any_ahead.ensures ∙ c.if-any_ahead.false) (rw (← x) (passed _ _ _ _ c.if-h.false refl)))
