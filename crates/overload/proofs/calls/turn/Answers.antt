use Rattle.overload.proofs.Tallies.{tally_one, told_one, turn_fits}
use Rattle.std.proofs.Common.{sym, ◌∙◌}
use Rattle.overload.proofs.calls.turn.Goals as goal

pub returns-clause-tally : goal.returns-clause-tally
returns-clause-tally g c = let s = c.args in
    tally_one _ _ _ _ s.reports.now _
    (turn_fits s.above.now _ _ s.p c.requires.0 s.f.now c.requires.1 c.if-own-f.false (sym (rw c.len.ensures.value at (c.viable.ensures s.above.now)) ∙ c.if-not-viable.false))
    _ c.take_one.ensures.tally

pub returns-clause-reports : goal.returns-clause-reports
returns-clause-reports g c = let s = c.args in
    told_one _ _ s.w _ _ _
    (turn_fits s.above.now _ _ s.p c.requires.0 s.f.now c.requires.1 c.if-own-f.false (sym (rw c.len.ensures.value at (c.viable.ensures s.above.now)) ∙ c.if-not-viable.false))
    _ c.take_one.ensures.reports
