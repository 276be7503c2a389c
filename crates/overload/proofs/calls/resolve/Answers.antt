use native.Mathlib.Omega.{arith}
use mathlib.Core.Path.{sym, ◌∙◌}
use Rattle.overload.proofs.CallAnswers.{source_of_none, told_of_none, source_of_some, told_of_some}
use Rattle.overload.proofs.FunctionListWalk.{tally_place}
use Rattle.scoring.proofs.ParamsAndArgsLeft.{args_length}
use Rattle.overload.proofs.calls.resolve.Goals as goal

pub settle-requires : goal.settle-requires
settle-requires g c = let fits = c.well_formed in (
  omega arith,
  (
    tally_place _ c.walk-w.ensures.clean _ _ _ _ _ _ _ c.walk-w.ensures.tally c.in-Some.is,
    c.walk-w.ensures.room,
  ),
)

pub returns-in-None-clause-source : goal.returns-in-None-clause-source
returns-in-None-clause-source g c =
    c.none_fits.ensures.source
    ∙ source_of_none _ c.walk-w.ensures.clean _ _ c.args.node _ _ _ (rw c.table.ensures at c.any_own-own.ensures) (sym (args_length c.args.slots.now c.args.args.now)) _ c.walk-w.ensures.tally c.in-None.is

pub returns-in-None-clause-reports : goal.returns-in-None-clause-reports
returns-in-None-clause-reports g c =
    told_of_none _ c.walk-w.ensures.clean _ _ _ _ _ _ (rw c.table.ensures at c.any_own-own.ensures) (sym (args_length c.args.slots.now c.args.args.now)) _ c.walk-w.ensures.tally c.in-None.is _
    c.walk-w.ensures.reports (rw c.len-n.ensures.value at c.none_fits.ensures.reports)

pub returns-in-Some-clause-source : goal.returns-in-Some-clause-source
returns-in-Some-clause-source g c =
    c.settle.ensures.source
    ∙ source_of_some _ c.walk-w.ensures.clean _ _ c.args.node _ _ _ (rw c.table.ensures at c.any_own-own.ensures) (sym (args_length c.args.slots.now c.args.args.now)) _ c.walk-w.ensures.tally _ c.in-Some.is

pub returns-in-Some-clause-reports : goal.returns-in-Some-clause-reports
returns-in-Some-clause-reports g c =
    told_of_some _ c.walk-w.ensures.clean _ _ _ _ _ _ (rw c.table.ensures at c.any_own-own.ensures) (sym (args_length c.args.slots.now c.args.args.now)) _ c.walk-w.ensures.tally _ c.in-Some.is _
    c.walk-w.ensures.reports c.settle.ensures.reports
