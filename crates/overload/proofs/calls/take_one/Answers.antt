use mathlib.Core.Path.{ap}
use Rattle.overload.proofs.ArgumentReports.{reported_as}
use Rattle.overload.proofs.Tallies.{tally_taken}
use Rattle.scoring.proofs.Scores.{score_of_lem}
use Rattle.overload.specs.Reports.{unknowns}
use Rattle.scoring.specs.Inside.Args.{args_in}
use Rattle.symbol.proofs.FunctionsRead.{read_is}
use Rattle.symbol.specs.Symbols.{Overload}
use Rattle.overload.proofs.calls.take_one.Goals as goal

pub returns-clause-tally : goal.returns-clause-tally
returns-clause-tally g c = let read = read_is _ _ c.requires.0 _ c.requires.1 in
    tally_taken _ _ c.args.w _ _ c.requires.1 read.same _ _ _ c.or.ensures (score_of_lem _ _ c.score_function-score.ensures) c.higher.ensures

pub returns-clause-reports : goal.returns-clause-reports
returns-clause-reports g c = let read = read_is _ _ c.requires.0 _ c.requires.1 in
    reported_as _ (ap (λ (o : Overload). unknowns o.params 1 (args_in c.args.slots.now c.args.args.now)) read.same)
    (c.unknown_names.ensures c.args.above.now c.args.slots.now)
