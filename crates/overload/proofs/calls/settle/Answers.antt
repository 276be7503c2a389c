use mathlib.Core.Path.{ap, ◌∙◌}
use Rattle.overload.proofs.CallAnswers.{diags_one}
use Rattle.overload.proofs.ArgumentReports.{reported_as}
use Rattle.overload.specs.Reports.{mismatches}
use Rattle.scoring.specs.WithParams.{with_params}
use Rattle.scoring.specs.Inside.Args.{args_in}
use Rattle.symbol.proofs.FunctionsRead.{read_is}
use Rattle.symbol.specs.Lookup.{symbols_of}
use Rattle.symbol.specs.Symbols.{Overload}
use Rattle.overload.proofs.calls.settle.Goals as goal

pub returns-then-w-eq1-clause-reports : goal.returns-then-w-eq1-clause-reports
returns-then-w-eq1-clause-reports g c = let s = c.args in
    let xs = args_in s.slots.now s.args.now in
    let read = read_is _ _ c.requires.0 _ (rw (c.bytes.ensures.bytes, c.table.ensures) at c.read_function-f.ensures) in
    reported_as _
    (ap (λ (o : Overload). mismatches (symbols_of s.above.now) 1 (with_params o.params xs)) read.same ∙ diags_one s.above.now s.p s.node xs s.w c.in_default.is c.if-w-eq1.true)
    c.mismatches.ensures
