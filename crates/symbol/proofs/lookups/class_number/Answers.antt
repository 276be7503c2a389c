use mathlib.Core.Path.{◌∙◌}
use native.Mathlib.Omega.{arith}
use Rattle.record.proofs.Accepts.{accepted_short}
use Rattle.symbol.proofs.ClassRuns.{class_run, number_none, number_some, number_place}
use Rattle.symbol.proofs.lookups.class_number.Goals as goal

pub overflow_mul-first : goal.overflow_mul-first
overflow_mul-first c =
    let r = class_run c.args.table.now c.name_count-first.ensures.clean in
    omega (arith, r.long, accepted_short c.args.table.now c.name_count-first.ensures.clean, c.name_count-first.ensures.count)

pub returns-in_err-p : goal.returns-in_err-p
returns-in_err-p c = c.from_residual.ensures ∙ number_none c.args.table.now c.name_count-first.ensures.clean c.args.class c.in_err-p.ensures.first

pub overflow_sub-result : goal.overflow_sub-result
overflow_sub-result c =
    omega (
      arith,
      c.name_count-first.ensures.count,
      number_place c.args.table.now c.name_count-first.ensures.clean c.args.class c.in_ok-p.p c.in_ok-p.ensures.first c.in_ok-p.ensures.records,
    )

pub returns : goal.returns
returns c =
    rw c.name_count-first.ensures.count
    (number_some c.args.table.now c.name_count-first.ensures.clean c.args.class c.in_ok-p.p c.in_ok-p.ensures.first c.in_ok-p.ensures.records)
