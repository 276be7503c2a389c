use Prim.Native.Nat.{ℕ}
use mathlib.Core.List.{List}
use mathlib.Core.Path.{ap, ◌∙◌}
use Rattle.record.specs.Inside.Walk.{behind}
use Rattle.symbol.proofs.LookedUp.{no_field, field_here, field_behind, field_length}
use Rattle.symbol.proofs.lookups.field_of.Goals as goal

pub returns-in_err-p : goal.returns-in_err-p
returns-in_err-p c = cc (c.from_residual.ensures, no_field c.args.table.now c.args.owner c.args.name c.bytes-t.ensures.clean c.in_err-p.ensures.records)

pub overflow_sub-len : goal.overflow_sub-len
overflow_sub-len c = rw (c.end_of.ensures, c.bytes-t.ensures.bytes) (field_behind c.args.table.now c.args.owner c.args.name c.in_ok-p.p c.in_ok-p.ensures.records)

pub returns : goal.returns
returns c = let h = field_here c.args.table.now c.args.owner c.args.name c.in_ok-p.p c.bytes-t.ensures.clean c.in_ok-p.ensures.records in
    let n = field_length c.args.table.now c.args.owner c.args.name c.in_ok-p.p c.end_of.result (c.end_of.ensures ∙ ap (λ (s : List ℕ). behind s c.in_ok-p.p.at) c.bytes-t.ensures.bytes) in
    cc (h, n)
