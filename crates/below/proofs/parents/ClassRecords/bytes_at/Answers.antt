use Rattle.std.proofs.Common.{rules}
use Rattle.below.proofs.RecordBytes.{record_fits}
use Rattle.below.proofs.parents.ClassRecords.bytes_at.Goals as goal

pub overflow_mul-start : goal.overflow_mul-start
overflow_mul-start c =
    let h = record_fits c.self.inside.bytes.now c.args.self.now c.self.inside.names c.args.i c.self.view_is c.self.invariant c.requires in
    search (rules, h)

pub overflow_mul-start-2 : goal.overflow_mul-start-2
overflow_mul-start-2 c =
    let h = record_fits c.self.inside.bytes.now c.args.self.now c.self.inside.names c.args.i c.self.view_is c.self.invariant c.requires in
    search (rules, h)

pub overflow_add-start : goal.overflow_add-start
overflow_add-start c =
    let h = record_fits c.self.inside.bytes.now c.args.self.now c.self.inside.names c.args.i c.self.view_is c.self.invariant c.requires in
    search (rules, h)

pub overflow_add-result : goal.overflow_add-result
overflow_add-result c =
    let h = record_fits c.self.inside.bytes.now c.args.self.now c.self.inside.names c.args.i c.self.view_is c.self.invariant c.requires in
    search (rules, h)

pub slice_bounds-result-end : goal.slice_bounds-result-end
slice_bounds-result-end c =
    let h = record_fits c.self.inside.bytes.now c.args.self.now c.self.inside.names c.args.i c.self.view_is c.self.invariant c.requires in
    search (rules, h)
