use Rattle.below.proofs.RecordBytes.{parents_read, parents_below}
use Rattle.below.proofs.parents.ClassRecords.parents_at.Goals as goal

pub returns-clause-of_class : goal.returns-clause-of_class
returns-clause-of_class c =
    parents_read c.args.self.now c.bytes_at-bytes.ensures.accepted c.args.i c.requires _ c.bytes_at-bytes.ensures.bytes _ _ _
    c.id_at.ensures c.id_at-2.ensures c.id_at-3.ensures

pub returns-clause-below : goal.returns-clause-below
returns-clause-below c =
    parents_below c.args.self.now c.bytes_at-bytes.ensures.accepted c.args.i c.requires _
    (parents_read c.args.self.now c.bytes_at-bytes.ensures.accepted c.args.i c.requires _ c.bytes_at-bytes.ensures.bytes _ _ _
    c.id_at.ensures c.id_at-2.ensures c.id_at-3.ensures)
