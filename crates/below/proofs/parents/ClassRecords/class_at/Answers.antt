use Rattle.below.proofs.RecordBytes.{class_read}
use Rattle.below.proofs.parents.ClassRecords.class_at.Goals as goal

pub returns : goal.returns
returns c = class_read c.args.self.now c.bytes_at.ensures.accepted c.args.i c.requires _ c.bytes_at.ensures.bytes _ c.id_at.ensures
