use Rattle.index.proofs.Rooms.{room_long}
use Rattle.symbol_replay.proofs.next.Goals as goal

pub check_table-requires : goal.check_table-requires
check_table-requires g c = room_long _
