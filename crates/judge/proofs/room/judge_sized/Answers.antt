use lib.ListN.{length, replicate}
use mathlib.Core.Path.{◌≡◌, sym}
use Rattle.index.proofs.Empty.{blank-one, empty_names, empty_accepted}
use Rattle.std.proofs.Common.{rules}
use Rattle.judge.proofs.room.judge_sized.Goals as goal

pub new-requires : goal.new-requires
new-requires c =
    let e : length c.args.table.now ≡ 0 = search rules in
    empty_accepted c.args.table.now _ e blank-one

pub judge_checked-requires : goal.judge_checked-requires
judge_checked-requires c =
    let e : length c.args.table.now ≡ 0 = search rules in
    rw c.new.ensures (c.requires, (empty_accepted c.args.table.now (replicate 1 0) e blank-one).clean, sym (empty_names c.args.table.now e))
