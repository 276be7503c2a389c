use Rattle.index.proofs.ListWalks.{next_at, next_list}
use Rattle.index.proofs.list.ListCursor.next.Goals as goal

pub follow-requires : goal.follow-requires
follow-requires c = rw (c.step.ensures, c.bytes-t.ensures.bytes) (c.index-x.ensures, next_at _ _ c.index-x.ensures c.args.self c.requires _ c.in-Some.is)

pub returns-in-Some-clause-next : goal.returns-in-Some-clause-next
returns-in-Some-clause-next c =
    rw (c.follow.ensures, c.step.ensures, c.bytes-t.ensures.bytes) (next_list _ _ c.index-x.ensures c.args.self c.requires _ c.in-Some.is)
