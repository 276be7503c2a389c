use Rattle.index.proofs.ListWalks.{start_at, start_first}
use Rattle.index.proofs.list.ListCursor.first.Goals as goal

pub follow-requires : goal.follow-requires
follow-requires c = rw (c.new.ensures, c.bytes-t.ensures.bytes) (c.index-x.ensures, start_at _ _ c.index-x.ensures c.args.owner c.args.name)

pub returns-clause-first : goal.returns-clause-first
returns-clause-first c =
    rw (c.follow.ensures, c.new.ensures, c.bytes-t.ensures.bytes) (start_first _ _ c.index-x.ensures c.args.owner c.args.name)
