use mathlib.Core.Bool.{not}
use mathlib.Core.Path.{ap, ◌∙◌}
use Rattle.symbol.proofs.EntriesFound.{name_root, name_asked, name_met}
use Rattle.symbol.proofs.names.name_entry.Goals as goal

pub returns-then-is_none : goal.returns-then-is_none
returns-then-is_none c =
    name_root c.args.t.now c.args.x.now c.args.me c.args.h c.requires c.reduced-b.result c.reduced-b.ensures.0 _ c.place_at.ensures
    (c.is_none.ensures ∙ ap not c.if-is_none.true)

pub search-requires : goal.search-requires
search-requires c = name_asked c.args.t.now c.args.x.now c.args.me c.args.h c.requires c.reduced-b.result c.reduced-b.ensures.0

pub returns : goal.returns
returns c = name_met c.args.t.now c.args.x.now c.args.me c.args.h c.requires c.search.result c.search.ensures c.err.result c.err.ensures.value
