use mathlib.Core.Path.{◌∙◌}
use Rattle.std.proofs.Common.{rules, tests}
use Rattle.std.proofs.lemmas.Iterator.{YieldsList-from_slice}
use Rattle.std.proofs.lemmas.Iterator.Search.{any_from_yields_List}
use Rattle.ty.specs.Bytes.{same_bytes}
use Rattle.record.proofs.SpellingRows.{spelled_any}
use Rattle.record.proofs.spelling.in_rows.Goals as goal

pub returns : goal.returns
returns c =
    any_from_yields_List
    (λ x. same_bytes c.args.name.now x)
    _
    _
    _
    c.any.ensures.ran
    (YieldsList-from_slice c.args.rows.now (cc))
    (λ x b q k. search (rules, tests))
    ∙ spelled_any c.args.name.now c.args.rows.now
