use Prim.Native.Nat.{ℕ, ◌%◌}
use lib.ListN.{length}
use mathlib.Core.Bool.{not}
use mathlib.Core.Path.{ap, ◌∙◌, subst}
use Rattle.index.proofs.KindTests.{kinds_same, kinds_apart}
use Rattle.index.specs.Inside.Bucket.{key_bucket}
use Rattle.index.specs.Inside.Index.{list_count}
use Rattle.index.specs.declared.index.Place.{Place}
use Rattle.record.specs.declared.front.RecordKind.TheVariants.{Function}
use Rattle.std.specs.Prelude.{Result}
use Rattle.std.specs.Result.{result_err}
use Rattle.symbol.proofs.EntriesFound.{list_entry, ids_root, ids_open, ids_met}
use Rattle.symbol.specs.Inside.Join.{EntryIs, tree_entry}
use Rattle.symbol.proofs.checks.entry_for.Goals as goal

pub returns-then-eq : goal.returns-then-eq
returns-then-eq c =
    list_entry c.args.t.now c.args.x.now c.args.me c.args.h c.requires.0 (kinds_same c.args.h.kind Function c.eq.result c.eq.ensures c.if-eq.true) _
    (c.list_reduced.ensures.0
    ∙ ap (λ (z : ℕ). z % list_count (length c.args.t.now)) (c.key_bucket-b.ensures.0 ∙ ap (λ (k : ℕ). key_bucket k c.args.h.one c.args.h.two) c.number.ensures))
    c.list_reduced.ensures.1

pub tree_of-b-requires : goal.tree_of-b-requires
tree_of-b-requires c =
    (ids_open c.args.t.now c.args.x.now c.args.me c.args.h c.requires.0 c.number-2.result c.number-2.ensures c.requires.1
    (kinds_apart c.args.h.kind Function c.eq.result c.eq.ensures c.if-eq.false)).1

pub returns-then-is_none : goal.returns-then-is_none
returns-then-is_none c =
    ids_root c.args.t.now c.args.x.now c.args.me c.args.h c.requires.0 c.number-2.result c.number-2.ensures c.requires.1
    (kinds_apart c.args.h.kind Function c.eq.result c.eq.ensures c.if-eq.false) c.tree_of-b.result c.tree_of-b.ensures.0 _ c.place_at.ensures
    (c.is_none.ensures ∙ ap not c.if-is_none.true)

pub search-requires : goal.search-requires
search-requires c =
    let o = ids_open c.args.t.now c.args.x.now c.args.me c.args.h c.requires.0 c.number-2.result c.number-2.ensures c.requires.1
    (kinds_apart c.args.h.kind Function c.eq.result c.eq.ensures c.if-eq.false) in
    (o.0, o.1, c.tree_of-b.ensures.0)

pub returns-in-Ok : goal.returns-in-Ok
returns-in-Ok c =
    subst (λ (r : Result Place ℕ). EntryIs c.args.t.now c.args.x.now c.args.me (tree_entry (result_err r))) c.in-Ok.is
    (ids_met c.args.t.now c.args.x.now c.args.me c.args.h c.requires.0 c.number-2.result c.number-2.ensures c.requires.1
    (kinds_apart c.args.h.kind Function c.eq.result c.eq.ensures c.if-eq.false) c.search.result c.search.ensures)

pub returns-in-Err : goal.returns-in-Err
returns-in-Err c =
    subst (λ (r : Result Place ℕ). EntryIs c.args.t.now c.args.x.now c.args.me (tree_entry (result_err r))) c.in-Err.is
    (ids_met c.args.t.now c.args.x.now c.args.me c.args.h c.requires.0 c.number-2.result c.number-2.ensures c.requires.1
    (kinds_apart c.args.h.kind Function c.eq.result c.eq.ensures c.if-eq.false) c.search.result c.search.ensures)
