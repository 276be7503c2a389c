use Prim.Native.Nat.{◌-◌, ◌<◌}
use borrow.Author.Tests.{le-ltb}
use mathlib.Core.List.{[]}
use mathlib.Core.Path.{◌∙◌}
use native.Mathlib.Omega.{arith}
use Rattle.record.proofs.Accepts.{accepted_clean}
use Rattle.symbol.proofs.NamesFirst.{count_below, name_at_lem, names_past, names_counted}
use Rattle.symbol.specs.Lookup.{symbols_in}
use Rattle.record.specs.Table.{records_of}
use Rattle.ty.proofs.Choice.{chain, passed}
use Rattle.symbol.proofs.lookups.is_capital.Goals as goal

pub returns-then-id-lt-FIRST_OF_TABLE : goal.returns-then-id-lt-FIRST_OF_TABLE
unfolding symbols_in
returns-then-id-lt-FIRST_OF_TABLE c = search chain depth 8

pub returns-then-name_count-i : goal.returns-then-name_count-i
unfolding symbols_in
returns-then-name_count-i c = let ok = accepted_clean c.args.table.now c.bytes-t.ensures.clean in
    let a = c.name_count.ensures.count ∙ names_counted [] (records_of c.args.table.now) ok in
    passed _ _ _ _ (le-ltb _ _ c.if-id-lt-FIRST_OF_TABLE.false)
    (rw (names_past (c.args.id - 40) [] (records_of c.args.table.now) ok (omega arith)))

pub returns : goal.returns
unfolding symbols_in
returns c = let ok = accepted_clean c.args.table.now c.bytes-t.ensures.clean in
    let a = c.name_count.ensures.count ∙ names_counted [] (records_of c.args.table.now) ok in
    let n : c.args.id - 40 < count_below 2 (records_of c.args.table.now) = omega arith in
    let x = name_at_lem (c.args.id - 40) c.args.table.now [] ok n 1 (omega arith) in
    let y = name_at_lem (c.args.id - 40) c.args.table.now [] ok n 2 (omega arith) in
    passed _ _ _ _ (le-ltb _ _ c.if-id-lt-FIRST_OF_TABLE.false) (rw (x, y, c.is_ascii_uppercase.ensures.value, c.byte_at-2.ensures, c.byte_at.ensures, c.bytes-t.ensures.bytes))
