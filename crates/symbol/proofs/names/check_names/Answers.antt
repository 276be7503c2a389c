use lib.ListN.{set}
use mathlib.Core.Path.{refl, sym, ap, ◌∙◌, subst}
use native.Mathlib.Omega.{arith}
use Rattle.record.proofs.NameRecords.{name_some}
use Rattle.record.specs.declared.walk.TableWalk.{TableWalk}
use Rattle.symbol.proofs.NamePasses.{names_start, names_asked, name_refused, refused_on, name_room, names_few, names_next}
use Rattle.symbol.proofs.Verdicts.{fault_some}
use Rattle.symbol.specs.Inside.NamesChecked.{NamesPassed}
use Rattle.symbol.specs.TableFault.{table_fault_number}
use Rattle.symbol.proofs.names.check_names.Goals as goal

pub loop-x-init : goal.loop-x-init
loop-x-init c = names_start c.args.t.now c.args.x.now c.new-w.result c.requires.0 c.new-w.ensures c.requires.1

pub check_name-requires : goal.check_name-requires
check_name-requires c = names_asked c.args.t.now c.args.x.now c.loop-x.x c.loop-x.w c.loop-x.invariant (sym c.byte_at.ensures ∙ c.loop-x-test.true ∙ c.number.ensures)
    c.requires.0

pub returns-in_err-at : goal.returns-in_err-at
returns-in_err-at c = refused_on c.args.t.now c.args.x.now c.loop-x.x c.from_residual.result c.in_err-at.field-0.0 c.from_residual.ensures.0 c.from_residual.ensures.1
    (name_refused c.args.t.now c.args.x.now c.loop-x.x c.loop-x.w c.loop-x.invariant (sym c.byte_at.ensures ∙ c.loop-x-test.true ∙ c.number.ensures)
    (table_fault_number c.in_err-at.field-0.0) (c.in_err-at.ensures).number (fault_some c.in_err-at.field-0.0) c.in_err-at.field-0.0 refl)

pub put-requires : goal.put-requires
put-requires c = (name_room c.args.t.now c.args.x.now c.loop-x.x c.loop-x.w c.loop-x.invariant (sym c.byte_at.ensures ∙ c.loop-x-test.true ∙ c.number.ensures)
    0 (c.in_ok-at.ensures).number refl c.in_ok-at.at (c.in_ok-at.ensures).entry c.requires.0).inside

pub behind_name-w-requires : goal.behind_name-w-requires
behind_name-w-requires c = names_few c.args.t.now c.args.x.now c.loop-x.x c.loop-x.w c.loop-x.invariant (sym c.byte_at.ensures ∙ c.loop-x-test.true ∙ c.number.ensures)
    c.requires.0

pub loop-x-smaller : goal.loop-x-smaller
loop-x-smaller c =
    let s = name_some c.args.t.now c.loop-x.w.here (sym c.byte_at.ensures ∙ c.loop-x-test.true ∙ c.number.ensures) in
    omega (arith, s, ap (λ (w : TableWalk). w.here.at) c.behind_name-w.ensures.walk)

pub loop-x-preserved : goal.loop-x-preserved
loop-x-preserved c = subst (NamesPassed c.args.t.now c.args.x.now c.put.new.x) (sym c.behind_name-w.ensures.walk)
    (names_next c.args.t.now c.args.x.now c.loop-x.x c.loop-x.w c.loop-x.invariant (sym c.byte_at.ensures ∙ c.loop-x-test.true ∙ c.number.ensures)
    0 (c.in_ok-at.ensures).number refl c.in_ok-at.at (c.in_ok-at.ensures).entry c.put.new.x (c.put.ensures ∙ ap (set c.loop-x.x c.in_ok-at.at) c.entry.ensures))

pub returns : goal.returns
returns c = record { names = c.loop-x.invariant; other = λ z. c.loop-x-test.false (c.byte_at.ensures ∙ z ∙ sym c.number.ensures) }
