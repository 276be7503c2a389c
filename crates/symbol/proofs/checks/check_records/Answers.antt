use mathlib.Core.Path.{refl, sym, ◌∙◌}
use native.Mathlib.Omega.{arith}
use Rattle.record.proofs.NamesCounted.{walk_names}
use Rattle.symbol.proofs.IndexMakes.{making_stopped, making_next, making_done}
use Rattle.symbol.proofs.LateMakes.{noting_own, noting_key, noting_next, noting_done}
use Rattle.symbol.proofs.NamePasses.{noted}
use Rattle.symbol.proofs.Passes.{passed_clean, passed_names, passed_accepted, passed_broken, own_is, own-refused, own-stopped, both, key_refused, key_stopped}
use Rattle.symbol.proofs.Passes.{going_start, going_asked, going_prepared, going_other, going_key, going_placed, going_join, going_next}
use Rattle.symbol.proofs.ParentLate.{missing_some}
use Rattle.symbol.proofs.Verdicts.{fault_some, passed_on}
use Rattle.symbol.specs.TableFault.{table_fault_number}
use Rattle.symbol.proofs.checks.check_records.Goals as goal

pub loop-w-init : goal.loop-w-init
loop-w-init c = (
  going_start c.args.t.now c.args.x.now _ c.args.late.now c.in_ok-w.w c.in_ok-w.ensures c.requires.2,
  c.in_ok-w.ensures.names.made,
  noted c.args.t.now c.args.x.now _ c.in_ok-w.w c.in_ok-w.ensures.names c.args.late.now,
)

pub returns-in_default-clause-number : goal.returns-in_default-clause-number
returns-in_default-clause-number c = own-refused c.args.t.now _ c.loop-w.w c.loop-w.invariant.0.passed
    (record { head = c.step-s.result.head; next = c.step-s.result.next.here }) c.step-s.ensures.step c.loop-w-test.true 2
    (passed_broken c.args.t.now _ c.loop-w.w c.loop-w.invariant.0.passed
    (record { head = c.step-s.result.head; next = c.step-s.result.next.here }) c.step-s.ensures.step c.loop-w-test.true c.in_default.is) (λ z. omega arith)

pub returns-in_default-clause-indexed_table : goal.returns-in_default-clause-indexed_table
returns-in_default-clause-indexed_table c = λ z. absurd (own-stopped c.args.t.now _ c.loop-w.w c.loop-w.invariant.0.passed
    (record { head = c.step-s.result.head; next = c.step-s.result.next.here }) c.step-s.ensures.step c.loop-w-test.true 2
    (passed_broken c.args.t.now _ c.loop-w.w c.loop-w.invariant.0.passed
    (record { head = c.step-s.result.head; next = c.step-s.result.next.here }) c.step-s.ensures.step c.loop-w-test.true c.in_default.is) (λ z. omega arith) z)

pub returns-in_default-clause-x_after : goal.returns-in_default-clause-x_after
returns-in_default-clause-x_after c = making_stopped c.args.t.now _ _ c.loop-w.w.here c.loop-w.invariant.1 c.loop-w.invariant.0.passed.walk.at
    (record { head = c.step-s.result.head; next = c.step-s.result.next.here }) c.step-s.ensures.step 2
    (own_is c.args.t.now _ c.loop-w.w c.loop-w.invariant.0.passed
    (record { head = c.step-s.result.head; next = c.step-s.result.next.here }) c.step-s.ensures.step c.loop-w-test.true 2
    (passed_broken c.args.t.now _ c.loop-w.w c.loop-w.invariant.0.passed
    (record { head = c.step-s.result.head; next = c.step-s.result.next.here }) c.step-s.ensures.step c.loop-w-test.true c.in_default.is) (λ z. omega arith)) (λ z. omega arith)

pub returns-in_default-clause-late_after : goal.returns-in_default-clause-late_after
returns-in_default-clause-late_after c = noting_own c.args.t.now _ _ c.loop-w.w.here c.loop-w.looked c.loop-w.invariant.2 c.loop-w.invariant.0.passed.walk.at
    (record { head = c.step-s.result.head; next = c.step-s.result.next.here }) c.step-s.ensures.step 2
    (passed_broken c.args.t.now _ c.loop-w.w c.loop-w.invariant.0.passed
    (record { head = c.step-s.result.head; next = c.step-s.result.next.here }) c.step-s.ensures.step c.loop-w-test.true c.in_default.is) (λ z. omega arith)

pub returns-in_err-check_own-clause-number : goal.returns-in_err-check_own-clause-number
returns-in_err-check_own-clause-number c = passed_on c.from_residual-in_err-check_own.result _ c.from_residual-in_err-check_own.ensures.0 c.from_residual-in_err-check_own.ensures.1
    ∙ own-refused c.args.t.now _ c.loop-w.w c.loop-w.invariant.0.passed
    (record { head = c.step-s.result.head; next = c.step-s.result.next.here }) c.step-s.ensures.step c.loop-w-test.true (table_fault_number c.in_err-check_own.field-0.0)
    (c.in_err-check_own.ensures c.args.t.now
    (going_asked c.args.t.now _ _ c.loop-w.w c.loop-w.kind c.loop-w.looked c.loop-w.invariant.0
    (record { head = c.step-s.result.head; next = c.step-s.result.next.here }) c.step-s.ensures.step c.loop-w-test.true c.in-Some.h c.in-Some.is)) (fault_some c.in_err-check_own.field-0.0)

pub returns-in_err-check_own-clause-indexed_table : goal.returns-in_err-check_own-clause-indexed_table
returns-in_err-check_own-clause-indexed_table c = λ z. absurd (own-stopped c.args.t.now _ c.loop-w.w c.loop-w.invariant.0.passed
    (record { head = c.step-s.result.head; next = c.step-s.result.next.here }) c.step-s.ensures.step c.loop-w-test.true (table_fault_number c.in_err-check_own.field-0.0)
    (c.in_err-check_own.ensures c.args.t.now
    (going_asked c.args.t.now _ _ c.loop-w.w c.loop-w.kind c.loop-w.looked c.loop-w.invariant.0
    (record { head = c.step-s.result.head; next = c.step-s.result.next.here }) c.step-s.ensures.step c.loop-w-test.true c.in-Some.h c.in-Some.is)) (fault_some c.in_err-check_own.field-0.0) z)

pub returns-in_err-check_own-clause-x_after : goal.returns-in_err-check_own-clause-x_after
returns-in_err-check_own-clause-x_after c = making_stopped c.args.t.now _ _ c.loop-w.w.here c.loop-w.invariant.1 c.loop-w.invariant.0.passed.walk.at
    (record { head = c.step-s.result.head; next = c.step-s.result.next.here }) c.step-s.ensures.step (table_fault_number c.in_err-check_own.field-0.0)
    (own_is c.args.t.now _ c.loop-w.w c.loop-w.invariant.0.passed
    (record { head = c.step-s.result.head; next = c.step-s.result.next.here }) c.step-s.ensures.step c.loop-w-test.true (table_fault_number c.in_err-check_own.field-0.0)
    (c.in_err-check_own.ensures c.args.t.now
    (going_asked c.args.t.now _ _ c.loop-w.w c.loop-w.kind c.loop-w.looked c.loop-w.invariant.0
    (record { head = c.step-s.result.head; next = c.step-s.result.next.here }) c.step-s.ensures.step c.loop-w-test.true c.in-Some.h c.in-Some.is)) (fault_some c.in_err-check_own.field-0.0)) (fault_some c.in_err-check_own.field-0.0)

pub returns-in_err-check_own-clause-late_after : goal.returns-in_err-check_own-clause-late_after
returns-in_err-check_own-clause-late_after c = noting_own c.args.t.now _ _ c.loop-w.w.here c.loop-w.looked c.loop-w.invariant.2 c.loop-w.invariant.0.passed.walk.at
    (record { head = c.step-s.result.head; next = c.step-s.result.next.here }) c.step-s.ensures.step (table_fault_number c.in_err-check_own.field-0.0)
    (c.in_err-check_own.ensures c.args.t.now
    (going_asked c.args.t.now _ _ c.loop-w.w c.loop-w.kind c.loop-w.looked c.loop-w.invariant.0
    (record { head = c.step-s.result.head; next = c.step-s.result.next.here }) c.step-s.ensures.step c.loop-w-test.true c.in-Some.h c.in-Some.is)) (fault_some c.in_err-check_own.field-0.0)

pub entry_for-entry-requires : goal.entry_for-entry-requires
entry_for-entry-requires c = (
  going_prepared c.args.t.now _ _ c.loop-w.w c.loop-w.kind c.loop-w.looked c.loop-w.invariant.0
      (record { head = c.step-s.result.head; next = c.step-s.result.next.here }) c.step-s.ensures.step c.loop-w-test.true c.in-Some.h c.in-Some.is
      (sym (c.in_ok-check_own.ensures c.args.t.now
      (going_asked c.args.t.now _ _ c.loop-w.w c.loop-w.kind c.loop-w.looked c.loop-w.invariant.0
      (record { head = c.step-s.result.head; next = c.step-s.result.next.here }) c.step-s.ensures.step c.loop-w-test.true c.in-Some.h c.in-Some.is))) c.requires.0,
  going_other c.args.t.now _ _ c.loop-w.w c.loop-w.kind c.loop-w.looked c.loop-w.invariant.0
      (record { head = c.step-s.result.head; next = c.step-s.result.next.here }) c.step-s.ensures.step c.loop-w-test.true c.in-Some.h c.in-Some.is
      (sym (c.in_ok-check_own.ensures c.args.t.now
      (going_asked c.args.t.now _ _ c.loop-w.w c.loop-w.kind c.loop-w.looked c.loop-w.invariant.0
      (record { head = c.step-s.result.head; next = c.step-s.result.next.here }) c.step-s.ensures.step c.loop-w-test.true c.in-Some.h c.in-Some.is))),
)

pub parents_missing-missing-requires : goal.parents_missing-missing-requires
parents_missing-missing-requires c = going_prepared c.args.t.now _ _ c.loop-w.w c.loop-w.kind c.loop-w.looked c.loop-w.invariant.0
    (record { head = c.step-s.result.head; next = c.step-s.result.next.here }) c.step-s.ensures.step c.loop-w-test.true c.in-Some.h c.in-Some.is
    (sym (c.in_ok-check_own.ensures c.args.t.now
    (going_asked c.args.t.now _ _ c.loop-w.w c.loop-w.kind c.loop-w.looked c.loop-w.invariant.0
    (record { head = c.step-s.result.head; next = c.step-s.result.next.here }) c.step-s.ensures.step c.loop-w-test.true c.in-Some.h c.in-Some.is))) c.requires.0

pub check_key-requires : goal.check_key-requires
check_key-requires c = going_key c.args.t.now _ _ c.loop-w.w c.loop-w.kind c.loop-w.looked c.loop-w.invariant.0
    (record { head = c.step-s.result.head; next = c.step-s.result.next.here }) c.step-s.ensures.step c.loop-w-test.true c.in-Some.h c.in-Some.is
    (sym (c.in_ok-check_own.ensures c.args.t.now
    (going_asked c.args.t.now _ _ c.loop-w.w c.loop-w.kind c.loop-w.looked c.loop-w.invariant.0
    (record { head = c.step-s.result.head; next = c.step-s.result.next.here }) c.step-s.ensures.step c.loop-w-test.true c.in-Some.h c.in-Some.is)))
    _ c.look-looked.auto.late c.look-looked.result _
    c.look-looked.ensures.answer c.look-looked.ensures.late_after (c.any_missing.ensures ∙ missing_some _ _ _ c.parents_missing-missing.ensures) c.entry_for-entry.result
    c.entry_for-entry.ensures
    c.parents_missing-missing.result c.parents_missing-missing.ensures

pub returns-in_err-check_key-clause-number : goal.returns-in_err-check_key-clause-number
returns-in_err-check_key-clause-number c = passed_on c.from_residual-in_err-check_key.result _ c.from_residual-in_err-check_key.ensures.0
    c.from_residual-in_err-check_key.ensures.1
    ∙ key_refused c.args.t.now _ c.loop-w.w c.loop-w.invariant.0.passed
    (record { head = c.step-s.result.head; next = c.step-s.result.next.here }) c.step-s.ensures.step c.loop-w-test.true
    (sym (c.in_ok-check_own.ensures c.args.t.now
    (going_asked c.args.t.now _ _ c.loop-w.w c.loop-w.kind c.loop-w.looked c.loop-w.invariant.0
    (record { head = c.step-s.result.head; next = c.step-s.result.next.here }) c.step-s.ensures.step c.loop-w-test.true c.in-Some.h c.in-Some.is))) (table_fault_number c.in_err-check_key.field-0.0) c.in_err-check_key.ensures (fault_some c.in_err-check_key.field-0.0)

pub returns-in_err-check_key-clause-indexed_table : goal.returns-in_err-check_key-clause-indexed_table
returns-in_err-check_key-clause-indexed_table c = λ z. absurd (key_stopped c.args.t.now _ c.loop-w.w c.loop-w.invariant.0.passed
    (record { head = c.step-s.result.head; next = c.step-s.result.next.here }) c.step-s.ensures.step c.loop-w-test.true
    (sym (c.in_ok-check_own.ensures c.args.t.now
    (going_asked c.args.t.now _ _ c.loop-w.w c.loop-w.kind c.loop-w.looked c.loop-w.invariant.0
    (record { head = c.step-s.result.head; next = c.step-s.result.next.here }) c.step-s.ensures.step c.loop-w-test.true c.in-Some.h c.in-Some.is))) (table_fault_number c.in_err-check_key.field-0.0) c.in_err-check_key.ensures (fault_some c.in_err-check_key.field-0.0) z)

pub returns-in_err-check_key-clause-x_after : goal.returns-in_err-check_key-clause-x_after
returns-in_err-check_key-clause-x_after c = making_stopped c.args.t.now _ _ c.loop-w.w.here c.loop-w.invariant.1 c.loop-w.invariant.0.passed.walk.at
    (record { head = c.step-s.result.head; next = c.step-s.result.next.here }) c.step-s.ensures.step (table_fault_number c.in_err-check_key.field-0.0)
    (both c.args.t.now _ c.loop-w.w c.loop-w.invariant.0.passed
    (record { head = c.step-s.result.head; next = c.step-s.result.next.here }) c.step-s.ensures.step c.loop-w-test.true
    (sym (c.in_ok-check_own.ensures c.args.t.now
    (going_asked c.args.t.now _ _ c.loop-w.w c.loop-w.kind c.loop-w.looked c.loop-w.invariant.0
    (record { head = c.step-s.result.head; next = c.step-s.result.next.here }) c.step-s.ensures.step c.loop-w-test.true c.in-Some.h c.in-Some.is))) (table_fault_number c.in_err-check_key.field-0.0) c.in_err-check_key.ensures) (fault_some c.in_err-check_key.field-0.0)

pub returns-in_err-check_key-clause-late_after : goal.returns-in_err-check_key-clause-late_after
returns-in_err-check_key-clause-late_after c = noting_key c.args.t.now _ _ c.loop-w.w.here c.loop-w.looked c.loop-w.invariant.2 c.loop-w.invariant.0.passed.walk.at
    (record { head = c.step-s.result.head; next = c.step-s.result.next.here }) c.step-s.ensures.step _
    refl (sym (c.in_ok-check_own.ensures c.args.t.now
    (going_asked c.args.t.now _ _ c.loop-w.w c.loop-w.kind c.loop-w.looked c.loop-w.invariant.0
    (record { head = c.step-s.result.head; next = c.step-s.result.next.here }) c.step-s.ensures.step c.loop-w-test.true c.in-Some.h c.in-Some.is))) _ (c.any_missing.ensures ∙ missing_some _ _ _ c.parents_missing-missing.ensures) _ c.look-looked.ensures.late_after
    (table_fault_number c.in_err-check_key.field-0.0) c.in_err-check_key.ensures (fault_some c.in_err-check_key.field-0.0)

pub join-requires : goal.join-requires
join-requires c = going_join c.args.t.now _ _ c.loop-w.w c.loop-w.kind c.loop-w.looked c.loop-w.invariant.0
    (record { head = c.step-s.result.head; next = c.step-s.result.next.here }) c.step-s.ensures.step c.loop-w-test.true c.in-Some.h c.in-Some.is
    (sym (c.in_ok-check_own.ensures c.args.t.now
    (going_asked c.args.t.now _ _ c.loop-w.w c.loop-w.kind c.loop-w.looked c.loop-w.invariant.0
    (record { head = c.step-s.result.head; next = c.step-s.result.next.here }) c.step-s.ensures.step c.loop-w-test.true c.in-Some.h c.in-Some.is)))
    _ c.look-looked.auto.late c.look-looked.result _
    c.look-looked.ensures.answer c.look-looked.ensures.late_after (c.any_missing.ensures ∙ missing_some _ _ _ c.parents_missing-missing.ensures) c.entry_for-entry.result
    c.entry_for-entry.ensures
    0 c.in_ok-check_key.ensures refl c.requires.0

pub loop-w-preserved : goal.loop-w-preserved
loop-w-preserved c = (
  going_next c.args.t.now _ _ c.loop-w.w c.loop-w.kind c.loop-w.looked c.loop-w.invariant.0
      (record { head = c.step-s.result.head; next = c.step-s.result.next.here }) c.step-s.ensures.step c.loop-w-test.true c.in-Some.h c.in-Some.is
      (sym (c.in_ok-check_own.ensures c.args.t.now
      (going_asked c.args.t.now _ _ c.loop-w.w c.loop-w.kind c.loop-w.looked c.loop-w.invariant.0
      (record { head = c.step-s.result.head; next = c.step-s.result.next.here }) c.step-s.ensures.step c.loop-w-test.true c.in-Some.h c.in-Some.is)))
      _ c.look-looked.auto.late c.look-looked.result _
      c.look-looked.ensures.answer c.look-looked.ensures.late_after (c.any_missing.ensures ∙ missing_some _ _ _ c.parents_missing-missing.ensures) c.entry_for-entry.result
      c.entry_for-entry.ensures
      0 c.in_ok-check_key.ensures refl c.step-s.result.next refl c.step-s.ensures.next _ c.join.ensures,
  making_next c.args.t.now _ _ c.loop-w.w.here c.loop-w.invariant.1 c.loop-w.invariant.0.passed.walk.at
      (record { head = c.step-s.result.head; next = c.step-s.result.next.here }) c.step-s.ensures.step _
      (both c.args.t.now _ c.loop-w.w c.loop-w.invariant.0.passed
      (record { head = c.step-s.result.head; next = c.step-s.result.next.here }) c.step-s.ensures.step c.loop-w-test.true
      (sym (c.in_ok-check_own.ensures c.args.t.now
      (going_asked c.args.t.now _ _ c.loop-w.w c.loop-w.kind c.loop-w.looked c.loop-w.invariant.0
      (record { head = c.step-s.result.head; next = c.step-s.result.next.here }) c.step-s.ensures.step c.loop-w-test.true c.in-Some.h c.in-Some.is))) 0 c.in_ok-check_key.ensures) refl _
      (c.join.ensures ∙ going_placed c.args.t.now _ _ c.loop-w.w c.loop-w.kind c.loop-w.looked c.loop-w.invariant.0
      (record { head = c.step-s.result.head; next = c.step-s.result.next.here }) c.step-s.ensures.step c.loop-w-test.true c.in-Some.h c.in-Some.is
      (sym (c.in_ok-check_own.ensures c.args.t.now
      (going_asked c.args.t.now _ _ c.loop-w.w c.loop-w.kind c.loop-w.looked c.loop-w.invariant.0
      (record { head = c.step-s.result.head; next = c.step-s.result.next.here }) c.step-s.ensures.step c.loop-w-test.true c.in-Some.h c.in-Some.is)))
      _ c.look-looked.auto.late c.look-looked.result _
      c.look-looked.ensures.answer c.look-looked.ensures.late_after (c.any_missing.ensures ∙ missing_some _ _ _ c.parents_missing-missing.ensures) c.entry_for-entry.result
      c.entry_for-entry.ensures
      0 c.in_ok-check_key.ensures refl),
  noting_next c.args.t.now _ _ c.loop-w.w.here c.loop-w.looked c.loop-w.invariant.2 c.loop-w.invariant.0.passed.walk.at
      (record { head = c.step-s.result.head; next = c.step-s.result.next.here }) c.step-s.ensures.step _
      refl (sym (c.in_ok-check_own.ensures c.args.t.now
      (going_asked c.args.t.now _ _ c.loop-w.w c.loop-w.kind c.loop-w.looked c.loop-w.invariant.0
      (record { head = c.step-s.result.head; next = c.step-s.result.next.here }) c.step-s.ensures.step c.loop-w-test.true c.in-Some.h c.in-Some.is))) _ (c.any_missing.ensures ∙ missing_some _ _ _ c.parents_missing-missing.ensures) _ c.look-looked.ensures.late_after
      0 c.in_ok-check_key.ensures refl c.look-looked.result c.look-looked.ensures.answer,
)

pub returns-clause-number : goal.returns-clause-number
returns-clause-number c = passed_clean c.args.t.now _ c.loop-w.w c.loop-w.invariant.0.passed c.loop-w-test.false

pub returns-clause-names : goal.returns-clause-names
returns-clause-names c = passed_names c.args.t.now _ c.loop-w.w c.loop-w.invariant.0.passed c.loop-w-test.false

pub returns-clause-indexed_table : goal.returns-clause-indexed_table
returns-clause-indexed_table c = λ z. passed_accepted c.args.t.now _ c.loop-w.w c.loop-w.invariant.0.passed c.loop-w-test.false _ c.put.ensures

pub returns-clause-x_after : goal.returns-clause-x_after
returns-clause-x_after c = c.put.ensures ∙ making_done c.args.t.now _ _ c.loop-w.w.here c.loop-w.invariant.1 c.loop-w-test.false c.loop-w.w.names
    (walk_names c.args.t.now c.loop-w.w c.loop-w.invariant.0.passed.walk)

pub returns-clause-late_after : goal.returns-clause-late_after
returns-clause-late_after c = noting_done c.args.t.now _ _ c.loop-w.w.here c.loop-w.looked c.loop-w.invariant.2 c.loop-w-test.false
