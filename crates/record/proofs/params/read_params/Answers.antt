use Prim.Native.Nat.{ℕ}
use mathlib.Core.List.{List}
use mathlib.Core.Path.{◌≡◌, sym, ap, ap₂, ◌∙◌}
use native.Mathlib.Nat.{sub-zero}
use native.Mathlib.Omega.{arith}
use Rattle.std.proofs.Common.{Err}
use Rattle.std.proofs.lemmas.Result.{err_from_is_err_and}
use Rattle.record.proofs.Own.{run_ended}
use Rattle.record.proofs.ParamSteps.{answer_whole, answer_first, answer_ok, answer_err, param_onward, first-inside, run_step, run_last}
use Rattle.record.specs.Inside.Front.{Run, run_of, reading_answer, param_step, stepped, run_params, first_reading, params_read}
use Rattle.record.specs.declared.params.ReadFault.{ReadFault}
use Rattle.record.proofs.params.read_params.Goals as goal

-- a reading that has ended answers what it ended with
ended : (n : ℕ) (s : List ℕ) (c : Run) (f : ReadFault) → Err f ≡ reading_answer c → Err f ≡ reading_answer (run_params n s c)
ended n s c f e = e ∙ ap reading_answer (sym (run_ended n s c (answer_err c f (sym e))))

pub returns-in_err-c : goal.returns-in_err-c
unfolding params_read
returns-in_err-c c =
    let f = answer_first c.args.s.now c.new.result c.max-high.result c.new.ensures (c.max-high.ensures ∙ rw (c.or_none.ensures, c.id_at.ensures, c.id_at-2.ensures)) in
    let p = err_from_is_err_and c.from_residual.result c.from_residual.ensures.1 in
    rw (p.1, p.2) (ended _ c.args.s.now (first_reading c.args.s.now) c.in_err-c.field-0.0 (c.in_err-c.ensures ∙ f))

pub loop-n-init : goal.loop-n-init
unfolding params_read
loop-n-init c =
    let f = answer_first c.args.s.now c.new.result c.max-high.result c.new.ensures (c.max-high.ensures ∙ rw (c.or_none.ensures, c.id_at.ensures, c.id_at-2.ensures)) in
    let e = answer_ok (first_reading c.args.s.now) c.in_ok-c.c (sym (c.in_ok-c.ensures ∙ f)) in
    let f = rw (← e) at (first-inside c.args.s.now c.requires.0) in (
      ap₂ (λ (k : ℕ) (z : Run). run_params k c.args.s.now z) (sub-zero c.args.count ∙ c.requires.2) e,
      f.high,
      omega (arith, f.count),
    )

pub step-requires : goal.step-requires
step-requires c = (c.loop-n.invariant.1, omega arith)

pub returns-in_err-c-2 : goal.returns-in_err-c-2
unfolding stepped
returns-in_err-c-2 c =
    let p = err_from_is_err_and c.from_residual-in_err-c-2.result c.from_residual-in_err-c-2.ensures.1 in
    rw (p.1, p.2) (ended _ c.args.s.now (param_step c.args.s.now (run_of c.loop-n.c)) c.in_err-c-2.field-0.0 c.in_err-c-2.ensures
    ∙ ap reading_answer (sym (run_step _ _ _ _ c.loop-n-test.true) ∙ c.loop-n.invariant.0))

pub loop-n-preserved : goal.loop-n-preserved
unfolding stepped
loop-n-preserved c =
    let e = answer_ok (param_step c.args.s.now (run_of c.loop-n.c)) c.in_ok-c-2.c (sym c.in_ok-c-2.ensures) in
    let o = rw (← e) at (param_onward c.args.s.now (run_of c.loop-n.c) c.loop-n.invariant.1) in (
      ap (run_params _ _) e ∙ sym (run_step _ _ _ _ c.loop-n-test.true) ∙ c.loop-n.invariant.0,
      o.high,
      omega (arith, o.count),
    )

pub returns : goal.returns
returns c = sym (answer_whole c.loop-n.c) ∙ ap reading_answer (sym (run_last _ _ _ _ c.loop-n-test.false) ∙ c.loop-n.invariant.0)
