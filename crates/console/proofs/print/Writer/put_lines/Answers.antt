use Prim.Native.Nat.{ℕ, ◌+◌, ◌*◌}
use lib.ListN.{length, drop, length-append}
use mathlib.Core.List.{List, [], ◌∷◌, ◌++◌}
use mathlib.Core.Path.{◌≡◌, sym, ap, ◌∙◌}
use native.Mathlib.Omega.{arith}
use Rattle.std.specs.Iterator.Adapters.{take_count, take_source}
use Rattle.std.specs.Slice.Iter.{chunks_exact_rest}
use Rattle.console.proofs.RecordLines.{line_here, left_behind, record_inside, all_records}
use Rattle.console.proofs.Writing.{lines_none, lines_turn, lines_done, wrote_as}
use Rattle.console.specs.AnswerText.{lines_of}
use Rattle.console.proofs.print.Writer.put_lines.Goals as goal

pub loop-diagnostic-init : goal.loop-diagnostic-init
loop-diagnostic-init c =
    let t = c.into_iter-diagnostic-iterator.ensures.into_iter_gives in
    let n = c.take-diagnostic-items.ensures.count in (
      lines_none c.args.diagnostics.now c.args.self.now,
      rw t (omega (arith, n)),
      rw (t, c.take-diagnostic-items.ensures.source) c.chunks_exact.ensures.size,
      rw (t, c.take-diagnostic-items.ensures.source) c.chunks_exact.ensures.rest,
      omega arith,
    )

pub loop-diagnostic-preserved : goal.loop-diagnostic-preserved
loop-diagnostic-preserved c =
    let i = c.loop-diagnostic.invariant in
    let s = c.in-Some.ensures.steps in
    let d = c.args.diagnostics.now in
    let k = length c.loop-diagnostic.yielded in
    let x = c.in-Some.diagnostic.now in
    let left = chunks_exact_rest (take_source c.next.new.self) in
    let e : x ++ left ≡ drop (5 * k) d = sym s.0.1.0 ∙ i.3 in
    let n : length x ≡ 5 = s.0.1.1 ∙ i.2 in
    let m : k + 1 ≡ length (c.loop-diagnostic.yielded ++ (c.in-Some.diagnostic ∷ [])) =
    sym (length-append c.loop-diagnostic.yielded (c.in-Some.diagnostic ∷ [])) in (
      wrote_as (lines_turn d k i.0 (wrote_as c.put_line.ensures (line_here d x left k e n))) (ap (lines_of d) m),
      omega (arith, s.1, i.1, m),
      s.0.0 ∙ i.2,
      left_behind d x left k e n ∙ ap (λ (j : ℕ). drop (5 * j) d) m,
      omega (arith, m, record_inside d x left k e n i.4),
    )

pub returns : goal.returns
returns c =
    let i = c.loop-diagnostic.invariant in
    let d = c.args.diagnostics.now in
    let k = length c.loop-diagnostic.yielded in
    let more = take_count c.loop-diagnostic.diagnostic-iterator in
    let all = all_records d k more c.args.count i.1 i.4
    (λ p. let h = (c.in-None.ensures.steps p).1.0 in omega (arith, h, i.2, ap (λ (l : List ℕ). length l) i.3)) in
    lines_done d k _ all i.0
