-- What was written so far is the lines of the records so far, and the records behind them are left.
use Rattle.std.proofs.Common.{◌≡◌, ◌+◌, ◌*◌, ◌≤◌, length, drop}
use Rattle.std.specs.Iterator.Adapters.{take_count, take_source}
use Rattle.std.specs.Slice.Iter.{chunks_exact_rest, chunks_exact_size}
use Rattle.console.specs.AnswerText.{lines_of}
use Rattle.console.specs.Inside.Wrote.{Wrote}
use Rattle.console.proofs.print.Writer.put_lines.Given as goal

abbrev pub invariant-loop-diagnostic : goal.invariant-loop-diagnostic
invariant-loop-diagnostic l =
    Wrote l.initial.self l.self (lines_of l.diagnostics (length l.yielded))
    × (take_count l.diagnostic-iterator + length l.yielded ≡ l.count)
    × (chunks_exact_size (take_source l.diagnostic-iterator) ≡ 5)
    × (chunks_exact_rest (take_source l.diagnostic-iterator) ≡ drop (5 * length l.yielded) l.diagnostics)
    × (5 * length l.yielded ≤ length l.diagnostics)
