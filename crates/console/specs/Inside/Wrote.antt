-- What a `put_` method leaves.
use Rattle.std.specs.Prelude.{ℕ, ◌+◌, ◌-◌, min, ◌≡◌, List, length}
use Rattle.std.proofs.lemmas.List.Edits.{sets}
use Rattle.console.specs.declared.print.Writer.{Writer}

-- what fits of a text was written into w's buffer from `at` on, and the rest of it left as it was: now the writer is w', which stands behind the text
pub record Wrote (w w' : Writer) (text : List ℕ) : Type 0 where
  pub bytes : w'.out.now ≡ sets w.out.now w.at text
  pub next : w'.at ≡ w.at + min (length text) (length w.out.now - w.at)
  -- it is the same buffer
  pub same : w'.out.ghost_name ≡ w.out.ghost_name
