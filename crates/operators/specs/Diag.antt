-- What a rule reports, as diagnostics at its node.
use Rattle.std.specs.Prelude.{ℕ, List, [], ◌∷◌}
use Rattle.area.specs.Diagnostic.{Diag}
use Rattle.operators.specs.Out.{Report}

abbrev pub diag : ℕ → ℕ → ℕ → Diag
diag k n i = record { kind = k; node = n; number = i }

unfoldable pub reported_at : ℕ → List Report → List Diag
reported_at n [] = []
reported_at n (r ∷ rs) = diag r.kind n r.number ∷ reported_at n rs
