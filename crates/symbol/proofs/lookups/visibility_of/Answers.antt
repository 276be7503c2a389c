use Prim.Native.Nat.{ℕ, ◌+◌}
use lib.ListN.{get_or}
use mathlib.Core.List.{List}
use mathlib.Core.Path.{◌∙◌, ap}
use Rattle.symbol.specs.Visibility.{visibility_from}
use Rattle.symbol.proofs.LookedUp.{no_visibility, visibility_level}
use Rattle.symbol.proofs.lookups.visibility_of.Goals as goal

pub returns-in_err-p : goal.returns-in_err-p
returns-in_err-p c = cc (c.from_residual.ensures, no_visibility c.args.table.now c.args.owner c.args.name c.in_err-p.ensures.records)

pub returns : goal.returns
returns c = visibility_level _ _ _ _ c.in_ok-p.ensures.records _ (c.of_byte.ensures ∙ ap visibility_from c.byte_at.ensures ∙ ap (λ (t : List ℕ). visibility_from (get_or t (c.in_ok-p.p.at + 5) 0)) c.bytes.ensures.bytes)
