use Prim.Native.Nat.{◌+◌}
use native.Mathlib.Numerals.{add-one}
use Rattle.record.proofs.NamesCounted.{behind_counted}
use Rattle.record.proofs.walk.TableWalk.behind_name.Goals as goal

pub returns-clause-counted : goal.returns-clause-counted
returns-clause-counted c t a n =
    behind_counted t c.args.self _
    (λ i. record { here = record { at = c.args.self.here.at + 26; index = add-one c.args.self.here.index i }; names = add-one c.args.self.names i }) a n
