-- How many Nullables a type begins with: `can_assign_to` opens them together, and the law `opened_right` says that this is what opening one by one gives.
use Rattle.std.specs.Prelude.{ℕ, eqb, length, take_while}
use Rattle.ty.specs.Bytes.{Ty}
use Rattle.ty.specs.Kind.{nullable_kind}

unfoldable pub nullables : Ty → ℕ
nullables t = length (take_while (λ k. eqb k nullable_kind) t)
