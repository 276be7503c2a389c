-- `check_unary`'s NotNull arm for a nullable operand is never reached: such an operand is reported earlier.
use Prim.Native.Nat.{ℕ}
use mathlib.Core.Path.{◌≡◌, refl, ap}
use mathlib.Core.Bool.{Bool, true, false}
use lib.Dec.{eqb}
use Rattle.ty.specs.Choose.{choose}
use Rattle.ty.specs.Kind.{nullable_kind}
use Rattle.ty.specs.Bytes.{Ty, kind_of}
use Rattle.area.specs.DiagnosticKind.{not_null_diag}
use Rattle.operators.specs.Out.{Out, fails}
use Rattle.operators.specs.Unary.{unary_of, unary_out, unary_with_arm}

-- what NotNull gives does not matter where the operand is nullable
not_null_any : (op : ℕ) (t : Ty) (o p : Out) → (eqb (kind_of t) nullable_kind ≡ false → o ≡ p) → unary_of op t o ≡ unary_of op t p
unfolding unary_of choose
not_null_any op t o p h = go (eqb (kind_of t) nullable_kind) refl
  where
    go : (b : Bool) → eqb (kind_of t) nullable_kind ≡ b → unary_of op t o ≡ unary_of op t p
    go true e = rw e
    go false e = ap (unary_of op t) (h e)

pub arm_unreached : (op : ℕ) (t : Ty) → unary_with_arm op t ≡ unary_out op t
unfolding unary_out unary_with_arm choose
arm_unreached op t = not_null_any op t _ (fails not_null_diag) (λ e. rw e)
