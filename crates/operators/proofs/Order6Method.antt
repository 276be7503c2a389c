-- The claim of order 6 on operator methods.
use Prim.Native.Nat.{ℕ, zero, suc}
use lib.Dec.{eqb, leb}
use mathlib.Core.Bool.{◌&&◌}
use mathlib.Core.Option.{Option, none}
use mathlib.Core.Path.{◌≡◌, refl, ap}
use Rattle.operators.specs.Operand.{is_kind}
use Rattle.operators.specs.Operator.{ge_op}
use Rattle.operators.specs.OperatorMethod.{at_class, climb, operator_return}
use Rattle.operators.specs.Order6Method.{with_interfaces, MethodsBySuperclasses}
use Rattle.symbol.specs.Symbols.{Symbols}
use Rattle.ty.specs.Bytes.{Ty, name_of}
use Rattle.ty.specs.Choose.{choose}
use Rattle.ty.specs.Kind.{named_kind}
use Rattle.ty.specs.Name.{no_id}

module _ (S : Symbols) (first second : ℕ → ℕ) where
  climb_same : (f op c : ℕ) → climb (with_interfaces S first second) f op c ≡ climb S f op c
  unfolding climb at_class
  climb_same zero op c = refl
  climb_same (suc f) op c =
      ap (λ (up : Option Ty). choose (eqb c no_id) none (at_class S op c (S.operators_of c) up)) (climb_same f op (S.super_of c))

  methods_same : (op : ℕ) (t : Ty) → operator_return (with_interfaces S first second) op t ≡ operator_return S op t
  unfolding operator_return
  methods_same op t = ap (λ (m : Option Ty). choose (leb op ge_op && is_kind named_kind t) m none) (climb_same (suc S.classes) op (name_of t))

pub methods_by_superclasses : MethodsBySuperclasses
methods_by_superclasses = record { methods = methods_same }
