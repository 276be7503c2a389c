-- Whether a parameter takes an argument (checker.rs).
use Rattle.std.specs.Prelude.{ℕ, Bool, not, ◌&&◌, ◌||◌}
use Rattle.ty.specs.Kind.{any_kind, named_kind}
use Rattle.ty.specs.Bytes.{Ty, name_of, same_bytes}
use Rattle.symbol.specs.Symbols.{Symbols}
use Rattle.operators.specs.Operand.{is_kind}
use Rattle.operators.specs.Assign.{assigns}

-- a name of one capital letter that is not in `types`
abbrev pub is_variable_name : Symbols → ℕ → Bool
is_variable_name S id = S.is_capital id && not (S.in_types id)

-- `is_type_variable`
abbrev pub is_type_variable : Symbols → Ty → Bool
is_type_variable S t = is_kind named_kind t && is_variable_name S (name_of t)

-- `param_accepts`: a parameter of the type p, vararg or not, takes an argument of the type x
unfoldable pub param_accepts : Symbols → Ty → Ty → Bool → Bool
param_accepts S p x vararg = same_bytes x p || (assigns S x p || (is_type_variable S p || (vararg || is_kind any_kind p)))
