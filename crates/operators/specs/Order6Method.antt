-- What order 6 claims of operator methods. Document 02: "protected access and operator methods climb superclasses only". So they do not ask for interfaces.
use Rattle.std.specs.Prelude.{ℕ, ◌≡◌}
use Rattle.operators.specs.OperatorMethod.{operator_return}
use Rattle.symbol.specs.Symbols.{Symbols}
use Rattle.ty.specs.Bytes.{Ty}

-- the same but for the interfaces, of which any class may have any
abbrev pub with_interfaces : Symbols → (ℕ → ℕ) → (ℕ → ℕ) → Symbols
with_interfaces S first second =
    record {
      classes = S.classes;
      super_of = S.super_of;
      first_interface_of = first;
      second_interface_of = second;
      package_of = S.package_of;
      in_types = S.in_types;
      operators_of = S.operators_of;
      functions_of = S.functions_of;
      field_of = S.field_of;
      visibility_of = S.visibility_of;
      is_suspend = S.is_suspend;
      is_variant = S.is_variant;
      is_capital = S.is_capital;
    }

pub record MethodsBySuperclasses : Type 0 where
  -- whatever the interfaces are, an operator method is the one that superclasses give
  pub methods : (S : Symbols) (first second : ℕ → ℕ) (op : ℕ) (t : Ty) → operator_return (with_interfaces S first second) op t ≡ operator_return S op t
