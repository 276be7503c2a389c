-- What the rules see of a table: a function for each lookup. Ids are as document 01 has them, with 65,535 (`no_id`) for none in the owner of a function
-- or suspend function, in superclasses, interfaces and packages.
use Rattle.std.specs.Prelude.{ℕ, Bool, List}
use Rattle.std.proofs.Math.Option.{Option}
use Rattle.ty.specs.Bytes.{Ty}

-- a parameter (`ParamSym` of symbol.rs)
pub record Param : Type 0 where
  pub name : ℕ
  pub default : Bool
  pub vararg : Bool
  pub ty : Ty

-- one function of a list (`Symbol` of symbol.rs, kind Function)
pub record Overload : Type 0 where
  pub builtin : Bool
  pub visibility : ℕ
  pub params : List Param
  pub result : Ty

pub record Symbols : Type 0 where
  pub classes : ℕ  -- how many class records there are
  pub super_of : ℕ → ℕ  -- a class's superclass
  pub first_interface_of : ℕ → ℕ  -- a class's interfaces
  pub second_interface_of : ℕ → ℕ
  pub package_of : ℕ → ℕ  -- a class's package
  pub in_types : ℕ → Bool  -- whether a name is in `types`
  pub operators_of : ℕ → Option ℕ  -- the mask of a class's operator set
  pub functions_of : ℕ → ℕ → List Overload  -- the functions of an owner and a name, in table order
  pub field_of : ℕ → ℕ → Option Ty  -- the field of an owner and a name
  pub visibility_of : ℕ → ℕ → Option ℕ  -- a member's visibility, by owner and name
  pub is_suspend : ℕ → ℕ → Bool  -- a suspend function, by owner and name
  pub is_variant : ℕ → ℕ → Bool  -- an enum variant, by owner and name
  pub is_capital : ℕ → Bool  -- whether a name is one capital letter
