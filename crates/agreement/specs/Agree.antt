-- Two tables' lookups that are equal.
use Rattle.std.specs.Prelude.{ℕ, Bool, true, ◌≡◌}
use Rattle.symbol.specs.Symbols.{Symbols}

-- what is looked up by one id, and how many classes there are
pub record SameById (S T : Symbols) : Type 0 where
  pub classes : S.classes ≡ T.classes
  pub super_of : (class : ℕ) → S.super_of class ≡ T.super_of class
  pub first_interface_of : (class : ℕ) → S.first_interface_of class ≡ T.first_interface_of class
  pub second_interface_of : (class : ℕ) → S.second_interface_of class ≡ T.second_interface_of class
  pub package_of : (class : ℕ) → S.package_of class ≡ T.package_of class
  pub in_types : (class : ℕ) → S.in_types class ≡ T.in_types class
  pub operators_of : (class : ℕ) → S.operators_of class ≡ T.operators_of class
  pub is_capital : (id : ℕ) → S.is_capital id ≡ T.is_capital id

-- what is looked up by an owner and a name, functions left out, for the names that a test holds of
pub record SameMembers (asked : ℕ → Bool) (S T : Symbols) : Type 0 where
  pub field_of : (owner name : ℕ) → asked name ≡ true → S.field_of owner name ≡ T.field_of owner name
  pub visibility_of : (owner name : ℕ) → asked name ≡ true → S.visibility_of owner name ≡ T.visibility_of owner name
  pub is_suspend : (owner name : ℕ) → asked name ≡ true → S.is_suspend owner name ≡ T.is_suspend owner name
  pub is_variant : (owner name : ℕ) → asked name ≡ true → S.is_variant owner name ≡ T.is_variant owner name

-- all lookups, by an owner and a name where the test holds of the name
pub record Agree (asked : ℕ → Bool) (S T : Symbols) : Type 0 where
  pub by_id : SameById S T
  pub members : SameMembers asked S T
  pub functions_of : (owner name : ℕ) → asked name ≡ true → S.functions_of owner name ≡ T.functions_of owner name
