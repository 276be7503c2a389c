-- What order 5 claims of assignability. Document 02: "All Array rules cover both kinds and are shown for either width together." Document 01's are: "List to
-- Array by element type; Array to Array by element type, size ignored". `is_array` holds of an Array of either width, so each claim is of both.
use Rattle.std.specs.Prelude.{true, ◌≡◌}
use Rattle.operators.specs.Assign.{is_growing, assigns}
use Rattle.operators.specs.Operand.{is_kind}
use Rattle.symbol.specs.Symbols.{Symbols}
use Rattle.ty.specs.Bytes.{Ty, is_array, inner_of}
use Rattle.ty.specs.Kind.{list_kind}

-- how a List, an Array and the names ArrayList and MutableList assign to a type b that is an Array
pub record ToArray (S : Symbols) (a b : Ty) : Type 0 where
  pub from_list : is_array b ≡ true → is_kind list_kind a ≡ true → assigns S a b ≡ assigns S (inner_of a) (inner_of b)
  pub from_array : is_array b ≡ true → is_array a ≡ true → assigns S a b ≡ assigns S (inner_of a) (inner_of b)
  pub from_name : is_array b ≡ true → is_growing a ≡ true → assigns S a b ≡ true
