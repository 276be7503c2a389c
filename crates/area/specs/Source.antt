-- Where a node's type comes from: what a rule answers, in place of the type itself. Document 01, "Leaves to root, and forms in the way": a type is a
-- part of a byte slice. It is put together where it is kept, in the node's slot.
use Rattle.std.specs.Prelude.{ℕ, List, ◌∷◌, take, drop}
use Rattle.ty.specs.Kind.{pointer_kind, list_kind, named_kind, function_kind}
use Rattle.ty.specs.Bytes.{Ty, plain_ty, inner_of, two_bytes}
use Rattle.area.specs.declared.Source.{Source}
use Rattle.area.specs.declared.Source.TheVariants.{Kind, ListOf, Name, First, Second, Inner, Pointer, Part, Function}

-- so many bytes from start on
abbrev pub bytes_from : List ℕ → ℕ → ℕ → List ℕ
bytes_from s start len = take len (drop start s)

-- The type that a source stands for, with the table's bytes, the first child's type x and the second's y:
-- a kind without body; a List of one (a Map's `keys`); a Named (`To` gives a Pair, a variant its enum); the type of a child; what it holds ("Dereference
-- answers with a part of the operand"); a Pointer to it (address-of); a type of the table (a result, a field); "a name found only as a function gives a
-- Function type with no parameters".
unfoldable pub type_from : List ℕ → Ty → Ty → Source → Ty
type_from table x y (Kind k) = plain_ty k
type_from table x y (ListOf k) = list_kind ∷ plain_ty k
type_from table x y (Name id) = named_kind ∷ two_bytes id
type_from table x y First = x
type_from table x y Second = y
type_from table x y Inner = inner_of x
type_from table x y Pointer = pointer_kind ∷ x
type_from table x y (Part p) = bytes_from table p.start p.len
type_from table x y (Function p) = function_kind ∷ 0 ∷ bytes_from table p.start p.len
