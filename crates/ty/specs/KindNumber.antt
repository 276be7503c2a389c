-- The kinds of a type as the code has them, and the number that stands for each on the wire. Document 01, "Types as bytes"; document 02, order 5.
use Rattle.std.specs.Prelude.{ℕ, Bool, eqb}
use Rattle.ty.specs.Bytes.{Ty, kind_of}
use Rattle.ty.specs.Kind.{int_kind, long_kind, short_kind, byte_kind, float_kind, double_kind, boolean_kind, char_kind}
use Rattle.ty.specs.Kind.{string_kind, any_kind, nothing_kind, unit_kind, nullable_kind, pointer_kind, array_kind, list_kind}
use Rattle.ty.specs.Kind.{map_kind, named_kind, function_kind, type_var_kind, module_kind, error_kind, large_array_kind}
use Rattle.ty.specs.declared.Kind.{Kind}
use Rattle.ty.specs.declared.Kind.TheVariants.{Int, Long, Short, Byte, Float, Double, Boolean, Char, String, Any, Nothing}
use Rattle.ty.specs.declared.Kind.TheVariants.{Unit, Nullable, Pointer, Array, List, Map, Named, Function, TypeVar, Module, Error, LargeArray}

-- the byte that stands for a kind
abbrev pub kind_number : Kind → ℕ
kind_number Int = int_kind
kind_number Long = long_kind
kind_number Short = short_kind
kind_number Byte = byte_kind
kind_number Float = float_kind
kind_number Double = double_kind
kind_number Boolean = boolean_kind
kind_number Char = char_kind
kind_number String = string_kind
kind_number Any = any_kind
kind_number Nothing = nothing_kind
kind_number Unit = unit_kind
kind_number Nullable = nullable_kind
kind_number Pointer = pointer_kind
kind_number Array = array_kind
kind_number List = list_kind
kind_number Map = map_kind
kind_number Named = named_kind
kind_number Function = function_kind
kind_number TypeVar = type_var_kind
kind_number Module = module_kind
kind_number Error = error_kind
kind_number LargeArray = large_array_kind

-- a type is of a kind where its first byte is the kind's
abbrev pub is_of_kind : Ty → Kind → Bool
is_of_kind s kind = eqb (kind_of s) (kind_number kind)
