-- The kinds of a type. Document 01, "Types as bytes": kinds follow enum `Ty` from 0 (Int) to 21 (Error). Document 02, order 5: "Type kind 22 is an Array with
-- a flag of 1 and an 8-byte size".
use Rattle.std.specs.Prelude.{ℕ}

abbrev pub int_kind : ℕ
int_kind = 0

abbrev pub long_kind : ℕ
long_kind = 1

abbrev pub short_kind : ℕ
short_kind = 2

abbrev pub byte_kind : ℕ
byte_kind = 3

abbrev pub float_kind : ℕ
float_kind = 4

abbrev pub double_kind : ℕ
double_kind = 5

abbrev pub boolean_kind : ℕ
boolean_kind = 6

abbrev pub char_kind : ℕ
char_kind = 7

abbrev pub string_kind : ℕ
string_kind = 8

abbrev pub any_kind : ℕ
any_kind = 9

abbrev pub nothing_kind : ℕ
nothing_kind = 10

abbrev pub unit_kind : ℕ
unit_kind = 11

abbrev pub nullable_kind : ℕ
nullable_kind = 12

abbrev pub pointer_kind : ℕ
pointer_kind = 13

abbrev pub array_kind : ℕ
array_kind = 14

abbrev pub list_kind : ℕ
list_kind = 15

abbrev pub map_kind : ℕ
map_kind = 16

abbrev pub named_kind : ℕ
named_kind = 17

abbrev pub function_kind : ℕ
function_kind = 18

abbrev pub type_var_kind : ℕ
type_var_kind = 19

abbrev pub module_kind : ℕ
module_kind = 20

abbrev pub error_kind : ℕ
error_kind = 21

abbrev pub large_array_kind : ℕ
large_array_kind = 22

-- what no type has: the kind of no bytes
abbrev pub no_kind : ℕ
no_kind = 255
