-- The operators. Document 01, "Table and question": a binary node's operator byte in `BinOp` order 0 to 22, a unary node's in `UnOp` order 0 to 6 (ast.rs).
-- All of both enums, though not every one is named by a rule.
use Rattle.std.specs.Prelude.{ℕ}

abbrev pub add_op : ℕ
add_op = 0

abbrev pub sub_op : ℕ
sub_op = 1

abbrev pub mul_op : ℕ
mul_op = 2

abbrev pub div_op : ℕ
div_op = 3

abbrev pub mod_op : ℕ
mod_op = 4

abbrev pub eq_op : ℕ
eq_op = 5

abbrev pub ne_op : ℕ
ne_op = 6

abbrev pub lt_op : ℕ
lt_op = 7

abbrev pub gt_op : ℕ
gt_op = 8

abbrev pub le_op : ℕ
le_op = 9

abbrev pub ge_op : ℕ
ge_op = 10

abbrev pub and_op : ℕ
and_op = 11

abbrev pub or_op : ℕ
or_op = 12

abbrev pub bit_and_op : ℕ
bit_and_op = 13

abbrev pub bit_or_op : ℕ
bit_or_op = 14

abbrev pub bit_xor_op : ℕ
bit_xor_op = 15

abbrev pub shl_op : ℕ
shl_op = 16

abbrev pub shr_op : ℕ
shr_op = 17

abbrev pub ushr_op : ℕ
ushr_op = 18

abbrev pub assign_op : ℕ
assign_op = 19

abbrev pub to_op : ℕ
to_op = 20

abbrev pub is_op : ℕ
is_op = 21

abbrev pub as_op : ℕ
as_op = 22

abbrev pub minus_op : ℕ
minus_op = 0

abbrev pub not_op : ℕ
not_op = 1

abbrev pub increment_op : ℕ
increment_op = 2

abbrev pub decrement_op : ℕ
decrement_op = 3

abbrev pub addr_of_op : ℕ
addr_of_op = 4

abbrev pub dereference_op : ℕ
dereference_op = 5

abbrev pub not_null_op : ℕ
not_null_op = 6
