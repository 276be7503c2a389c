-- Ids of names. Document 01, "Types as bytes": the built-in names have fixed numbers, 0 Pair to 39 keys, and table names go on from 40.
use Rattle.std.specs.Prelude.{ℕ, ◌+◌, Bool, true, ◌&&◌, List, [], ◌∷◌, ltb, eqb, Option, None, Some}
use Rattle.ty.specs.Choose.{choose}

abbrev pub pair_id : ℕ
pair_id = 0

abbrev pub list_id : ℕ
list_id = 1

abbrev pub array_list_id : ℕ
array_list_id = 2

abbrev pub mutable_list_id : ℕ
mutable_list_id = 3

abbrev pub array_id : ℕ
array_id = 4

abbrev pub set_class_id : ℕ
set_class_id = 5

abbrev pub plus_id : ℕ
plus_id = 6

abbrev pub minus_id : ℕ
minus_id = 7

abbrev pub times_id : ℕ
times_id = 8

abbrev pub div_id : ℕ
div_id = 9

abbrev pub mod_id : ℕ
mod_id = 10

abbrev pub eq_id : ℕ
eq_id = 11

abbrev pub ne_id : ℕ
ne_id = 12

abbrev pub lt_id : ℕ
lt_id = 13

abbrev pub gt_id : ℕ
gt_id = 14

abbrev pub le_id : ℕ
le_id = 15

abbrev pub ge_id : ℕ
ge_id = 16

abbrev pub to_string_id : ℕ
to_string_id = 17

abbrev pub hash_code_id : ℕ
hash_code_id = 18

abbrev pub equals_id : ℕ
equals_id = 19

abbrev pub first_id : ℕ
first_id = 20

abbrev pub second_id : ℕ
second_id = 21

abbrev pub size_id : ℕ
size_id = 22

abbrev pub count_id : ℕ
count_id = 23

abbrev pub is_empty_id : ℕ
is_empty_id = 24

abbrev pub last_id : ℕ
last_id = 25

abbrev pub get_id : ℕ
get_id = 26

abbrev pub get_at_id : ℕ
get_at_id = 27

abbrev pub set_id : ℕ
set_id = 28

abbrev pub add_id : ℕ
add_id = 29

abbrev pub push_id : ℕ
push_id = 30

abbrev pub append_id : ℕ
append_id = 31

abbrev pub contains_id : ℕ
contains_id = 32

abbrev pub index_of_id : ℕ
index_of_id = 33

abbrev pub length_id : ℕ
length_id = 34

abbrev pub is_not_empty_id : ℕ
is_not_empty_id = 35

abbrev pub trim_id : ℕ
trim_id = 36

abbrev pub lowercase_id : ℕ
lowercase_id = 37

abbrev pub uppercase_id : ℕ
uppercase_id = 38

abbrev pub keys_id : ℕ
keys_id = 39

-- the first id of a table's names
abbrev pub first_table_id : ℕ
first_table_id = 40

-- no name: document 01, "In owner, superclass and package fields 65,535 means none"; document 02, order 6: the same in interface fields
abbrev pub no_id : ℕ
no_id = 65535

-- a number as an id or none, and an id or none as a number
unfoldable pub known_id : ℕ → Option ℕ
known_id n = choose (eqb n no_id) None (Some n)

abbrev pub id_number : Option ℕ → ℕ
id_number None = no_id
id_number (Some n) = n

-- an id is defined if it is a built-in name's or that of one of so many table names
abbrev pub id_defined : ℕ → ℕ → Bool
id_defined id names = ltb id (first_table_id + names)

-- every id of a list is defined
unfoldable pub all_defined : List ℕ → ℕ → Bool
all_defined [] names = true
all_defined (id ∷ ids) names = id_defined id names && all_defined ids names
