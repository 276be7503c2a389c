-- What definitions say of the record at the front of some bytes: kind, first two numbers, length, highest id, whether it is malformed, repeats a parameter's
-- name or has Error or no end in a type; and the parameters read so far. `front_at` and `reading_answer` say what the code answers for that. Law `head_laid`
-- (proofs LaidHead): the front is what the record's fields (`Layout`) say.
use Rattle.std.specs.Prelude.{ℕ, zero, suc, ◌+◌, ◌-◌, max, List, Bool, true, false, not, ◌&&◌, ◌||◌, length, get_or, drop, set, replicate, ltb, leb, eqb}
use Rattle.std.specs.Prelude.{Option, Some, None, Result, Ok, Err}
use Rattle.ty.specs.Choose.{choose}
use Rattle.ty.specs.Name.{no_id}
use Rattle.ty.specs.Bytes.{id_at}
use Rattle.ty.specs.Read.{read_type, longest_type}
use Rattle.ty.specs.declared.read.TypeFault.{TypeFault}
use Rattle.ty.specs.declared.read.TypeRead.{TypeRead}
use Rattle.ty.specs.declared.read.TypeFault.TheVariants.{Cut, Malformed, Endless}
use Rattle.record.specs.RecordKind.{record_kind_number}
use Rattle.record.specs.declared.front.Head.{Head}
use Rattle.record.specs.declared.params.Reading.{Reading}
use Rattle.record.specs.declared.params.ReadFault.{ReadFault}

pub record Front : Type 0 where
  pub kind : ℕ  -- of a malformed or cut record 0
  pub one : ℕ
  pub two : ℕ
  pub len : ℕ
  pub top : ℕ
  pub malformed : Bool
  pub repeated : Bool
  pub error : Bool

-- a malformed or cut record: it has no kind and takes all that is left
abbrev pub broken_head : List ℕ → Front
broken_head s = record { kind = 0; one = 0; two = 0; len = length s; top = 0; malformed = true; repeated = false; error = false }

-- what the code keeps of a record that is not malformed
abbrev pub front_of_head : Head → Front
front_of_head h =
    record {
      kind = record_kind_number h.kind;
      one = h.one;
      two = h.two;
      len = h.len;
      top = h.top;
      malformed = false;
      repeated = h.repeated;
      error = h.error;
    }

-- what it answers for the record at the front of s
abbrev pub front_at : List ℕ → Option Head → Front
front_at s None = broken_head s
front_at s (Some h) = front_of_head h

-- a record of n bytes with no type in it: malformed where fewer are left, or where it is bad
unfoldable pub plain_head : List ℕ → ℕ → Bool → ℕ → ℕ → ℕ → ℕ → Front
plain_head s n bad kind one two top =
    choose (ltb (length s) n) (broken_head s)
    (choose bad (broken_head s)
    (record { kind = kind; one = one; two = two; len = n; top = top; malformed = false; repeated = false; error = false }))

-- what an id that may be none counts for the highest id: 0, which is always defined, for none
unfoldable pub or_none : ℕ → ℕ
or_none id = choose (eqb id no_id) 0 id

-- ---- kind 1, name: length 1 to 24, 24 bytes zero-padded, each 33 to 126 but not 46

-- byte i of a name of n bytes
unfoldable pub good_byte : ℕ → ℕ → ℕ → Bool
good_byte n i b = choose (ltb i n) (leb 33 b && (leb b 126 && not (eqb b 46))) (eqb b 0)

-- the first k bytes of the name of n bytes in the record s
unfoldable pub good_bytes : ℕ → List ℕ → ℕ → Bool
good_bytes zero s n = true
good_bytes (suc k) s n = good_byte n k (get_or s (k + 2) 0) && good_bytes k s n

-- the first k bytes of a part, of which the first is byte `from` of the name
unfoldable pub good_part : ℕ → ℕ → List ℕ → ℕ → Bool
good_part zero from p n = true
good_part (suc k) from p n = good_byte n (k + from) (get_or p k 0) && good_part k from p n

-- what the code keeps of every name that is not malformed
abbrev pub name_front : Front
name_front = record { kind = 1; one = 0; two = 0; len = 26; top = 0; malformed = false; repeated = false; error = false }

unfoldable pub name_head : List ℕ → Front
name_head s = plain_head s 26 (ltb (get_or s 1 0) 1 || (ltb 24 (get_or s 1 0) || not (good_bytes 24 s (get_or s 1 0)))) 1 0 0 0

-- ---- kind 2, class: name, superclass, two interfaces, package, flag (bit 0: in `types`)
unfoldable pub class_head : List ℕ → Front
class_head s =
    plain_head s 12 (ltb 1 (get_or s 11 0)) 2 (id_at s 1) (id_at s 3)
    (max (id_at s 1) (max (or_none (id_at s 3)) (max (max (or_none (id_at s 5)) (or_none (id_at s 7))) (or_none (id_at s 9)))))

-- ---- kind 3, operator set: class, 2-byte mask, bit 0 plus to bit 10 ge
unfoldable pub operators_head : List ℕ → Front
operators_head s = plain_head s 5 (ltb 2047 (id_at s 3)) 3 (id_at s 1) (id_at s 3) (id_at s 1)

-- ---- kind 4, function: owner, name, visibility (0 Public, Protected, Internal, 3 Private), flag (bit 0 builtin), count to 16; result type; per parameter
-- name, flag (bit 0 default, bit 1 vararg), type

-- id is one of the first n of ids
unfoldable pub among : ℕ → List ℕ → ℕ → Bool
among zero ids id = false
among (suc n) ids id = eqb (get_or ids n 0) id || among n ids id

-- The result and the parameters read so far: the bytes passed, the highest id, whether a name was repeated, whether Error was met, the state (0 whole so far,
-- 1 malformed or cut, 2 a type without end), how many there are, and their names.
pub record Run : Type 0 where
  pub len : ℕ
  pub top : ℕ
  pub repeated : Bool
  pub error : Bool
  pub state : ℕ
  pub count : ℕ
  pub names : List ℕ

-- the code goes on from what is whole so far
abbrev pub run_of : Reading → Run
run_of c = record { len = c.len; top = c.top; repeated = c.repeated; error = c.error; state = 0; count = c.count; names = c.names }

-- what it keeps of a reading, the state aside
abbrev pub reading_of : Run → Reading
reading_of c = record { len = c.len; top = c.top; repeated = c.repeated; error = c.error; count = c.count; names = c.names }

-- what it answers: the reading, and where it has ended its state
unfoldable pub reading_answer : Run → Result Reading ReadFault
reading_answer c = choose (eqb c.state 0) (Ok (reading_of c)) (Err (record { read = reading_of c; state = c.state }))

-- a reading that meets malformed or cut bytes
abbrev pub stopped : Run → Run
stopped c = record { len = c.len; top = c.top; repeated = c.repeated; error = c.error; state = 1; count = c.count; names = c.names }

-- the reading that an answer tells
abbrev pub answered_run : Result Reading ReadFault → Run
answered_run (Ok c) = run_of c
answered_run (Err f) =
    record {
      len = f.read.len;
      top = f.read.top;
      repeated = f.read.repeated;
      error = f.read.error;
      state = f.state;
      count = f.read.count;
      names = f.read.names;
    }

-- one parameter more, of the name id, whose type was read so, and ends len bytes from the record's first
abbrev pub param_read : Run → ℕ → ℕ → ℕ → Bool → ℕ → Run
param_read c id len top error state =
    record {
      len = len;
      top = max (max c.top id) top;
      repeated = c.repeated || among c.count c.names id;
      error = c.error || error;
      state = state;
      count = c.count + 1;
      names = set c.names c.count id;
    }

-- the same in two parts: before a type in a record whose ids so far have the highest id top,
abbrev pub unread : ℕ → Run
unread top = record { len = 0; top = top; repeated = false; error = false; state = 0; count = 0; names = replicate 16 0 }

-- one parameter's name more,
abbrev pub name_passed : Run → ℕ → Run
name_passed c id =
    record {
      len = c.len;
      top = max c.top id;
      repeated = c.repeated || among c.count c.names id;
      error = c.error;
      state = c.state;
      count = c.count + 1;
      names = set c.names c.count id;
    }

-- and behind a type that begins at byte `at` and was read so
abbrev pub type_passed : Run → ℕ → Result TypeRead TypeFault → Run
type_passed c at (Ok found) =
    record {
      len = at + found.len;
      top = max c.top found.top;
      repeated = c.repeated;
      error = c.error || found.error;
      state = 0;
      count = c.count;
      names = c.names;
    }
type_passed c at (Err Cut) = stopped c
type_passed c at (Err Malformed) = stopped c
type_passed c at (Err (Endless top e)) =
    record { len = c.len; top = max c.top top; repeated = c.repeated; error = true; state = 2; count = c.count; names = c.names }

-- the name of a parameter whose type has no end counts, and so do the ids that were examined
abbrev pub param_with : Run → ℕ → Result TypeRead TypeFault → Run
param_with c id (Ok found) = param_read c id (c.len + 3 + found.len) found.top found.error 0
param_with c id (Err Cut) = stopped c
param_with c id (Err Malformed) = stopped c
param_with c id (Err (Endless top e)) = param_read c id c.len top true 2

-- one parameter further; a reading that has ended stays as it is
unfoldable pub param_step : List ℕ → Run → Run
param_step s c =
    choose (not (eqb c.state 0)) c
    (choose (ltb (length s - c.len) 3) (stopped c)
    (choose (ltb 3 (get_or s (c.len + 2) 0)) (stopped c) (param_with c (id_at s c.len) (read_type (drop (c.len + 3) s) longest_type))))

-- what the code answers for that; it takes a reading that has ended whatever its state is
unfoldable pub stepped : List ℕ → Result Reading ReadFault → Result Reading ReadFault
stepped s (Ok c) = reading_answer (param_step s (run_of c))
stepped s (Err f) = Err f

unfoldable pub run_params : ℕ → List ℕ → Run → Run
run_params zero s c = c
run_params (suc n) s c = run_params n s (param_step s c)

-- behind the result type, which was read so, in a record whose owner and name have the highest id
abbrev pub result_read : ℕ → ℕ → ℕ → Bool → ℕ → Run
result_read high len top error state =
    record { len = len; top = max high top; repeated = false; error = error; state = state; count = 0; names = replicate 16 0 }

abbrev pub result_with : ℕ → Result TypeRead TypeFault → Run
result_with high (Ok found) = result_read high (8 + found.len) found.top found.error 0
result_with high (Err Cut) = result_read high 8 0 false 1
result_with high (Err Malformed) = result_read high 8 0 false 1
result_with high (Err (Endless top e)) = result_read high 8 top true 2

abbrev pub first_reading : List ℕ → Run
first_reading s = result_with (max (or_none (id_at s 1)) (id_at s 3)) (read_type (drop 8 s) longest_type)

unfoldable pub params_read : List ℕ → Run
params_read s = run_params (get_or s 7 0) s (first_reading s)

abbrev pub function_read : ℕ → ℕ → ℕ → ℕ → Bool → Bool → Front
function_read one two len top repeated error =
    record { kind = 4; one = one; two = two; len = len; top = top; malformed = false; repeated = repeated; error = error }

-- a function record whose result and parameters were read as c
unfoldable pub function_with : List ℕ → Run → Front
function_with s c =
    choose (eqb c.state 0) (function_read (id_at s 1) (id_at s 3) c.len c.top c.repeated c.error)
    (choose (eqb c.state 2) (function_read (id_at s 1) (id_at s 3) (length s) c.top c.repeated c.error) (broken_head s))

-- a record of a kind with types, from what the code answers for them
abbrev pub typed_answer : List ℕ → ℕ → Result Reading ReadFault → Front
typed_answer s kind (Ok c) =
    record { kind = kind; one = id_at s 1; two = id_at s 3; len = c.len; top = c.top; malformed = false; repeated = c.repeated; error = c.error }
typed_answer s kind (Err f) =
    choose (eqb f.state 2)
    (record { kind = kind; one = id_at s 1; two = id_at s 3; len = length s; top = f.read.top; malformed = false; repeated = f.read.repeated; error = true })
    (broken_head s)

unfoldable pub function_head : List ℕ → Front
function_head s =
    choose (ltb (length s) 8) (broken_head s)
    (choose (ltb 3 (get_or s 5 0)) (broken_head s)
    (choose (ltb 1 (get_or s 6 0)) (broken_head s)
    (choose (ltb 16 (get_or s 7 0)) (broken_head s) (function_with s (params_read s)))))

-- ---- kind 5, field: owner, name, type
abbrev pub field_read : ℕ → ℕ → ℕ → ℕ → Bool → Front
field_read one two len top error =
    record { kind = 5; one = one; two = two; len = len; top = max (max one two) top; malformed = false; repeated = false; error = error }

abbrev pub field_with : List ℕ → ℕ → ℕ → Result TypeRead TypeFault → Front
field_with s one two (Ok found) = field_read one two (5 + found.len) found.top found.error
field_with s one two (Err Cut) = broken_head s
field_with s one two (Err Malformed) = broken_head s
field_with s one two (Err (Endless top e)) = field_read one two (length s) top true

unfoldable pub field_head : List ℕ → Front
field_head s = choose (ltb (length s) 5) (broken_head s) (field_with s (id_at s 1) (id_at s 3) (read_type (drop 5 s) longest_type))

-- ---- kinds 6 member visibility: owner, name, visibility; 7 suspend function: owner, name; 8 enum variant: owner, name

-- only a function and a suspend function may have no owner
unfoldable pub visibility_head : List ℕ → Front
visibility_head s = plain_head s 6 (ltb 3 (get_or s 5 0)) 6 (id_at s 1) (id_at s 3) (max (id_at s 1) (id_at s 3))

unfoldable pub suspend_head : List ℕ → Front
suspend_head s = plain_head s 5 false 7 (id_at s 1) (id_at s 3) (max (or_none (id_at s 1)) (id_at s 3))

unfoldable pub variant_head : List ℕ → Front
variant_head s = plain_head s 5 false 8 (id_at s 1) (id_at s 3) (max (id_at s 1) (id_at s 3))

-- a record of that kind; any other kind is malformed
unfoldable pub head_by : ℕ → List ℕ → Front
head_by kind s =
    choose (eqb kind 1) (name_head s)
    (choose (eqb kind 2) (class_head s)
    (choose (eqb kind 3) (operators_head s)
    (choose (eqb kind 4) (function_head s)
    (choose (eqb kind 5) (field_head s)
    (choose (eqb kind 6) (visibility_head s)
    (choose (eqb kind 7) (suspend_head s)
    (choose (eqb kind 8) (variant_head s)
    (broken_head s))))))))

unfoldable pub front_of : List ℕ → Front
front_of s = head_by (get_or s 0 0) s
