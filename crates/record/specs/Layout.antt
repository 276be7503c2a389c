-- What a record is. Document 01, "Table and question": a byte of kind, then fields one behind the other. Ids have 2 bytes, low byte first; flags, visibilities,
-- counts and name lengths 1.
use Rattle.std.specs.Prelude.{ℕ, zero, suc, ◌+◌, ltb, leb, eqb, length, get_or, take, drop, Bool, true, false, not, ◌&&◌, ◌||◌, List, [], ◌∷◌, ◌++◌}
use Rattle.std.specs.Prelude.{Result, Ok, Err}
use Rattle.ty.specs.Bytes.{id_at}
use Rattle.ty.specs.Choose.{choose}
use Rattle.ty.specs.Ids.{ids_in}
use Rattle.ty.specs.Read.{read_type, longest_type}
use Rattle.ty.specs.Name.{no_id}
use Rattle.ty.specs.declared.read.TypeFault.TheVariants.{Cut, Malformed, Endless}
use Rattle.ty.specs.declared.read.TypeFault.{TypeFault}
use Rattle.ty.specs.declared.read.TypeRead.{TypeRead}

pub data Field : Type 0 where
  name : Field  -- a name's length and its 24 bytes
  id : Field  -- the id of a name
  id_or_none : Field  -- the same, or 65,535 for none
  param : Field  -- the id of a parameter's name
  byte : ℕ → Field  -- a flag, a visibility or a count: at most this
  mask : ℕ → Field  -- 2 bytes: at most this
  type : Field
  unknown : Field  -- of a kind that does not exist

-- the fields of n parameters: name, flag (bit 0 default, bit 1 vararg), type
unfoldable pub param_fields : ℕ → List Field
param_fields zero = []
param_fields (suc n) = param ∷ byte 3 ∷ type ∷ param_fields n

-- The fields of a record of that kind; the first stands at byte 1. A function's count says how many parameters it has. Undefined flag and mask bits are 0.
-- Document 02, order 6: "The class record gains two interface ids behind its superclass, 65,535 for none".
unfoldable pub fields_of : ℕ → ℕ → List Field
fields_of kind count =
    choose (eqb kind 1) (name ∷ [])
    -- class: name, superclass, two interfaces, package, flag (bit 0: in `types`)
    (choose (eqb kind 2) (id ∷ id_or_none ∷ id_or_none ∷ id_or_none ∷ id_or_none ∷ byte 1 ∷ [])
    (choose (eqb kind 3) (id ∷ mask 2047 ∷ [])  -- operator set: class, mask (bit 0 plus to bit 10 ge)
    (choose (eqb kind 4) (id_or_none ∷ id ∷ byte 3 ∷ byte 1 ∷ byte 16 ∷ type ∷ param_fields count)  -- function: owner, name, visibility, flag, count; result
    (choose (eqb kind 5) (id ∷ id ∷ type ∷ [])  -- field: owner, name, type
    (choose (eqb kind 6) (id ∷ id ∷ byte 3 ∷ [])  -- member visibility: owner, name, visibility
    (choose (eqb kind 7) (id_or_none ∷ id ∷ [])  -- suspend function: owner, name
    (choose (eqb kind 8) (id ∷ id ∷ [])  -- enum variant: owner, name
    (unknown ∷ []))))))))

-- so many bytes of a name, each 33 to 126 but not 46, then zeros
unfoldable pub good_name : ℕ → List ℕ → Bool
good_name n [] = true
good_name zero (b ∷ bs) = eqb b 0 && good_name zero bs
good_name (suc n) (b ∷ bs) = (leb 33 b && (leb b 126 && not (eqb b 46))) && good_name n bs

-- ---- a field where it stands
pub record FieldAt : Type 0 where
  pub at : ℕ  -- its place in the record
  pub len : ℕ  -- how many bytes it has
  pub value : ℕ  -- the number that it holds
  pub ids : List ℕ  -- the ids that it uses
  pub names : List ℕ  -- a parameter's name
  pub malformed : Bool  -- malformed or cut
  pub endless : Bool  -- a type without end
  pub error : Bool  -- a type with Error in it, or without end

-- n bytes that hold a number, bad or not
abbrev pub plain_field : List ℕ → ℕ → ℕ → ℕ → Bool → List ℕ → List ℕ → FieldAt
plain_field s at n value bad ids names =
    record { at = at; len = n; value = value; ids = ids; names = names; malformed = ltb (length s) (at + n) || bad; endless = false; error = false }

-- a type that was read so, and its ids
abbrev pub typed : ℕ → ℕ → List ℕ → Bool → Bool → Bool → FieldAt
typed at n ids malformed endless error =
    record { at = at; len = n; value = 0; ids = ids; names = []; malformed = malformed; endless = endless; error = error }

abbrev pub type_read : ℕ → List ℕ → Result TypeRead TypeFault → FieldAt
type_read at ids (Ok found) = typed at found.len ids false false found.error
type_read at ids (Err Cut) = typed at 0 [] true false false
type_read at ids (Err Malformed) = typed at 0 [] true false false
type_read at ids (Err (Endless top error)) = typed at 0 ids false true true

-- the field at byte `at` of s
abbrev pub field_at : Field → List ℕ → ℕ → FieldAt
field_at name s at =
    plain_field s at 25 0 (ltb (get_or s at 0) 1 || (ltb 24 (get_or s at 0) || not (good_name (get_or s at 0) (take 24 (drop (at + 1) s))))) [] []
field_at id s at = plain_field s at 2 (id_at s at) false (id_at s at ∷ []) []
field_at id_or_none s at = plain_field s at 2 (id_at s at) false (choose (eqb (id_at s at) no_id) [] (id_at s at ∷ [])) []
field_at param s at = plain_field s at 2 (id_at s at) false (id_at s at ∷ []) (id_at s at ∷ [])
field_at (byte most) s at = plain_field s at 1 (get_or s at 0) (ltb most (get_or s at 0)) [] []
field_at (mask most) s at = plain_field s at 2 (id_at s at) (ltb most (id_at s at)) [] []
field_at type s at = type_read at (ids_in (drop at s) longest_type) (read_type (drop at s) longest_type)
field_at unknown s at = plain_field s at 0 0 true [] []

-- some fields from byte `at` on: behind a type without end nothing is read; what stands behind a malformed type does not matter, since the record is malformed
unfoldable pub fields_from : List Field → List ℕ → ℕ → List FieldAt
fields_from [] s at = []
fields_from (f ∷ fs) s at = field_at f s at ∷ choose (field_at f s at).endless [] (fields_from fs s (at + (field_at f s at).len))

-- the fields of the record at the front of s; of a function byte 7 is the count
abbrev pub fields_in : List ℕ → List FieldAt
fields_in s = fields_from (fields_of (get_or s 0 0) (get_or s 7 0)) s 1

unfoldable pub any_field : (FieldAt → Bool) → List FieldAt → Bool
any_field test [] = false
any_field test (p ∷ ps) = test p || any_field test ps

unfoldable pub each_field : (FieldAt → List ℕ) → List FieldAt → List ℕ
each_field list [] = []
each_field list (p ∷ ps) = list p ++ each_field list ps

unfoldable pub lengths : List FieldAt → ℕ
lengths [] = 0
lengths (p ∷ ps) = p.len + lengths ps

-- ---- a record
abbrev pub is_malformed : List ℕ → Bool
is_malformed s = any_field (λ p. p.malformed) (fields_in s)

abbrev pub is_endless : List ℕ → Bool
is_endless s = any_field (λ p. p.endless) (fields_in s)

abbrev pub has_error : List ℕ → Bool
has_error s = any_field (λ p. p.error) (fields_in s)

abbrev pub ids_used : List ℕ → List ℕ
ids_used s = each_field (λ p. p.ids) (fields_in s)

abbrev pub param_names : List ℕ → List ℕ
param_names s = each_field (λ p. p.names) (fields_in s)

-- a malformed record has no kind
unfoldable pub record_kind : List ℕ → ℕ
record_kind s = choose (is_malformed s) 0 (get_or s 0 0)

-- a record that is malformed or has a type without end takes all that is left
unfoldable pub record_size : List ℕ → ℕ
record_size s = choose (is_malformed s || is_endless s) (length s) (1 + lengths (fields_in s))

-- ---- its fields by number, from 0 on
abbrev pub nth_field : List FieldAt → ℕ → FieldAt
nth_field ps i = get_or ps i (typed 0 0 [] false false false)

abbrev pub field_bytes : List ℕ → FieldAt → List ℕ
field_bytes r p = take p.len (drop p.at r)

unfoldable pub value_in : ℕ → List ℕ → ℕ
value_in i r = (nth_field (fields_in r) i).value

unfoldable pub bytes_in : ℕ → List ℕ → List ℕ
bytes_in i r = field_bytes r (nth_field (fields_in r) i)

-- ---- and by name

-- of a class and an operator set
abbrev pub class_field : List ℕ → ℕ
class_field r = value_in 0 r

-- of a class
abbrev pub superclass_field : List ℕ → ℕ
superclass_field r = value_in 1 r

abbrev pub first_interface_field : List ℕ → ℕ
first_interface_field r = value_in 2 r

abbrev pub second_interface_field : List ℕ → ℕ
second_interface_field r = value_in 3 r

abbrev pub package_field : List ℕ → ℕ
package_field r = value_in 4 r

abbrev pub types_field : List ℕ → ℕ
types_field r = value_in 5 r

-- of an operator set
abbrev pub mask_field : List ℕ → ℕ
mask_field r = value_in 1 r

-- of kinds 4 to 8
abbrev pub owner_field : List ℕ → ℕ
owner_field r = value_in 0 r

abbrev pub name_field : List ℕ → ℕ
name_field r = value_in 1 r

-- of a member visibility
abbrev pub visibility_field : List ℕ → ℕ
visibility_field r = value_in 2 r

-- of a field
abbrev pub type_field : List ℕ → List ℕ
type_field r = bytes_in 2 r
