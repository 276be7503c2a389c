-- What the rules see of a table, by its records' fields, is what the lookups by their heads find.
use Prim.Native.Nat.{ℕ, ◌+◌, ◌≤◌}
use borrow.Author.Tests.{eqb-true}
use lib.Dec.{eqb, ltb}
use lib.ListN.{length, get_or, take, drop, length-drop}
use lib.Seq.{take_all}
use mathlib.Core.Bool.{Bool, true, false, true≢false, ◌&&◌, ◌||◌}
use mathlib.Core.List.{List, [], ◌∷◌, map}
use mathlib.Core.Option.{none, some}
use mathlib.Core.Path.{◌≡◌, refl, sym, ap, ◌∙◌}
use native.Mathlib.Omega.{arith}
use Rattle.record.proofs.Accepts.{accepted_clean}
use Rattle.record.proofs.Agree.{same_error}
use Rattle.record.proofs.NoFault.{or_false}
use Rattle.record.proofs.EveryRecord.{Every, Own, records-own, with_every}
use Rattle.record.proofs.Laid.{kind_byte, same_kind, same_two, same_first_interface, same_second_interface, same_count, key_test}
use Rattle.record.specs.Inside.HeadFault.{first_interface_at, second_interface_at}
use Rattle.symbol.proofs.LaidFunctions.{type_length_lem, type_place, same_function}
use Rattle.symbol.proofs.Wholes.{field_whole}
use Rattle.record.specs.Inside.Front.{front_of}
use Rattle.record.specs.Inside.Keyed.{records_with, type_length}
use Rattle.symbol.specs.Inside.FoundSymbols.{super_in, first_interface_in, second_interface_in, package_in, types_in, mask_in, field_in, visibility_in, any_in, overload_found}
use Rattle.record.specs.Inside.FrontRecord.{count_of}
use Rattle.record.specs.Layout.{Field, name, id, id_or_none, param, byte, mask, type, unknown, FieldAt, field_at, type_read, fields_of, fields_from, fields_in, any_field, record_kind, nth_field, field_bytes, value_in, bytes_in, superclass_field, first_interface_field, second_interface_field, package_field, types_field, mask_field, visibility_field, type_field}
use Rattle.symbol.specs.Lookup.{overload_of, of_first, symbols_in, symbols_of}
use Rattle.record.specs.TableRefused.{table_fault}
use Rattle.record.specs.Table.{Record, records_of, key_of, keyed}
use Rattle.ty.proofs.Choice.{and_left}
use Rattle.ty.specs.Bytes.{Ty, id_at, same_bytes}
use Rattle.ty.specs.Choose.{choose}
use Rattle.ty.specs.Ids.{ids_in}
use Rattle.ty.specs.Read.{read_type, longest_type}
use Rattle.ty.specs.Name.{no_id}
use Rattle.ty.specs.declared.read.TypeFault.TheVariants.{Cut, Malformed, Endless}
use Rattle.ty.specs.declared.read.TypeFault.{TypeFault}
use Rattle.std.specs.Prelude.{Result, Ok, Err}
use Rattle.ty.specs.declared.read.TypeRead.{TypeRead}

-- ---- a record of a kind has that kind's fields
fields_by : (k : ℕ) → 1 ≤ k → (r : Record) → record_kind r ≡ k → fields_in r ≡ fields_from (fields_of k (get_or r 7 0)) r 1
fields_by k l r e = ap (λ (n : ℕ). fields_from (fields_of n (get_or r 7 0)) r 1) ((kind_byte r (omega arith)).1 ∙ e)

value_by : (i k : ℕ) → 1 ≤ k → (r : Record) → record_kind r ≡ k → value_in i r ≡ (nth_field (fields_from (fields_of k (get_or r 7 0)) r 1) i).value
unfolding value_in
value_by i k l r e = ap (λ (ps : List FieldAt). (nth_field ps i).value) (fields_by k l r e)

-- ---- the records with a key
same_keyed : (k a b : ℕ) → 2 ≤ k → (rs : List Record) → records_with k a b rs ≡ keyed k (choose (ltb k 4) (a ∷ []) (a ∷ b ∷ [])) rs
unfolding records_with keyed
same_keyed k a b l [] = refl
same_keyed k a b l (r ∷ rs) = λ i. choose (key_test k a b l r i) (r ∷ same_keyed k a b l rs i) (same_keyed k a b l rs i)

keyed_kind : (k : ℕ) (key : List ℕ) (rs : List Record) → Every (λ r. record_kind r ≡ k) (keyed k key rs)
unfolding keyed choose
keyed_kind k key [] = tt
keyed_kind k key (r ∷ rs) = go (eqb (record_kind r) k && same_bytes (key_of r) key) refl (keyed_kind k key rs)
  where
    go : (t : Bool) → (eqb (record_kind r) k && same_bytes (key_of r) key) ≡ t → Every (λ r. record_kind r ≡ k) (keyed k key rs)
        → Every (λ r. record_kind r ≡ k) (choose t (r ∷ keyed k key rs) (keyed k key rs))
    go true q ih = (eqb-true (record_kind r) k (and_left (eqb (record_kind r) k) (same_bytes (key_of r) key) q), ih)
    go false q ih = ih

-- of the first
module _ {A : Type 0} (d : A) (f g : Record → A) (k : ℕ) (alike : (r : Record) → record_kind r ≡ k → f r ≡ g r) where
  first_same : (rs : List Record) → Every (λ r. record_kind r ≡ k) rs → of_first d f rs ≡ of_first d g rs
  first_same [] e = refl
  first_same (r ∷ rs) e = alike r e.0

-- ---- one kind after the other
super_same : (r : Record) → record_kind r ≡ 2 → (front_of r).two ≡ value_in 1 r
super_same r k = same_two r (omega arith)

package_same : (r : Record) → record_kind r ≡ 2 → id_at r 9 ≡ value_in 4 r
unfolding fields_of fields_from choose
package_same r k = sym (value_by 4 2 (omega arith) r k)

types_same : (r : Record) → record_kind r ≡ 2 → eqb (get_or r 11 0) 1 ≡ eqb (value_in 5 r) 1
unfolding fields_of fields_from choose
types_same r k = ap (λ (n : ℕ). eqb n 1) (sym (value_by 5 2 (omega arith) r k))

mask_same : (r : Record) → record_kind r ≡ 3 → some (front_of r).two ≡ some (value_in 1 r)
mask_same r k = ap (λ (n : ℕ). some n) (same_two r (omega arith))

visibility_same : (r : Record) → record_kind r ≡ 6 → some (get_or r 5 0) ≡ some (value_in 2 r)
unfolding fields_of fields_from choose
visibility_same r k = ap (λ (n : ℕ). some n) (sym (value_by 2 6 (omega arith) r k))

field_same : (r : Record) → (front_of r).kind ≡ 5 → (front_of r).error ≡ false → (front_of r).repeated ≡ false → Own r → drop 5 r ≡ bytes_in 2 r
unfolding fields_of fields_from choose bytes_in type_length
field_same r k e _ o =
    let w = field_whole r k e in
    let p = fields_by 5 (omega arith) r (sym (same_kind r) ∙ k) in
    let t = read_type (drop 5 r) longest_type in
    let a : take (type_length (drop 5 r)) (drop 5 r) ≡ drop 5 r = take_all (type_length (drop 5 r)) (drop 5 r) (omega (arith, length-drop 5 r, w.len)) in
    sym a ∙ (λ i. take (sym (type_length_lem 5 (ids_in (drop 5 r) longest_type) t) i) (drop (sym (type_place 5 (ids_in (drop 5 r) longest_type) t) i) r)) ∙ sym (ap (λ (ps : List FieldAt). field_bytes r (nth_field ps 2)) p)

-- ---- a type without end is an error
field_ends : (f : Field) (s : List ℕ) (at : ℕ) → (field_at f s at).error ≡ false → (field_at f s at).endless ≡ false
field_ends name s at e = refl
field_ends id s at e = refl
field_ends id_or_none s at e = refl
field_ends param s at e = refl
field_ends (byte n) s at e = refl
field_ends (mask n) s at e = refl
field_ends type s at e = go (ids_in (drop at s) longest_type) (read_type (drop at s) longest_type) e
  where
    go : (is : List ℕ) (r : Result TypeRead TypeFault) → (type_read at is r).error ≡ false → (type_read at is r).endless ≡ false
    go is (Ok t) q = refl
    go is (Err Cut) q = refl
    go is (Err Malformed) q = refl
    go is (Err (Endless top e)) q = absurd (true≢false q)
field_ends unknown s at e = refl

fields-end : (fs : List Field) (s : List ℕ) (at : ℕ) → any_field (λ p. p.error) (fields_from fs s at) ≡ false → any_field (λ p. p.endless) (fields_from fs s at) ≡ false
unfolding fields_from any_field choose
fields-end [] s at e = refl
fields-end (f ∷ fs) s at e =
    let o = or_false (field_at f s at).error (any_field (λ p. p.error) (choose (field_at f s at).endless [] (fields_from fs s (at + (field_at f s at).len)))) e in
    let z = field_ends f s at o.0 in
    go (field_at f s at).endless z (fields_from fs s (at + (field_at f s at).len)) (fields-end fs s (at + (field_at f s at).len)) o.1
  where
    go : (b : Bool) → b ≡ false → (ps : List FieldAt) → (any_field (λ p. p.error) ps ≡ false → any_field (λ p. p.endless) ps ≡ false)
        → any_field (λ p. p.error) (choose b [] ps) ≡ false → (b || any_field (λ p. p.endless) (choose b [] ps)) ≡ false
    go true q ps ih w = absurd (true≢false q)
    go false q ps ih w = ih w

-- ---- the functions
pub function_same : (r : Record) → (front_of r).kind ≡ 4 → (front_of r).error ≡ false → overload_found r ≡ overload_of r
function_same r k e =
    let q : record_kind r ≡ 4 = sym (same_kind r) ∙ k in
    let b = kind_byte r (omega arith) in
    same_function r (b.1 ∙ q) (fields-end (fields_of (get_or r 0 0) (get_or r 7 0)) r 1 (sym (same_error r b.0) ∙ e))

map_same : (rs : List Record) → Every (λ r. overload_found r ≡ overload_of r) rs → map overload_found rs ≡ map overload_of rs
map_same [] e = refl
map_same (r ∷ rs) e = λ i. e.0 i ∷ map_same rs e.1 i

field_first : (rs : List Record) → Every (λ r. drop 5 r ≡ bytes_in 2 r) rs → field_in rs ≡ of_first none (λ r. some (bytes_in 2 r)) rs
field_first [] e = refl
field_first (r ∷ rs) e = ap (λ (x : Ty). some x) e.0

-- ---- each lookup's own case distinction is `of_first`
super_first : (rs : List Record) → super_in rs ≡ of_first no_id (λ r. (front_of r).two) rs
super_first [] = refl
super_first (r ∷ rs) = refl

first_interface_first : (rs : List Record) → first_interface_in rs ≡ of_first no_id first_interface_at rs
first_interface_first [] = refl
first_interface_first (r ∷ rs) = refl

second_interface_first : (rs : List Record) → second_interface_in rs ≡ of_first no_id second_interface_at rs
second_interface_first [] = refl
second_interface_first (r ∷ rs) = refl

package_first : (rs : List Record) → package_in rs ≡ of_first no_id (λ r. id_at r 9) rs
package_first [] = refl
package_first (r ∷ rs) = refl

types_first : (rs : List Record) → types_in rs ≡ of_first false (λ r. eqb (get_or r 11 0) 1) rs
types_first [] = refl
types_first (r ∷ rs) = refl

mask_first : (rs : List Record) → mask_in rs ≡ of_first none (λ r. some (front_of r).two) rs
mask_first [] = refl
mask_first (r ∷ rs) = refl

visibility_first : (rs : List Record) → visibility_in rs ≡ of_first none (λ r. some (get_or r 5 0)) rs
visibility_first [] = refl
visibility_first (r ∷ rs) = refl

any-first : (rs : List Record) → any_in rs ≡ of_first false (λ r. true) rs
any-first [] = refl
any-first (r ∷ rs) = refl

-- WHAT THE RULES SEE of some records is what a lookup by their heads finds
module _ (rs : List Record) where
  pub classes_told : count_of 2 rs ≡ (symbols_in rs).classes
  unfolding symbols_in
  classes_told = same_count 2 rs

  pub super_told : (class : ℕ) → super_in (records_with 2 class 0 rs) ≡ (symbols_in rs).super_of class
  unfolding symbols_in choose
  super_told class =
      ap super_in (same_keyed 2 class 0 (omega arith) rs) ∙ super_first (keyed 2 (class ∷ []) rs)
      ∙ first_same no_id (λ r. (front_of r).two) superclass_field 2 super_same (keyed 2 (class ∷ []) rs) (keyed_kind 2 (class ∷ []) rs)

  pub first_interface_told : (class : ℕ) → first_interface_in (records_with 2 class 0 rs) ≡ (symbols_in rs).first_interface_of class
  unfolding symbols_in choose
  first_interface_told class =
      ap first_interface_in (same_keyed 2 class 0 (omega arith) rs) ∙ first_interface_first (keyed 2 (class ∷ []) rs)
      ∙ first_same no_id first_interface_at first_interface_field 2 same_first_interface (keyed 2 (class ∷ []) rs) (keyed_kind 2 (class ∷ []) rs)

  pub second_interface_told : (class : ℕ) → second_interface_in (records_with 2 class 0 rs) ≡ (symbols_in rs).second_interface_of class
  unfolding symbols_in choose
  second_interface_told class =
      ap second_interface_in (same_keyed 2 class 0 (omega arith) rs) ∙ second_interface_first (keyed 2 (class ∷ []) rs)
      ∙ first_same no_id second_interface_at second_interface_field 2 same_second_interface (keyed 2 (class ∷ []) rs) (keyed_kind 2 (class ∷ []) rs)

  pub package_told : (class : ℕ) → package_in (records_with 2 class 0 rs) ≡ (symbols_in rs).package_of class
  unfolding symbols_in choose
  package_told class =
      ap package_in (same_keyed 2 class 0 (omega arith) rs) ∙ package_first (keyed 2 (class ∷ []) rs)
      ∙ first_same no_id (λ r. id_at r 9) package_field 2 package_same (keyed 2 (class ∷ []) rs) (keyed_kind 2 (class ∷ []) rs)

  pub types_told : (class : ℕ) → types_in (records_with 2 class 0 rs) ≡ (symbols_in rs).in_types class
  unfolding symbols_in choose
  types_told class =
      ap types_in (same_keyed 2 class 0 (omega arith) rs) ∙ types_first (keyed 2 (class ∷ []) rs)
      ∙ first_same false (λ r. eqb (get_or r 11 0) 1) (λ r. eqb (types_field r) 1) 2 types_same (keyed 2 (class ∷ []) rs) (keyed_kind 2 (class ∷ []) rs)

  pub mask_told : (class : ℕ) → mask_in (records_with 3 class 0 rs) ≡ (symbols_in rs).operators_of class
  unfolding symbols_in choose
  mask_told class =
      ap mask_in (same_keyed 3 class 0 (omega arith) rs) ∙ mask_first (keyed 3 (class ∷ []) rs)
      ∙ first_same none (λ r. some (front_of r).two) (λ r. some (mask_field r)) 3 mask_same (keyed 3 (class ∷ []) rs) (keyed_kind 3 (class ∷ []) rs)

  pub visibility_told : (owner n : ℕ) → visibility_in (records_with 6 owner n rs) ≡ (symbols_in rs).visibility_of owner n
  unfolding symbols_in choose
  visibility_told owner n =
      ap visibility_in (same_keyed 6 owner n (omega arith) rs) ∙ visibility_first (keyed 6 (owner ∷ n ∷ []) rs)
      ∙ first_same none (λ r. some (get_or r 5 0)) (λ r. some (visibility_field r)) 6 visibility_same (keyed 6 (owner ∷ n ∷ []) rs) (keyed_kind 6 (owner ∷ n ∷ []) rs)

  any_told : (k owner n : ℕ) → 4 ≤ k → any_in (records_with k owner n rs) ≡ of_first false (λ r. true) (keyed k (choose (ltb k 4) (owner ∷ []) (owner ∷ n ∷ [])) rs)
  any_told k owner n l = ap any_in (same_keyed k owner n (omega arith) rs) ∙ any-first (keyed k (choose (ltb k 4) (owner ∷ []) (owner ∷ n ∷ [])) rs)

  pub suspend_told : (owner n : ℕ) → any_in (records_with 7 owner n rs) ≡ (symbols_in rs).is_suspend owner n
  unfolding symbols_in choose
  suspend_told owner n = any_told 7 owner n (omega arith)

  pub variant_told : (owner n : ℕ) → any_in (records_with 8 owner n rs) ≡ (symbols_in rs).is_variant owner n
  unfolding symbols_in choose
  variant_told owner n = any_told 8 owner n (omega arith)

  pub functions-keyed : (owner n : ℕ) → records_with 4 owner n rs ≡ keyed 4 (owner ∷ n ∷ []) rs
  unfolding choose
  functions-keyed owner n = same_keyed 4 owner n (omega arith) rs

  pub functions_told : (owner n : ℕ) → map overload_of (records_with 4 owner n rs) ≡ (symbols_in rs).functions_of owner n
  unfolding symbols_in
  functions_told owner n = ap (map overload_of) (functions-keyed owner n)

-- the types in them, of an accepted table
module _ (t : List ℕ) (clean : table_fault t ≡ 0) where
  pub overloads_told : (owner n : ℕ) → map overload_found (records_with 4 owner n (records_of t)) ≡ (symbols_of t).functions_of owner n
  overloads_told owner n =
      map_same (records_with 4 owner n (records_of t))
      (with_every (λ r. overload_found r ≡ overload_of r) 4 owner n (λ r k e _ _. function_same r k e) [] (records_of t) (accepted_clean t clean) (records-own (length t) t (omega arith)))
      ∙ functions_told (records_of t) owner n

  pub field_told : (owner n : ℕ) → field_in (records_with 5 owner n (records_of t)) ≡ (symbols_of t).field_of owner n
  unfolding symbols_in choose
  field_told owner n =
      field_first (records_with 5 owner n (records_of t))
      (with_every (λ r. drop 5 r ≡ type_field r) 5 owner n field_same [] (records_of t) (accepted_clean t clean) (records-own (length t) t (omega arith)))
      ∙ ap (of_first none (λ r. some (type_field r))) (same_keyed 5 owner n (omega arith) (records_of t))
