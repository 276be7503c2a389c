-- What a lookup reads of the record that a search found is what the rules see of the table.
use Prim.Native.Nat.{ℕ, ◌+◌, ◌-◌, ◌≤◌}
use lib.Dec.{eqb}
use lib.ListN.{get_or, drop}
use mathlib.Core.Bool.{Bool, false}
use mathlib.Core.List.{List, []}
use lib.Seq.{get_or-drop}
use mathlib.Core.Path.{◌≡◌, refl, sym, ap, ◌∙◌}
use native.Mathlib.Omega.{arith}
use Rattle.index.proofs.ListSearch.{place-two, place-fits, place_byte, place_id}
use Rattle.index.specs.Inside.Found.{Found, HereIs, FoundIs}
use Rattle.index.specs.declared.index.Place.{Place}
use Rattle.record.proofs.Agree.{same_size}
use Rattle.record.specs.Inside.Keyed.{records_with}
use Rattle.record.specs.Inside.Walk.{behind}
use Rattle.record.specs.Layout.{record_size}
use Rattle.record.specs.Table.{Record, records_of}
use Rattle.record.specs.TableRefused.{table_fault}
use Rattle.std.proofs.Math.Option as maybe
use Rattle.std.specs.Prelude.{None, Some}
use Rattle.std.specs.Option.{MatchOption}
use Rattle.symbol.proofs.FieldPlaces.{field_searched}
use Rattle.symbol.proofs.AcceptedTable.{level_small}
use Rattle.symbol.proofs.LaidLookups.{super_told, package_told, types_told, mask_told, visibility_told}
use Rattle.symbol.proofs.VisibilityBytes.{visibility_kept}
use Rattle.symbol.specs.Inside.LookupAnswer.{optional_level}
use Rattle.symbol.specs.Inside.Places.{field_part}
use Rattle.symbol.specs.Lookup.{symbols_of}
use Rattle.symbol.specs.Visibility.{visibility_number, visibility_from}
use Rattle.symbol.specs.declared.visibility.Visibility.{Visibility}
use Rattle.ty.proofs.Known.{known_none}
use Rattle.ty.specs.Bytes.{id_at}
use Rattle.ty.specs.Name.{known_id}

-- the records of kind k with the key a, b
abbrev found : List ℕ → ℕ → ℕ → ℕ → List Record
found t k a b = records_with k a b (records_of t)

module _ (t : List ℕ) (a b : ℕ) where
  -- ---- there is no record
  pub no_super : found t 2 a 0 ≡ [] → known_id ((symbols_of t).super_of a) ≡ None
  no_super h = known_none _ (rw (← super_told (records_of t) a, h))

  pub no_package : found t 2 a 0 ≡ [] → known_id ((symbols_of t).package_of a) ≡ None
  no_package h = known_none _ (rw (← package_told (records_of t) a, h))

  pub no_types : found t 2 a 0 ≡ [] → (symbols_of t).in_types a ≡ false
  no_types h = rw (← types_told (records_of t) a, h)

  pub no_mask : found t 3 a 0 ≡ [] → (symbols_of t).operators_of a ≡ maybe.none
  no_mask h = rw (← mask_told (records_of t) a, h)

  pub no_visibility : found t 6 a b ≡ [] → (symbols_of t).visibility_of a b ≡ maybe.none
  no_visibility h = rw (← visibility_told (records_of t) a b, h)

  pub no_field : table_fault t ≡ 0 → found t 5 a b ≡ [] → field_part t a b ≡ None
  no_field clean h = sym (field_searched t clean a b None h)

  -- ---- there is one
  module _ (p : Place) where
    pub super_here : HereIs t (found t 2 a 0) 2 a 0 p → (symbols_of t).super_of a ≡ id_at t (p.at + 3)
    super_here h = rw (← super_told (records_of t) a, h.first, place-two t _ 2 a 0 p h (omega arith))

    pub package_here : HereIs t (found t 2 a 0) 2 a 0 p → (symbols_of t).package_of a ≡ id_at t (p.at + 9)
    package_here h =
        let n = (place-fits t _ 2 a 0 p h).class refl in
        rw (← package_told (records_of t) a, h.first) (place_id t _ 2 a 0 p h 9 (omega arith))

    pub types_here : HereIs t (found t 2 a 0) 2 a 0 p → (symbols_of t).in_types a ≡ eqb (get_or t (p.at + 11) 0) 1
    types_here h =
        let n = (place-fits t _ 2 a 0 p h).class refl in
        rw (← types_told (records_of t) a, h.first, place_byte t _ 2 a 0 p h 11 (omega arith))

    pub mask_here : HereIs t (found t 3 a 0) 3 a 0 p → (symbols_of t).operators_of a ≡ maybe.some (id_at t (p.at + 3))
    mask_here h = rw (← mask_told (records_of t) a, h.first, place-two t _ 3 a 0 p h (omega arith))

    visibility_here : HereIs t (found t 6 a b) 6 a b p → (symbols_of t).visibility_of a b ≡ maybe.some (get_or t (p.at + 5) 0)
    visibility_here h =
        let n = (place-fits t _ 6 a b p h).visibility refl in
        rw (← visibility_told (records_of t) a b, h.first, place_byte t _ 6 a b p h 5 (omega arith))

    pub visibility_level : HereIs t (found t 6 a b) 6 a b p → (v : Visibility) → v ≡ visibility_from (get_or t (p.at + 5) 0)
        → optional_level (Some v) ≡ (symbols_of t).visibility_of a b
    visibility_level h v e =
        let z = get_or-drop p.at t 5 0 in
        let low : get_or t (p.at + 5) 0 ≤ 3 = omega (arith, level_small (drop p.at t) h.kind, z) in
        ap (λ (n : ℕ). maybe.some n) (ap visibility_number e ∙ visibility_kept (get_or t (p.at + 5) 0) low) ∙ sym (visibility_here h)

    pub field_here : table_fault t ≡ 0 → HereIs t (found t 5 a b) 5 a b p
        → field_part t a b ≡ Some (record { start = p.at + 5; len = record_size (drop p.at t) - 5 })
    field_here clean h = sym (field_searched t clean a b (Some p) h)

    -- its type is behind kind, owner and name
    pub field_behind : HereIs t (found t 5 a b) 5 a b p → p.at + 5 ≤ behind t p.at
    field_behind h = let l = (place-fits t _ 5 a b p h).field refl in omega (arith, l)

    pub field_length : (e : ℕ) → e ≡ behind t p.at → e - (p.at + 5) ≡ record_size (drop p.at t) - 5
    field_length e z = omega (arith, same_size (drop p.at t))

  -- ---- there is one or not
  pub types_answer : (f : Found) (r : Bool) → FoundIs t (found t 2 a 0) 2 a 0 f → (Said : Place → Type 0) → MatchOption f (r ≡ false) Said
      → ((p : Place) → Said p → r ≡ eqb (get_or t (p.at + 11) 0) 1) → r ≡ (symbols_of t).in_types a
  types_answer None r h Said m g = m ∙ sym (no_types h)
  types_answer (Some p) r h Said m g = g p m ∙ sym (types_here p h)
