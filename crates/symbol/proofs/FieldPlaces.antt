-- The type of a field, by its place.
use Prim.Native.Nat.{ℕ, ◌+◌, ◌-◌}
use lib.ListN.{drop, take}
use mathlib.Core.List.{List, [], ◌∷◌}
use mathlib.Core.Option.{some}
use mathlib.Core.Path.{◌≡◌, refl, sym, ap, ◌∙◌}
use native.Mathlib.Omega.{arith}
use Rattle.index.proofs.ListSearch.{place-fits, place_inside, place-part}
use Rattle.index.specs.Inside.Found.{FoundIs}
use Rattle.std.specs.Prelude.{None, Some}
use Rattle.index.specs.Inside.Found.{Found}
use Rattle.record.proofs.Agree.{same_size}
use Rattle.record.proofs.Records.{at_start}
use Rattle.record.specs.Inside.Keyed.{records_with}
use Rattle.record.specs.Inside.Walk.{Sits}
use Rattle.record.specs.Table.{Record, records_of}
use Rattle.record.specs.TableRefused.{table_fault}
use Rattle.symbol.proofs.LaidLookups.{field_told}
use Rattle.symbol.proofs.PlacesFound.{places_from_lem, found-place}
use Rattle.symbol.specs.Inside.FoundSymbols.{field_in}
use Rattle.symbol.specs.Inside.LookupAnswer.{part_of, PartIn}
use Rattle.symbol.specs.Inside.Places.{places_from, first_place, field_part_at, field_part}
use Rattle.symbol.specs.Lookup.{symbols_of}
use Rattle.ty.specs.Bytes.{Ty}

module _ (t : List ℕ) (clean : table_fault t ≡ 0) (owner name : ℕ) where
  sits-start : Sits t 0
  sits-start = record { index = 0; at = at_start t }

  abbrev fields : List Record
  fields = records_with 5 owner name (records_of t)

  -- a field that a search found
  pub field_searched : (f : Found) → FoundIs t fields 5 owner name f → field_part_at t f ≡ field_part t owner name
  unfolding field_part
  field_searched f h = ap (field_part_at t) (found-place t clean 5 owner name (omega arith) 0 sits-start f h)

  part-found : (f : Found) → FoundIs t fields 5 owner name f → (part_of t (field_part_at t f) ≡ (symbols_of t).field_of owner name) × PartIn t (field_part_at t f)
  part-found None h = (sym (ap field_in h) ∙ field_told t clean owner name, tt)
  part-found (Some p) h =
      let z = same_size (drop p.at t) in
      let l = (place-fits t fields 5 owner name p h).field refl in (
        ap (λ (n : ℕ). some (take (n - 5) (drop (p.at + 5) t))) (sym z)
            ∙ ap (λ (x : Ty). some x) (sym (place-part t fields 5 owner name p h 5)) ∙ sym (ap field_in h.first) ∙ field_told t clean owner name,
        omega (arith, place_inside t fields 5 owner name p h, z, l),
      )

  -- THE BYTES OF A FIELD'S TYPE lie in the table
  pub field_part_lem : (part_of t (field_part t owner name) ≡ (symbols_of t).field_of owner name) × PartIn t (field_part t owner name)
  unfolding field_part
  field_part_lem = part-found (first_place (places_from t 5 (owner ∷ name ∷ []) 0)) (places_from_lem t clean 5 owner name (omega arith) 0 sits-start).found
