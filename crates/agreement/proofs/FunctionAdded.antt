-- The lookups in a list of records with one function record more.
use Prim.Native.Nat.{ℕ, ◌-◌}
use lib.Dec.{eqb, ltb}
use lib.ListN.{length, get_or}
use mathlib.Core.Bool.{Bool, true, false, ◌&&◌}
use mathlib.Core.List.{List, [], ◌∷◌, ◌++◌, map}
use mathlib.Core.Path.{◌≡◌, refl, ap, sym, ◌∙◌}
use Rattle.std.proofs.lemmas.List.{map-append}
use Rattle.agreement.specs.Agree.{SameById, SameMembers}
use Rattle.record.specs.Layout.{record_kind, owner_field, name_field, package_field, types_field}
use Rattle.record.specs.Layout.{superclass_field, first_interface_field, second_interface_field}
use Rattle.record.specs.Table.{Record, name_count, of_kind, key_of, keyed}
use Rattle.symbol.specs.Lookup.{of_first, one_capital, overload_of, symbols_in}
use Rattle.ty.proofs.Choice.{choose_yes, choose_no}
use Rattle.ty.proofs.Same.{same_refl, ne_differ}
use Rattle.ty.specs.Bytes.{same_bytes}
use Rattle.ty.specs.Choose.{choose}
use Rattle.ty.specs.Name.{first_table_id}

-- a record is one of those that `keyed` takes
abbrev is_keyed : ℕ → List ℕ → Record → Bool
is_keyed kind key r = eqb (record_kind r) kind && same_bytes (key_of r) key

-- ---- a record more that is none of them
keyed_without : (kind : ℕ) (key : List ℕ) (front : List Record) (r : Record) (rear : List Record) → is_keyed kind key r ≡ false
    → keyed kind key (front ++ rear) ≡ keyed kind key (front ++ (r ∷ rear))
unfolding keyed
keyed_without kind key [] r rear e = sym (choose_no _ _ _ e)
keyed_without kind key (x ∷ front) r rear e =
    let p = keyed_without kind key front r rear e in
    λ i. choose (is_keyed kind key x) (x ∷ p i) (p i)

of_kind_without : (kind : ℕ) (front : List Record) (r : Record) (rear : List Record) → eqb (record_kind r) kind ≡ false
    → of_kind kind (front ++ rear) ≡ of_kind kind (front ++ (r ∷ rear))
unfolding of_kind
of_kind_without kind [] r rear e = sym (choose_no _ _ _ e)
of_kind_without kind (x ∷ front) r rear e =
    let p = of_kind_without kind front r rear e in
    λ i. choose (eqb (record_kind x) kind) (x ∷ p i) (p i)

-- ---- one that is, behind all others
keyed_last : (kind : ℕ) (key : List ℕ) (front : List Record) (r : Record) (rear : List Record) → is_keyed kind key r ≡ true → keyed kind key rear ≡ []
    → keyed kind key (front ++ (r ∷ rear)) ≡ keyed kind key (front ++ rear) ++ (r ∷ [])
unfolding keyed choose
keyed_last kind key [] r rear e h = choose_yes _ _ _ e ∙ (λ i. r ∷ h i) ∙ ap (λ (rs : List Record). rs ++ (r ∷ [])) (sym h)
keyed_last kind key (x ∷ front) r rear e h = go (is_keyed kind key x) (keyed_last kind key front r rear e h)
  where
    go : (t : Bool) → keyed kind key (front ++ (r ∷ rear)) ≡ keyed kind key (front ++ rear) ++ (r ∷ [])
        → choose t (x ∷ keyed kind key (front ++ (r ∷ rear))) (keyed kind key (front ++ (r ∷ rear)))
        ≡ choose t (x ∷ keyed kind key (front ++ rear)) (keyed kind key (front ++ rear)) ++ (r ∷ [])
    go true p = ap (λ (rs : List Record). x ∷ rs) p
    go false p = p

module _ (front : List Record) (r : Record) (rear : List Record) (function : record_kind r ≡ 4) where
  -- ---- it is of no other kind
  not_kind : (kind : ℕ) → eqb 4 kind ≡ false → eqb (record_kind r) kind ≡ false
  not_kind kind e = ap (λ (k : ℕ). eqb k kind) function ∙ e

  without : (kind : ℕ) (key : List ℕ) → eqb 4 kind ≡ false → keyed kind key (front ++ rear) ≡ keyed kind key (front ++ (r ∷ rear))
  without kind key e = keyed_without kind key front r rear (ap (λ (b : Bool). b && same_bytes (key_of r) key) (not_kind kind e))

  names_without : of_kind 1 (front ++ rear) ≡ of_kind 1 (front ++ (r ∷ rear))
  names_without = of_kind_without 1 front r rear (not_kind 1 refl)

  pub names_as_many : name_count (front ++ rear) ≡ name_count (front ++ (r ∷ rear))
  names_as_many = ap (λ (rs : List Record). length rs) names_without

  pub by_id_without : SameById (symbols_in (front ++ rear)) (symbols_in (front ++ (r ∷ rear)))
  unfolding symbols_in
  by_id_without = record {
    classes = ap (λ (rs : List Record). length rs) (of_kind_without 2 front r rear (not_kind 2 refl));
    super_of = λ class. ap (of_first _ superclass_field) (without 2 (class ∷ []) refl);
    first_interface_of = λ class. ap (of_first _ first_interface_field) (without 2 (class ∷ []) refl);
    second_interface_of = λ class. ap (of_first _ second_interface_field) (without 2 (class ∷ []) refl);
    package_of = λ class. ap (of_first _ package_field) (without 2 (class ∷ []) refl);
    in_types = λ class. ap (of_first _ (λ q. eqb (types_field q) 1)) (without 2 (class ∷ []) refl);
    operators_of = λ class. ap (of_first _ _) (without 3 (class ∷ []) refl);
    is_capital = λ id i. choose (ltb id first_table_id) false (one_capital (get_or (names_without i) (id - first_table_id) []));
  }

  pub members_without : SameMembers (λ id. true) (symbols_in (front ++ rear)) (symbols_in (front ++ (r ∷ rear)))
  unfolding symbols_in
  members_without = record {
    field_of = λ owner name k. ap (of_first _ _) (without 5 (owner ∷ name ∷ []) refl);
    visibility_of = λ owner name k. ap (of_first _ _) (without 6 (owner ∷ name ∷ []) refl);
    is_suspend = λ owner name k. ap (of_first _ _) (without 7 (owner ∷ name ∷ []) refl);
    is_variant = λ owner name k. ap (of_first _ _) (without 8 (owner ∷ name ∷ []) refl);
  }

  -- ---- its own list, and the others
  own_key : key_of r ≡ owner_field r ∷ name_field r ∷ []
  unfolding key_of choose
  own_key = rw function refl

  pub own_list : keyed 4 (owner_field r ∷ name_field r ∷ []) rear ≡ []
      → (symbols_in (front ++ (r ∷ rear))).functions_of (owner_field r) (name_field r)
      ≡ (symbols_in (front ++ rear)).functions_of (owner_field r) (name_field r) ++ (overload_of r ∷ [])
  unfolding symbols_in
  own_list last =
      let e : is_keyed 4 (owner_field r ∷ name_field r ∷ []) r ≡ true = rw (function, own_key) (same_refl (owner_field r ∷ name_field r ∷ [])) in
      ap (map overload_of) (keyed_last 4 (owner_field r ∷ name_field r ∷ []) front r rear e last)
      ∙ map-append overload_of (keyed 4 (owner_field r ∷ name_field r ∷ []) (front ++ rear)) (r ∷ [])

  pub other_lists : (owner name : ℕ) → (owner_field r ∷ name_field r ∷ [] ≡ owner ∷ name ∷ [] → ⊥)
      → (symbols_in (front ++ rear)).functions_of owner name ≡ (symbols_in (front ++ (r ∷ rear))).functions_of owner name
  unfolding symbols_in
  other_lists owner name h =
      let e : is_keyed 4 (owner ∷ name ∷ []) r ≡ false = rw (function, own_key) (ne_differ _ _ h) in
      ap (map overload_of) (keyed_without 4 (owner ∷ name ∷ []) front r rear e)
