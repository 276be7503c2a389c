-- What the lookups answer.
use Rattle.std.specs.Prelude.{Option, None, Some, ℕ, ◌+◌, ◌≤◌, ◌≡◌, List, [], ◌∷◌, map, length, drop, take}
use Rattle.std.specs.List.{All}
use Rattle.std.proofs.Math.Option as maybe
use Rattle.ty.specs.Bytes.{Ty}
use Rattle.ty.specs.declared.Part.{Part}
use Rattle.index.specs.declared.index.Place.{Place}
use Rattle.index.specs.Inside.Found.{Found}
use Rattle.symbol.specs.declared.functions.Param.{Param as Read}
use Rattle.symbol.specs.declared.functions.Function.{Function}
use Rattle.symbol.specs.Symbols.{Param, Overload}
use Rattle.symbol.specs.Visibility.{visibility_number}
use Rattle.symbol.specs.declared.visibility.Visibility.{Visibility}
use Rattle.record.specs.Layout.{record_size}
use Rattle.symbol.specs.Lookup.{overload_of}
use Rattle.record.specs.Table.{first_record, records_of, key_of, keyed}
use Rattle.index.specs.Inside.Found.{FunctionAt}

-- ---- what may be missing; a type by its place
abbrev pub optional : {A : Type 0} → Option A → maybe.Option A
optional None = maybe.none
optional (Some x) = maybe.some x

-- a visibility by its number
abbrev pub optional_level : Option Visibility → maybe.Option ℕ
optional_level None = maybe.none
optional_level (Some v) = maybe.some (visibility_number v)

abbrev pub part_of : List ℕ → Option Part → maybe.Option Ty
part_of t None = maybe.none
part_of t (Some p) = maybe.some (take p.len (drop p.start t))

-- a part lies in the table
abbrev pub PartIn : List ℕ → Option Part → Type 0
PartIn t None = Unit
PartIn t (Some p) = p.start + p.len ≤ length t

-- ---- a search for the records of kind k with the key a, b

-- ---- functions

-- the overload at a place
unfoldable pub overload_at : List ℕ → Place → Overload
overload_at t p = overload_of (first_record (drop p.at t))

-- the functions behind that at a place with its owner and name
unfoldable pub functions_behind : List ℕ → Place → List Overload
functions_behind t p =
    map overload_of (keyed 4 (key_of (first_record (drop p.at t))) (records_of (drop (p.at + record_size (drop p.at t)) t)))

-- a search among `all` finds nothing, or the first at a place and the others behind it
pub record FunctionIs (t : List ℕ) (all : List Overload) (p : Place) : Type 0 where
  pub first : all ≡ overload_at t p ∷ functions_behind t p
  pub here : FunctionAt t p

abbrev pub FunctionFound : List ℕ → List Overload → Found → Type 0
FunctionFound t all None = all ≡ []
FunctionFound t all (Some p) = FunctionIs t all p

-- ---- a function that was read: its types are parts of the table
abbrev pub param_seen : List ℕ → Read → Param
param_seen t p = record { name = p.name; default = p.default; vararg = p.vararg; ty = take p.part.len (drop p.part.start t) }

abbrev pub params_in : List ℕ → List Read → List Param
params_in t ps = map (param_seen t) ps

abbrev pub overload_in : List ℕ → Function → Overload
overload_in t f =
    record {
      builtin = f.builtin;
      visibility = f.visibility;
      params = params_in t f.params;
      result = take f.result.len (drop f.result.start t);
    }

-- a parameter's type lies in the table
abbrev pub InTable : List ℕ → Read → Type 0
InTable t p = p.part.start + p.part.len ≤ length t

-- a function that was read: it is that overload, and its types lie in the table
pub record FunctionRead (t : List ℕ) (o : Overload) (f : Function) : Type 0 where
  pub same : overload_in t f ≡ o
  pub result : f.result.start + f.result.len ≤ length t
  pub count : length f.params ≤ 16
  pub types : All (InTable t) f.params
