-- What the store of a source into a slot asks.
use Rattle.std.specs.Prelude.{ℕ, ◌≤◌, ◌<◌, List, length}
use Rattle.area.specs.Inside.Slot.{Child, type_at}
use Rattle.area.specs.Source.{type_from}
use Rattle.area.specs.declared.Source.{Source}
use Rattle.area.specs.declared.Source.TheVariants.{Kind, ListOf, Name, First, Second, Inner, Pointer, Part, Function}
use Rattle.ty.specs.Bytes.{Ty}

-- the children that a source reads have slots
unfoldable pub ReadsChildren : List Ty → ℕ → ℕ → ℕ → Source → Type 0
ReadsChildren slots node first second (Kind k) = Unit {0}
ReadsChildren slots node first second (ListOf k) = Unit {0}
ReadsChildren slots node first second (Name id) = Unit {0}
ReadsChildren slots node first second First = Child slots node first
ReadsChildren slots node first second Second = Child slots node second
ReadsChildren slots node first second Inner = Child slots node first
ReadsChildren slots node first second Pointer = Child slots node first
ReadsChildren slots node first second (Part p) = Unit {0}
ReadsChildren slots node first second (Function p) = Unit {0}

-- the type that a source stands for, its children being the nodes first and second
abbrev pub typed_by : List ℕ → List Ty → ℕ → ℕ → Source → Ty
typed_by table slots first second source = type_from table (type_at slots first) (type_at slots second) source

-- what a store of a source into slot `node` asks, where a slot has room for n bytes
pub record CanStore (n : ℕ) (table : List ℕ) (slots : List Ty) (node first second : ℕ) (source : Source) : Type 0 where
  pub room : node < length slots
  pub reads : ReadsChildren slots node first second source
  pub short : length (typed_by table slots first second source) ≤ n
