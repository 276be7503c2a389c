-- The class records of an accepted table: they stand behind the names, 12 bytes each, and superclasses and interfaces are of earlier ones.
use Rattle.std.specs.Prelude.{ℕ, zero, suc, ◌+◌, ◌-◌, ◌*◌, ◌≤◌, ◌<◌, ◌≡◌, Bool, true, not, ◌&&◌, ◌||◌, List, [], ◌∷◌, length, eqb, Option, None, Some}
use Rattle.record.specs.Inside.Front.{front_of}
use Rattle.record.specs.Inside.FrontRecord.{count_of}
use Rattle.record.specs.Inside.HeadFault.{is_class, has_class}
use Rattle.record.specs.Table.{Record, records_of, name_count}
use Rattle.symbol.specs.Lookup.{symbols_of}
use Rattle.symbol.specs.Symbols.{Symbols}
use Rattle.ty.specs.Bytes.{id_at}
use Rattle.ty.specs.Choose.{choose}
use Rattle.ty.specs.Name.{no_id}

-- how many class records there are from that of c on
unfoldable pub classes_from : ℕ → List Record → ℕ
classes_from c [] = 0
classes_from c (r ∷ rs) = choose (is_class c (front_of r)) (suc (count_of 2 rs)) (classes_from c rs)

-- a class with a record has a rank from 1 on, the higher the later the record stands; others have 0
unfoldable pub rank_in : List Record → ℕ → ℕ
rank_in rs c = choose (has_class c rs) (suc (count_of 2 rs) - classes_from c rs) 0

-- the same in a table
abbrev pub rank_of : List ℕ → ℕ → ℕ
rank_of t c = rank_in (records_of t) c

-- how many class records stand before one of that rank
abbrev pub number_by : ℕ → Option ℕ
number_by zero = None
number_by (suc i) = Some i

-- where class record i begins, from 0 on
abbrev pub class_start : List ℕ → ℕ → ℕ
class_start t i = 26 * name_count (records_of t) + 12 * i

-- class i
abbrev pub class_at : List ℕ → ℕ → ℕ
class_at t i = id_at t (class_start t i + 1)

-- p is the superclass or an interface of a
abbrev pub is_parent : Symbols → ℕ → ℕ → Bool
is_parent S a p = not (eqb p no_id) && (eqb (S.super_of a) p || (eqb (S.first_interface_of a) p || eqb (S.second_interface_of a) p))

pub record ClassRun (t : List ℕ) : Type 0 where
  pub long : 26 * name_count (records_of t) + 12 * (symbols_of t).classes ≤ length t
  pub named : (c i : ℕ) → rank_of t c ≡ suc i → class_at t i ≡ c
  pub ranked : (i : ℕ) → i < (symbols_of t).classes → rank_of t (class_at t i) ≡ suc i
  pub super : (i : ℕ) → i < (symbols_of t).classes → (symbols_of t).super_of (class_at t i) ≡ id_at t (class_start t i + 3)
  pub first : (i : ℕ) → i < (symbols_of t).classes → (symbols_of t).first_interface_of (class_at t i) ≡ id_at t (class_start t i + 5)
  pub second : (i : ℕ) → i < (symbols_of t).classes → (symbols_of t).second_interface_of (class_at t i) ≡ id_at t (class_start t i + 7)
  pub lower : (c p : ℕ) → is_parent (symbols_of t) c p ≡ true → rank_of t p < rank_of t c
  pub low : (c : ℕ) → rank_of t c ≤ (symbols_of t).classes
  pub defined : (c p : ℕ) → is_parent (symbols_of t) c p ≡ true → p < 40 + name_count (records_of t)
