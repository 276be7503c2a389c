-- Order 6 by computation: a class that is reached along many ways, of each length from three steps to seven.
use Prim.Native.Nat.{ℕ, ◌+◌, ◌-◌}
use lib.Dec.{ltb}
use mathlib.Core.Bool.{true, false}
use mathlib.Core.List.{[]}
use mathlib.Core.Path.{◌≡◌, refl}
use Rattle.below.specs.Below.{by_way_of, met_within, is_below}
use Rattle.std.proofs.Math.Option.{none}
use Rattle.symbol.specs.Subclass.{climbs, is_subclass}
use Rattle.symbol.specs.Symbols.{Symbols}
use Rattle.ty.specs.Choose.{choose}
use Rattle.ty.specs.Name.{no_id}

-- the class so many before class c, from 40 on
abbrev before_by : ℕ → ℕ → ℕ
before_by n c = choose (ltb c (40 + n)) no_id (c - n)

-- a table of eight classes, from 40 to 47, and nothing else: the superclass of each is the one before it, its interfaces are the two before that
abbrev tower : Symbols
tower =
    record {
      classes = 8;
      super_of = before_by 1;
      first_interface_of = before_by 2;
      second_interface_of = before_by 3;
      package_of = λ class. no_id;
      in_types = λ class. false;
      operators_of = λ class. none;
      functions_of = λ owner name. [];
      field_of = λ owner name. none;
      visibility_of = λ owner name. none;
      is_suspend = λ owner name. false;
      is_variant = λ owner name. false;
      is_capital = λ id. false;
    }

pub record Tower : Type 0 where
  -- from the last class the first is reached
  first : is_below tower 47 40 ≡ true
  -- and no id before it, nor the class itself, nor from the first the last
  none_before : is_below tower 47 39 ≡ false
  itself : is_below tower 47 47 ≡ false
  downward : is_below tower 40 47 ≡ false
  -- protected access reaches the first along superclasses
  access : is_subclass tower 47 40 ≡ true

pub tower_cases : Tower
unfolding is_below met_within by_way_of is_subclass climbs choose
tower_cases = record { first = refl; none_before = refl; itself = refl; downward = refl; access = refl }
