-- `is_subclass` of checker.rs: the climb along superclasses.
use Rattle.std.specs.Prelude.{ℕ, zero, suc, Bool, true, false, eqb}
use Rattle.ty.specs.Choose.{choose}
use Rattle.ty.specs.Name.{no_id}
use Rattle.symbol.specs.Symbols.{Symbols}

-- `above` is met in at most n steps from `class` up
unfoldable pub climbs : (ℕ → ℕ) → ℕ → ℕ → ℕ → Bool
climbs super zero class above = false
climbs super (suc n) class above =
    choose (eqb (super class) no_id) false (choose (eqb (super class) above) true (climbs super n (super class) above))

-- In an accepted table a superclass with a record stands earlier, so as many steps as there are classes are enough: the law `climb` says that
-- is_subclass S a b is false where a has no superclass, true where that is b, and else is_subclass S (S.super_of a) b.
unfoldable pub is_subclass : Symbols → ℕ → ℕ → Bool
is_subclass S class above = climbs S.super_of S.classes class above
