-- x where the test holds, else y. A chain of these is a chain of tests in order. It is not an abbreviation, so that the check compares two chains part by part.
use Rattle.std.specs.Prelude.{Bool, true, false}

module _ {A : Type 0} where
  unfoldable pub choose : Bool → A → A → A
  choose true x y = x
  choose false x y = y
