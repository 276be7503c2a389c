-- A place that was found and its first byte, counted from 1; 0 is none.
use Prim.Native.Nat.{ℕ, zero, suc}
use mathlib.Core.Path.{◌≡◌, refl}
use Rattle.index.specs.Inside.Found.{Found, found_at}
use Rattle.std.specs.Prelude.{None, Some}

abbrev pub counted : Found → ℕ
counted None = 0
counted (Some p) = suc p.at

pub counted_found : (n : ℕ) → counted (found_at n) ≡ n
counted_found zero = refl
counted_found (suc p) = refl

pub found_counted : (f : Found) → found_at (counted f) ≡ f
found_counted None = refl
found_counted (Some p) = refl
