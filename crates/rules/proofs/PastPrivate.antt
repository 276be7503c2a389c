-- A visibility past Private is ruled as Internal.
use Prim.Native.Nat.{ℕ, ◌≤◌, ◌<◌}
use borrow.Author.Tests.{ne_eqb}
use lib.Dec.{eqb}
use mathlib.Core.Bool.{Bool, false}
use mathlib.Core.Path.{◌≡◌, sym, ◌∙◌}
use native.Mathlib.Omega.{arith}
use Rattle.question.specs.declared.Header.{Header}
use Rattle.rules.specs.Access.{blocked}
use Rattle.std.specs.Prelude.{Result, Ok, Err}
use Rattle.std.specs.Result.{result_unwrap_or}
use Rattle.symbol.specs.Symbols.{Symbols}
use Rattle.symbol.specs.Visibility.{visibility_number, internal_vis, private_vis, ReadsVisibility}
use Rattle.symbol.specs.declared.visibility.Visibility.TheVariants.{Public, Protected, Internal, Private}
use Rattle.symbol.specs.declared.visibility.Visibility.{Visibility}
use Rattle.ty.specs.Choose.{choose}
use Rattle.ty.specs.declared.UnknownNumber.{UnknownNumber}

module _ (S : Symbols) (H : Header) (vis owner : ℕ) where
  -- A NUMBER PAST PRIVATE is ruled as Internal
  access_past : private_vis < vis → blocked S H vis owner ≡ blocked S H internal_vis owner
  unfolding blocked choose
  access_past h =
      let other : (k : ℕ) → k ≤ private_vis → eqb vis k ≡ false = λ k l. ne_eqb vis k (λ e. omega (arith, e)) in
      rw (other 0 (omega arith), other 3 (omega arith), other 1 (omega arith))

  -- a byte that was read
  pub access_read : (read : Result Visibility UnknownNumber) → ReadsVisibility vis read → (v : Visibility) → v ≡ result_unwrap_or read Internal
      → (b : Bool) → b ≡ blocked S H (visibility_number v) owner → b ≡ blocked S H vis owner
  access_read (Ok w) h v e b f = f ∙ rw (e, h)
  access_read (Err x) h v e b f =
      f ∙ rw e (sym (access_past (omega (arith, h.1 Public, h.1 Protected, h.1 Internal, h.1 Private))))
