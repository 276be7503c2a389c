-- The visibilities. Document 01, "Table and question": 0 Public, Protected, Internal, 3 Private (`Visibility` of ast.rs).
-- All of the enum, though not every one is named by a rule.
use Rattle.std.specs.Prelude.{ℕ, ◌≡◌, ◌≢◌, eqb, Result, MatchResult}
use Rattle.symbol.specs.declared.visibility.Visibility.TheVariants.{Public, Protected, Internal, Private}
use Rattle.symbol.specs.declared.visibility.Visibility.{Visibility}
use Rattle.ty.specs.Choose.{choose}
use Rattle.ty.specs.declared.UnknownNumber.{UnknownNumber}

abbrev pub public_vis : ℕ
public_vis = 0

abbrev pub protected_vis : ℕ
protected_vis = 1

abbrev pub internal_vis : ℕ
internal_vis = 2

abbrev pub private_vis : ℕ
private_vis = 3

-- the number of each
abbrev pub visibility_number : Visibility → ℕ
visibility_number Public = public_vis
visibility_number Protected = protected_vis
visibility_number Internal = internal_vis
visibility_number Private = private_vis

-- the visibility with that number, or that number where no visibility has it
abbrev pub ReadsVisibility : ℕ → Result Visibility UnknownNumber → Type 0
ReadsVisibility n r = MatchResult r (λ v. visibility_number v ≡ n) (λ e. (e.0 ≡ n) × ((v : Visibility) → visibility_number v ≢ n))

-- the visibility that a record's byte stands for; past the last, as no accepted table has it, Internal
unfoldable pub visibility_from : ℕ → Visibility
visibility_from n =
    choose (eqb n public_vis) Public (choose (eqb n protected_vis) Protected (choose (eqb n private_vis) Private Internal))
