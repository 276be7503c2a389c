-- The visibility that a byte stands for.
use Prim.Native.Nat.{ℕ, zero, suc, ◌≤◌, ◌<◌}
use lib.Dec.{eqb}
use mathlib.Core.Bool.{false}
use mathlib.Core.Path.{◌≡◌, refl, sym, ap, ◌∙◌}
use native.Mathlib.Omega.{arith}
use Rattle.std.proofs.lemmas.Bool.{ne_eqb}
use Rattle.std.specs.Prelude.{Result, Ok, Err}
use Rattle.std.specs.Result.{result_unwrap_or}
use Rattle.symbol.specs.Visibility.{visibility_number, visibility_from, ReadsVisibility}
use Rattle.symbol.specs.declared.visibility.Visibility.TheVariants.{Public, Protected, Internal, Private}
use Rattle.symbol.specs.declared.visibility.Visibility.{Visibility}
use Rattle.ty.proofs.Choice.{choose_no}
use Rattle.ty.specs.Choose.{choose}
use Rattle.ty.specs.declared.UnknownNumber.{UnknownNumber}

-- A VISIBILITY'S NUMBER stands for it
pub number_read : (v : Visibility) → visibility_from (visibility_number v) ≡ v
unfolding visibility_from choose
number_read Public = refl
number_read Protected = refl
number_read Internal = refl
number_read Private = refl

-- THE NUMBER of the visibility that a byte up to 3 stands for is that byte
pub visibility_kept : (b : ℕ) → b ≤ 3 → visibility_number (visibility_from b) ≡ b
unfolding visibility_from choose
visibility_kept zero h = refl
visibility_kept (suc zero) h = refl
visibility_kept (suc (suc zero)) h = refl
visibility_kept (suc (suc (suc zero))) h = refl
visibility_kept (suc (suc (suc (suc n)))) h = absurd (omega arith)

-- past the last it is Internal
past_last : (b : ℕ) → 3 < b → visibility_from b ≡ Internal
unfolding visibility_from
past_last b h =
    let other : (k : ℕ) → k ≤ 3 → eqb b k ≡ false = λ k l. ne_eqb b k (λ e. omega (arith, e)) in
    choose_no _ _ _ (other 0 (omega arith)) ∙ choose_no _ _ _ (other 1 (omega arith)) ∙ choose_no _ _ _ (other 3 (omega arith))

-- a byte that was read
pub read_so : (b : ℕ) (r : Result Visibility UnknownNumber) → ReadsVisibility b r → (v : Visibility) → v ≡ result_unwrap_or r Internal → v ≡ visibility_from b
read_so b (Ok w) h v e = e ∙ sym (number_read w) ∙ ap visibility_from h
read_so b (Err x) h v e = e ∙ sym (past_last b (omega (arith, h.1 Public, h.1 Protected, h.1 Internal, h.1 Private)))
