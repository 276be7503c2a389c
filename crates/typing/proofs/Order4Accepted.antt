-- The claims of order 4 hold in every accepted table.
use Prim.Native.Nat.{ℕ}
use lib.ListN.{length}
use mathlib.Core.Bool.{Bool, true, false}
use mathlib.Core.List.Memᴰ
use mathlib.Core.List.{List, [], ◌∷◌, Memᴰ}
use mathlib.Core.Logic.{◌⊎◌, inl, inr}
use mathlib.Core.Path.{◌≡◌}
use Rattle.overload.proofs.AsBefore.{fitting_fits}
use Rattle.overload.proofs.Order4.{own_parameter, one_fits}
use Rattle.record.specs.TableRefused.{table_fault}
use Rattle.scoring.specs.Arg.{Arg}
use Rattle.scoring.specs.Arity.{any_own, own, usable, fits, fitting}
use Rattle.symbol.specs.Lookup.{symbols_of}
use Rattle.symbol.specs.Symbols.{Overload}
use Rattle.ty.specs.Choose.{choose}
use Rattle.typing.proofs.Distinct.{names_apart}
use Rattle.typing.specs.CleanCall.{candidates}
use Rattle.typing.specs.Order4Accepted.{functions, Order4Accepted}

-- ---- the overloads that a call looks at are among its functions
fitting_among : (n : ℕ) (os : List Overload) (v : Overload) → Memᴰ v (fitting n os) → Memᴰ v os
unfolding fitting choose
fitting_among n [] v m = absurd (Memᴰ.not-nil m)
fitting_among n (o ∷ os) v m = go (fits n o) m (fitting_among n os v)
  where
    under : (v ≡ o) ⊎ Memᴰ v (fitting n os) → (Memᴰ v (fitting n os) → Memᴰ v os) → Memᴰ v (o ∷ os)
    under (inl e) f = Memᴰ.head e
    under (inr k) f = Memᴰ.tail (f k)

    go : (b : Bool) → Memᴰ v (choose b (o ∷ fitting n os) (fitting n os)) → (Memᴰ v (fitting n os) → Memᴰ v os) → Memᴰ v (o ∷ os)
    go true k f = under (Memᴰ.cases_cons k) f
    go false k f = Memᴰ.tail (f k)

own_among : (os : List Overload) (v : Overload) → Memᴰ v (own os) → Memᴰ v os
unfolding own choose
own_among [] v m = absurd (Memᴰ.not-nil m)
own_among (o ∷ os) v m = go o.builtin m (own_among os v)
  where
    under : (v ≡ o) ⊎ Memᴰ v (own os) → (Memᴰ v (own os) → Memᴰ v os) → Memᴰ v (o ∷ os)
    under (inl e) f = Memᴰ.head e
    under (inr k) f = Memᴰ.tail (f k)

    go : (b : Bool) → Memᴰ v (choose b (own os) (o ∷ own os)) → (Memᴰ v (own os) → Memᴰ v os) → Memᴰ v (o ∷ os)
    go true k f = Memᴰ.tail (f k)
    go false k f = under (Memᴰ.cases_cons k) f

pub candidate_among : (os : List Overload) (xs : List Arg) (v : Overload) → Memᴰ v (candidates os xs) → Memᴰ v os
unfolding usable choose
candidate_among os xs v m = go (any_own os) m
  where
    go : (b : Bool) → Memᴰ v (fitting (length xs) (choose b (own os) os)) → Memᴰ v os
    go true k = own_among os v (fitting_among (length xs) (own os) v k)
    go false k = fitting_among (length xs) os v k

-- ---- the claims
pub order4_accepted : (t : List ℕ) → table_fault t ≡ 0 → (owner id n : ℕ) (xs : List Arg) → Order4Accepted t owner id n xs
order4_accepted t e owner id n xs =
    let os : List Overload = functions t owner id in
    record {
      each = λ v m. own_parameter (symbols_of t) v xs;
      call = one_fits (symbols_of t) os n xs;
      once = λ v m. (own_parameter (symbols_of t) v xs).once (names_apart t e owner id v m);
      only_vararg = λ v m.
          (own_parameter (symbols_of t) v xs).only_vararg (names_apart t e owner id v (candidate_among os xs v m)) (fitting_fits (length xs) (usable os) v m);
    }
