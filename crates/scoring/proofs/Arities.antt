-- The number of arguments that an overload takes.
use Prim.Native.Nat.{ℕ, zero, suc, ◌+◌, ◌-◌}
use lib.ListN.{length, get_or}
use mathlib.Core.Bool.{Bool, true, false, cond, not, ◌||◌}
use mathlib.Core.List.{List, [], ◌∷◌}
use mathlib.Core.Path.{◌≡◌, refl, sym, ap, ◌∙◌}
use native.Mathlib.Omega.{arith}
use Rattle.std.specs.List.{slice_get, count_by}
use Rattle.std.proofs.lemmas.List.Recursion.{is_count_by}
use Rattle.std.proofs.lemmas.Option.{slice_get_within, slice_get-get_or}
use Rattle.std.specs.Prelude.{Option as Maybe, Some, None}
use Rattle.scoring.specs.Arity.{required, ends_vararg, last_vararg}
use Rattle.symbol.specs.Inside.LookupAnswer.{params_in}
use Rattle.symbol.specs.declared.functions.Param.{Param as Read}
use Rattle.ty.specs.Choose.{choose}

-- ---- how many are required
pub required_counted : (t : List ℕ) (ps : List Read) → required (params_in t ps) ≡ count_by (λ (p : Read). not (p.default || p.vararg)) ps
unfolding required choose
required_counted t ps = is_count_by (λ (qs : List Read). required (params_in t qs)) (λ (p : Read). not (p.default || p.vararg)) refl step ps
  where
    step : (p : Read) (qs : List Read) → required (params_in t (p ∷ qs)) ≡ cond (not (p.default || p.vararg)) (1 + required (params_in t qs)) (required (params_in t qs))
    step p qs = by (p.default || p.vararg)
      where
        by : (b : Bool) → choose b (required (params_in t qs)) (suc (required (params_in t qs))) ≡ cond (not b) (1 + required (params_in t qs)) (required (params_in t qs))
        by true = refl
        by false = omega arith

-- ---- the last parameter
last_read : (t : List ℕ) (v : Bool) (ps : List Read) (n : ℕ) → length ps ≡ suc n → (p : Read) → slice_get ps n ≡ Some p → p.vararg ≡ ends_vararg v (params_in t ps)
unfolding ends_vararg
last_read t v [] n h p e = absurd (omega arith)
last_read t v (q ∷ []) zero h p e = let g : q ≡ p = cc in sym (ap (λ (r : Read). r.vararg) g)
last_read t v (q ∷ []) (suc n) h p e = absurd (omega arith)
last_read t v (q ∷ r ∷ ps) zero h p e = absurd (omega arith)
last_read t v (q ∷ r ∷ ps) (suc n) h p e = last_read t q.vararg (r ∷ ps) n (omega arith) p e

pub last_some : (t : List ℕ) (ps : List Read) (p : Read) → Some p ≡ slice_get ps (length ps - 1) → p.vararg ≡ last_vararg (params_in t ps)
last_some t ps p e =
    let l = slice_get_within ps (length ps - 1) p (sym e) in
    last_read t false ps (length ps - 1) (omega arith) p (sym e)

pub last_none : (t : List ℕ) (ps : List Read) → None ≡ slice_get ps (length ps - 1) → false ≡ last_vararg (params_in t ps)
unfolding ends_vararg
last_none t [] e = refl
last_none t (q ∷ ps) e =
    let f = slice_get-get_or (q ∷ ps) (length (q ∷ ps) - 1) q (omega arith) in
    let z : ◌≡◌ {A = Maybe Read} None (Some (get_or (q ∷ ps) (length (q ∷ ps) - 1) q)) = e ∙ f in
    absurd cc
