-- The search for a parameter by its name.
use Prim.Native.Nat.{ℕ, zero, suc, ◌+◌, ◌<◌}
use lib.Dec.{eqb}
use lib.ListN.{length, drop}
use mathlib.Core.Bool.{Bool, true, false, cond}
use mathlib.Core.List.{List, [], ◌∷◌}
use mathlib.Core.Option.{some}
use mathlib.Core.Path.{◌≡◌, refl, sym, ap, ◌∙◌}
use Rattle.std.specs.Prelude.{Option as Maybe, Some}
use Rattle.std.specs.List.{position, position_from}
use Rattle.std.proofs.lemmas.Iterator.Adapters.{position_from-zero}
use native.Mathlib.Omega.{arith}
use Rattle.scoring.proofs.ParamsAndArgsLeft.{params_none}
use Rattle.scoring.specs.WithParams.{param_named}
use Rattle.scoring.specs.Inside.Params.{place_named, param_here, param_at, as_place, named_place}
use Rattle.symbol.specs.Inside.LookupAnswer.{param_seen, params_in}
use Rattle.symbol.specs.declared.functions.Param.{Param as Read}
use Rattle.ty.specs.Choose.{choose}

-- ---- by name: the place is the first where a name is that one
pub place_positioned : (t : List ℕ) (ps : List Read) (id : ℕ) → as_place (place_named id 0 (params_in t ps)) ≡ position (λ (p : Read). eqb p.name id) ps
unfolding place_named choose
place_positioned t ps id = from 0 ps ∙ sym (position_from-zero test ps)
  where
    test : Read → Bool
    test p = eqb p.name id

    from : (j : ℕ) (ps : List Read) → as_place (place_named id j (params_in t ps)) ≡ position_from test j ps
    from j [] = refl
    from j (p ∷ ps) = by (eqb p.name id) (let e : suc j ≡ j + 1 = omega arith in rw e (from (j + 1) ps))
      where
        by : (b : Bool) → as_place (place_named id (suc j) (params_in t ps)) ≡ position_from test (j + 1) ps
            → as_place (choose b (some j) (place_named id (suc j) (params_in t ps))) ≡ cond b (Some j) (position_from test (j + 1) ps)
        by true e = refl
        by false e = e

module _ (t : List ℕ) (ps : List Read) (id : ℕ) where
  -- what stands at that place
  row_param : (n j : ℕ) → n + j ≡ length ps → param_named id (params_in t (drop j ps)) ≡ param_here t (param_at ps (as_place (place_named id j (params_in t (drop j ps)))))
  unfolding place_named param_named choose
  row_param zero j h = let e = params_none t ps j (omega arith) in rw e
  row_param (suc n) j h = go (slice_of ps j (omega arith)) (row_param n (suc j) (omega arith))
    where
      slice_of : (ps : List Read) (j : ℕ) → j < length ps → (d : Read) × (drop j ps ≡ d ∷ drop (suc j) ps) × (param_at ps (Some j) ≡ Some d)
      slice_of [] j h = absurd (omega arith)
      slice_of (p ∷ ps) zero h = (p, refl, refl)
      slice_of (p ∷ ps) (suc j) h = slice_of ps j (omega arith)

      go : (s : (d : Read) × (drop j ps ≡ d ∷ drop (suc j) ps) × (param_at ps (Some j) ≡ Some d))
          → param_named id (params_in t (drop (suc j) ps)) ≡ param_here t (param_at ps (as_place (place_named id (suc j) (params_in t (drop (suc j) ps)))))
          → param_named id (params_in t (drop j ps)) ≡ param_here t (param_at ps (as_place (place_named id j (params_in t (drop j ps)))))
      go (d, e, f) ih = rw e (by (eqb d.name id) ih)
        where
          by : (b : Bool) → param_named id (params_in t (drop (suc j) ps)) ≡ param_here t (param_at ps (as_place (place_named id (suc j) (params_in t (drop (suc j) ps)))))
              → choose b (some (param_seen t d)) (param_named id (params_in t (drop (suc j) ps)))
              ≡ param_here t (param_at ps (as_place (choose b (some j) (place_named id (suc j) (params_in t (drop (suc j) ps))))))
          by true g = sym (ap (λ (o : Maybe Read). param_here t o) f)
          by false g = g

  module _ (r : Maybe ℕ) (e : r ≡ named_place t ps id) where
    pub param_named_is : param_named id (params_in t ps) ≡ param_here t (param_at ps r)
    param_named_is = row_param (length ps) 0 (omega arith) ∙ ap (λ (o : Maybe ℕ). param_here t (param_at ps o)) (sym e)
