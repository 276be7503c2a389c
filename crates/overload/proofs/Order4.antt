-- The claims of order 4.
use Prim.Native.Nat.{ℕ}
use lib.ListN.{length}
use mathlib.Core.List.{List, [], ◌∷◌, ◌++◌}
use mathlib.Core.Option.{none}
use mathlib.Core.Path.{◌≡◌, refl, ap, subst, ◌∙◌}
use Rattle.overload.proofs.Exact.{exactly, bears}
use Rattle.overload.proofs.Taken.{args_kept, by_name, turns_lem, taken_differ, no_parameter}
use Rattle.overload.specs.Best.{nobody, best, better, chosen}
use Rattle.overload.specs.Order4.{Matches, OwnParameter, OneFits}
use Rattle.overload.specs.Reports.{unknowns, all_unknown}
use Rattle.overload.specs.Resolve.{tie_report, settle, resolve_in, resolve}
use Rattle.scoring.proofs.NoneAndNil.{append_nils}
use Rattle.scoring.specs.Arg.{Arg, Verdict}
use Rattle.scoring.specs.Arity.{any_own, usable, fitting}
use Rattle.scoring.specs.Score.{score}
use Rattle.scoring.specs.WithParams.{free_params}
use Rattle.symbol.specs.Symbols.{Overload, Symbols}
use Rattle.ty.specs.Choose.{choose}

module _ (S : Symbols) where
  pub own_parameter : (o : Overload) (xs : List Arg) → OwnParameter S o xs
  own_parameter o xs =
      record {
        order = args_kept o.params (free_params o.params xs) xs;
        named = by_name o.params (free_params o.params xs) xs;
        turns = turns_lem o.params xs;
        once = taken_differ o.params xs;
        only_vararg = no_parameter o xs;
        exactly = exactly S o xs;
      }

  module _ (os : List Overload) (n : ℕ) (xs : List Arg) (v : Overload) (e : fitting (length xs) (usable os) ≡ v ∷ []) where
    -- the call is settled by that overload
    settled : resolve S os n xs ≡ settle S n xs v [] (better nobody v (score S v xs))
    unfolding resolve resolve_in chosen
    settled = ap (λ (vs : List Overload). resolve_in S (any_own os) n xs vs) e

    none_bears : score S v xs ≡ none → (resolve S os n xs).diags ≡ [] → ⊥
    unfolding settle better
    none_bears f d =
        let s : resolve S os n xs ≡ settle S n xs v [] nobody = settled ∙ ap (λ z. settle S n xs v [] (better nobody v z)) f in
        bears S v xs f (subst (λ (r : Verdict). r.diags ≡ []) s d)

    match_silent : Matches S v xs → (resolve S os n xs).diags ≡ []
    unfolding settle better all_unknown tie_report choose
    match_silent (s, f) =
        let r : resolve S os n xs ≡ settle S n xs v [] (best s v 1) = settled ∙ ap (λ z. settle S n xs v [] (better nobody v z)) f in
        ap (λ (r : Verdict). r.diags) r ∙ append_nils {xs = unknowns v.params 1 xs ++ []} (append_nils ((exactly S v xs).0 (s, f)).0 refl) refl

  pub one_fits : (os : List Overload) (n : ℕ) (xs : List Arg) → OneFits S os n xs
  one_fits os n xs = record { bears = none_bears os n xs; silent_if = match_silent os n xs }
