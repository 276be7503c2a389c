-- A list of functions is resolved alike where the lookups by one id are equal.
use Prim.Native.Nat.{ℕ, suc}
use lib.Dec.{eqb}
use lib.ListN.{length}
use mathlib.Core.Bool.{Bool, not, ◌&&◌, ◌||◌}
use mathlib.Core.List.{List, [], ◌∷◌, ◌++◌}
use mathlib.Core.Option.{Option, none, some}
use mathlib.Core.Path.{◌≡◌, refl}
use Rattle.agreement.specs.Agree.{SameById}
use Rattle.area.specs.DiagnosticKind.{mismatch_diag}
use Rattle.below.specs.Below.{is_below, met_within}
use Rattle.operators.specs.Assign.{assigns, can_assign}
use Rattle.operators.specs.Diag.{diag}
use Rattle.operators.specs.Operand.{is_kind}
use Rattle.overload.specs.Best.{Best, best, better, chosen, nobody}
use Rattle.overload.specs.Reports.{all_unknown, mismatch_one, mismatches}
use Rattle.overload.specs.Resolve.{resolve, resolve_in, settle}
use Rattle.rules.specs.Accept.{is_variable_name, param_accepts}
use Rattle.scoring.specs.Arg.{Arg}
use Rattle.scoring.specs.Arity.{any_own, fitting, usable}
use Rattle.scoring.specs.Score.{compared, plus, score, score_one, total}
use Rattle.scoring.specs.WithParams.{WithParam, with_params}
use Rattle.symbol.specs.Symbols.{Overload, Param, Symbols}
use Rattle.ty.specs.Bytes.{Ty, kind_of, name_of, same_bytes}
use Rattle.ty.specs.Choose.{choose}
use Rattle.ty.specs.Kind.{any_kind, error_kind, named_kind}

module _ (S T : Symbols) (N : SameById S T) where
  -- ---- what a parameter takes
  same_below : is_below S ≡ is_below T
  unfolding is_below
  same_below = λ i a b.
      met_within (λ c. N.super_of c i) (λ c. N.first_interface_of c i) (λ c. N.second_interface_of c i) (N.classes i) a b

  pub same_assigns : (a b : Ty) → assigns S a b ≡ assigns T a b
  same_assigns a b = λ i. can_assign (same_below i) a b

  pub same_variable : (id : ℕ) → is_variable_name S id ≡ is_variable_name T id
  same_variable id = λ i. N.is_capital id i && not (N.in_types id i)

  same_accepts : (p x : Ty) (v : Bool) → param_accepts S p x v ≡ param_accepts T p x v
  unfolding param_accepts
  same_accepts p x v = λ i.
      same_bytes x p || (same_assigns x p i || ((is_kind named_kind p && same_variable (name_of p) i) || (v || is_kind any_kind p)))

  -- ---- scores
  same_compared : (p : Param) (x : Ty) → compared S p x ≡ compared T p x
  unfolding compared
  same_compared p x = λ i. choose (same_bytes x p.ty) (some 2) (choose (same_accepts p.ty x p.vararg i) (some 1) none)

  same_one : (p : Option Param) (n : Option ℕ) (x : Ty) → score_one S p n x ≡ score_one T p n x
  unfolding score_one
  same_one (some p) n x = same_compared p x
  same_one none none x = refl
  same_one none (some id) x = refl

  same_total : (zs : List WithParam) → total S zs ≡ total T zs
  unfolding total
  same_total [] = refl
  same_total (z ∷ zs) = λ i. plus (same_one z.param z.arg.name z.arg.ty i) (same_total zs i)

  pub same_score : (o : Overload) (xs : List Arg) → score S o xs ≡ score T o xs
  unfolding score
  same_score o xs = same_total (with_params o.params xs)

  same_chosen : (b : Best) (os : List Overload) (xs : List Arg) → chosen S b os xs ≡ chosen T b os xs
  unfolding chosen
  same_chosen b [] xs = refl
  same_chosen b (o ∷ os) xs = λ i. same_chosen (better b o (same_score o xs i)) os xs i

  -- ---- the check of a single unmatched overload
  same_mismatch : (p : Option Param) (n : ℕ) (a : Arg) → mismatch_one S p n a ≡ mismatch_one T p n a
  unfolding mismatch_one
  same_mismatch none n a = refl
  same_mismatch (some p) n a = λ i.
      choose (same_accepts p.ty a.ty p.vararg i || (eqb (kind_of p.ty) any_kind || (eqb (kind_of a.ty) error_kind || eqb (kind_of a.ty) any_kind)))
      []
      (diag mismatch_diag a.node n ∷ [])

  same_mismatches : (n : ℕ) (zs : List WithParam) → mismatches S n zs ≡ mismatches T n zs
  unfolding mismatches
  same_mismatches n [] = refl
  same_mismatches n (z ∷ zs) = λ i. same_mismatch z.param n z.arg i ++ same_mismatches (suc n) zs i

  -- ---- the verdict
  same_settle : (n : ℕ) (xs : List Arg) (v : Overload) (vs : List Overload) (b : Best) → settle S n xs v vs b ≡ settle T n xs v vs b
  unfolding settle
  same_settle n xs v vs (best s first many) = refl
  same_settle n xs v [] nobody = λ i. record { ty = v.result; diags = all_unknown (v ∷ []) xs ++ same_mismatches 1 (with_params v.params xs) i }
  same_settle n xs v (w ∷ vs) nobody = refl

  same_resolve_in : (u : Bool) (n : ℕ) (xs : List Arg) (vs : List Overload) → resolve_in S u n xs vs ≡ resolve_in T u n xs vs
  unfolding resolve_in
  same_resolve_in u n xs [] = refl
  same_resolve_in u n xs (v ∷ vs) = λ i. same_settle n xs v vs (same_chosen nobody (v ∷ vs) xs i) i

  pub same_resolve : (os : List Overload) (n : ℕ) (xs : List Arg) → resolve S os n xs ≡ resolve T os n xs
  unfolding resolve
  same_resolve os n xs = same_resolve_in (any_own os) n xs (fitting (length xs) (usable os))
