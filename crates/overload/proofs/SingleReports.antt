-- What is reported at one argument or one call, by the tests before it.
use Prim.Native.Nat.{ℕ, suc, ◌+◌, ◌≤◌}
use lib.Dec.{eqb}
use lib.ListN.{length, take, drop}
use mathlib.Core.Bool.{Bool, true, false, true≢false, false≢true, not}
use mathlib.Core.List.{List, [], ◌∷◌, ◌++◌}
use mathlib.Core.Option.{Option, none, some}
use mathlib.Core.Path.{◌≡◌, refl, sym, ap, ◌∙◌}
use native.Mathlib.Omega.{arith}
use Rattle.area.specs.Diagnostic.{Diag}
use Rattle.std.specs.Prelude.{Option as Maybe, Some, None, is_some}
use Rattle.std.specs.Option.{MatchOption}
use Rattle.overload.proofs.ArgumentReports.{reported_as}
use Rattle.scoring.specs.Arg.{Arg}
use Rattle.overload.specs.Before.{suspend_allowed, suspend_report, method_reports}
use Rattle.overload.specs.Reports.{absent, unknown_one, suits, mismatch_one}
use Rattle.scoring.specs.Inside.Params.{as_place, named_place, param_here}
use Rattle.symbol.specs.Inside.LookupAnswer.{optional, params_in}
use Rattle.symbol.specs.declared.functions.Param.{Param as Read}
use Rattle.overload.specs.Inside.DiagIf.{diag_if, missing, unknown, suits_param}
use Rattle.area.proofs.Reporting.{reported_both, reported_more}
use Rattle.area.specs.Reported.{reported}
use Rattle.area.specs.declared.reports.Reports.{Reports}
use Rattle.scoring.specs.WithParams.{param_named}
use Rattle.scoring.specs.Inside.Params.{place_named}
use Rattle.question.specs.declared.Header.{Header}
use Rattle.rules.specs.Access.{blocked, access_report}
use Rattle.operators.specs.Diag.{diag, reported_at as at}
use Rattle.area.specs.DiagnosticKind.{suspend_diag, unknown_name_diag, mismatch_diag, access_diag}
use Rattle.operators.specs.Out.{Report, report, unless}
use Rattle.symbol.specs.Symbols.{Param, Symbols}
use Rattle.ty.proofs.Choice.{by_choice}
use Rattle.ty.specs.Bytes.{Ty}
use Rattle.ty.specs.Choose.{choose}

-- ---- an argument's name
-- a parameter has the name where it has a place
named_told : (id j : ℕ) (ps : List Param) → missing (param_named id ps) ≡ not (is_some (as_place (place_named id j ps)))
unfolding missing param_named place_named choose
named_told id j [] = refl
named_told id j (p ∷ ps) = go (eqb p.name id) (named_told id (suc j) ps)
  where
    go : (b : Bool) → missing (param_named id ps) ≡ not (is_some (as_place (place_named id (suc j) ps)))
        → missing (choose b (some p) (param_named id ps)) ≡ not (is_some (as_place (choose b (some j) (place_named id (suc j) ps))))
    go true f = refl
    go false f = f

row_named : (t : List ℕ) (ps : List Read) (id : ℕ) → missing (param_named id (params_in t ps)) ≡ not (is_some (as_place (place_named id 0 (params_in t ps))))
row_named t ps id = named_told id 0 (params_in t ps)

pub unknown_named : (t : List ℕ) (ps : List Read) (id : ℕ) (r : Maybe ℕ) → r ≡ named_place t ps id → (b : Bool) → is_some r ≡ not b → b ≡ unknown (some id) (params_in t ps)
unfolding unknown missing
unknown_named t ps id r e b d = go b (place_named id 0 (params_in t ps)) (sym (ap (λ (o : Maybe ℕ). is_some o) e) ∙ d) (row_named t ps id)
  where
    go : (b : Bool) (o : Option ℕ) → is_some (as_place o) ≡ not b → missing (param_named id (params_in t ps)) ≡ not (is_some (as_place o)) → b ≡ missing (param_named id (params_in t ps))
    go true none d f = sym f
    go false none d f = absurd (false≢true d)
    go true (some j) d f = absurd (true≢false d)
    go false (some j) d f = sym f

-- by `is_some_and`
pub unknown_by : (t : List ℕ) (ps : List Read) (m : Maybe ℕ) (Q : ℕ → Type 0) (b : Bool) → MatchOption m (b ≡ false) Q
    → ((id : ℕ) → Q id → is_some (named_place t ps id) ≡ not b) → b ≡ unknown (optional m) (params_in t ps)
unfolding unknown
unknown_by t ps None Q b w f = w
unknown_by t ps (Some id) Q b w f = unknown_named t ps id _ refl b (f id w)

pub unknown_told : (b : Bool) (m : Option ℕ) (ps : List Param) (i n : ℕ) → b ≡ unknown m ps → diag_if b unknown_name_diag n i ≡ unknown_one m ps i n
unfolding diag_if unknown missing unknown_one absent choose
unknown_told b none ps i n e = ap (λ (z : Bool). diag_if z unknown_name_diag n i) e
unknown_told b (some id) ps i n e = ap (λ (z : Bool). diag_if z unknown_name_diag n i) e ∙ go (param_named id ps)
  where
    go : (o : Option Param) → diag_if (missing o) unknown_name_diag n i ≡ absent o i n
    go none = refl
    go (some p) = refl

-- ---- an argument against the parameter that it gets
module _ (S : Symbols) (t : List ℕ) (o : Maybe Read) (x : Ty) where
  pub suits_none : o ≡ None → true ≡ suits_param S (param_here t o) x
  unfolding suits_param
  suits_none e = sym (ap (λ (z : Maybe Read). suits_param S (param_here t z) x) e)

  pub suits_some : (p : Read) → o ≡ Some p → (b q : List ℕ) → q ≡ take p.part.len (drop p.part.start b) → b ≡ t → (r : Bool) → r ≡ suits S q x p.vararg
      → r ≡ suits_param S (param_here t o) x
  unfolding suits_param
  suits_some p e b q at same r g =
      g ∙ ap (λ (z : Ty). suits S z x p.vararg) (at ∙ ap (λ (z : List ℕ). take p.part.len (drop p.part.start z)) same)
      ∙ sym (ap (λ (z : Maybe Read). suits_param S (param_here t z) x) e)

pub ruleset suits_told = (suits_none, suits_some)

pub mismatch_told : (S : Symbols) (o : Option Param) (i : ℕ) (a : Arg) (b : Bool) → b ≡ suits_param S o a.ty → diag_if (not b) mismatch_diag a.node i ≡ mismatch_one S o i a
unfolding diag_if mismatch_one suits_param choose
mismatch_told S none i a b e = ap (λ (z : Bool). diag_if (not z) mismatch_diag a.node i) e
mismatch_told S (some p) i a true e = ap (λ (z : Bool). choose z [] (diag mismatch_diag a.node i ∷ [])) e
mismatch_told S (some p) i a false e = ap (λ (z : Bool). choose z [] (diag mismatch_diag a.node i ∷ [])) e

-- ---- before the arguments
pub at_append : (n : ℕ) (rs ss : List Report) → at n (rs ++ ss) ≡ at n rs ++ at n ss
unfolding at
at_append n [] ss = refl
at_append n (r ∷ rs) ss = ap (λ (ds : List Diag). diag r.kind n r.number ∷ ds) (at_append n rs ss)

pub suspend_told : (S : Symbols) (H : Header) (owner id n : ℕ) → diag_if (not (suspend_allowed S H owner id)) suspend_diag n 0 ≡ at n (suspend_report S H owner id)
unfolding diag_if at suspend_report unless choose
suspend_told S H owner id n = go (suspend_allowed S H owner id)
  where
    go : (b : Bool) → diag_if (not b) suspend_diag n 0 ≡ at n (choose b [] (report suspend_diag 0 ∷ []))
    go true = refl
    go false = refl

-- reported, where a suspend function is called from outside of one, t being whether it is
pub suspend_reported : (S : Symbols) (H : Header) (owner id node : ℕ) (t : Bool) (b : Reports) {b' : Reports} → t ≡ not (suspend_allowed S H owner id)
    → b' ≡ reported b (diag_if t suspend_diag node 0) → b' ≡ reported b (at node (suspend_report S H owner id))
suspend_reported S H owner id node t b e w = reported_as b (ap (λ (z : Bool). diag_if z suspend_diag node 0) e ∙ suspend_told S H owner id node) w

pub access_told : (S : Symbols) (H : Header) (vis owner n : ℕ) → diag_if (blocked S H vis owner) access_diag n vis ≡ at n (access_report S H vis owner)
unfolding diag_if at access_report choose
access_told S H vis owner n = go (blocked S H vis owner)
  where
    go : (b : Bool) → diag_if b access_diag n vis ≡ at n (choose b (report access_diag vis ∷ []) [])
    go true = refl
    go false = refl

pub access_few : (S : Symbols) (H : Header) (vis owner n : ℕ) → length (at n (access_report S H vis owner)) ≤ 1
unfolding at access_report
access_few S H vis owner n = by_choice (λ (rs : List Report). length (at n rs) ≤ 1) _ (λ _. omega arith) (λ _. omega arith)

-- both reports of a method call, t being whether access is blocked
pub method_reported : (S : Symbols) (H : Header) (vis owner id node : ℕ) (t : Bool) (b : Reports) {b₁ b' : Reports} → t ≡ blocked S H vis owner
    → b₁ ≡ reported b (diag_if t access_diag node vis) → b' ≡ reported b₁ (at node (suspend_report S H owner id)) → b' ≡ reported b (at node (method_reports S H vis owner id))
method_reported S H vis owner id node t b e v w =
    reported_as b (sym (at_append node (access_report S H vis owner) (suspend_report S H owner id)))
    (reported_both b (at node (access_report S H vis owner)) (at node (suspend_report S H owner id))
    (reported_as b (ap (λ (z : Bool). diag_if z access_diag node vis) e ∙ access_told S H vis owner node) v) w)

pub diag_few : (b : Bool) (k n i : ℕ) → length (diag_if b k n i) ≤ 1
unfolding diag_if
diag_few b k n i = by_choice (λ (ds : List Diag). length ds ≤ 1) _ (λ _. omega arith) (λ _. omega arith)

-- at most one more
pub count_few : (t : Bool) (k node i : ℕ) (b : Reports) {b' : Reports} → b' ≡ reported b (diag_if t k node i) → b'.count ≤ b.count + 1
count_few t k node i b w = omega (arith, reported_more b (diag_if t k node i) w, diag_few t k node i)
