-- Diagnostics of single arguments, reported one after the other.
use Prim.Native.Nat.{ℕ, suc, ◌+◌, ◌*◌, ◌≤◌, ◌<◌}
use lib.ListN.{get_or, drop, length, length-append}
use mathlib.Core.Bool.{Bool, true, false}
use mathlib.Core.List.{List, [], ◌∷◌, ◌++◌}
use mathlib.Core.Option.{Option, none, some}
use mathlib.Core.Path.{◌≡◌, sym, ap, ◌∙◌}
use native.Mathlib.Omega.{arith}
use Rattle.area.proofs.Reporting.{reported_none, reported_join, reported_more}
use Rattle.area.specs.Diagnostic.{Diag}
use Rattle.area.specs.Reported.{reported}
use Rattle.area.specs.declared.reports.Reports.{Reports}
use Rattle.area.specs.Inside.Slot.{type_at}
use Rattle.scoring.proofs.ParamsAndArgsLeft.{params_length, args_next, args_none}
use Rattle.scoring.proofs.BothPasses.{unmarked_free}
use Rattle.scoring.specs.Arg.{Arg as Seen}
use Rattle.scoring.specs.declared.args.Arg.{Arg}
use Rattle.overload.specs.Reports.{absent, unknown_one, unknowns, all_unknown, mismatch_one, mismatches}
use Rattle.scoring.specs.Inside.Args.{args_in}
use Rattle.scoring.specs.Inside.Params.{param_here}
use Rattle.scoring.specs.Inside.Passes.{marks_of, unmarked}
use Rattle.scoring.specs.Inside.Received.{left_in, ReceivedIs}
use Rattle.scoring.specs.declared.parameter.Received.{Received}
use Rattle.overload.specs.Inside.DiagIf.{diag_if}
use Rattle.scoring.specs.WithParams.{param_named, free_params, parameter_for, left_behind, in_turn, with_params}
use Rattle.symbol.specs.Inside.LookupAnswer.{optional, params_in}
use Rattle.symbol.specs.Symbols.{Param, Overload, Symbols}
use Rattle.symbol.specs.declared.functions.Param.{Param as Read}
use Rattle.operators.specs.Diag.{diag}
use Rattle.ty.proofs.Choice.{by_choice, choose_yes, choose_no}
use Rattle.ty.specs.Bytes.{Ty}

pub reported_as : (b : Reports) {b' : Reports} {ds es : List Diag} → ds ≡ es → b' ≡ reported b ds → b' ≡ reported b es
reported_as b e w = w ∙ ap (λ (ds : List Diag). reported b ds) e

-- by the test of `report_if`
module _ (b : Reports) (t : Bool) (k node i : ℕ) where
  pub reported_yes : (b' : Reports) → t ≡ true → b' ≡ reported b (diag k node i ∷ []) → b' ≡ reported b (diag_if t k node i)
  unfolding diag_if
  reported_yes b' e f = reported_as b (sym (choose_yes _ _ _ e)) f

  pub reported_no : t ≡ false → b ≡ reported b (diag_if t k node i)
  unfolding diag_if
  reported_no e = reported_as b (sym (choose_no _ _ _ e)) (sym (reported_none b))

-- what is left, once its first part is reported
pub reported_then : (b : Reports) {b₁ : Reports} (ds es : List Diag) {left : List Diag} → left ≡ ds ++ es → b₁ ≡ reported b ds → reported b₁ es ≡ reported b left
reported_then b ds es e f = ap (λ (z : Reports). reported z es) f ∙ reported_join b ds es ∙ ap (λ (z : List Diag). reported b z) (sym e)

-- ---- unknown names
absent_few : (o : Option Param) (i n : ℕ) → length (absent o i n) ≤ 1
unfolding absent
absent_few none i n = omega arith
absent_few (some p) i n = omega arith

pub unknown_few : (m : Option ℕ) (ps : List Param) (i n : ℕ) → length (unknown_one m ps i n) ≤ 1
unfolding unknown_one
unknown_few none ps i n = omega arith
unknown_few (some id) ps i n = absent_few (param_named id ps) i n

pub unknowns_few : (ps : List Param) (i : ℕ) (xs : List Seen) → length (unknowns ps i xs) ≤ length xs
unfolding unknowns
unknowns_few ps i [] = omega arith
unknowns_few ps i (a ∷ xs) =
    omega
    (arith, length-append (unknown_one a.name ps i a.node) (unknowns ps (suc i) xs), unknown_few a.name ps i a.node, unknowns_few ps (suc i) xs)

-- the lent buffer is b, once the arguments before number i are looked at
pub record UnknownFrom (ps : List Read) (xs : List Arg) (b₀ b : Reports) (i : ℕ) : Type 0 where
  pub few : b.count ≤ b₀.count + i
  pub left : (t : List ℕ) (ts : List Ty) → reported b (unknowns (params_in t ps) (i + 1) (args_in ts (drop i xs))) ≡ reported b₀ (unknowns (params_in t ps) 1 (args_in ts xs))

module _ (ps : List Read) (xs : List Arg) (b₀ : Reports) where
  module _ (b : Reports) (i : ℕ) (w : UnknownFrom ps xs b₀ b i) (d : Arg) where
    pub unknown_turn : (b₁ : Reports) → i < length xs
        → ((t : List ℕ) → b₁ ≡ reported b (unknown_one (optional (get_or xs i d).name) (params_in t ps) (i + 1) (get_or xs i d).node)) → UnknownFrom ps xs b₀ b₁ (i + 1)
    unfolding unknowns
    unknown_turn b₁ h v =
        let x : Arg = get_or xs i d in
        record {
          few = omega
              (arith, w.few, reported_more b (unknown_one (optional x.name) (params_in [] ps) (i + 1) x.node) (v []), unknown_few (optional x.name) (params_in [] ps) (i + 1) x.node);
          left = λ t ts.
              let f : suc (i + 1) ≡ i + 1 + 1 = omega arith in
              reported_then b (unknown_one (optional x.name) (params_in t ps) (i + 1) x.node) (unknowns (params_in t ps) (i + 1 + 1) (args_in ts (drop (i + 1) xs)))
              (ap (λ (z : List Seen). unknowns (params_in t ps) (i + 1) z) (args_next ts xs i d h)
              ∙ ap (λ (k : ℕ). unknown_one (optional x.name) (params_in t ps) (i + 1) x.node ++ unknowns (params_in t ps) k (args_in ts (drop (i + 1) xs))) f)
              (v t) ∙ w.left t ts;
        }

  pub unknown_done : (b : Reports) (i : ℕ) → UnknownFrom ps xs b₀ b i → length xs ≤ i → (t : List ℕ) (ts : List Ty) → b ≡ reported b₀ (unknowns (params_in t ps) 1 (args_in ts xs))
  unfolding unknowns
  unknown_done b i w h t ts =
      sym (reported_none b) ∙ ap (λ (z : List Seen). reported b (unknowns (params_in t ps) (i + 1) z)) (sym (args_none ts xs i h)) ∙ w.left t ts

-- once per overload
pub all_unknown_few : (os : List Overload) (xs : List Seen) → length xs ≤ 16 → length (all_unknown os xs) ≤ 16 * length os
unfolding all_unknown
all_unknown_few [] xs h = omega arith
all_unknown_few (o ∷ os) xs h =
    omega
    (arith, length-append (unknowns o.params 1 xs) (all_unknown os xs), unknowns_few o.params 1 xs, all_unknown_few os xs h)

-- ---- the check of a single overload
module _ (S : Symbols) where
  mismatch_few : (o : Option Param) (i : ℕ) (a : Seen) → length (mismatch_one S o i a) ≤ 1
  unfolding mismatch_one
  mismatch_few none i a = omega arith
  mismatch_few (some p) i a = by_choice (λ (ds : List Diag). length ds ≤ 1) _ (λ _. omega arith) (λ _. omega arith)

  all_few : (ps fs : List Param) (i : ℕ) (xs : List Seen) → length (mismatches S i (in_turn ps fs xs)) ≤ length xs
  unfolding mismatches in_turn
  all_few ps fs i [] = omega arith
  all_few ps fs i (a ∷ xs) =
      let o = parameter_for ps fs a.name in
      let rest = mismatches S (suc i) (in_turn ps (left_behind fs a.name) xs) in
      omega (arith, length-append (mismatch_one S o i a) rest, mismatch_few o i a, all_few ps (left_behind fs a.name) (suc i) xs)

  pub mismatches_few : (ps : List Param) (xs : List Seen) → length (mismatches S 1 (with_params ps xs)) ≤ length xs
  mismatches_few ps xs = all_few ps (free_params ps xs) 1 xs

  -- an argument with its type
  abbrev pub seen : List Ty → Arg → Seen
  seen ts x = record { name = optional x.name; ty = type_at ts x.node; node = x.node }

  module _ (t : List ℕ) (ps : List Read) (marks : List Bool) (ts : List Ty) (xs : List Arg) (b₀ : Reports) where
    -- the lent buffer is b, once the arguments before number i are checked; from place `next` on parameters are left
    pub record MismatchFrom (b : Reports) (next i : ℕ) : Type 0 where
      pub few : b.count ≤ b₀.count + i
      pub left : reported b (mismatches S (i + 1) (in_turn (params_in t ps) (left_in t ps marks next) (args_in ts (drop i xs))))
          ≡ reported b₀ (mismatches S 1 (with_params (params_in t ps) (args_in ts xs)))

    pub mismatch_start : length ps ≤ 16 → marks ≡ marks_of (params_in t ps) (args_in ts xs) → MismatchFrom b₀ 0 0
    unfolding left_in
    mismatch_start h m =
        let wide : length (params_in t ps) ≤ 16 = omega (arith, params_length t ps) in
        let e : unmarked (params_in t ps) marks ≡ free_params (params_in t ps) (args_in ts xs)
        = ap (λ (z : List Bool). unmarked (params_in t ps) z) m ∙ unmarked_free (params_in t ps) (args_in ts xs) wide in
        record {
          few = omega arith;
          left = ap (λ (fs : List Param). reported b₀ (mismatches S 1 (in_turn (params_in t ps) fs (args_in ts xs)))) e;
        }

    module _ (b : Reports) (next i : ℕ) (w : MismatchFrom b next i) where
      pub mismatch_turn : (d : Arg) → i < length xs → (r : Received) → ReceivedIs t ps marks next (optional (get_or xs i d).name) r → (b₁ : Reports)
          → b₁ ≡ reported b (mismatch_one S (param_here t r.param) (i + 1) (seen ts (get_or xs i d))) → MismatchFrom b₁ r.next (i + 1)
      unfolding mismatches in_turn
      mismatch_turn d h r at b₁ told =
          let f : suc (i + 1) ≡ i + 1 + 1 = omega arith in
          let x : Seen = seen ts (get_or xs i d) in
          let p : List Param = params_in t ps in
          let fs : List Param = left_in t ps marks next in
          let here : b₁ ≡ reported b (mismatch_one S (parameter_for p fs x.name) (i + 1) x)
          = told ∙ ap (λ (o : Option Param). reported b (mismatch_one S o (i + 1) x)) at.param in
          let rest : List Diag = mismatches S (i + 1 + 1) (in_turn p (left_in t ps marks r.next) (args_in ts (drop (i + 1) xs))) in
          record {
            few = omega
                (arith, w.few, reported_more b (mismatch_one S (parameter_for p fs x.name) (i + 1) x) here, mismatch_few (parameter_for p fs x.name) (i + 1) x);
            left = reported_then b (mismatch_one S (parameter_for p fs x.name) (i + 1) x) rest
                (ap (λ (z : List Seen). mismatches S (i + 1) (in_turn p fs z)) (args_next ts xs i d h)
                ∙ ap (λ (k : ℕ). mismatch_one S (parameter_for p fs x.name) (i + 1) x ++ mismatches S k (in_turn p (left_behind fs x.name) (args_in ts (drop (i + 1) xs)))) f
                ∙ ap (λ (z : List Param). mismatch_one S (parameter_for p fs x.name) (i + 1) x ++ mismatches S (i + 1 + 1) (in_turn p z (args_in ts (drop (i + 1) xs)))) (sym at.left))
                here ∙ w.left;
          }

      pub mismatch_done : length xs ≤ i → b ≡ reported b₀ (mismatches S 1 (with_params (params_in t ps) (args_in ts xs)))
      unfolding mismatches in_turn
      mismatch_done h =
          sym (reported_none b)
          ∙ ap (λ (z : List Seen). reported b (mismatches S (i + 1) (in_turn (params_in t ps) (left_in t ps marks next) z))) (sym (args_none ts xs i h)) ∙ w.left
