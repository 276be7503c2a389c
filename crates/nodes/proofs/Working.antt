-- Laws of the work at one node, on plain values.
use Prim.Native.Nat.{ℕ, zero, suc, ◌+◌, ◌≤◌, ◌<◌}
use lib.ListN.{length, take, drop, set, length-append, length-take}
use lib.Seq.{get_or-set_same}
use mathlib.Core.Bool.{Bool, true, not, ◌&&◌}
use mathlib.Core.List.{List, [], ◌∷◌, ◌++◌}
use mathlib.Core.Path.{◌≡◌, refl, sym, ap, ◌∙◌}
use native.Mathlib.Omega.{arith}
use Rattle.area.proofs.SlotsHeld.{reads_both_children}
use Rattle.area.proofs.Reporting.{reported_none as none_reported, reported_both, reported_more}
use Rattle.area.specs.Diagnostic.{Diag}
use Rattle.area.specs.Reported.{reported}
use Rattle.area.specs.declared.reports.Reports.{Reports}
use Rattle.area.specs.Inside.Slot.{Child, type_at}
use Rattle.area.specs.Source.{type_from}
use Rattle.area.specs.Inside.Storable.{ReadsChildren, CanStore}
use Rattle.area.specs.declared.Source.{Source}
use Rattle.area.specs.declared.Source.TheVariants.{Kind, First}
use Rattle.nodes.proofs.Reaching.{and_true, state_path}
use Rattle.nodes.specs.Inside.Call.{CallAsked}
use Rattle.nodes.specs.Inside.Progress.{inside_of, passed_over, finished_as, Finished}
use Rattle.nodes.specs.Inside.Rule.{LeafAsked, RuleAsked}
use Rattle.nodes.specs.declared.progress.State.{State}
use Rattle.scoring.specs.Arg.{Verdict}
use Rattle.overload.specs.Inside.Tally.{most_diagnostics}
use Rattle.question.specs.Inside.Skip.{skip_at}
use Rattle.question.specs.declared.node.Skipped.{Skipped}
use Rattle.operators.specs.Diag.{diag, reported_at as at_node}
use Rattle.operators.specs.Out.{Report, Out, error_ty}
use Rattle.operators.specs.Inside.Ruled.{reports_by, reports_of, out_of}
use Rattle.operators.specs.declared.ruled.Diagnostic.{Diagnostic}
use Rattle.std.proofs.Common.{Option, None, Some}
use Rattle.operators.specs.declared.ruled.Ruled.{Ruled}
use Rattle.symbol.specs.Inside.LookupAnswer.{FunctionIs, FunctionFound}
use Rattle.symbol.specs.Symbols.{Overload}
use Rattle.index.specs.Inside.Found.{Found}
use Rattle.index.specs.declared.index.Place.{Place}
use Rattle.ty.specs.Bytes.{Ty, plain_ty, same_bytes}
use Rattle.typing.specs.Mark.{no_error}

-- ---- what is reported at a node
pub at_length : (n : ℕ) (rs : List Report) → length (at_node n rs) ≡ length rs
unfolding at_node
at_length n [] = refl
at_length n (r ∷ rs) = ap suc (at_length n rs)

pub at_append : (n : ℕ) (rs ss : List Report) → at_node n (rs ++ ss) ≡ at_node n rs ++ at_node n ss
unfolding at_node
at_append n [] ss = refl
at_append n (r ∷ rs) ss = ap (λ (ds : List Diag). diag r.kind n r.number ∷ ds) (at_append n rs ss)

few_by : (kind number : ℕ) → length (reports_by kind number) ≤ 1
unfolding reports_by
few_by zero number = omega arith
few_by (suc k) number = omega arith

report_few : (o : Option Diagnostic) → length (reports_of o) ≤ 1
unfolding reports_of
report_few None = omega arith
report_few (Some d) = few_by d.kind d.number

-- a rule reports at most two
pub rule_few : (table : List ℕ) (x y : Ty) (r : Ruled) → length (out_of table x y r).reports ≤ 2
unfolding out_of
rule_few table x y r =
    omega (arith, length-append (reports_of r.first) (reports_of r.second), report_few r.first, report_few r.second)

-- ---- the buffer
pub reported_none : (b : Reports) (node : ℕ) (o : Option Diagnostic) → o ≡ None → b ≡ reported b (at_node node (reports_of o))
unfolding at_node reports_of
reported_none b node o e = rw e (sym (none_reported b))

-- a kind of 0 is no report, and every other one is
pub kind_none : (b : Reports) (node : ℕ) (o : Option Diagnostic) (d : Diagnostic) → o ≡ Some d → d.kind ≡ 0 → b ≡ reported b (at_node node (reports_of o))
unfolding at_node reports_of reports_by
kind_none b node o d z e = rw (z, e) (sym (none_reported b))

one_by : (node kind number : ℕ) → (kind ≡ 0 → ⊥) → at_node node (reports_by kind number) ≡ diag kind node number ∷ []
unfolding at_node reports_by
one_by node zero number n = absurd (n refl)
one_by node (suc k) number n = refl

pub kind_one : (node : ℕ) (d : Diagnostic) → (d.kind ≡ 0 → ⊥) → at_node node (reports_of (Some d)) ≡ diag d.kind node d.number ∷ []
unfolding reports_of
kind_one node d n = one_by node d.kind d.number n

-- ---- a node is finished
module _ {ts ts' : List Ty} {b b' : Reports} {n : ℕ} {t : Ty} {ds : List Diag} {s r : State} where
  pub finish : n < length ts → length ds ≤ most_diagnostics → ts' ≡ set ts n t → b' ≡ reported b ds → r ≡ finished_as s (type_at ts' n) → Finished s n t ds ts ts' b b' r
  unfolding no_error
  finish room few st rep e =
      let is : type_at ts' n ≡ t = ap (λ (w : List Ty). type_at w n) st ∙ get_or-set_same ts n t [] room in
      let fine : s.fine && not (same_bytes (type_at ts' n) error_ty) ≡ s.fine && (not (same_bytes t error_ty) && true)
      = ap (λ (u : Ty). s.fine && not (same_bytes u error_ty)) is ∙ ap (λ (x : Bool). s.fine && x) (sym (and_true (not (same_bytes t error_ty)))) in
      record { reached = record { result = e ∙ state_path _ _ refl refl fine; reports = rep }; stored = st; few = few }

-- ---- leaves, named arguments, unvisited arguments
pub leaf_short : (q : List ℕ) (len p n : ℕ) → len ≤ n → length (take len (drop p q)) ≤ n
leaf_short q len p n h = simp length-take (omega arith)

module _ {n : ℕ} {q : List ℕ} {ts ts' : List Ty} {len : ℕ} {s e r : State} where
  pub finish_leaf : LeafAsked n q ts len s → e ≡ inside_of s (len + 1) → ts' ≡ set ts s.node (take len (drop (s.at + 1) q)) → r ≡ finished_as e (type_at ts' s.node)
      → (b : Reports) → Finished (inside_of s (len + 1)) s.node (take len (drop (s.at + 1) q)) [] ts ts' b b r
  finish_leaf x i st f b = finish x.room (omega arith) st (sym (none_reported b)) (rw i at f)

module _ (table : List ℕ) {ts : List Ty} (node : ℕ) where
  pub named-store : {n : ℕ} → Child ts node (node + 1) → length (type_at ts (node + 1)) ≤ n → CanStore n table ts node (node + 1) (node + 1) First
  unfolding ReadsChildren type_from
  named-store h short = record { room = omega (arith, h.past, h.inside); reads = h; short = short }

  pub finish_named : {ts' : List Ty} {s r : State} → Child ts node (node + 1) → ts' ≡ set ts node (type_from table (type_at ts (node + 1)) (type_at ts (node + 1)) First)
      → r ≡ finished_as s (type_at ts' node) → (b : Reports) → Finished s node (type_at ts (node + 1)) [] ts ts' b b r
  unfolding type_from
  finish_named h st f b = finish (omega (arith, h.past, h.inside)) (omega arith) st (sym (none_reported b)) f

pub kind_store : {n : ℕ} (table : List ℕ) (ts : List Ty) (node kind : ℕ) → node < length ts → 0 < n → CanStore n table ts node node node (Kind kind)
unfolding ReadsChildren type_from
kind_store table ts node kind h k = record { room = h; reads = tt; short = omega arith }

module _ (q table : List ℕ) {ts ts' : List Ty} (n node kind : ℕ) (s : State) {r : State} {p : Skipped} where
  pub finish_unlisted : node < length ts → p ≡ skip_at q s.at n → ts' ≡ set ts node (type_from table (type_at ts node) (type_at ts node) (Kind kind))
      → r ≡ finished_as (record { at = p.at; node = s.node + p.nodes; fine = s.fine }) (type_at ts' node)
      → (b : Reports) → Finished (passed_over q s n) node (plain_ty kind) [] ts ts' b b r
  unfolding type_from
  finish_unlisted h e st f b = finish h (omega arith) st (sym (none_reported b)) (rw e at f)

-- ---- rules
pub one_more : (b : Reports) {b' : Reports} (node : ℕ) (o : Option Diagnostic) → b' ≡ reported b (at_node node (reports_of o)) → b'.count ≤ b.count + 1
one_more b node o x = omega (arith, reported_more b (at_node node (reports_of o)) x, at_length node (reports_of o), report_few o)

module _ (table : List ℕ) (ts : List Ty) (node second : ℕ) (b : Reports) (ruled : Ruled) where
  abbrev out : Out
  out = out_of table (type_at ts (node + 1)) (type_at ts second) ruled

  pub rule_store : {n : ℕ} → RuleAsked n ts node second b out → CanStore n table ts node (node + 1) second ruled.source
  unfolding out_of
  rule_store x = record {
    room = omega (arith, x.left.past, x.left.inside);
    reads = reads_both_children ts node (node + 1) second x.left x.right ruled.source;
    short = x.short;
  }

  pub finish_ruled : {n : ℕ} {ts' : List Ty} {b₁ b' : Reports} {s r : State} → RuleAsked n ts node second b out → b₁ ≡ reported b (at_node node (reports_of ruled.first))
      → b' ≡ reported b₁ (at_node node (reports_of ruled.second))
      → ts' ≡ set ts node (type_from table (type_at ts (node + 1)) (type_at ts second) ruled.source) → r ≡ finished_as s (type_at ts' node)
      → Finished s node out.ty (at_node node out.reports) ts ts' b b' r
  unfolding out_of
  finish_ruled x u v st f =
      let few : length (at_node node out.reports) ≤ 1048576 = omega (arith, at_length node out.reports, rule_few table (type_at ts (node + 1)) (type_at ts second) ruled) in
      finish (omega (arith, x.left.past, x.left.inside)) few st
      (rw (at_append node (reports_of ruled.first) (reports_of ruled.second)) (reported_both b (at_node node (reports_of ruled.first)) (at_node node (reports_of ruled.second)) u v)) f

pub asked_as : {n : ℕ} {ts : List Ty} {node second : ℕ} {b : Reports} {o p : Out} → p ≡ o → RuleAsked n ts node second b o → RuleAsked n ts node second b p
asked_as e x = rw e x

pub finished_as_lem : {s r : State} {n : ℕ} {o p : Out} {ts ts' : List Ty} {b b' : Reports} → o ≡ p → Finished s n o.ty (at_node n o.reports) ts ts' b b' r
    → Finished s n p.ty (at_node n p.reports) ts ts' b b' r
finished_as_lem e x = rw (← e) x

-- what a node takes whose rule has answered
pub ruleset ruled_as = (asked_as, finished_as_lem)

-- ---- calls
module _ {n : ℕ} (table : List ℕ) (source : Source) {ts : List Ty} {node : ℕ} {v : Verdict} {b : Reports} (x : CallAsked n ts node b v) (ty : (x y : Ty) → type_from table x y source ≡ v.ty) where
  pub call-store : ((l : List Ty) (m first second : ℕ) → ReadsChildren l m first second source) → CanStore n table ts node node node source
  call-store reads = record { room = x.room; reads = reads ts node node node; short = rw (ty (type_at ts node) (type_at ts node)) x.short }

  pub finish_called : {ts' : List Ty} {b' : Reports} {s r : State} → b' ≡ reported b v.diags → ts' ≡ set ts node (type_from table (type_at ts node) (type_at ts node) source)
      → r ≡ finished_as s (type_at ts' node) → Finished s node v.ty v.diags ts ts' b b' r
  finish_called rep st f = finish x.room x.most (rw (ty (type_at ts node) (type_at ts node)) at st) rep f

-- ---- a search for functions
module _ (t : List ℕ) (all : List Overload) where
  pub found_none : (r : Found) → FunctionFound t all r → r ≡ None → all ≡ []
  found_none r x e = rw e at x

  pub found_here_lem : (r : Found) (p : Place) → FunctionFound t all r → r ≡ Some p → FunctionIs t all p
  found_here_lem r p x e = rw e at x
