-- A call before its arguments are visited: laws of what it finds, and what the judge of a node needs of it.
use Prim.Native.Nat.{ℕ, ◌≤◌}
use lib.Dec.{eqb}
use lib.ListN.{length, length-append}
use mathlib.Core.Bool.{Bool, true, false}
use mathlib.Core.List.{List, [], ◌∷◌}
use mathlib.Core.Option.{Option, none, some}
use Rattle.std.proofs.Common as std
use Rattle.std.proofs.Common.{Some, None}
use Rattle.std.specs.Bool.{then_some}
use mathlib.Core.Path.{◌≡◌, refl, sym, ap, ◌∙◌}
use native.Mathlib.Omega.{arith}
use Rattle.area.proofs.Reporting.{reported_none}
use Rattle.area.specs.Reported.{reported}
use Rattle.area.specs.declared.reports.Reports.{Reports}
use Rattle.nodes.specs.Inside.Call.{owner_of, method_owner, finds_list, list_found, before_at, CallBegun, Begun}
use Rattle.nodes.specs.Inside.Row.{id_of}
use Rattle.operators.specs.Diag.{reported_at as at_node}
use Rattle.area.specs.DiagnosticKind.{suspend_diag}
use Rattle.operators.specs.Out.{Report, report, unless}
use Rattle.overload.specs.Before.{suspend_allowed, suspend_report, call_reports, method_reports}
use Rattle.question.specs.declared.Header.{Header}
use Rattle.rules.specs.Access.{access_report}
use Rattle.scoring.proofs.NoneAndNil.{some≢none}
use Rattle.symbol.specs.Symbols.{Overload, Symbols}
use Rattle.ty.proofs.Choice.{by_choice}
use Rattle.ty.specs.Bytes.{Ty, kind_of, name_of, non_null}
use Rattle.ty.specs.Choose.{choose}
use Rattle.ty.specs.Kind.{named_kind}
use Rattle.ty.specs.Name.{no_id}
use Rattle.typing.proofs.Base.{some_inj}
use Rattle.typing.specs.Callee.{Callee, base_name, call_in, call_of, method_in, method_by, method_of}

-- ---- what is read of the object
chosen_none : (x : ℕ) (b : Bool) → choose b (Some x) None ≡ None → b ≡ false
unfolding choose
chosen_none x true e = absurd (cc)
chosen_none x false e = refl

chosen_some : (x y : ℕ) (b : Bool) → choose b (Some x) None ≡ Some y → (b ≡ true) × (x ≡ y)
unfolding choose
chosen_some x y true e = (refl, cc)
chosen_some x y false e = absurd (cc)

-- ---- the contract of what begins a call
list_is : {node : ℕ} {b b' : Reports} (rs : List Report) (os : List Overload) → b' ≡ reported b (at_node node rs)
    → CallBegun node (some (record { before = rs; overloads = os })) b b' true
unfolding finds_list before_at
list_is rs os x = record { list = refl; reports = x }

no_list : {node : ℕ} (b : Reports) → CallBegun node none b b false
unfolding finds_list before_at
no_list b = record { list = refl; reports = sym (reported_none b) }

-- a method call tells whose list it has
owned_list : {owner node : ℕ} (found : Option Callee) {b b' : Reports} {listed : Bool} {r : std.Option ℕ} → CallBegun node found b b' listed → r ≡ then_some listed owner → Begun owner node found b b' r
unfolding finds_list list_found
owned_list none x e = record { list = rw x.list at e; reports = x.reports }
owned_list (some c) x e = record { list = rw x.list at e; reports = x.reports }

module _ (S : Symbols) (H : Header) (id node : ℕ) where
  pub call_none : (b : Reports) → S.functions_of no_id id ≡ [] → CallBegun node (call_of S H id) b b false
  unfolding call_in
  call_none b e = rw e (no_list b)

  pub call_some : {b b' : Reports} {o : Overload} {os : List Overload} → S.functions_of no_id id ≡ o ∷ os → b' ≡ reported b (at_node node (call_reports S H id))
      → CallBegun node (call_of S H id) b b' true
  unfolding call_in
  call_some {o = o} {os = os} e x = rw e (list_is (call_reports S H id) (o ∷ os) x)

  pub method_none : (b : Reports) (owner : ℕ) → S.functions_of owner id ≡ [] → CallBegun node (method_in S H owner id (S.functions_of owner id)) b b false
  unfolding method_in
  method_none b owner e = rw e (no_list b)

  pub method_some : {b b' : Reports} (owner vis : ℕ) {o : Overload} {os : List Overload} → S.functions_of owner id ≡ o ∷ os → vis ≡ o.visibility
      → b' ≡ reported b (at_node node (method_reports S H vis owner id)) → CallBegun node (method_in S H owner id (S.functions_of owner id)) b b' true
  unfolding method_in
  method_some owner vis {o = o} {os = os} e v x = rw e (list_is (method_reports S H o.visibility owner id) (o ∷ os) (rw v at x))

  module _ {r : std.Option ℕ} where
    pub owner_none : (b : Reports) (t : Ty) {o : std.Option ℕ} → o ≡ owner_of t → o ≡ None → r ≡ None → Begun (method_owner t) node (method_of S H id t) b b r
    unfolding method_by base_name choose list_found before_at
    owner_none b t e n f =
        rw (chosen_none (name_of (non_null t)) (eqb (kind_of (non_null t)) named_kind) (sym e ∙ n)) (record { list = f; reports = sym (reported_none b) })

    pub owner_some : (b b' : Reports) (t : Ty) (owner : ℕ) {o : std.Option ℕ} {listed : Bool} → o ≡ owner_of t → o ≡ Some owner
        → CallBegun node (method_in S H owner id (S.functions_of owner id)) b b' listed → r ≡ then_some listed owner → Begun (method_owner t) node (method_of S H id t) b b' r
    unfolding method_by base_name choose id_of
    owner_some b b' t owner e n x f =
        let w = chosen_some (name_of (non_null t)) owner (eqb (kind_of (non_null t)) named_kind) (sym e ∙ n) in
        rw (w.0, w.1) (owned_list _ x f)

-- ---- for the judge of a node
-- the list that is found for the call at `node` is the owner's, and what is reported before the arguments has been reported
pub record ListIs (S : Symbols) (owner id node : ℕ) (c : Callee) (b b' : Reports) (of : ℕ) : Type 0 where
  pub owned : of ≡ owner
  pub list : S.functions_of owner id ≡ c.overloads
  pub reports : b' ≡ reported b (at_node node c.before)
  pub few : length c.before ≤ 2

unless_few : (ok : Bool) (r : Report) → length (unless ok r) ≤ 1
unfolding unless
unless_few ok r = by_choice (λ (rs : List Report). length rs ≤ 1) _ (λ _. omega arith) (λ _. omega arith)

access_few : (S : Symbols) (H : Header) (vis owner : ℕ) → length (access_report S H vis owner) ≤ 1
unfolding access_report
access_few S H vis owner = by_choice (λ (rs : List Report). length rs ≤ 1) _ (λ _. omega arith) (λ _. omega arith)

-- what is found: the owner's list, and at most 2 reports before the arguments
pub record Listed (S : Symbols) (owner id : ℕ) (c : Callee) : Type 0 where
  pub list : S.functions_of owner id ≡ c.overloads
  pub few : length c.before ≤ 2

module _ (S : Symbols) (H : Header) (id : ℕ) where
  call_listed : (c : Callee) → call_of S H id ≡ some c → Listed S no_id id c
  unfolding call_in suspend_report
  call_listed c f = go (S.functions_of no_id id) refl f
    where
      go : (os : List Overload) → S.functions_of no_id id ≡ os → call_in (call_reports S H id) os ≡ some c → Listed S no_id id c
      go [] e f = absurd (some≢none (sym f))
      go (o ∷ os) e f =
          let k : record { before = call_reports S H id; overloads = o ∷ os } ≡ c = some_inj f in
          record {
            list = e ∙ ap (λ (z : Callee). z.overloads) k;
            few = rw (← k) (omega (arith, unless_few (suspend_allowed S H no_id id) (report suspend_diag 0)));
          }

  owned_listed : (owner : ℕ) (c : Callee) → method_in S H owner id (S.functions_of owner id) ≡ some c → Listed S owner id c
  unfolding method_in suspend_report
  owned_listed owner c f = go (S.functions_of owner id) refl f
    where
      go : (os : List Overload) → S.functions_of owner id ≡ os → method_in S H owner id os ≡ some c → Listed S owner id c
      go [] e f = absurd (some≢none (sym f))
      go (o ∷ os) e f =
          let one : List Report = access_report S H o.visibility owner in
          let other : List Report = suspend_report S H owner id in
          let k : record { before = method_reports S H o.visibility owner id; overloads = o ∷ os } ≡ c = some_inj f in
          record {
            list = e ∙ ap (λ (z : Callee). z.overloads) k;
            few = rw (← k) (omega (arith, length-append one other, access_few S H o.visibility owner, unless_few (suspend_allowed S H owner id) (report suspend_diag 0)));
          }

  method_listed : (o : Option ℕ) (c : Callee) → method_by S H id o ≡ some c → Listed S (id_of o) id c
  unfolding method_by id_of
  method_listed none c f = absurd (some≢none (sym f))
  method_listed (some owner) c f = owned_listed owner c f

module _ {owner node : ℕ} {b b' : Reports} {r : std.Option ℕ} where
  pub begun_none : (found : Option Callee) → Begun owner node found b b' r → r ≡ None → (found ≡ none) × (b' ≡ b)
  unfolding list_found before_at
  begun_none none x e = (refl, x.reports ∙ reported_none b)
  begun_none (some c) x e = let f = x.list in absurd (cc)

  pub begun_some : (S : Symbols) (id : ℕ) (found : Option Callee) → ((c : Callee) → found ≡ some c → Listed S owner id c) → Begun owner node found b b' r → {of : ℕ} → r ≡ Some of
      → (c : Callee) × (found ≡ some c) × ListIs S owner id node c b b' of
  unfolding list_found before_at
  begun_some S id none k x e = let f = x.list in absurd (cc)
  begun_some S id (some c) k x e =
      let w = k c refl in
      (c, refl, record { owned = (let f = x.list in cc); list = w.list; reports = x.reports; few = w.few })

module _ {node : ℕ} {b b' : Reports} {r : Bool} where
  pub unlisted_call : (found : Option Callee) → CallBegun node found b b' r → r ≡ false → (found ≡ none) × (b' ≡ b)
  unfolding finds_list before_at
  unlisted_call none x e = (refl, x.reports ∙ reported_none b)
  unlisted_call (some c) x e = let f = x.list in absurd (cc)

  listed_call : (S : Symbols) (owner id : ℕ) (found : Option Callee) → ((c : Callee) → found ≡ some c → Listed S owner id c) → CallBegun node found b b' r → r ≡ true
      → (c : Callee) × (found ≡ some c) × ListIs S owner id node c b b' owner
  unfolding finds_list before_at
  listed_call S owner id none k x e = let f = x.list in absurd (cc)
  listed_call S owner id (some c) k x e =
      let w = k c refl in
      (c, refl, record { owned = refl; list = w.list; reports = x.reports; few = w.few })

-- a call, and a method call on an object of the type t, that find a list
pub call_begun : (S : Symbols) (H : Header) (id : ℕ) {node : ℕ} {b b' : Reports} {r : Bool} → CallBegun node (call_of S H id) b b' r → r ≡ true
    → (c : Callee) × (call_of S H id ≡ some c) × ListIs S no_id id node c b b' no_id
call_begun S H id = listed_call S no_id id (call_of S H id) (call_listed S H id)

pub method_begun : (S : Symbols) (H : Header) (id : ℕ) (t : Ty) {node : ℕ} {b b' : Reports} {r : std.Option ℕ} → Begun (method_owner t) node (method_of S H id t) b b' r → {of : ℕ} → r ≡ Some of
    → (c : Callee) × (method_of S H id t ≡ some c) × ListIs S (method_owner t) id node c b b' of
method_begun S H id t = begun_some S id (method_of S H id t) (method_listed S H id (base_name t))
