-- What a call finds before its arguments are visited, and what it asks and gives behind them.
use Rattle.std.specs.Prelude.{ℕ, ◌+◌, ◌≤◌, ◌<◌, eqb, length, List, [], ◌≡◌, Some, None, Bool, true, false}
use Rattle.std.specs.Prelude as std
use Rattle.std.proofs.Math.Option.{Option, none, some}
use Rattle.area.specs.Diagnostic.{Diag, count_limit}
use Rattle.area.specs.Reported.{reported}
use Rattle.area.specs.declared.reports.Reports.{Reports}
use Rattle.nodes.specs.Inside.Progress.{Finished}
use Rattle.nodes.specs.Inside.Row.{id_of}
use Rattle.ty.specs.Slice.{Slice}
use Rattle.nodes.specs.declared.calls.RowJudged.{RowJudged}
use Rattle.nodes.specs.declared.progress.State.{State}
use Rattle.scoring.specs.Arg.{Verdict}
use Rattle.scoring.specs.Inside.Args.{args_in}
use Rattle.overload.specs.Resolve.{resolve}
use Rattle.overload.specs.Inside.Tally.{most_diagnostics}
use Rattle.question.specs.declared.Header.{Header}
use Rattle.operators.specs.Diag.{reported_at as at_node}
use Rattle.symbol.specs.Lookup.{symbols_of}
use Rattle.ty.specs.Bytes.{Ty, kind_of, name_of, non_null}
use Rattle.ty.specs.Choose.{choose}
use Rattle.ty.specs.Kind.{named_kind}
use Rattle.typing.specs.Callee.{Callee, base_name, call_of, method_in, method_of}

-- what is read of the object's type t: the base's name, if it is Named
abbrev pub owner_of : Ty → std.Option ℕ
owner_of t = choose (eqb (kind_of (non_null t)) named_kind) (Some (name_of (non_null t))) None

-- whose list a method call on an object of the type t looks for: the base's name, 65,535 for none
abbrev pub method_owner : Ty → ℕ
method_owner t = id_of (base_name t)

-- whether a call finds a list
unfoldable pub finds_list : Option Callee → Bool
finds_list none = false
finds_list (some c) = true

-- whose list a call finds that looks for an owner's, if there is one
unfoldable pub list_found : ℕ → Option Callee → std.Option ℕ
list_found owner none = None
list_found owner (some c) = Some owner

-- what is reported at `node` before the arguments
unfoldable pub before_at : ℕ → Option Callee → List Diag
before_at node none = []
before_at node (some c) = at_node node c.before

-- the call at `node` has begun, and has a list or not; the lent buffer was b and is b'
pub record CallBegun (node : ℕ) (found : Option Callee) (b b' : Reports) (r : Bool) : Type 0 where
  pub list : r ≡ finds_list found
  pub reports : b' ≡ reported b (before_at node found)

-- the same where a call tells whose list it has
pub record Begun (owner node : ℕ) (found : Option Callee) (b b' : Reports) (r : std.Option ℕ) : Type 0 where
  pub list : r ≡ list_found owner found
  pub reports : b' ≡ reported b (before_at node found)

-- there is room for what a call gives, n bytes of type, and reports
pub record CallAsked (n : ℕ) (ts : List Ty) (node : ℕ) (b : Reports) (v : Verdict) : Type 0 where
  pub room : node < length ts
  pub few : b.count + most_diagnostics ≤ count_limit
  pub short : length v.ty ≤ n
  pub most : length v.diags ≤ most_diagnostics

-- what a call, a method call on an owner, and one on an object of the type t find in a table
abbrev pub callee_at : Slice → Header → ℕ → Option Callee
callee_at table H id = call_of (symbols_of table) H id

abbrev pub owned_at : Slice → Header → ℕ → ℕ → Option Callee
owned_at table H owner id = method_in (symbols_of table) H owner id ((symbols_of table).functions_of owner id)

abbrev pub method_at : Slice → Header → ℕ → Ty → Option Callee
method_at table H id t = method_of (symbols_of table) H id t

-- what a call of an owner's list gives for the arguments of a row
abbrev pub verdict_at : Slice → List Ty → ℕ → ℕ → ℕ → RowJudged → Verdict
verdict_at table ts owner id node row =
    resolve (symbols_of table) ((symbols_of table).functions_of owner id) node (args_in ts row.args)

-- node n is finished with the type and the diagnostics of v
abbrev pub FinishedCall : State → ℕ → Verdict → List Ty → List Ty → Reports → Reports → State → Type 0
FinishedCall s n v ts ts' b b' r = Finished s n v.ty v.diags ts ts' b b' r
