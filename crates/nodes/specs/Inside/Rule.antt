-- What the work at a leaf, an operator or a member asks, and what it gives.
use Rattle.std.specs.Prelude.{ℕ, ◌+◌, ◌≤◌, ◌<◌, length, take, drop, List}
use Rattle.area.specs.Diagnostic.{count_limit}
use Rattle.area.specs.Inside.Slot.{Child, slot_count, type_at}
use Rattle.area.specs.declared.reports.Reports.{Reports}
use Rattle.nodes.specs.Inside.Progress.{Finished}
use Rattle.ty.specs.Slice.{Slice}
use Rattle.nodes.specs.declared.progress.State.{State}
use Rattle.question.specs.QuestionRefused.{longest_question}
use Rattle.question.specs.declared.Header.{Header}
use Rattle.operators.specs.Binary.{binary_out}
use Rattle.operators.specs.Diag.{reported_at as at_node}
use Rattle.rules.specs.Member.{member_out}
use Rattle.operators.specs.Out.{Out}
use Rattle.operators.specs.Inside.Ruled.{out_of}
use Rattle.operators.specs.Unary.{unary_out}
use Rattle.operators.specs.declared.ruled.Ruled.{Ruled}
use Rattle.symbol.specs.Lookup.{symbols_of}
use Rattle.ty.specs.Bytes.{Ty}

-- a leaf whose type has so many bytes stands at s, and there is a slot for it, of n bytes
pub record LeafAsked (n : ℕ) (q : List ℕ) (ts : List Ty) (len : ℕ) (s : State) : Type 0 where
  pub room : s.node < length ts
  pub number : s.node < slot_count
  pub short : len ≤ n
  pub there : s.at + 1 + len ≤ length q
  pub long : length q ≤ longest_question

-- the operands of `node` lie in slots that can be read, and there is room for what a rule gives, n bytes of type, and reports
pub record RuleAsked (n : ℕ) (ts : List Ty) (node second : ℕ) (b : Reports) (o : Out) : Type 0 where
  pub left : Child ts node (node + 1)
  pub right : Child ts node second
  pub short : length o.ty ≤ n
  pub few : b.count + 2 ≤ count_limit

-- the type of len bytes of the leaf that stands at s
abbrev pub leaf_at : Slice → State → ℕ → Ty
leaf_at q s len = take len (drop (s.at + 1) q)

-- what a rule's answer stands for, the types of its operands being in the slots `first` and `second`
abbrev pub ruled_at : Slice → List Ty → Ruled → ℕ → ℕ → Out
ruled_at table ts ruled first second = out_of table (type_at ts first) (type_at ts second) ruled

-- what the definitions give for operands in slots
abbrev pub binary_at : Slice → List Ty → ℕ → ℕ → ℕ → Out
binary_at table ts op first second = binary_out (symbols_of table) op (type_at ts first) (type_at ts second)

abbrev pub unary_at : List Ty → ℕ → ℕ → Out
unary_at ts op first = unary_out op (type_at ts first)

abbrev pub member_at : Slice → List Ty → Header → ℕ → ℕ → Out
member_at table ts H id first = member_out (symbols_of table) H id (type_at ts first)

-- node n is finished with the type and the reports of o
abbrev pub FinishedAs : State → ℕ → Out → List Ty → List Ty → Reports → Reports → State → Type 0
FinishedAs s n o ts ts' b b' r = Finished s n o.ty (at_node n o.reports) ts ts' b b' r
