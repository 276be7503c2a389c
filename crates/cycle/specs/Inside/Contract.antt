-- What the node judge and the argument-row judge ask, and what they leave.
use Rattle.std.specs.Prelude.{ℕ, ◌+◌, ◌*◌, ◌≤◌, leb, length, List, [], ◌++◌, ◌≡◌}
use Rattle.area.specs.Inside.Slot.{slot_count, slot_size}
use Rattle.area.specs.declared.reports.Reports.{Reports}
use Rattle.overload.specs.Inside.Tally.{most_diagnostics}
use Rattle.nodes.specs.Inside.SlotsFilled.{SlotsFilled}
use Rattle.nodes.specs.Inside.Call.{CallAsked, FinishedCall, verdict_at}
use Rattle.nodes.specs.Inside.Progress.{Reached}
use Rattle.nodes.specs.Inside.Row.{handed_on}
use Rattle.ty.specs.Bytes.{Ty}
use Rattle.ty.specs.Slice.{Slice}
use Rattle.nodes.specs.declared.calls.RowJudged.{RowJudged}
use Rattle.nodes.specs.declared.progress.State.{State}
use Rattle.scoring.specs.declared.args.Arg.{Arg as Handed}
use Rattle.question.specs.Legal.{Legal, RowLegal}
use Rattle.question.specs.NodeRead.{most_arguments}
use Rattle.question.specs.QuestionRefused.{longest_question}
use Rattle.question.specs.Inside.Stands.{TreeStands, RowStands}
use Rattle.question.specs.Tree.{Node, Row, number_after, number_after_row, size, sizes, count, bytes, bytess}
use Rattle.question.specs.declared.Header.{Header}
use Rattle.question.specs.declared.Names.{Names}
use Rattle.symbol.specs.Lookup.{symbols_of}
use Rattle.ty.specs.Choose.{choose}
use Rattle.typing.specs.Judge.{Judged, RowJudged as Judgements, judge, judges}

-- a node reports at most so many diagnostics: a method call 2 before its arguments
abbrev pub most_at_node : ℕ
most_at_node = most_diagnostics + 2

-- what stands at s belongs to an accepted question, and what was reported is bounded by the nodes passed
pub record Within (q : List ℕ) (s : State) (b : Reports) : Type 0 where
  pub long : length q ≤ longest_question
  pub few : b.count ≤ most_at_node * s.node

-- A question of at most 21 bytes has at most 8 nodes: 5 bytes are its header's, and each node has at least 2.
abbrev pub short_question : ℕ
short_question = 21

abbrev pub few_slots : ℕ
few_slots = 8

-- and one of at most 69 at most 32
abbrev pub middle_question : ℕ
middle_question = 69

abbrev pub some_slots : ℕ
some_slots = 32

-- how many slots are enough for a question of n bytes
unfoldable pub slots_for : ℕ → ℕ
slots_for n = choose (leb n short_question) few_slots (choose (leb n middle_question) some_slots slot_count)

-- the slots that are lent are enough for the question q
pub record Space (q : List ℕ) (ts : List Ty) : Type 0 where
  pub enough : slots_for (length q) ≤ length ts

-- a tree stands at s, there are slots for its nodes, and the lent buffer is b
pub record NodeAsked (q : List ℕ) (s : State) (b : Reports) : Type 0 where
  pub tree : Node
  pub names : Names
  pub stands : TreeStands q tree s.at
  pub legal : Legal names tree
  pub room : s.node + size tree ≤ slots_for (length q)
  pub within : Within q s b

-- the definition's judgement of the tree, and of the trees, at s
abbrev pub judge_at : List ℕ → Header → State → Node → Judged
judge_at t H s tree = judge (symbols_of t) H tree s.node

abbrev pub judges_at : List ℕ → Header → State → Row → Judgements
judges_at t H s trees = judges (symbols_of t) H trees s.node

-- The tree is judged: the judgement is behind it, and the types of the nodes that it finished are stored, in that order.
pub record NodeIs (t : List ℕ) (H : Header) (s : State) (ts ts' : List Ty) (b b' : Reports) (r : State) (tree : Node) : Type 0 where
  pub reached : Reached s (s.at + bytes tree) (number_after tree s.node) (judge_at t H s tree).typed (judge_at t H s tree).diags b b' r
  pub filled : SlotsFilled ts ts' (judge_at t H s tree).typed
  pub few : length (judge_at t H s tree).diags ≤ most_at_node * size tree

-- `left` trees stand at s, behind k arguments that are judged
pub record RowAsked (q : List ℕ) (s : State) (b : Reports) (k left : ℕ) : Type 0 where
  pub trees : Row
  pub names : Names
  pub stands : RowStands q trees s.at
  pub legal : RowLegal names trees
  pub counted : count trees ≡ left
  pub fits : k + left ≤ most_arguments
  pub room : s.node + sizes trees ≤ slots_for (length q)
  pub within : Within q s b

-- They are judged: the judgement is behind them, the types of the finished nodes are stored, in that order, and the arguments are handed on behind
-- those of xs.
pub record RowIs (t : List ℕ) (H : Header) (s : State) (xs : List Handed) (ts ts' : List Ty) (b b' : Reports) (r : RowJudged) (trees : Row)
    : Type 0 where
  pub reached : Reached s (s.at + bytess trees) (number_after_row trees s.node) (judges_at t H s trees).typed (judges_at t H s trees).diags b b' r.state
  pub filled : SlotsFilled ts ts' (judges_at t H s trees).typed
  pub args : r.args ≡ xs ++ handed_on (judges_at t H s trees).args
  pub few : length (judges_at t H s trees).diags ≤ most_at_node * sizes trees

-- What the node judge leaves, whatever tree stands at s.
abbrev pub JudgesNode : Slice → Slice → Header → State → List Ty → List Ty → Reports → Reports → State → Type 0
JudgesNode table q H s ts ts' b b' r = (x : NodeAsked q s b) → NodeIs table H s ts ts' b b' r x.tree

-- What the argument-row judge leaves, whatever n trees stand at s.
abbrev pub JudgesRow : Slice → Slice → Header → State → ℕ → List Ty → List Ty → Reports → Reports → RowJudged → Type 0
JudgesRow table q H s n ts ts' b b' r = (x : RowAsked q s b 0 n) → RowIs table H s [] ts ts' b b' r x.trees

-- Whatever the n trees at s give, there is room for what the call at `node` gives and reports.
abbrev pub CallFits : Slice → Slice → Header → ℕ → ℕ → ℕ → State → ℕ → List Ty → Reports → Type 0
CallFits table q H owner id node s n ts b =
    (row : RowJudged) (ts' : List Ty) (b' : Reports) → Space q ts' → JudgesRow table q H s n ts ts' b b' row
    → CallAsked slot_size ts' node b' (verdict_at table ts' owner id node row)

-- The n trees at s are judged, and then the call at `node`: in between the slots hold `held`, and the lent buffer is `told`.
pub record CallIs (t q : List ℕ) (H : Header) (owner id node : ℕ) (s : State) (n : ℕ) (ts ts' : List Ty) (b b' : Reports) (r : State) : Type 0 where
  pub row : RowJudged
  pub held : List Ty
  pub told : Reports
  pub lent : Space q held
  pub judged : JudgesRow t q H s n ts held b told row
  pub finished : FinishedCall row.state node (verdict_at t held owner id node row) held ts' told b' r
