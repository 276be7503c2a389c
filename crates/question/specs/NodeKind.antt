-- The kinds of a node. Document 01, "Table and question": a node begins with a byte of kind, 0 leaf to 6 method call.
use Rattle.std.specs.Prelude.{◌≡◌, ◌≢◌, ℕ, Result, MatchResult}
use Rattle.question.specs.declared.node.NodeKind.{NodeKind}
use Rattle.question.specs.declared.node.NodeKind.TheVariants.{Leaf, Binary, Unary, Named, Member, Call, Method}
use Rattle.ty.specs.declared.UnknownNumber.{UnknownNumber}

-- the byte that stands for a kind
abbrev pub node_kind_number : NodeKind → ℕ
node_kind_number Leaf = 0
node_kind_number Binary = 1
node_kind_number Unary = 2
node_kind_number Named = 3
node_kind_number Member = 4
node_kind_number Call = 5
node_kind_number Method = 6

-- the kind with that byte, or that byte where no kind has it
abbrev pub NodeKindIs : ℕ → Result NodeKind UnknownNumber → Type 0
NodeKindIs byte r = MatchResult r (λ kind. node_kind_number kind ≡ byte) (λ e. (e.0 ≡ byte) × ((kind : NodeKind) → node_kind_number kind ≢ byte))
