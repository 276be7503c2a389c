-- Document 02, order 7: "each call reading this list". A visited call reads the ownerless functions of its name, a visited method call those whose owner is
-- its object's base. Members and operator methods are no calls; of a list they see the first function alone.
use Rattle.std.specs.Prelude.{ℕ, suc, List, ◌≡◌}
use Rattle.std.proofs.Math.Option.{some}
use Rattle.question.specs.Tree.{Node, leaf, binary, unary, named, member, call, method, number_after}
use Rattle.question.specs.declared.Header.{Header}
use Rattle.scoring.specs.Arg.{Arg}
use Rattle.symbol.specs.Symbols.{Symbols}
use Rattle.ty.specs.Bytes.{Ty}
use Rattle.ty.specs.Name.{no_id}
use Rattle.typing.specs.Callee.{base_name}
use Rattle.typing.specs.Judge.{judge}
use Rattle.typing.specs.Mark.{type_in}
use Rattle.typing.specs.Typing.{Subtree, ArgsBy}
use Rattle.typing.specs.Visits.{Choice}

-- the types that a judgement gives
abbrev pub types_of : Symbols → Header → Node → Choice
types_of S H tree k = type_in (judge S H tree 0).typed k

-- the node y, of number k, is a call that reads the functions of an owner and a name, and xs are its arguments, by the types of a choice
unfoldable pub ReadsAt : Choice → Node → ℕ → ℕ → ℕ → List Arg → Type 0
ReadsAt τ (leaf t) k owner name xs = ⊥
ReadsAt τ (binary op l r) k owner name xs = ⊥
ReadsAt τ (unary op x) k owner name xs = ⊥
ReadsAt τ (named id x) k owner name xs = ⊥
ReadsAt τ (member id x) k owner name xs = ⊥
ReadsAt τ (call id r) k owner name xs = (owner ≡ no_id) × (name ≡ id) × ArgsBy τ r (suc k) xs
ReadsAt τ (method id x r) k owner name xs =
    ((t : Ty) × (τ (suc k) ≡ some t) × (base_name t ≡ some owner)) × (name ≡ id) × ArgsBy τ r (number_after x (suc k)) xs

-- a call of the tree, visited in its judgement, reads these functions with the arguments xs
pub record Reads (S : Symbols) (H : Header) (tree : Node) (owner name : ℕ) (xs : List Arg) : Type 0 where
  pub number : ℕ
  pub node : Node
  pub stands : Subtree tree 0 number node
  pub visited : (T : Ty) × (types_of S H tree number ≡ some T)
  pub reads : ReadsAt (types_of S H tree) node number owner name xs
