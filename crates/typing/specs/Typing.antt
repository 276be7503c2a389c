-- Typings. Demand 3: a typing is any choice of types, whoever made it, that gives each visited node a type other than Error and obeys document 01's clean
-- rules at each of them. Document 01, "Clean rules": nodes not visited get no type.
use Rattle.std.specs.Prelude.{ℕ, suc, List, [], ◌∷◌, ◌≢◌, ◌⊎◌, ◌≡◌}
use Rattle.std.proofs.Math.Option.{none, some}
use Rattle.scoring.specs.Arg.{Arg}
use Rattle.question.specs.Tree.{Node, leaf, binary, unary, named, member, call, method, Row, nil, cons, number_after, argument_name}
use Rattle.question.specs.declared.Header.{Header}
use Rattle.operators.specs.Binary.{binary_out}
use Rattle.rules.specs.Member.{member_out}
use Rattle.operators.specs.Out.{error_ty, any_ty, clean}
use Rattle.operators.specs.Unary.{unary_out}
use Rattle.symbol.specs.Symbols.{Symbols}
use Rattle.ty.specs.Bytes.{Ty}
use Rattle.typing.specs.CleanCall.{HasList, CleanCall, CleanMethod}
use Rattle.typing.specs.Visits.{Choice, Visits}

-- `Subtree x n k y`: in the tree x, whose root has number n, the node of number k is the root of y
unfoldable mutual
  pub Subtree : Node → ℕ → ℕ → Node → Type 0
  Subtree (leaf t) n k y = (k ≡ n) × (y ≡ leaf t)
  Subtree (binary op l r) n k y = ((k ≡ n) × (y ≡ binary op l r)) ⊎ (Subtree l (suc n) k y ⊎ Subtree r (number_after l (suc n)) k y)
  Subtree (unary op x) n k y = ((k ≡ n) × (y ≡ unary op x)) ⊎ Subtree x (suc n) k y
  Subtree (named id x) n k y = ((k ≡ n) × (y ≡ named id x)) ⊎ Subtree x (suc n) k y
  Subtree (member id x) n k y = ((k ≡ n) × (y ≡ member id x)) ⊎ Subtree x (suc n) k y
  Subtree (call id r) n k y = ((k ≡ n) × (y ≡ call id r)) ⊎ RowSubtree r (suc n) k y
  Subtree (method id x r) n k y = ((k ≡ n) × (y ≡ method id x r)) ⊎ (Subtree x (suc n) k y ⊎ RowSubtree r (number_after x (suc n)) k y)

  pub RowSubtree : Row → ℕ → ℕ → Node → Type 0
  RowSubtree nil n k y = ⊥
  RowSubtree (cons x r) n k y = Subtree x n k y ⊎ RowSubtree r (number_after x n) k y

-- what the arguments are to their call, by the types that the choice gives them; the first has number n
unfoldable pub ArgsBy : Choice → Row → ℕ → List Arg → Type 0
ArgsBy τ nil n xs = xs ≡ []
ArgsBy τ (cons x r) n xs =
    (t : Ty) × (rest : List Arg) × (τ n ≡ some t) × (xs ≡ record { name = argument_name x; ty = t; node = n } ∷ rest) × ArgsBy τ r (number_after x n) rest

-- The clean rule at one node: y, of number n, may have the type T, by the types that the choice gives its children. "A leaf has its own type, a named argument
-- its value's. A unary, binary or member node has the type its method gives for its children's types, where that reports nothing." A method call "where the
-- base isn't Named or there is no list" is Any.
unfoldable pub RuleAt : Symbols → Header → Choice → Node → ℕ → Ty → Type 0
RuleAt S H τ (leaf t) n T = T ≡ t
RuleAt S H τ (binary op l r) n T =
    (lt : Ty) × (rt : Ty) × (τ (suc n) ≡ some lt) × (τ (number_after l (suc n)) ≡ some rt) × (binary_out S op lt rt ≡ clean T)
RuleAt S H τ (unary op x) n T = (t : Ty) × (τ (suc n) ≡ some t) × (unary_out op t ≡ clean T)
RuleAt S H τ (named id x) n T = τ (suc n) ≡ some T
RuleAt S H τ (member id x) n T = (t : Ty) × (τ (suc n) ≡ some t) × (member_out S H id t ≡ clean T)
RuleAt S H τ (call id r) n T = (xs : List Arg) × ArgsBy τ r (suc n) xs × CleanCall S H id xs T
RuleAt S H τ (method id x r) n T =
    (t : Ty) × (τ (suc n) ≡ some t)
    × (((xs : List Arg) × ArgsBy τ r (number_after x (suc n)) xs × CleanMethod S H id t xs T) ⊎ (¬ HasList S id t × (T ≡ any_ty)))

pub record IsTyping (S : Symbols) (H : Header) (tree : Node) (τ : Choice) : Type 0 where
  -- each visited node has a type other than Error
  pub given : (k : ℕ) → Visits S τ tree 0 k → (T : Ty) × (τ k ≡ some T) × (T ≢ error_ty)
  -- every other number has none
  pub others : (k : ℕ) → ¬ Visits S τ tree 0 k → τ k ≡ none
  -- the clean rules are obeyed at each visited node
  pub obeys : (k : ℕ) (y : Node) (T : Ty) → Subtree tree 0 k y → Visits S τ tree 0 k → τ k ≡ some T → RuleAt S H τ y k T
