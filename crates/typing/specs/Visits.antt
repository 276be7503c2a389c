-- Which numbers a choice of types visits. Document 01, "Clean rules": the root and every child of a visited node, except the arguments of a method call whose
-- base, by the type the typing gives the object, isn't Named or has no list.
use Rattle.std.specs.Prelude.{ℕ, suc, ◌⊎◌, ◌≡◌}
use Rattle.std.proofs.Math.Option.{Option, some}
use Rattle.question.specs.Tree.{Node, leaf, binary, unary, named, member, call, method, Row, nil, cons, number_after}
use Rattle.symbol.specs.Symbols.{Symbols}
use Rattle.ty.specs.Bytes.{Ty}
use Rattle.typing.specs.CleanCall.{HasList}

-- a choice of types: each number's, or none
abbrev pub Choice : Type 0
Choice = ℕ → Option Ty

-- by the type that the choice gives it, the object has a list of that name
pub record ListedBy (S : Symbols) (τ : Choice) (id object : ℕ) : Type 0 where
  pub ty : Ty
  pub gives : τ object ≡ some ty
  pub listed : HasList S id ty

module _ (S : Symbols) (τ : Choice) where
  unfoldable mutual
    -- number k is visited in the tree whose root has number n
    pub Visits : Node → ℕ → ℕ → Type 0
    Visits (leaf t) n k = k ≡ n
    Visits (binary op l r) n k = (k ≡ n) ⊎ (Visits l (suc n) k ⊎ Visits r (number_after l (suc n)) k)
    Visits (unary op x) n k = (k ≡ n) ⊎ Visits x (suc n) k
    Visits (named id x) n k = (k ≡ n) ⊎ Visits x (suc n) k
    Visits (member id x) n k = (k ≡ n) ⊎ Visits x (suc n) k
    Visits (call id r) n k = (k ≡ n) ⊎ RowVisits r (suc n) k
    Visits (method id x r) n k = (k ≡ n) ⊎ (Visits x (suc n) k ⊎ (ListedBy S τ id (suc n) × RowVisits r (number_after x (suc n)) k))

    pub RowVisits : Row → ℕ → ℕ → Type 0
    RowVisits nil n k = ⊥
    RowVisits (cons x r) n k = Visits x n k ⊎ RowVisits r (number_after x n) k
