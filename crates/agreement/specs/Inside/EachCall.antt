-- "At each call", by recursion over the tree: at each visited call of a judgement that finds a list which is not empty, a property of its list's owner and
-- name and of its arguments holds. Reads says it number by number, of empty lists, too.
use Rattle.std.specs.Prelude.{ℕ, suc, List, [], ◌∷◌}
use Rattle.std.proofs.Math.Option.{Option, none, some}
use Rattle.question.specs.Tree.{Node, leaf, binary, unary, named, member, call, method, Row, nil, cons, number_after}
use Rattle.question.specs.declared.Header.{Header}
use Rattle.scoring.specs.Arg.{Arg}
use Rattle.symbol.specs.Symbols.{Overload, Symbols}
use Rattle.ty.specs.Name.{no_id}
use Rattle.typing.specs.Callee.{base_name}
use Rattle.typing.specs.Judge.{judge, judges}

-- X, where a list is not empty
unfoldable pub WhereListed : List Overload → Type 0 → Type 0
WhereListed [] X = Unit {0}
WhereListed (o ∷ os) X = X

-- X of the name, where there is one
unfoldable pub WhereNamed : Option ℕ → (ℕ → Type 0) → Type 0
WhereNamed none X = Unit {0}
WhereNamed (some id) X = X id

module _ (S : Symbols) (H : Header) (P : ℕ → ℕ → List Arg → Type 0) where
  unfoldable mutual
    pub EachCall : Node → ℕ → Type 0
    EachCall (leaf t) n = Unit {0}
    EachCall (binary op l r) n = EachCall l (suc n) × EachCall r (number_after l (suc n))
    EachCall (unary op x) n = EachCall x (suc n)
    EachCall (named id x) n = EachCall x (suc n)
    EachCall (member id x) n = EachCall x (suc n)
    EachCall (call id r) n = WhereListed (S.functions_of no_id id) (P no_id id (judges S H r (suc n)).args × EachInRow r (suc n))
    EachCall (method id x r) n =
        EachCall x (suc n)
        × WhereNamed (base_name (judge S H x (suc n)).ty)
        (λ owner.
        WhereListed (S.functions_of owner id) (P owner id (judges S H r (number_after x (suc n))).args × EachInRow r (number_after x (suc n))))

    pub EachInRow : Row → ℕ → Type 0
    EachInRow nil n = Unit {0}
    EachInRow (cons x r) n = EachCall x n × EachInRow r (number_after x n)
