-- Two tables whose lookups are equal for all names that a tree asks for judge it alike.
use Prim.Native.Nat.{ℕ}
use mathlib.Core.Bool.{Bool}
use mathlib.Core.List.{List}
use mathlib.Core.Path.{◌≡◌, ap, ◌∙◌, subst}
use Rattle.agreement.proofs.AlikeWalk.{everywhere, row_everywhere, row_walk, walk}
use Rattle.agreement.proofs.SameResolved.{same_resolve}
use Rattle.agreement.proofs.SameRules.{same_first}
use Rattle.agreement.specs.Agree.{Agree}
use Rattle.agreement.specs.Asks.{Asks, AsksOperators, RowAsks}
use Rattle.agreement.specs.Inside.AlikeLookups.{AlikeLookups, ResolvedAlike, SameFirst}
use Rattle.overload.specs.Resolve.{resolve}
use Rattle.question.specs.Tree.{Node, Row}
use Rattle.question.specs.declared.Header.{Header}
use Rattle.scoring.specs.Arg.{Arg}
use Rattle.symbol.specs.Symbols.{Overload, Symbols}
use Rattle.typing.specs.Judge.{judge, judges}

module _ (asked : ℕ → Bool) (S T : Symbols) (A : Agree asked S T) where
  lookups_alike : AlikeLookups asked S T
  lookups_alike = record {
    by_id = A.by_id;
    members = A.members;
    firsts = λ owner name k.
        subst (λ (os : List Overload). SameFirst (S.functions_of owner name) os) (A.functions_of owner name k) (same_first (S.functions_of owner name));
  }

  resolved_alike : (owner id : ℕ) (xs : List Arg) → ResolvedAlike S T asked owner id xs
  resolved_alike owner id xs k n =
      same_resolve S T A.by_id (S.functions_of owner id) n xs
      ∙ ap (λ (os : List Overload). resolve T os n xs) (A.functions_of owner id k)

  module _ (H : Header) (operators : AsksOperators asked) where
    pub judged_alike : (tree : Node) (n : ℕ) → Asks asked tree → judge S H tree n ≡ judge T H tree n
    judged_alike tree n k =
        walk asked S T lookups_alike H operators tree n k (everywhere S H (ResolvedAlike S T asked) resolved_alike tree n)

    pub row_alike : (r : Row) (n : ℕ) → RowAsks asked r → judges S H r n ≡ judges T H r n
    row_alike r n k = row_walk asked S T lookups_alike H operators r n k (row_everywhere S H (ResolvedAlike S T asked) resolved_alike r n)
