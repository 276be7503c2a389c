-- Order 7 over lookups: a function more behind a list that was not empty.
use Prim.Native.Nat.{ℕ}
use lib.ListN.{get_or}
use mathlib.Core.Bool.{Bool, true, false}
use mathlib.Core.List.{List, [], ◌∷◌, ◌++◌}
use mathlib.Core.Logic.{◌≢◌, ◌⊎◌}
use mathlib.Core.Path.{◌≡◌, refl, ap, sym, ◌∙◌, subst}
use Rattle.agreement.proofs.AlikeWalk.{walk}
use Rattle.agreement.proofs.AtEachCall.{at_each}
use Rattle.agreement.proofs.OneBehind.{behind_resolves}
use Rattle.agreement.proofs.SameResolved.{same_resolve}
use Rattle.agreement.proofs.SameRules.{same_first}
use Rattle.agreement.specs.Agree.{SameById, SameMembers}
use Rattle.agreement.specs.Asks.{Asks, RowAsks}
use Rattle.agreement.specs.Inside.AlikeLookups.{SameFirst, AlikeLookups, ResolvedAlike}
use Rattle.agreement.specs.Reads.{Reads}
use Rattle.agreement.specs.Undisturbed.{Undisturbed}
use Rattle.overload.specs.Resolve.{resolve}
use Rattle.question.specs.Tree.{Node, leaf, binary, unary, named, member, call, method, Row, nil, cons}
use Rattle.question.specs.declared.Header.{Header}
use Rattle.scoring.specs.Arg.{Arg}
use Rattle.scoring.specs.Arity.{any_own}
use Rattle.symbol.specs.Symbols.{Overload, Symbols}
use Rattle.ty.proofs.Same.{same_eq, differ_ne}
use Rattle.ty.specs.Bytes.{same_bytes}
use Rattle.typing.specs.Judge.{judge}

-- every name is asked for
abbrev pub every_name : ℕ → Bool
every_name id = true

mutual
  unfolding Asks

  asks_every : (x : Node) → Asks every_name x
  asks_every (leaf t) = tt
  asks_every (binary op l r) = (asks_every l, asks_every r)
  asks_every (unary op x) = asks_every x
  asks_every (named id x) = asks_every x
  asks_every (member id x) = (refl, asks_every x)
  asks_every (call id r) = (refl, row_asks_every r)
  asks_every (method id x r) = (refl, asks_every x, row_asks_every r)

  row_asks_every : (r : Row) → RowAsks every_name r
  row_asks_every nil = tt
  row_asks_every (cons x r) = (asks_every x, row_asks_every r)

-- a list that is not empty, and the same with one more, begin alike
behind_first : (os : List Overload) (f : Overload) → os ≢ [] → SameFirst os (os ++ (f ∷ []))
unfolding SameFirst
behind_first [] f h = absurd (h refl)
behind_first (o ∷ os) f h = refl

module _ (S T : Symbols) (owner name : ℕ) (f : Overload) (by_id : SameById S T) (members : SameMembers every_name S T)
    (here : T.functions_of owner name ≡ S.functions_of owner name ++ (f ∷ []))
    (elsewhere : (o n : ℕ) → (owner ∷ name ∷ [] ≡ o ∷ n ∷ [] → ⊥) → S.functions_of o n ≡ T.functions_of o n)
    (listed : S.functions_of owner name ≢ []) where
  -- the list, or another
  by_list : (P : ℕ → ℕ → Type 0) → P owner name → ((o n : ℕ) → S.functions_of o n ≡ T.functions_of o n → P o n) → (o n : ℕ) → P o n
  by_list P p other o n = go (same_bytes (owner ∷ name ∷ []) (o ∷ n ∷ [])) refl
    where
      go : (b : Bool) → same_bytes (owner ∷ name ∷ []) (o ∷ n ∷ []) ≡ b → P o n
      go true e =
          let q : owner ∷ name ∷ [] ≡ o ∷ n ∷ [] = same_eq (owner ∷ name ∷ []) (o ∷ n ∷ []) e in
          let a : owner ≡ o = ap (λ (ids : List ℕ). get_or ids 0 0) q in
          let b : name ≡ n = ap (λ (ids : List ℕ). get_or ids 1 0) q in
          subst (λ (k : ℕ). P k n) a (subst (λ (k : ℕ). P owner k) b p)
      go false e = other o n (elsewhere o n (differ_ne (owner ∷ name ∷ []) (o ∷ n ∷ []) e))

  firsts : (o n : ℕ) → SameFirst (S.functions_of o n) (T.functions_of o n)
  firsts =
      by_list (λ o n. SameFirst (S.functions_of o n) (T.functions_of o n))
      (subst (λ (os : List Overload). SameFirst (S.functions_of owner name) os) (sym here) (behind_first (S.functions_of owner name) f listed))
      (λ o n e. subst (λ (os : List Overload). SameFirst (S.functions_of o n) os) e (same_first (S.functions_of o n)))

  alike : AlikeLookups every_name S T
  alike = record { by_id = by_id; members = members; firsts = λ o n k. firsts o n }

  module _ (builtins : (any_own (S.functions_of owner name) ≡ true) ⊎ (f.builtin ≡ true)) (H : Header) (tree : Node)
      (calls : (xs : List Arg) → Reads S H tree owner name xs → Undisturbed S (S.functions_of owner name) f xs) where
    -- a call of the list, and of another
    call_here : (xs : List Arg) → Reads S H tree owner name xs → ResolvedAlike S T every_name owner name xs
    call_here xs r k n =
        sym (behind_resolves S (S.functions_of owner name) f n xs builtins (calls xs r))
        ∙ same_resolve S T by_id (S.functions_of owner name ++ (f ∷ [])) n xs
        ∙ ap (λ (os : List Overload). resolve T os n xs) (sym here)

    call_elsewhere : (o n : ℕ) → S.functions_of o n ≡ T.functions_of o n → (xs : List Arg) → ResolvedAlike S T every_name o n xs
    call_elsewhere o n e xs k z = same_resolve S T by_id (S.functions_of o n) z xs ∙ ap (λ (os : List Overload). resolve T os z xs) e

    pub added_alike : judge S H tree 0 ≡ judge T H tree 0
    added_alike =
        walk every_name S T alike H (λ op k. refl) tree 0 (asks_every tree)
        (at_each S H (ResolvedAlike S T every_name) tree
        (by_list (λ o n. (xs : List Arg) → Reads S H tree o n xs → ResolvedAlike S T every_name o n xs) call_here (λ o n e xs r. call_elsewhere o n e xs)))
