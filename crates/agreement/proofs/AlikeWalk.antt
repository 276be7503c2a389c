-- The walk over a tree: two tables whose lookups are alike judge it alike, if each visited call is resolved alike.
use Prim.Native.Nat.{ℕ, suc}
use mathlib.Core.Bool.{Bool, true}
use mathlib.Core.List.{List, [], ◌∷◌, ◌++◌}
use mathlib.Core.Option.{Option, none, some}
use mathlib.Core.Path.{◌≡◌, refl, ap, ◌∙◌}
use Rattle.agreement.proofs.SameRules.{same_binary, same_member, same_method_reports, same_suspend}
use Rattle.agreement.specs.Asks.{Asks, AsksOperators, RowAsks}
use Rattle.agreement.specs.Inside.AlikeLookups.{AlikeLookups, ResolvedAlike, SameFirst}
use Rattle.agreement.specs.Inside.EachCall.{EachCall, EachInRow, WhereListed, WhereNamed}
use Rattle.operators.specs.Out.{Report}
use Rattle.operators.specs.Unary.{unary_out}
use Rattle.overload.specs.Before.{call_reports, method_reports}
use Rattle.overload.specs.Resolve.{resolve}
use Rattle.question.specs.Tree.{Node, leaf, binary, unary, named, member, call, method, Row, nil, cons, argument_name, number_after}
use Rattle.question.specs.declared.Header.{Header}
use Rattle.scoring.specs.Arg.{Arg}
use Rattle.symbol.specs.Symbols.{Overload, Symbols}
use Rattle.ty.specs.Name.{no_id}
use Rattle.typing.specs.Callee.{base_name, call_in, method_by, method_in, method_of}
use Rattle.typing.specs.Judge.{Judged, RowJudged, call_step, called, closed, done, judge, judges, method_step, row_joined}

-- a property of a list that is not empty, from another
where_listed : {X Y : Type 0} (os : List Overload) → (X → Y) → WhereListed os X → WhereListed os Y
unfolding WhereListed
where_listed [] f w = tt
where_listed (o ∷ os) f w = f w

-- a property of the name, where there is one, from another
where_named : {X Y : ℕ → Type 0} (m : Option ℕ) → ((id : ℕ) → X id → Y id) → WhereNamed m X → WhereNamed m Y
unfolding WhereNamed
where_named none f w = tt
where_named (some id) f w = f id w

module _ (asked : ℕ → Bool) (S T : Symbols) (L : AlikeLookups asked S T) (H : Header) where
  -- a call whose lists are os and ps, by its row's judgements
  call_alike : (n : ℕ) (rs qs : List Report) (os ps : List Overload) (b c : RowJudged) → rs ≡ qs → SameFirst os ps
      → WhereListed os ((resolve S os n b.args ≡ resolve T ps n b.args) × (b ≡ c))
      → call_step S n (call_in rs os) b ≡ call_step T n (call_in qs ps) c
  unfolding call_step call_in WhereListed SameFirst
  call_alike n rs qs [] [] b c p h w = refl
  call_alike n rs qs [] (v ∷ ps) b c p h w = absurd h
  call_alike n rs qs (o ∷ os) [] b c p h w = absurd h
  call_alike n rs qs (o ∷ os) (v ∷ ps) b c p h (e, q) =
      (λ i. called n (p i) (e i) b.typed [] b.diags)
      ∙ (λ i. called n qs (resolve T (v ∷ ps) n (q i).args) (q i).typed [] (q i).diags)

  method_alike : (n id owner : ℕ) (a : Judged) (os ps : List Overload) (b c : RowJudged) → asked id ≡ true → SameFirst os ps
      → WhereListed os ((resolve S os n b.args ≡ resolve T ps n b.args) × (b ≡ c))
      → method_step S n a (method_in S H owner id os) b ≡ method_step T n a (method_in T H owner id ps) c
  unfolding method_step method_in WhereListed SameFirst
  method_alike n id owner a [] [] b c k h w = refl
  method_alike n id owner a [] (v ∷ ps) b c k h w = absurd h
  method_alike n id owner a (o ∷ os) [] b c k h w = absurd h
  method_alike n id owner a (o ∷ os) (v ∷ ps) b c k h (e, q) =
      (λ i. called n (same_method_reports asked S T L H id k (h i).visibility owner i) (e i) (a.typed ++ b.typed) a.diags b.diags)
      ∙ (λ i. called n (method_reports T H v.visibility owner id) (resolve T (v ∷ ps) n (q i).args) (a.typed ++ (q i).typed) a.diags (q i).diags)

  base_alike : (n id : ℕ) (a : Judged) (base : Option ℕ) (b c : RowJudged) → asked id ≡ true
      → WhereNamed base (λ owner. WhereListed (S.functions_of owner id) (ResolvedAlike S T asked owner id b.args × (b ≡ c)))
      → method_step S n a (method_by S H id base) b ≡ method_step T n a (method_by T H id base) c
  unfolding method_step method_by WhereNamed
  base_alike n id a none b c k w = refl
  base_alike n id a (some owner) b c k w =
      method_alike n id owner a (S.functions_of owner id) (T.functions_of owner id) b c k (L.firsts owner id k)
      (where_listed (S.functions_of owner id) (λ (r, q). (r k n, q)) w)

  module _ (operators : AsksOperators asked) where
    mutual
      unfolding judge Asks EachCall

      pub walk : (x : Node) (n : ℕ) → Asks asked x → EachCall S H (ResolvedAlike S T asked) x n → judge S H x n ≡ judge T H x n
      walk (leaf t) n k w = refl
      walk (binary op l r) n (k, m) (v, w) =
          let p = walk l (suc n) k v in
          let q = walk r (number_after l (suc n)) m w in
          λ i. closed n (same_binary asked S T L H operators op (p i).ty (q i).ty i) ((p i).typed ++ (q i).typed) ((p i).diags ++ (q i).diags)
      walk (unary op x) n k w =
          let p = walk x (suc n) k w in
          λ i. closed n (unary_out op (p i).ty) (p i).typed (p i).diags
      walk (named id x) n k w =
          let p = walk x (suc n) k w in
          λ i. done n (p i).ty (p i).typed (p i).diags
      walk (member id x) n (k, m) w =
          let p = walk x (suc n) m w in
          λ i. closed n (same_member asked S T L H id k (p i).ty i) (p i).typed (p i).diags
      walk (call id r) n (k, m) w =
          call_alike n (call_reports S H id) (call_reports T H id) (S.functions_of no_id id) (T.functions_of no_id id)
          (judges S H r (suc n)) (judges T H r (suc n))
          (same_suspend asked S T L H id k no_id) (L.firsts no_id id k)
          (where_listed (S.functions_of no_id id) (λ (e, v). (e k n, row_walk r (suc n) m v)) w)
      walk (method id x r) n (k, m, o) (v, w) =
          let p = walk x (suc n) m v in
          base_alike n id (judge S H x (suc n)) (base_name (judge S H x (suc n)).ty)
          (judges S H r (number_after x (suc n))) (judges T H r (number_after x (suc n))) k
          (where_named (base_name (judge S H x (suc n)).ty)
          (λ owner. where_listed (S.functions_of owner id) (λ (e, u). (e, row_walk r (number_after x (suc n)) o u))) w)
          ∙ ap (λ (z : Judged). method_step T n z (method_of T H id z.ty) (judges T H r (number_after x (suc n)))) p

      pub row_walk : (r : Row) (n : ℕ) → RowAsks asked r → EachInRow S H (ResolvedAlike S T asked) r n → judges S H r n ≡ judges T H r n
      row_walk nil n k w = refl
      row_walk (cons x r) n (k, m) (v, w) =
          let p = walk x n k v in
          let q = row_walk r (number_after x n) m w in
          λ i. row_joined (argument_name x) n (p i) (q i)

-- a property that holds of all calls holds at each
module _ (S : Symbols) (H : Header) (P : ℕ → ℕ → List Arg → Type 0) (all : (owner id : ℕ) (xs : List Arg) → P owner id xs) where
  all_listed : {X : Type 0} (os : List Overload) → X → WhereListed os X
  unfolding WhereListed
  all_listed [] x = tt
  all_listed (o ∷ os) x = x

  all_named : {X : ℕ → Type 0} (m : Option ℕ) → ((id : ℕ) → X id) → WhereNamed m X
  unfolding WhereNamed
  all_named none f = tt
  all_named (some id) f = f id

  mutual
    unfolding EachCall

    pub everywhere : (x : Node) (n : ℕ) → EachCall S H P x n
    everywhere (leaf t) n = tt
    everywhere (binary op l r) n = (everywhere l (suc n), everywhere r (number_after l (suc n)))
    everywhere (unary op x) n = everywhere x (suc n)
    everywhere (named id x) n = everywhere x (suc n)
    everywhere (member id x) n = everywhere x (suc n)
    everywhere (call id r) n = all_listed (S.functions_of no_id id) (all no_id id (judges S H r (suc n)).args, row_everywhere r (suc n))
    everywhere (method id x r) n =
        let w = row_everywhere r (number_after x (suc n)) in (
          everywhere x (suc n),
          all_named (base_name (judge S H x (suc n)).ty)
              (λ owner. all_listed (S.functions_of owner id) (all owner id (judges S H r (number_after x (suc n))).args, w)),
        )

    pub row_everywhere : (r : Row) (n : ℕ) → EachInRow S H P r n
    row_everywhere nil n = tt
    row_everywhere (cons x r) n = (everywhere x n, row_everywhere r (number_after x n))
