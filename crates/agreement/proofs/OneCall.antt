-- What is shown of each call that would read a list holds where one does. A call, or a method call, of one argument without calls in it is the only one.
use Prim.Native.Nat.{ℕ, suc}
use mathlib.Core.List.{List, [], ◌∷◌}
use mathlib.Core.Logic.{◌≢◌, inl, inr}
use mathlib.Core.Option.{none, some}
use mathlib.Core.Path.{◌≡◌, refl, sym, ◌∙◌, subst}
use Rattle.agreement.specs.Reads.{types_of, ReadsAt, Reads}
use Rattle.question.specs.Tree.{Node, leaf, binary, unary, named, member, call, method, Row, cons, nil, number_after, argument_name}
use Rattle.question.specs.declared.Header.{Header}
use Rattle.scoring.proofs.NoneAndNil.{some≢none}
use Rattle.scoring.specs.Arg.{Arg}
use Rattle.symbol.specs.Symbols.{Symbols}
use Rattle.ty.specs.Bytes.{Ty}
use Rattle.ty.specs.Name.{no_id}
use Rattle.typing.proofs.Base.{some_inj}
use Rattle.typing.specs.Callee.{base_name}
use Rattle.typing.specs.Typing.{ArgsBy, Subtree, RowSubtree}
use Rattle.typing.specs.Visits.{Choice}

module _ (P : ℕ → Node → Type 0) where
  unfoldable mutual
    -- P holds of each call and method call of a tree, and of its number; the root has number n
    pub AtCalls : Node → ℕ → Type 0
    AtCalls (leaf t) n = Unit {0}
    AtCalls (binary op l r) n = AtCalls l (suc n) × AtCalls r (number_after l (suc n))
    AtCalls (unary op x) n = AtCalls x (suc n)
    AtCalls (named id x) n = AtCalls x (suc n)
    AtCalls (member id x) n = AtCalls x (suc n)
    AtCalls (call id r) n = P n (call id r) × AtRowCalls r (suc n)
    AtCalls (method id x r) n = P n (method id x r) × (AtCalls x (suc n) × AtRowCalls r (number_after x (suc n)))

    pub AtRowCalls : Row → ℕ → Type 0
    AtRowCalls nil n = Unit {0}
    AtRowCalls (cons x r) n = AtCalls x n × AtRowCalls r (number_after x n)

  module _ (τ : Choice) (owner name : ℕ) (xs : List Arg) where
    at_root : (x : Node) (n k : ℕ) (y : Node) → k ≡ n → y ≡ x → P n x → P k y
    at_root x n k y e q p = subst (λ z. P k z) (sym q) (subst (λ j. P j x) (sym e) p)

    reads_none : (x : Node) (k : ℕ) (y : Node) → (ReadsAt τ x k owner name xs → ⊥) → y ≡ x → ReadsAt τ y k owner name xs → P k y
    reads_none x k y z q c = absurd (z (subst (λ u. ReadsAt τ u k owner name xs) q c))

    -- so it holds of a node that reads a list
    mutual
      unfolding AtCalls AtRowCalls Subtree RowSubtree ReadsAt

      at_call : (x : Node) (n : ℕ) → AtCalls x n → (k : ℕ) (y : Node) → Subtree x n k y → ReadsAt τ y k owner name xs → P k y
      at_call (leaf t) n w k y (e, q) c = reads_none (leaf t) k y (λ z. z) q c
      at_call (binary op l r) n w k y (inl (e, q)) c = reads_none (binary op l r) k y (λ z. z) q c
      at_call (binary op l r) n (v, w) k y (inr (inl s)) c = at_call l (suc n) v k y s c
      at_call (binary op l r) n (v, w) k y (inr (inr s)) c = at_call r (number_after l (suc n)) w k y s c
      at_call (unary op x) n w k y (inl (e, q)) c = reads_none (unary op x) k y (λ z. z) q c
      at_call (unary op x) n w k y (inr s) c = at_call x (suc n) w k y s c
      at_call (named id x) n w k y (inl (e, q)) c = reads_none (named id x) k y (λ z. z) q c
      at_call (named id x) n w k y (inr s) c = at_call x (suc n) w k y s c
      at_call (member id x) n w k y (inl (e, q)) c = reads_none (member id x) k y (λ z. z) q c
      at_call (member id x) n w k y (inr s) c = at_call x (suc n) w k y s c
      at_call (call id r) n (p, w) k y (inl (e, q)) c = at_root (call id r) n k y e q p
      at_call (call id r) n (p, w) k y (inr s) c = at_row r (suc n) w k y s c
      at_call (method id x r) n (p, w) k y (inl (e, q)) c = at_root (method id x r) n k y e q p
      at_call (method id x r) n (p, (v, w)) k y (inr (inl s)) c = at_call x (suc n) v k y s c
      at_call (method id x r) n (p, (v, w)) k y (inr (inr s)) c = at_row r (number_after x (suc n)) w k y s c

      at_row : (r : Row) (n : ℕ) → AtRowCalls r n → (k : ℕ) (y : Node) → RowSubtree r n k y → ReadsAt τ y k owner name xs → P k y
      at_row nil n w k y s c = absurd s
      at_row (cons x r) n (v, w) k y (inl s) c = at_call x n v k y s c
      at_row (cons x r) n (v, w) k y (inr s) c = at_row r (number_after x n) w k y s c

-- no node of a tree is a call or a method call: everything holds of each
abbrev pub WithoutCalls : Node → Type 1
WithoutCalls x = (P : ℕ → Node → Type 0) (n : ℕ) → AtCalls P x n

-- an argument with the number n, as its call sees it
abbrev pub one_arg : ℕ → Node → Ty → List Arg
one_arg n x t = record { name = argument_name x; ty = t; node = n } ∷ []

-- one argument is all that a call has, by the type of its node
pub same_arg : (τ : Choice) (n : ℕ) (x : Node) (t : Ty) → τ n ≡ some t → (xs : List Arg) → ArgsBy τ (cons x nil) n xs → xs ≡ one_arg n x t
unfolding ArgsBy
same_arg τ n x t d xs (u, rest, h, a, e) = a ∙ (λ j. record { name = argument_name x; ty = some_inj (sym h ∙ d) j; node = n } ∷ e j)

-- one call of a tree reads the list of that owner and name, with those arguments, and no other one does
pub record ReadOnce (S : Symbols) (H : Header) (tree : Node) (owner name : ℕ) (xs : List Arg) : Type 0 where
  pub reads : Reads S H tree owner name xs
  pub only : (ys : List Arg) → Reads S H tree owner name ys → ys ≡ xs

-- what holds of those arguments holds of whatever reads the list
pub each_reading :
    {S : Symbols} {H : Header} {tree : Node} {owner name : ℕ} {xs : List Arg} (P : List Arg → Type 0) → ReadOnce S H tree owner name xs → P xs
    → (ys : List Arg) → Reads S H tree owner name ys → P ys
each_reading P o p ys r = subst P (sym (o.only ys r)) p

-- the call of one argument
abbrev of_one : ℕ → Node → Node
of_one id x = call id (cons x nil)

-- the method call of one argument
abbrev method_of_one : ℕ → Node → Node → Node
method_of_one id x y = method id x (cons y nil)

module _ (S : Symbols) (H : Header) where
  module _ (tree : Node) (owner name : ℕ) (xs : List Arg) where
    -- a visited node y, of number k, shows Q where it reads the list
    abbrev Shows : Type 0 → ℕ → Node → Type 0
    Shows Q k y = (T : Ty) → types_of S H tree k ≡ some T → ReadsAt (types_of S H tree) y k owner name xs → Q

    pub by_calls : (Q : Type 0) → AtCalls (Shows Q) tree 0 → Reads S H tree owner name xs → Q
    by_calls Q w r =
        let (T, d) = r.visited in
        at_call (Shows Q) (types_of S H tree) owner name xs tree 0 w r.number r.node r.stands r.reads T d r.reads

  -- ---- the call of one argument

  pub outer_reads :
      (id : ℕ) (x : Node) (T t : Ty) → types_of S H (of_one id x) 0 ≡ some T → types_of S H (of_one id x) 1 ≡ some t
      → Reads S H (of_one id x) no_id id (one_arg 1 x t)
  unfolding Subtree ReadsAt ArgsBy
  outer_reads id x T t d e =
      record { number = 0; node = of_one id x; stands = inl (refl, refl); visited = (T, d); reads = (refl, refl, (t, [], e, refl, refl)) }

  -- as the argument of another
  pub inner_reads :
      (outer id : ℕ) (x : Node) (T t : Ty)
      → types_of S H (of_one outer (of_one id x)) 1 ≡ some T
      → types_of S H (of_one outer (of_one id x)) 2 ≡ some t
      → Reads S H (of_one outer (of_one id x)) no_id id (one_arg 2 x t)
  unfolding Subtree ReadsAt ArgsBy
  inner_reads outer id x T t d e =
      record { number = 1; node = of_one id x; stands = inr (inl (inl (refl, refl))); visited = (T, d); reads = (refl, refl, (t, [], e, refl, refl)) }

  pub read_once :
      (id : ℕ) (x : Node) → WithoutCalls x → (T t : Ty) → types_of S H (of_one id x) 0 ≡ some T → types_of S H (of_one id x) 1 ≡ some t
      → ReadOnce S H (of_one id x) no_id id (one_arg 1 x t)
  unfolding AtCalls ReadsAt
  read_once id x w T t d e = record { reads = outer_reads id x T t d e; only = only }
    where
      only : (ys : List Arg) → Reads S H (of_one id x) no_id id ys → ys ≡ one_arg 1 x t
      only ys =
          let P = Shows (of_one id x) no_id id ys (ys ≡ one_arg 1 x t) in
          by_calls (of_one id x) no_id id ys _ ((λ U f (o, i, a). same_arg (types_of S H (of_one id x)) 1 x t e ys a), (w P 1, tt))

  -- it reads no list with an owner
  pub owned_unread : (id : ℕ) (x : Node) → WithoutCalls x → (owner name : ℕ) → owner ≢ no_id → (xs : List Arg) → ¬ Reads S H (of_one id x) owner name xs
  unfolding AtCalls ReadsAt
  owned_unread id x w owner name n xs =
      let P = Shows (of_one id x) owner name xs ⊥ in by_calls (of_one id x) owner name xs ⊥ ((λ T d (o, i, a). n o), (w P 1, tt))

  -- ---- the method call of one argument

  pub method_read_once :
      (id : ℕ) (x y : Node) → WithoutCalls x → WithoutCalls y → (owner : ℕ) (T o t : Ty) → base_name o ≡ some owner
      → types_of S H (method_of_one id x y) 0 ≡ some T
      → types_of S H (method_of_one id x y) 1 ≡ some o
      → types_of S H (method_of_one id x y) (number_after x 1) ≡ some t
      → ReadOnce S H (method_of_one id x y) owner id (one_arg (number_after x 1) y t)
  unfolding AtCalls Subtree ReadsAt ArgsBy
  method_read_once id x y v w owner T o t b d e f = record { reads = reads; only = only }
    where
      n : ℕ
      n = number_after x 1

      reads : Reads S H (method_of_one id x y) owner id (one_arg n y t)
      reads =
          record {
            number = 0;
            node = method_of_one id x y;
            stands = inl (refl, refl);
            visited = (T, d);
            reads = ((o, e, b), refl, (t, [], f, refl, refl));
          }

      only : (ys : List Arg) → Reads S H (method_of_one id x y) owner id ys → ys ≡ one_arg n y t
      only ys =
          let P = Shows (method_of_one id x y) owner id ys (ys ≡ one_arg n y t) in
          by_calls (method_of_one id x y) owner id ys _
          ((λ U g (z, i, a). same_arg (types_of S H (method_of_one id x y)) n y t f ys a), (v P 1, (w P n, tt)))

  -- its argument is a call of one argument, and not visited: neither reads a list whose owner is not the object's base
  pub unvisited :
      (id : ℕ) (x : Node) (inner : ℕ) (y : Node) → WithoutCalls x → WithoutCalls y → (o : Ty) (owner name : ℕ) → base_name o ≢ some owner
      → types_of S H (method_of_one id x (of_one inner y)) 1 ≡ some o
      → types_of S H (method_of_one id x (of_one inner y)) (number_after x 1) ≡ none
      → (xs : List Arg) → ¬ Reads S H (method_of_one id x (of_one inner y)) owner name xs
  unfolding AtCalls ReadsAt
  unvisited id x inner y v w o owner name b d e xs =
      by_calls tree owner name xs ⊥ (root, (v P 1, ((argument, (w P (suc n), tt)), tt)))
    where
      tree : Node
      tree = method_of_one id x (of_one inner y)

      n : ℕ
      n = number_after x 1

      P : ℕ → Node → Type 0
      P = Shows tree owner name xs ⊥

      root : P 0 tree
      root T f ((t, g, c), i, a) = b (subst (λ z. base_name z ≡ some owner) (some_inj (sym g ∙ d)) c)

      argument : P n (of_one inner y)
      argument T f c = some≢none (sym f ∙ e)

  -- ---- calls without arguments

  -- they read no list of another name
  pub call_unread : (id owner name : ℕ) → name ≢ id → (xs : List Arg) → ¬ Reads S H (call id nil) owner name xs
  unfolding AtCalls ReadsAt
  call_unread id owner name n xs = by_calls (call id nil) owner name xs ⊥ ((λ T d (o, i, a). n i), tt)

  pub method_unread : (id : ℕ) (x : Node) → WithoutCalls x → (owner name : ℕ) → name ≢ id → (xs : List Arg) → ¬ Reads S H (method id x nil) owner name xs
  unfolding AtCalls ReadsAt
  method_unread id x w owner name n xs =
      let P = Shows (method id x nil) owner name xs ⊥ in by_calls (method id x nil) owner name xs ⊥ ((λ T d (o, i, a). n i), (w P 1, tt))

  -- nor does one that is not visited, as the argument of a method call of another name
  pub bare_unvisited :
      (id : ℕ) (x : Node) (inner : ℕ) → WithoutCalls x → (owner name : ℕ) → name ≢ id
      → types_of S H (method_of_one id x (call inner nil)) (number_after x 1) ≡ none
      → (xs : List Arg) → ¬ Reads S H (method_of_one id x (call inner nil)) owner name xs
  unfolding AtCalls ReadsAt
  bare_unvisited id x inner w owner name n e xs =
      by_calls tree owner name xs ⊥ ((λ T d (o, i, a). n i), (w P 1, (((λ T d r. some≢none (sym d ∙ e)), tt), tt)))
    where
      tree : Node
      tree = method_of_one id x (call inner nil)

      P : ℕ → Node → Type 0
      P = Shows tree owner name xs ⊥
