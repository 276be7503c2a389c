-- Typings by a condition at each number, and by recursion over the tree, are the same.
use Prim.Native.Nat.{ℕ, suc, ◌≤◌, ◌<◌}
use mathlib.Core.List.{List}
use mathlib.Core.Logic.{◌≢◌, ◌⊎◌, inl, inr, ◌↔◌}
use mathlib.Core.Option.{Option, none, some}
use mathlib.Core.Path.{◌≡◌, refl, ap, sym, ◌∙◌, subst}
use native.Mathlib.Omega.{arith}
use Rattle.scoring.proofs.NoneAndNil.{some≢none}
use Rattle.scoring.specs.Arg.{Arg}
use Rattle.question.specs.Tree.{Node, Row, number_after, number_after_row, binary, call, cons, leaf, member, method, named, nil, unary}
use Rattle.question.specs.declared.Header.{Header}
use Rattle.operators.specs.Out.{any_ty, error_ty}
use Rattle.symbol.specs.Symbols.{Symbols}
use Rattle.ty.specs.Bytes.{Ty}
use Rattle.typing.proofs.Base.{some_inj}
use Rattle.typing.proofs.Structural.{Has, NoCall, RowTyped, Structural, Typed, Unvisited, WithArgs}
use Rattle.typing.proofs.Visited.{typed_has, method_listed, visited_iff, visited_real}
use Rattle.typing.specs.CleanCall.{CleanMethod, HasList}
use Rattle.typing.specs.Typing.{ArgsBy, Subtree, IsTyping, RowSubtree, RuleAt}
use Rattle.typing.specs.Visits.{Choice, ListedBy, RowVisits, Visits}

-- numbers grow
mutual
  unfolding number_after

  pub after_le : (x : Node) (n : ℕ) → suc n ≤ number_after x n
  after_le (leaf t) n = omega arith
  after_le (binary op l r) n = omega (arith, after_le l (suc n), after_le r (number_after l (suc n)))
  after_le (unary op x) n = omega (arith, after_le x (suc n))
  after_le (named id x) n = omega (arith, after_le x (suc n))
  after_le (member id x) n = omega (arith, after_le x (suc n))
  after_le (call id r) n = afters_le r (suc n)
  after_le (method id x r) n = omega (arith, after_le x (suc n), afters_le r (number_after x (suc n)))

  pub afters_le : (r : Row) (n : ℕ) → n ≤ number_after_row r n
  afters_le nil n = omega arith
  afters_le (cons x r) n = omega (arith, after_le x n, afters_le r (number_after x n))

module _ (S : Symbols) (τ : Choice) where
  record Between (a e k : ℕ) : Type 0 where
    from : a ≤ k
    upto : k < e

  mutual
    unfolding Visits number_after

    visits_between : (x : Node) (n k : ℕ) → Visits S τ x n k → Between n (number_after x n) k
    visits_between (leaf t) n k v = record { from = omega arith; upto = omega arith }
    visits_between (binary op l r) n k (inl p) = let a = after_le l (suc n) in let b = after_le r (number_after l (suc n)) in record { from = omega arith; upto = omega arith }
    visits_between (binary op l r) n k (inr (inl v)) = let a = visits_between l (suc n) k v in let b = after_le r (number_after l (suc n)) in record { from = omega arith; upto = omega arith }
    visits_between (binary op l r) n k (inr (inr v)) = let a = visits_between r (number_after l (suc n)) k v in let b = after_le l (suc n) in record { from = omega arith; upto = omega arith }
    visits_between (unary op x) n k (inl p) = let a = after_le x (suc n) in record { from = omega arith; upto = omega arith }
    visits_between (unary op x) n k (inr v) = let a = visits_between x (suc n) k v in record { from = omega arith; upto = omega arith }
    visits_between (named id x) n k (inl p) = let a = after_le x (suc n) in record { from = omega arith; upto = omega arith }
    visits_between (named id x) n k (inr v) = let a = visits_between x (suc n) k v in record { from = omega arith; upto = omega arith }
    visits_between (member id x) n k (inl p) = let a = after_le x (suc n) in record { from = omega arith; upto = omega arith }
    visits_between (member id x) n k (inr v) = let a = visits_between x (suc n) k v in record { from = omega arith; upto = omega arith }
    visits_between (call id r) n k (inl p) = let a = afters_le r (suc n) in record { from = omega arith; upto = omega arith }
    visits_between (call id r) n k (inr v) = let a = row_between r (suc n) k v in record { from = omega arith; upto = omega arith }
    visits_between (method id x r) n k (inl p) = let a = after_le x (suc n) in let b = afters_le r (number_after x (suc n)) in record { from = omega arith; upto = omega arith }
    visits_between (method id x r) n k (inr (inl v)) = let a = visits_between x (suc n) k v in let b = afters_le r (number_after x (suc n)) in record { from = omega arith; upto = omega arith }
    visits_between (method id x r) n k (inr (inr (l, v))) = let a = row_between r (number_after x (suc n)) k v in let b = after_le x (suc n) in record { from = omega arith; upto = omega arith }

    row_between : (r : Row) (n k : ℕ) → RowVisits S τ r n k → Between n (number_after_row r n) k
    row_between nil n k v = absurd v
    row_between (cons x r) n k (inl v) = let a = visits_between x n k v in let b = afters_le r (number_after x n) in record { from = omega arith; upto = omega arith }
    row_between (cons x r) n k (inr v) = let a = row_between r (number_after x n) k v in let b = after_le x n in record { from = omega arith; upto = omega arith }

  mutual
    unfolding Subtree number_after

    at_between : (x : Node) (n k : ℕ) (y : Node) → Subtree x n k y → Between n (number_after x n) k
    at_between (leaf t) n k y (p, q) = record { from = omega arith; upto = omega arith }
    at_between (binary op l r) n k y (inl (p, q)) = let a = after_le l (suc n) in let b = after_le r (number_after l (suc n)) in record { from = omega arith; upto = omega arith }
    at_between (binary op l r) n k y (inr (inl v)) = let a = at_between l (suc n) k y v in let b = after_le r (number_after l (suc n)) in record { from = omega arith; upto = omega arith }
    at_between (binary op l r) n k y (inr (inr v)) = let a = at_between r (number_after l (suc n)) k y v in let b = after_le l (suc n) in record { from = omega arith; upto = omega arith }
    at_between (unary op x) n k y (inl (p, q)) = let a = after_le x (suc n) in record { from = omega arith; upto = omega arith }
    at_between (unary op x) n k y (inr v) = let a = at_between x (suc n) k y v in record { from = omega arith; upto = omega arith }
    at_between (named id x) n k y (inl (p, q)) = let a = after_le x (suc n) in record { from = omega arith; upto = omega arith }
    at_between (named id x) n k y (inr v) = let a = at_between x (suc n) k y v in record { from = omega arith; upto = omega arith }
    at_between (member id x) n k y (inl (p, q)) = let a = after_le x (suc n) in record { from = omega arith; upto = omega arith }
    at_between (member id x) n k y (inr v) = let a = at_between x (suc n) k y v in record { from = omega arith; upto = omega arith }
    at_between (call id r) n k y (inl (p, q)) = let a = afters_le r (suc n) in record { from = omega arith; upto = omega arith }
    at_between (call id r) n k y (inr v) = let a = row_at_between r (suc n) k y v in record { from = omega arith; upto = omega arith }
    at_between (method id x r) n k y (inl (p, q)) = let a = after_le x (suc n) in let b = afters_le r (number_after x (suc n)) in record { from = omega arith; upto = omega arith }
    at_between (method id x r) n k y (inr (inl v)) = let a = at_between x (suc n) k y v in let b = afters_le r (number_after x (suc n)) in record { from = omega arith; upto = omega arith }
    at_between (method id x r) n k y (inr (inr v)) = let a = row_at_between r (number_after x (suc n)) k y v in let b = after_le x (suc n) in record { from = omega arith; upto = omega arith }

    row_at_between : (r : Row) (n k : ℕ) (y : Node) → RowSubtree r n k y → Between n (number_after_row r n) k
    row_at_between nil n k y v = absurd v
    row_at_between (cons x r) n k y (inl v) = let a = at_between x n k y v in let b = afters_le r (number_after x n) in record { from = omega arith; upto = omega arith }
    row_at_between (cons x r) n k y (inr v) = let a = row_at_between r (number_after x n) k y v in let b = after_le x n in record { from = omega arith; upto = omega arith }

  root_visits : (x : Node) (n : ℕ) → Visits S τ x n n
  unfolding Visits
  root_visits (leaf t) n = refl
  root_visits (binary op l r) n = inl refl
  root_visits (unary op x) n = inl refl
  root_visits (named id x) n = inl refl
  root_visits (member id x) n = inl refl
  root_visits (call id r) n = inl refl
  root_visits (method id x r) n = inl refl

  root_at_lem : (x : Node) (n : ℕ) → Subtree x n n x
  unfolding Subtree
  root_at_lem (leaf t) n = (refl, refl)
  root_at_lem (binary op l r) n = inl (refl, refl)
  root_at_lem (unary op x) n = inl (refl, refl)
  root_at_lem (named id x) n = inl (refl, refl)
  root_at_lem (member id x) n = inl (refl, refl)
  root_at_lem (call id r) n = inl (refl, refl)
  root_at_lem (method id x r) n = inl (refl, refl)

module _ (S : Symbols) (H : Header) (τ : Choice) where
  -- from a typing of the tree to the rule at each number
  has : (x : Node) (n : ℕ) (T : Ty) → Typed S H τ x n T → τ n ≡ some T
  has x n T t = (typed_has S H τ x n T t).gives

  args_by : (r : Row) (n : ℕ) (xs : List Arg) → RowTyped S H τ r n xs → ArgsBy τ r n xs
  unfolding Typed ArgsBy
  args_by nil n xs c = c
  args_by (cons x r) n xs c = (c.ty, c.rest, has x n c.ty c.first, c.are, args_by r (number_after x n) c.rest c.others)

  rule_here : (x : Node) (n : ℕ) (T : Ty) → Typed S H τ x n T → RuleAt S H τ x n T
  unfolding Typed RuleAt
  rule_here (leaf t) n T (h, c) = c
  rule_here (binary op l r) n T (h, c) = (c.lt, c.rt, has l (suc n) c.lt c.left, has r (number_after l (suc n)) c.rt c.right, c.rule)
  rule_here (unary op x) n T (h, c) = (c.ot, has x (suc n) c.ot c.operand, c.rule)
  rule_here (named id x) n T (h, c) = has x (suc n) T c
  rule_here (member id x) n T (h, c) = (c.ot, has x (suc n) c.ot c.object, c.rule)
  rule_here (call id r) n T (h, c) = (c.args, args_by r (suc n) c.args c.row, c.rule)
  rule_here (method id x r) n T (h, c) = (c.ot, has x (suc n) c.ot c.object, go c.rule)
    where
      m : ℕ
      m = number_after x (suc n)

      go : WithArgs (λ xs. CleanMethod S H id c.ot xs T) (RowTyped S H τ r (number_after x (suc n))) ⊎ NoCall (HasList S id c.ot) (Unvisited τ (number_after x (suc n)) (number_after_row r (number_after x (suc n)))) T
          → ((xs : List Arg) × ArgsBy τ r (number_after x (suc n)) xs × CleanMethod S H id c.ot xs T) ⊎ (¬ HasList S id c.ot × (T ≡ any_ty))
      go (inl w) = inl (w.args, args_by r (number_after x (suc n)) w.args w.row, w.rule)
      go (inr w) = inr (w.unlisted, w.is_any)

  -- the root's rule, where the number and the tree are known only up to a path
  moved : (x : Node) (n : ℕ) (T : Ty) → Typed S H τ x n T → (k : ℕ) (y : Node) (U : Ty) → k ≡ n → y ≡ x → τ k ≡ some U → RuleAt S H τ y k U
  moved x n T t k y U p q s =
      let e : U ≡ T = some_inj (sym s ∙ ap τ p ∙ has x n T t) in
      rw (q, p, e) (rule_here x n T t)

  mutual
    unfolding Typed Subtree number_after

    typed_rule : (x : Node) (n : ℕ) (T : Ty) → Typed S H τ x n T → (k : ℕ) (y : Node) (U : Ty) → Subtree x n k y → τ k ≡ some U → RuleAt S H τ y k U
    typed_rule (leaf t) n T d k y U (p, q) s = moved (leaf t) n T d k y U p q s
    typed_rule (binary op l r) n T d k y U (inl (p, q)) s = moved (binary op l r) n T d k y U p q s
    typed_rule (binary op l r) n T (h, c) k y U (inr (inl a)) s = typed_rule l (suc n) c.lt c.left k y U a s
    typed_rule (binary op l r) n T (h, c) k y U (inr (inr a)) s = typed_rule r (number_after l (suc n)) c.rt c.right k y U a s
    typed_rule (unary op x) n T d k y U (inl (p, q)) s = moved (unary op x) n T d k y U p q s
    typed_rule (unary op x) n T (h, c) k y U (inr a) s = typed_rule x (suc n) c.ot c.operand k y U a s
    typed_rule (named id x) n T d k y U (inl (p, q)) s = moved (named id x) n T d k y U p q s
    typed_rule (named id x) n T (h, c) k y U (inr a) s = typed_rule x (suc n) T c k y U a s
    typed_rule (member id x) n T d k y U (inl (p, q)) s = moved (member id x) n T d k y U p q s
    typed_rule (member id x) n T (h, c) k y U (inr a) s = typed_rule x (suc n) c.ot c.object k y U a s
    typed_rule (call id r) n T d k y U (inl (p, q)) s = moved (call id r) n T d k y U p q s
    typed_rule (call id r) n T (h, c) k y U (inr a) s = row_typed_rule r (suc n) c.args c.row k y U a s
    typed_rule (method id x r) n T d k y U (inl (p, q)) s = moved (method id x r) n T d k y U p q s
    typed_rule (method id x r) n T (h, c) k y U (inr (inl a)) s = typed_rule x (suc n) c.ot c.object k y U a s
    typed_rule (method id x r) n T (h, c) k y U (inr (inr a)) s = under (λ xs z. row_typed_rule r (number_after x (suc n)) xs z k y U a s) c.rule
      where
        under : ((xs : List Arg) → RowTyped S H τ r (number_after x (suc n)) xs → RuleAt S H τ y k U)
            → WithArgs (λ xs. CleanMethod S H id c.ot xs T) (RowTyped S H τ r (number_after x (suc n))) ⊎ NoCall (HasList S id c.ot) (Unvisited τ (number_after x (suc n)) (number_after_row r (number_after x (suc n)))) T → RuleAt S H τ y k U
        under f (inl w) = f w.args w.row
        under f (inr w) = let b = row_at_between S τ r (number_after x (suc n)) k y a in absurd (some≢none (sym s ∙ w.skipped k b.from b.upto))

    row_typed_rule : (r : Row) (n : ℕ) (xs : List Arg) → RowTyped S H τ r n xs → (k : ℕ) (y : Node) (U : Ty) → RowSubtree r n k y → τ k ≡ some U → RuleAt S H τ y k U
    row_typed_rule nil n xs c k y U a s = absurd a
    row_typed_rule (cons x r) n xs c k y U (inl a) s = typed_rule x n c.ty c.first k y U a s
    row_typed_rule (cons x r) n xs c k y U (inr a) s = row_typed_rule r (number_after x n) c.rest c.others k y U a s

  pub typing_flat : (tree : Node) → Structural S H tree τ → IsTyping S H tree τ
  typing_flat tree t = record {
    given = λ k v. let y = visited_real S H τ tree t k v in (y.ty, y.has.gives, y.has.real);
    others = λ k nv. none_or (τ k) refl (λ U s. nv ((visited_iff S H τ tree t k).1 (U, s)));
    obeys = λ k y T a v s. typed_rule tree 0 t.root t.obeys k y T a s;
  }
    where
      none_or : {k : ℕ} (o : Option Ty) → τ k ≡ o → ((U : Ty) → τ k ≡ some U → ⊥) → τ k ≡ none
      none_or none e f = e
      none_or (some U) e f = absurd (f U e)

  -- from the rules at each number to a typing of the tree: what a part of the tree is given
  record Part (W : ℕ → Type 0) (A : ℕ → Node → Type 0) (n e : ℕ) : Type 0 where
    given : (k : ℕ) → W k → (T : Ty) × (τ k ≡ some T) × (T ≢ error_ty)
    others : (k : ℕ) → n ≤ k → k < e → ¬ W k → τ k ≡ none
    obeys : (k : ℕ) (y : Node) (T : Ty) → A k y → W k → τ k ≡ some T → RuleAt S H τ y k T

  -- a part of a part: its visits and its nodes are the whole's, and within its range the whole visits nothing else
  sub : {W W' : ℕ → Type 0} {A A' : ℕ → Node → Type 0} {n e n' e' : ℕ} → Part W A n e → n ≤ n' → e' ≤ e
      → ((k : ℕ) → W' k → W k) → ((k : ℕ) (y : Node) → A' k y → A k y) → ((k : ℕ) → n' ≤ k → k < e' → W k → W' k) → Part W' A' n' e'
  sub p a b f g h = record {
    given = λ k v. p.given k (f k v);
    others = λ k i j nv. p.others k (omega arith) (omega arith) (λ v. nv (h k i j v));
    obeys = λ k y T at v s. p.obeys k y T (g k y at) (f k v) s;
  }

  real : {W : ℕ → Type 0} {A : ℕ → Node → Type 0} {n e : ℕ} (p : Part W A n e) (k : ℕ) (T : Ty) → W k → τ k ≡ some T → Has τ k T
  real p k T v s = let (U, e, h) = p.given k v in record { gives = s; real = λ q. h (some_inj (sym e ∙ s) ∙ q) }

  abbrev NodePart : Node → ℕ → Type 0
  NodePart x n = Part (Visits S τ x n) (Subtree x n) n (number_after x n)

  abbrev RowPart : Row → ℕ → Type 0
  RowPart r n = Part (RowVisits S τ r n) (RowSubtree r n) n (number_after_row r n)

  left-part : (op : ℕ) (l r : Node) (n : ℕ) → NodePart (binary op l r) n → NodePart l (suc n)
  unfolding Visits Subtree number_after
  left-part op l r n p = sub p (omega arith) (omega (arith, after_le r (number_after l (suc n)))) (λ k v. inr (inl v)) (λ k y a. inr (inl a)) keep
    where
      keep : (k : ℕ) → suc n ≤ k → k < number_after l (suc n) → Visits S τ (binary op l r) n k → Visits S τ l (suc n) k
      keep k i j (inl q) = absurd (omega arith)
      keep k i j (inr (inl v)) = v
      keep k i j (inr (inr v)) = let b = visits_between S τ r (number_after l (suc n)) k v in absurd (omega arith)

  right_part : (op : ℕ) (l r : Node) (n : ℕ) → NodePart (binary op l r) n → NodePart r (number_after l (suc n))
  unfolding Visits Subtree number_after
  right_part op l r n p = sub p (omega (arith, after_le l (suc n))) (omega arith) (λ k v. inr (inr v)) (λ k y a. inr (inr a)) keep
    where
      keep : (k : ℕ) → number_after l (suc n) ≤ k → k < number_after r (number_after l (suc n)) → Visits S τ (binary op l r) n k → Visits S τ r (number_after l (suc n)) k
      keep k i j (inl q) = absurd (omega (arith, after_le l (suc n)))
      keep k i j (inr (inl v)) = let b = visits_between S τ l (suc n) k v in absurd (omega arith)
      keep k i j (inr (inr v)) = v

  only : (n k : ℕ) {W : Type 0} → suc n ≤ k → (k ≡ n) ⊎ W → W
  only n k i (inl q) = absurd (omega arith)
  only n k i (inr v) = v

  unary-part : (op : ℕ) (x : Node) (n : ℕ) → NodePart (unary op x) n → NodePart x (suc n)
  unfolding Visits Subtree number_after
  unary-part op x n p = sub p (omega arith) (omega arith) (λ k v. inr v) (λ k y a. inr a) (λ k i j v. only n k i v)

  named-part : (id : ℕ) (x : Node) (n : ℕ) → NodePart (named id x) n → NodePart x (suc n)
  unfolding Visits Subtree number_after
  named-part id x n p = sub p (omega arith) (omega arith) (λ k v. inr v) (λ k y a. inr a) (λ k i j v. only n k i v)

  member_part : (id : ℕ) (x : Node) (n : ℕ) → NodePart (member id x) n → NodePart x (suc n)
  unfolding Visits Subtree number_after
  member_part id x n p = sub p (omega arith) (omega arith) (λ k v. inr v) (λ k y a. inr a) (λ k i j v. only n k i v)

  call-part : (id : ℕ) (r : Row) (n : ℕ) → NodePart (call id r) n → RowPart r (suc n)
  unfolding Visits Subtree number_after
  call-part id r n p = sub p (omega arith) (omega arith) (λ k v. inr v) (λ k y a. inr a) (λ k i j v. only n k i v)

  object_part : (id : ℕ) (x : Node) (r : Row) (n : ℕ) → NodePart (method id x r) n → NodePart x (suc n)
  unfolding Visits Subtree number_after
  object_part id x r n p = sub p (omega arith) (omega (arith, afters_le r (number_after x (suc n)))) (λ k v. inr (inl v)) (λ k y a. inr (inl a)) keep
    where
      keep : (k : ℕ) → suc n ≤ k → k < number_after x (suc n) → Visits S τ (method id x r) n k → Visits S τ x (suc n) k
      keep k i j (inl q) = absurd (omega arith)
      keep k i j (inr (inl v)) = v
      keep k i j (inr (inr (l, v))) = let b = row_between S τ r (number_after x (suc n)) k v in absurd (omega arith)

  args_part : (id : ℕ) (x : Node) (r : Row) (n : ℕ) → ListedBy S τ id (suc n) → NodePart (method id x r) n → RowPart r (number_after x (suc n))
  unfolding Visits Subtree number_after
  args_part id x r n lb p = sub p (omega (arith, after_le x (suc n))) (omega arith) (λ k v. inr (inr (lb, v))) (λ k y a. inr (inr a)) keep
    where
      keep : (k : ℕ) → number_after x (suc n) ≤ k → k < number_after_row r (number_after x (suc n)) → Visits S τ (method id x r) n k → RowVisits S τ r (number_after x (suc n)) k
      keep k i j (inl q) = absurd (omega (arith, after_le x (suc n)))
      keep k i j (inr (inl v)) = let b = visits_between S τ x (suc n) k v in absurd (omega arith)
      keep k i j (inr (inr (l, v))) = v

  -- the arguments of a method call with no list are not visited
  skipped_part : (id : ℕ) (x : Node) (r : Row) (n : ℕ) (t : Ty) → τ (suc n) ≡ some t → ¬ HasList S id t → NodePart (method id x r) n → Unvisited τ (number_after x (suc n)) (number_after_row r (number_after x (suc n)))
  unfolding Visits Subtree number_after
  skipped_part id x r n t e nl p k i j = p.others k (omega (arith, after_le x (suc n))) j never
    where
      never : Visits S τ (method id x r) n k → ⊥
      never (inl q) = omega (arith, after_le x (suc n))
      never (inr (inl v)) = let b = visits_between S τ x (suc n) k v in omega arith
      never (inr (inr (l, v))) = nl (subst (HasList S id) (some_inj (sym l.gives ∙ e)) l.listed)

  first_part : (x : Node) (r : Row) (n : ℕ) → RowPart (cons x r) n → NodePart x n
  unfolding Visits Subtree number_after
  first_part x r n p = sub p (omega arith) (omega (arith, afters_le r (number_after x n))) (λ k v. inl v) (λ k y a. inl a) keep
    where
      keep : (k : ℕ) → n ≤ k → k < number_after x n → RowVisits S τ (cons x r) n k → Visits S τ x n k
      keep k i j (inl v) = v
      keep k i j (inr v) = let b = row_between S τ r (number_after x n) k v in absurd (omega arith)

  rest_part : (x : Node) (r : Row) (n : ℕ) → RowPart (cons x r) n → RowPart r (number_after x n)
  unfolding Visits Subtree number_after
  rest_part x r n p = sub p (omega (arith, after_le x n)) (omega arith) (λ k v. inr v) (λ k y a. inr a) keep
    where
      keep : (k : ℕ) → number_after x n ≤ k → k < number_after_row r (number_after x n) → RowVisits S τ (cons x r) n k → RowVisits S τ r (number_after x n) k
      keep k i j (inl v) = let b = visits_between S τ x n k v in absurd (omega arith)
      keep k i j (inr v) = v

  root_has : (x : Node) (n : ℕ) (T : Ty) → NodePart x n → τ n ≡ some T → Has τ n T
  root_has x n T p s = real p n T (root_visits S τ x n) s

  root_rule : (x : Node) (n : ℕ) (T : Ty) → NodePart x n → τ n ≡ some T → RuleAt S H τ x n T
  root_rule x n T p s = p.obeys n x T (root_at_lem S τ x n) (root_visits S τ x n) s

  mutual
    unfolding Typed RuleAt ArgsBy

    flat_typed : (x : Node) (n : ℕ) (T : Ty) → NodePart x n → τ n ≡ some T → Typed S H τ x n T
    flat_typed (leaf t) n T p s = (root_has (leaf t) n T p s, root_rule (leaf t) n T p s)
    flat_typed (binary op l r) n T p s =
        let (lt, rt, el, er, rule) = root_rule (binary op l r) n T p s in (
          root_has (binary op l r) n T p s,
          record { lt = lt; rt = rt; left = flat_typed l (suc n) lt (left-part op l r n p) el; right = flat_typed r (number_after l (suc n)) rt (right_part op l r n p) er; rule = rule },
        )
    flat_typed (unary op x) n T p s =
        let (t, e, rule) = root_rule (unary op x) n T p s in
        (root_has (unary op x) n T p s, record { ot = t; operand = flat_typed x (suc n) t (unary-part op x n p) e; rule = rule })
    flat_typed (named id x) n T p s = (root_has (named id x) n T p s, flat_typed x (suc n) T (named-part id x n p) (root_rule (named id x) n T p s))
    flat_typed (member id x) n T p s =
        let (t, e, rule) = root_rule (member id x) n T p s in
        (root_has (member id x) n T p s, record { ot = t; object = flat_typed x (suc n) t (member_part id x n p) e; rule = rule })
    flat_typed (call id r) n T p s =
        let (xs, a, rule) = root_rule (call id r) n T p s in
        (root_has (call id r) n T p s, record { args = xs; row = flat_row r (suc n) xs (call-part id r n p) a; rule = rule })
    flat_typed (method id x r) n T p s =
        let (t, e, way) = root_rule (method id x r) n T p s in (
          root_has (method id x r) n T p s,
          record {
            ot = t;
            object = flat_typed x (suc n) t (object_part id x r n p) e;
            rule = go t e (λ q xs a. flat_row r (number_after x (suc n)) xs q a) way;
          },
        )
      where
        go : (t : Ty) → τ (suc n) ≡ some t → (RowPart r (number_after x (suc n)) → (xs : List Arg) → ArgsBy τ r (number_after x (suc n)) xs → RowTyped S H τ r (number_after x (suc n)) xs)
            → ((xs : List Arg) × ArgsBy τ r (number_after x (suc n)) xs × CleanMethod S H id t xs T) ⊎ (¬ HasList S id t × (T ≡ any_ty))
            → WithArgs (λ xs. CleanMethod S H id t xs T) (RowTyped S H τ r (number_after x (suc n))) ⊎ NoCall (HasList S id t) (Unvisited τ (number_after x (suc n)) (number_after_row r (number_after x (suc n)))) T
        go t e f (inl (xs, a, ok)) =
            let lb : ListedBy S τ id (suc n) = record { ty = t; gives = e; listed = method_listed S H τ id t xs T (root_has (method id x r) n T p s).real ok } in
            inl (record { args = xs; row = f (args_part id x r n lb p) xs a; rule = ok })
        go t e f (inr (nl, q)) = inr (record { unlisted = nl; is_any = q; skipped = skipped_part id x r n t e nl p })

    flat_row : (r : Row) (n : ℕ) (xs : List Arg) → RowPart r n → ArgsBy τ r n xs → RowTyped S H τ r n xs
    flat_row nil n xs p a = a
    flat_row (cons x r) n xs p (t, rest, e, q, a) =
        record { ty = t; rest = rest; are = q; first = flat_typed x n t (first_part x r n p) e; others = flat_row r (number_after x n) rest (rest_part x r n p) a }

  pub flat_typing : (tree : Node) → IsTyping S H tree τ → Structural S H tree τ
  flat_typing tree f =
      let part : NodePart tree 0 = record { given = f.given; others = λ k i j nv. f.others k nv; obeys = f.obeys } in
      let (T, e, h) = f.given 0 (root_visits S τ tree 0) in
      record {
        root = T;
        obeys = flat_typed tree 0 T part e;
        past = λ k b. f.others k (λ v. let w = visits_between S τ tree 0 k v in omega arith);
      }

  pub flat_iff : (tree : Node) → IsTyping S H tree τ ↔ Structural S H tree τ
  flat_iff tree = (flat_typing tree, typing_flat tree)
