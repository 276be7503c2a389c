-- A typing gives a type to exactly the numbers that it visits.
use Prim.Native.Nat.{ℕ, suc, ◌≤◌, ◌<◌}
use mathlib.Core.List.{List}
use mathlib.Core.Logic.{◌≢◌, ◌⊎◌, inl, inr, ◌↔◌}
use mathlib.Core.Option.{some}
use mathlib.Core.Path.{◌≡◌, sym, ◌∙◌, subst}
use native.Mathlib.Omega.{arith}
use Rattle.scoring.proofs.NoneAndNil.{some≢none}
use Rattle.scoring.specs.Arg.{Arg}
use Rattle.question.specs.Tree.{Node, Row, number_after, number_after_row, binary, call, cons, leaf, member, method, named, nil, unary}
use Rattle.question.specs.declared.Header.{Header}
use Rattle.operators.specs.Out.{error_ty}
use Rattle.symbol.specs.Symbols.{Symbols}
use Rattle.ty.specs.Bytes.{Ty}
use Rattle.typing.proofs.Base.{some_inj, split}
use Rattle.typing.proofs.CleanCalls.{list_law, method_law}
use Rattle.typing.proofs.Structural.{Has, NoCall, RowTyped, Structural, Typed, Unvisited, WithArgs}
use Rattle.typing.specs.CleanCall.{CleanMethod, HasList}
use Rattle.typing.specs.Visits.{Choice, ListedBy, RowVisits, Visits}

-- a number that gets a type other than Error
pub record Typeable (τ : Choice) (k : ℕ) : Type 0 where
  pub ty : Ty
  pub has : Has τ k ty

under : {A : Type 0} (n k : ℕ) → n ≤ k → (suc n ≤ k → A) → (k ≡ n) ⊎ A
under {A} n k a f = go (split n k)
  where
    go : (n < k) ⊎ (k ≤ n) → (k ≡ n) ⊎ A
    go (inl p) = inr (f p)
    go (inr p) = inl (omega arith)

two : {A B : Type 0} (m k : ℕ) → (k < m → A) → (m ≤ k → B) → A ⊎ B
two {A} {B} m k f g = go (split k m)
  where
    go : (k < m) ⊎ (m ≤ k) → A ⊎ B
    go (inl p) = inl (f p)
    go (inr p) = inr (g p)

module _ (S : Symbols) (H : Header) (τ : Choice) where
  pub typed_has : (x : Node) (n : ℕ) (T : Ty) → Typed S H τ x n T → Has τ n T
  unfolding Typed
  typed_has (leaf t) n T (h, c) = h
  typed_has (binary op l r) n T (h, c) = h
  typed_has (unary op x) n T (h, c) = h
  typed_has (named id x) n T (h, c) = h
  typed_has (member id x) n T (h, c) = h
  typed_has (call id r) n T (h, c) = h
  typed_has (method id x r) n T (h, c) = h

  here : (n k : ℕ) (T : Ty) → Has τ n T → k ≡ n → Typeable τ k
  here n k T h p = rw p (record { ty = T; has = h })

  -- a method call that is ruled by a list has one
  pub method_listed : (id : ℕ) (t : Ty) (xs : List Arg) (T : Ty) → T ≢ error_ty → CleanMethod S H id t xs T → HasList S id t
  method_listed id t xs T h c = let s = (method_law S H id 0 t xs T h).0 c in (list_law S H id t).1 (s.callee, s.list)

  mutual
    unfolding Typed Visits

    visited_typed : (x : Node) (n : ℕ) (T : Ty) → Typed S H τ x n T → (k : ℕ) → Visits S τ x n k → Typeable τ k
    visited_typed (leaf t) n T (h, c) k v = here n k T h v
    visited_typed (binary op l r) n T (h, c) k (inl p) = here n k T h p
    visited_typed (binary op l r) n T (h, c) k (inr (inl v)) = visited_typed l (suc n) c.lt c.left k v
    visited_typed (binary op l r) n T (h, c) k (inr (inr v)) = visited_typed r (number_after l (suc n)) c.rt c.right k v
    visited_typed (unary op x) n T (h, c) k (inl p) = here n k T h p
    visited_typed (unary op x) n T (h, c) k (inr v) = visited_typed x (suc n) c.ot c.operand k v
    visited_typed (named id x) n T (h, c) k (inl p) = here n k T h p
    visited_typed (named id x) n T (h, c) k (inr v) = visited_typed x (suc n) T c k v
    visited_typed (member id x) n T (h, c) k (inl p) = here n k T h p
    visited_typed (member id x) n T (h, c) k (inr v) = visited_typed x (suc n) c.ot c.object k v
    visited_typed (call id r) n T (h, c) k (inl p) = here n k T h p
    visited_typed (call id r) n T (h, c) k (inr v) = row_visited_typed r (suc n) c.args c.row k v
    visited_typed (method id x r) n T (h, c) k (inl p) = here n k T h p
    visited_typed (method id x r) n T (h, c) k (inr (inl v)) = visited_typed x (suc n) c.ot c.object k v
    visited_typed (method id x r) n T (h, c) k (inr (inr (l, v))) =
        method_row (λ xs z. row_visited_typed r (number_after x (suc n)) xs z k v) (typed_has x (suc n) c.ot c.object) l c.rule
      where
        method_row : ((xs : List Arg) → RowTyped S H τ r (number_after x (suc n)) xs → Typeable τ k) → Has τ (suc n) c.ot → ListedBy S τ id (suc n)
            → WithArgs (λ xs. CleanMethod S H id c.ot xs T) (RowTyped S H τ r (number_after x (suc n))) ⊎ NoCall (HasList S id c.ot) (Unvisited τ (number_after x (suc n)) (number_after_row r (number_after x (suc n)))) T → Typeable τ k
        method_row f g b (inl w) = f w.args w.row
        method_row f g b (inr w) = absurd (w.unlisted (subst (HasList S id) (some_inj (sym b.gives ∙ g.gives)) b.listed))

    row_visited_typed : (r : Row) (n : ℕ) (xs : List Arg) → RowTyped S H τ r n xs → (k : ℕ) → RowVisits S τ r n k → Typeable τ k
    row_visited_typed nil n xs c k v = absurd v
    row_visited_typed (cons x r) n xs c k (inl v) = visited_typed x n c.ty c.first k v
    row_visited_typed (cons x r) n xs c k (inr v) = row_visited_typed r (number_after x n) c.rest c.others k v

  mutual
    unfolding Typed Visits number_after

    typed_visited : (x : Node) (n : ℕ) (T : Ty) → Typed S H τ x n T → (k : ℕ) → n ≤ k → k < number_after x n → (U : Ty) → τ k ≡ some U → Visits S τ x n k
    typed_visited (leaf t) n T (h, c) k a b U s = omega arith
    typed_visited (binary op l r) n T (h, c) k a b U s =
        under n k a (λ p. two (number_after l (suc n)) k (λ q. typed_visited l (suc n) c.lt c.left k p q U s) (λ q. typed_visited r (number_after l (suc n)) c.rt c.right k q b U s))
    typed_visited (unary op x) n T (h, c) k a b U s = under n k a (λ p. typed_visited x (suc n) c.ot c.operand k p b U s)
    typed_visited (named id x) n T (h, c) k a b U s = under n k a (λ p. typed_visited x (suc n) T c k p b U s)
    typed_visited (member id x) n T (h, c) k a b U s = under n k a (λ p. typed_visited x (suc n) c.ot c.object k p b U s)
    typed_visited (call id r) n T (h, c) k a b U s = under n k a (λ p. row_typed_visited r (suc n) c.args c.row k p b U s)
    typed_visited (method id x r) n T (h, c) k a b U s =
        under n k a (λ p. two (number_after x (suc n)) k
        (λ q. typed_visited x (suc n) c.ot c.object k p q U s)
        (λ q. method_row (typed_has x (suc n) c.ot c.object) q (λ xs z. row_typed_visited r (number_after x (suc n)) xs z k q b U s) c.rule))
      where
        method_row : Has τ (suc n) c.ot → number_after x (suc n) ≤ k → ((xs : List Arg) → RowTyped S H τ r (number_after x (suc n)) xs → RowVisits S τ r (number_after x (suc n)) k)
            → WithArgs (λ xs. CleanMethod S H id c.ot xs T) (RowTyped S H τ r (number_after x (suc n))) ⊎ NoCall (HasList S id c.ot) (Unvisited τ (number_after x (suc n)) (number_after_row r (number_after x (suc n)))) T
            → ListedBy S τ id (suc n) × RowVisits S τ r (number_after x (suc n)) k
        method_row g q f (inl w) = (record { ty = c.ot; gives = g.gives; listed = method_listed id c.ot w.args T h.real w.rule }, f w.args w.row)
        method_row g q f (inr w) = absurd (some≢none (sym s ∙ w.skipped k q b))

    row_typed_visited : (r : Row) (n : ℕ) (xs : List Arg) → RowTyped S H τ r n xs → (k : ℕ) → n ≤ k → k < number_after_row r n → (U : Ty) → τ k ≡ some U → RowVisits S τ r n k
    row_typed_visited nil n xs c k a b U s = omega arith
    row_typed_visited (cons x r) n xs c k a b U s =
        two (number_after x n) k (λ q. typed_visited x n c.ty c.first k a q U s) (λ q. row_typed_visited r (number_after x n) c.rest c.others k q b U s)

  -- a typing gives each visited number a type other than Error, and every other number none
  pub visited_iff : (tree : Node) → Structural S H tree τ → (k : ℕ) → Visits S τ tree 0 k ↔ ((U : Ty) × (τ k ≡ some U))
  visited_iff tree t k = (
    λ v. let y = visited_typed tree 0 t.root t.obeys k v in (y.ty, y.has.gives),
    λ (U, s). go (split k (number_after tree 0)) U s,
  )
    where
      go : (k < number_after tree 0) ⊎ (number_after tree 0 ≤ k) → (U : Ty) → τ k ≡ some U → Visits S τ tree 0 k
      go (inl b) U s = typed_visited tree 0 t.root t.obeys k (omega arith) b U s
      go (inr b) U s = absurd (some≢none (sym s ∙ t.past k b))

  pub visited_real : (tree : Node) → Structural S H tree τ → (k : ℕ) → Visits S τ tree 0 k → Typeable τ k
  visited_real tree t k v = visited_typed tree 0 t.root t.obeys k v
