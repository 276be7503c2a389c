-- Typings once more, by recursion over the tree: a device of the proofs.
use Prim.Native.Nat.{ℕ, suc, ◌≤◌, ◌<◌}
use mathlib.Core.List.{List, [], ◌∷◌}
use mathlib.Core.Logic.{◌≢◌, ◌⊎◌}
use mathlib.Core.Option.{Option, none, some}
use mathlib.Core.Path.{◌≡◌}
use Rattle.scoring.specs.Arg.{Arg}
use Rattle.question.specs.Tree.{Node, Row, number_after, number_after_row, binary, call, cons, leaf, member, method, argument_name, named, nil, unary}
use Rattle.question.specs.declared.Header.{Header}
use Rattle.operators.specs.Binary.{binary_out}
use Rattle.rules.specs.Member.{member_out}
use Rattle.operators.specs.Out.{any_ty, clean, error_ty}
use Rattle.operators.specs.Unary.{unary_out}
use Rattle.symbol.specs.Symbols.{Symbols}
use Rattle.ty.specs.Bytes.{Ty}
use Rattle.typing.specs.CleanCall.{CleanCall, CleanMethod, HasList}
use Rattle.typing.specs.Visits.{Choice}

-- the choice gives number n the type T, which is not Error
pub record Has (τ : Choice) (n : ℕ) (T : Ty) : Type 0 where
  pub gives : τ n ≡ some T
  pub real : T ≢ error_ty

-- the numbers from a up to, and without, e get no type
abbrev pub Unvisited : Choice → ℕ → ℕ → Type 0
Unvisited τ a e = (k : ℕ) → a ≤ k → k < e → τ k ≡ none

-- The clean rules, each over what its children's typings say (`X t`: the child is typed, with type t).
pub record CleanBinary (S : Symbols) (op : ℕ) (X Y : Ty → Type 0) (T : Ty) : Type 0 where
  pub lt : Ty
  pub rt : Ty
  pub left : X lt
  pub right : Y rt
  pub rule : binary_out S op lt rt ≡ clean T

pub record CleanUnary (op : ℕ) (X : Ty → Type 0) (T : Ty) : Type 0 where
  pub ot : Ty
  pub operand : X ot
  pub rule : unary_out op ot ≡ clean T

pub record CleanMember (S : Symbols) (H : Header) (id : ℕ) (X : Ty → Type 0) (T : Ty) : Type 0 where
  pub ot : Ty
  pub object : X ot
  pub rule : member_out S H id ot ≡ clean T

pub record WithArgs (Ok : List Arg → Type 0) (Z : List Arg → Type 0) : Type 0 where
  pub args : List Arg
  pub row : Z args
  pub rule : Ok args

pub record NoCall (listed unvisited : Type 0) (T : Ty) : Type 0 where
  pub unlisted : ¬ listed
  pub is_any : T ≡ any_ty
  pub skipped : unvisited

pub record OnObject (S : Symbols) (H : Header) (id : ℕ) (X : Ty → Type 0) (Z : List Arg → Type 0) (unvisited : Type 0) (T : Ty) : Type 0 where
  pub ot : Ty
  pub object : X ot
  pub rule : WithArgs (λ xs. CleanMethod S H id ot xs T) Z ⊎ NoCall (HasList S id ot) unvisited T

pub record ArgsTyped (name : Option ℕ) (n : ℕ) (X : Ty → Type 0) (Z : List Arg → Type 0) (xs : List Arg) : Type 0 where
  pub ty : Ty
  pub rest : List Arg
  pub are : xs ≡ record { name = name; ty = ty; node = n } ∷ rest
  pub first : X ty
  pub others : Z rest

module _ (S : Symbols) (H : Header) (τ : Choice) where
  -- the tree, whose root has number n, is typed by τ, and its root has type T
  unfoldable mutual
    pub Typed : Node → ℕ → Ty → Type 0
    Typed (leaf t) n T = Has τ n T × (T ≡ t)
    Typed (binary op l r) n T = Has τ n T × CleanBinary S op (λ t. Typed l (suc n) t) (λ t. Typed r (number_after l (suc n)) t) T
    Typed (unary op x) n T = Has τ n T × CleanUnary op (λ t. Typed x (suc n) t) T
    Typed (named id x) n T = Has τ n T × Typed x (suc n) T
    Typed (member id x) n T = Has τ n T × CleanMember S H id (λ t. Typed x (suc n) t) T
    Typed (call id r) n T = Has τ n T × WithArgs (λ xs. CleanCall S H id xs T) (λ xs. RowTyped r (suc n) xs)
    Typed (method id x r) n T =
        let a = number_after x (suc n) in
        Has τ n T × OnObject S H id (λ t. Typed x (suc n) t) (λ xs. RowTyped r a xs) (Unvisited τ a (number_after_row r a)) T

    -- a row's arguments, the first of which has number n, are typed, and are xs to the call
    pub RowTyped : Row → ℕ → List Arg → Type 0
    RowTyped nil n xs = xs ≡ []
    RowTyped (cons x r) n xs = ArgsTyped (argument_name x) n (λ t. Typed x n t) (λ ys. RowTyped r (number_after x n) ys) xs

-- the whole tree, whose root is number 0
pub record Structural (S : Symbols) (H : Header) (tree : Node) (τ : Choice) : Type 0 where
  pub root : Ty
  pub obeys : Typed S H τ tree 0 root
  pub past : (k : ℕ) → number_after tree 0 ≤ k → τ k ≡ none
