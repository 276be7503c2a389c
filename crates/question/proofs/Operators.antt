-- An operator's number is one of those that there are, and no node is read where a number is no operator's.
use Prim.Native.Nat.{ℕ, ◌≤◌, ◌<◌}
use borrow.Author.Tests.{le-leb, lt-leb}
use lib.Dec.{leb}
use mathlib.Core.Bool.{Bool, true, false, ◌&&◌}
use mathlib.Core.Path.{◌≡◌, refl}
use native.Mathlib.Omega.{arith}
use Rattle.question.specs.Node.{read_of}
use Rattle.question.specs.NodeRead.{NodeRead, Bad, Binary, Unary, last_binary, last_unary}
use Rattle.question.specs.OperatorNumber.{binary_number, unary_number}
use Rattle.question.specs.declared.node.Node.{Node}
use Rattle.question.specs.declared.node.NodeFault.TheVariants.{Bad as BadNode}
use Rattle.question.specs.declared.node.NodeFault.{NodeFault}
use Rattle.question.specs.declared.operator.BinOp.TheVariants.{Add, Sub, Mul, Div, Mod, Eq, Ne, Lt, Gt, Le, Ge, And, Or, BitAnd, BitOr, BitXor, Shl, Shr}
use Rattle.question.specs.declared.operator.BinOp.TheVariants.{UShr, Assign, To, Is, As}
use Rattle.question.specs.declared.operator.BinOp.{BinOp}
use Rattle.question.specs.declared.operator.UnOp.TheVariants.{Minus, Not, Increment, Decrement, AddrOf, Dereference, NotNull}
use Rattle.question.specs.declared.operator.UnOp.{UnOp}
use Rattle.std.specs.Prelude.{Result, Ok, Err, IsErrAnd}
use Rattle.ty.specs.Choose.{choose}

-- every operator has a number up to the last
pub few_binary : (op : BinOp) → binary_number op ≤ last_binary
unfolding binary_number
few_binary Add = omega arith
few_binary Sub = omega arith
few_binary Mul = omega arith
few_binary Div = omega arith
few_binary Mod = omega arith
few_binary Eq = omega arith
few_binary Ne = omega arith
few_binary Lt = omega arith
few_binary Gt = omega arith
few_binary Le = omega arith
few_binary Ge = omega arith
few_binary And = omega arith
few_binary Or = omega arith
few_binary BitAnd = omega arith
few_binary BitOr = omega arith
few_binary BitXor = omega arith
few_binary Shl = omega arith
few_binary Shr = omega arith
few_binary UShr = omega arith
few_binary Assign = omega arith
few_binary To = omega arith
few_binary Is = omega arith
few_binary As = omega arith

pub few_unary : (op : UnOp) → unary_number op ≤ last_unary
unfolding unary_number
few_unary Minus = omega arith
few_unary Not = omega arith
few_unary Increment = omega arith
few_unary Decrement = omega arith
few_unary AddrOf = omega arith
few_unary Dereference = omega arith
few_unary NotNull = omega arith

-- a number that no operator has is past the last
pub past_binary : (n : ℕ) → ((op : BinOp) → binary_number op ≡ n → ⊥) → last_binary < n
unfolding binary_number
past_binary n h =
    omega (
      arith,
      h Add,
      h Sub,
      h Mul,
      h Div,
      h Mod,
      h Eq,
      h Ne,
      h Lt,
      h Gt,
      h Le,
      h Ge,
      h And,
      h Or,
      h BitAnd,
      h BitOr,
      h BitXor,
      h Shl,
      h Shr,
      h UShr,
      h Assign,
      h To,
      h Is,
      h As,
    )

pub past_unary : (n : ℕ) → ((op : UnOp) → unary_number op ≡ n → ⊥) → last_unary < n
unfolding unary_number
past_unary n h = omega (arith, h Minus, h Not, h Increment, h Decrement, h AddrOf, h Dereference, h NotNull)

kept : (t u : Bool) (x : NodeRead) → u ≡ true → choose t x Bad ≡ choose (t && u) x Bad
unfolding choose
kept true u x e = rw e
kept false u x e = refl

-- no node, where there is no such operator
none_read : (t u : Bool) (x : NodeRead) → u ≡ false → (r : Result Node NodeFault) → IsErrAnd r (λ fault. fault ≡ BadNode) → read_of r ≡ choose (t && u) x Bad
unfolding choose
none_read t u x e (Ok node) f = absurd f
none_read true u x e (Err fault) f = rw (f, e)
none_read false u x e (Err fault) f = rw f

module _ (t : Bool) (n : ℕ) where
  pub known_binary : (op : BinOp) → binary_number op ≡ n → choose t (Binary (binary_number op)) Bad ≡ choose (t && leb n last_binary) (Binary n) Bad
  known_binary op e = rw e (kept t (leb n last_binary) (Binary n) (le-leb n last_binary (rw e at (few_binary op))))

  pub known_unary : (op : UnOp) → unary_number op ≡ n → choose t (Unary (unary_number op)) Bad ≡ choose (t && leb n last_unary) (Unary n) Bad
  known_unary op e = rw e (kept t (leb n last_unary) (Unary n) (le-leb n last_unary (rw e at (few_unary op))))

  pub unknown_binary : (r : Result Node NodeFault) → IsErrAnd r (λ fault. fault ≡ BadNode) → ((op : BinOp) → binary_number op ≡ n → ⊥)
      → read_of r ≡ choose (t && leb n last_binary) (Binary n) Bad
  unknown_binary r f h = none_read t (leb n last_binary) (Binary n) (lt-leb n last_binary (past_binary n h)) r f

  pub unknown_unary : (r : Result Node NodeFault) → IsErrAnd r (λ fault. fault ≡ BadNode) → ((op : UnOp) → unary_number op ≡ n → ⊥)
      → read_of r ≡ choose (t && leb n last_unary) (Unary n) Bad
  unknown_unary r f h = none_read t (leb n last_unary) (Unary n) (lt-leb n last_unary (past_unary n h)) r f

-- the four
pub ruleset known_operators = (known_binary, known_unary, unknown_binary, unknown_unary)
