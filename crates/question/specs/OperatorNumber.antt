-- The numbers of the operators. Document 01, "Table and question": binary in `BinOp` order 0 to 22, unary in `UnOp` order 0 to 6.
use Rattle.std.specs.Prelude.{◌≡◌, ◌≢◌, ℕ, Result, MatchResult}
use Rattle.question.specs.declared.operator.BinOp.TheVariants.{Add, Sub, Mul, Div, Mod, Eq, Ne, Lt, Gt, Le, Ge, And, Or, BitAnd, BitOr, BitXor, Shl, Shr}
use Rattle.question.specs.declared.operator.BinOp.TheVariants.{UShr, Assign, To, Is, As}
use Rattle.question.specs.declared.operator.BinOp.{BinOp}
use Rattle.question.specs.declared.operator.UnOp.TheVariants.{Minus, Not, Increment, Decrement, AddrOf, Dereference, NotNull}
use Rattle.question.specs.declared.operator.UnOp.{UnOp}
use Rattle.ty.specs.declared.UnknownNumber.{UnknownNumber}

unfoldable pub binary_number : BinOp → ℕ
binary_number Add = 0
binary_number Sub = 1
binary_number Mul = 2
binary_number Div = 3
binary_number Mod = 4
binary_number Eq = 5
binary_number Ne = 6
binary_number Lt = 7
binary_number Gt = 8
binary_number Le = 9
binary_number Ge = 10
binary_number And = 11
binary_number Or = 12
binary_number BitAnd = 13
binary_number BitOr = 14
binary_number BitXor = 15
binary_number Shl = 16
binary_number Shr = 17
binary_number UShr = 18
binary_number Assign = 19
binary_number To = 20
binary_number Is = 21
binary_number As = 22

unfoldable pub unary_number : UnOp → ℕ
unary_number Minus = 0
unary_number Not = 1
unary_number Increment = 2
unary_number Decrement = 3
unary_number AddrOf = 4
unary_number Dereference = 5
unary_number NotNull = 6

-- the operator with that number, or that number where no operator has it
abbrev pub ReadsBinary : ℕ → Result BinOp UnknownNumber → Type 0
ReadsBinary n r = MatchResult r (λ op. binary_number op ≡ n) (λ e. (e.0 ≡ n) × ((op : BinOp) → binary_number op ≢ n))

abbrev pub ReadsUnary : ℕ → Result UnOp UnknownNumber → Type 0
ReadsUnary n r = MatchResult r (λ op. unary_number op ≡ n) (λ e. (e.0 ≡ n) × ((op : UnOp) → unary_number op ≢ n))
