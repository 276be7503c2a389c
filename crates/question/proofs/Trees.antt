-- Laws of trees and rows: sizes, bytes, numbers, rows joined and split.
use Prim.Native.Nat.{ℕ, zero, suc, ◌+◌, ◌≤◌}
use mathlib.Core.Path.{◌≡◌, refl, ap}
use native.Mathlib.Omega.{arith}
use Rattle.question.specs.Parse.{take_row, drop_row}
use Rattle.question.specs.Tree.{Node, Row, leaf, binary, unary, named, member, call, method, nil, cons, number_after, number_after_row, size, sizes, count, bytes, bytess}

-- the number behind a tree
mutual
  unfolding number_after number_after_row size sizes

  pub after_size : (t : Node) (n : ℕ) → number_after t n ≡ n + size t
  after_size (leaf t) n = omega arith
  after_size (binary op l r) n = omega (arith, after_size r (number_after l (suc n)), after_size l (suc n))
  after_size (unary op x) n = omega (arith, after_size x (suc n))
  after_size (named id x) n = omega (arith, after_size x (suc n))
  after_size (member id x) n = omega (arith, after_size x (suc n))
  after_size (call id r) n = omega (arith, afters_sizes r (suc n))
  after_size (method id x r) n = omega (arith, afters_sizes r (number_after x (suc n)), after_size x (suc n))

  pub afters_sizes : (r : Row) (n : ℕ) → number_after_row r n ≡ n + sizes r
  afters_sizes nil n = omega arith
  afters_sizes (cons x r) n = omega (arith, afters_sizes r (number_after x n), after_size x n)

pub some_size : (t : Node) → 1 ≤ size t
unfolding size
some_size (leaf t) = omega arith
some_size (binary op l r) = omega arith
some_size (unary op x) = omega arith
some_size (named id x) = omega arith
some_size (member id x) = omega arith
some_size (call id r) = omega arith
some_size (method id x r) = omega arith

pub some_bytes : (t : Node) → 1 ≤ bytes t
unfolding bytes
some_bytes (leaf t) = omega arith
some_bytes (binary op l r) = omega arith
some_bytes (unary op x) = omega arith
some_bytes (named id x) = omega arith
some_bytes (member id x) = omega arith
some_bytes (call id r) = omega arith
some_bytes (method id x r) = omega arith

pub count_sizes : (r : Row) → count r ≤ sizes r
unfolding count sizes
count_sizes nil = omega arith
count_sizes (cons x r) = omega (arith, some_size x, count_sizes r)

-- two rows, one behind the other
unfoldable pub joined : Row → Row → Row
joined nil s = s
joined (cons x r) s = cons x (joined r s)

module _ (s : Row) where
  pub joined-count : (r : Row) → count (joined r s) ≡ count r + count s
  unfolding joined count
  joined-count nil = omega arith
  joined-count (cons x r) = omega (arith, joined-count r)

  pub joined_bytes : (r : Row) → bytess (joined r s) ≡ bytess r + bytess s
  unfolding joined bytess
  joined_bytes nil = omega arith
  joined_bytes (cons x r) = omega (arith, joined_bytes r)

  pub joined_sizes : (r : Row) → sizes (joined r s) ≡ sizes r + sizes s
  unfolding joined sizes
  joined_sizes nil = omega arith
  joined_sizes (cons x r) = omega (arith, joined_sizes r)

  pub take-joined : (r : Row) → take_row (count r) (joined r s) ≡ r
  unfolding take_row joined count
  take-joined nil = refl
  take-joined (cons x r) = ap (cons x) (take-joined r)

  pub drop-joined : (r : Row) → drop_row (count r) (joined r s) ≡ s
  unfolding drop_row joined count
  drop-joined nil = refl
  drop-joined (cons x r) = drop-joined r

-- a row is its first n trees and those behind them
pub take_count : (n : ℕ) (r : Row) → n ≤ count r → count (take_row n r) ≡ n
unfolding take_row count
take_count zero r h = refl
take_count (suc n) nil h = absurd (omega arith)
take_count (suc n) (cons x r) h = ap suc (take_count n r (omega arith))

pub split_count : (n : ℕ) (r : Row) → n ≤ count r → n + count (drop_row n r) ≡ count r
unfolding drop_row count
split_count zero r h = omega arith
split_count (suc n) nil h = absurd (omega arith)
split_count (suc n) (cons x r) h = omega (arith, split_count n r (omega arith))

pub split_bytes : (n : ℕ) (r : Row) → bytess (take_row n r) + bytess (drop_row n r) ≡ bytess r
unfolding take_row drop_row bytess
split_bytes zero r = omega arith
split_bytes (suc n) nil = refl
split_bytes (suc n) (cons x r) = omega (arith, split_bytes n r)

pub split_sizes : (n : ℕ) (r : Row) → sizes (take_row n r) + sizes (drop_row n r) ≡ sizes r
unfolding take_row drop_row sizes
split_sizes zero r = omega arith
split_sizes (suc n) nil = refl
split_sizes (suc n) (cons x r) = omega (arith, split_sizes n r)
