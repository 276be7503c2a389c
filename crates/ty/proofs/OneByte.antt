-- A kind below Nullable has no body and no child: the type is that byte.
use Prim.Native.Nat.{ℕ, zero, suc, ◌-◌, ◌<◌, min}
use borrow.Author.Tests.{ne_eqb, le-ltb, lt-leb}
use lib.ListN.{length, get_or}
use mathlib.Core.Bool.{false}
use mathlib.Core.List.{List, [], ◌∷◌}
use mathlib.Core.Path.{◌≡◌}
use native.Mathlib.Omega.{arith}
use Rattle.ty.specs.Bytes.{id_at, is_array_kind}
use Rattle.ty.specs.Choose.{choose}
use Rattle.ty.specs.Kind.{nullable_kind, array_kind, map_kind, named_kind, function_kind, type_var_kind, module_kind, error_kind, large_array_kind, no_kind}
use Rattle.ty.specs.Read.{body_length, child_count, id_in, item_of, size_at, item_at, read_from, read_type, whole_read, item_read}

below_arrays : (k : ℕ) → k < nullable_kind → is_array_kind k ≡ false
below_arrays k h = rw (ne_eqb k array_kind (omega arith), ne_eqb k large_array_kind (omega arith))

no_body_below : (k : ℕ) → k < nullable_kind → body_length k ≡ 0
unfolding body_length choose
no_body_below k h =
    rw (
      below_arrays k h,
      ne_eqb k named_kind (omega arith),
      ne_eqb k module_kind (omega arith),
      ne_eqb k type_var_kind (omega arith),
      ne_eqb k function_kind (omega arith),
    )

one_byte_item : (k c n i next : ℕ) → k < nullable_kind → item_of k c n i next ≡ item_read next 0 0 false
unfolding item_of child_count id_in choose
one_byte_item k c n i next h =
    rw (
      below_arrays k h,
      ne_eqb k function_kind (omega arith),
      ne_eqb k map_kind (omega arith),
      lt-leb nullable_kind k (omega arith),
      ne_eqb k named_kind (omega arith),
      ne_eqb k module_kind (omega arith),
      ne_eqb k error_kind (omega arith),
    )

first_item : (s : List ℕ) (end : ℕ) → 0 < end → get_or s 0 0 < nullable_kind → item_at s end 0 ≡ item_read 1 0 0 false
unfolding item_at choose
first_item s end n h =
    rw (
      lt-leb end 0 n,
      le-ltb large_array_kind (get_or s 0 0) (omega arith),
      no_body_below (get_or s 0 0) h,
      le-ltb (end - 1) 0 (omega arith),
      one_byte_item (get_or s 0 0) (get_or s 1 0) (size_at s 0) (id_at s 1) 1 h,
    )

two_steps : (s : List ℕ) (limit f : ℕ) → 0 < length s → 0 < limit → get_or s 0 0 < nullable_kind → read_from (suc (suc f)) s limit 0 1 0 false ≡ whole_read 1 0 false
unfolding read_from choose
two_steps s limit f n l h = rw (first_item s (min (length s) limit) (omega arith) h)

pub one_byte : (s : List ℕ) (limit : ℕ) → 0 < limit → get_or s 0 no_kind < nullable_kind → read_type s limit ≡ whole_read 1 0 false
unfolding read_type
one_byte [] limit l h = absurd (omega arith)
one_byte (b ∷ bs) limit l h = go (min (suc (length bs)) limit) (omega arith)
  where
    go : (n : ℕ) → 0 < n → read_from (suc n) (b ∷ bs) limit 0 1 0 false ≡ whole_read 1 0 false
    go zero p = absurd (omega arith)
    go (suc f) p = two_steps (b ∷ bs) limit f (omega arith) l h
