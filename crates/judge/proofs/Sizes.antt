-- The room that is enough for the index of a table.
use Prim.Native.Nat.{ℕ, ◌≤◌}
use borrow.Author.Tests.{ltb-false}
use lib.ListN.{length, length-replicate}
use mathlib.Core.List.{List}
use mathlib.Core.Path.{◌≡◌, sym, ◌∙◌}
use native.Mathlib.Omega.{arith}
use Rattle.index.proofs.Rooms.{room_short, room_middle, room_long}
use Rattle.index.specs.Inside.Index.{index_size, size_of, short_table, middle_table}
use Rattle.index.specs.declared.index.TableSize.{TableSize}
use Rattle.index.specs.declared.index.TableSize.TheVariants.{Short, Middle}
use Rattle.ty.proofs.Choice.{by_choice}

short_size : (n : ℕ) → size_of n ≡ Short → n ≤ short_table
unfolding size_of
short_size n =
    by_choice (λ (z : TableSize). z ≡ Short → n ≤ short_table) _ (λ _ e. absurd (cc)) λ _.
    by_choice (λ (z : TableSize). z ≡ Short → n ≤ short_table) _ (λ _ e. absurd (cc)) (λ b _. ltb-false short_table n b)

middle_size : (n : ℕ) → size_of n ≡ Middle → n ≤ middle_table
unfolding size_of
middle_size n = by_choice (λ (z : TableSize). z ≡ Middle → n ≤ middle_table) _ (λ _ e. absurd (cc)) (λ b _. ltb-false middle_table n b)

pub index_short : (t : List ℕ) (z : TableSize) → z ≡ size_of (length t) → z ≡ Short → length t ≤ 60000 → index_size (length t) ≤ 1461
index_short t z e f m = omega (arith, (room_short t (short_size (length t) (sym e ∙ f))).long m, length-replicate {A = ℕ} 1461 0)

pub index_middle : (t : List ℕ) (z : TableSize) → z ≡ size_of (length t) → z ≡ Middle → length t ≤ 60000 → index_size (length t) ≤ 11163
index_middle t z e f m = omega (arith, (room_middle t (middle_size (length t) (sym e ∙ f))).long m, length-replicate {A = ℕ} 11163 0)

pub index_long : (t : List ℕ) → length t ≤ 60000 → index_size (length t) ≤ 42435
index_long t m = omega (arith, (room_long t).long m, length-replicate {A = ℕ} 42435 0)
