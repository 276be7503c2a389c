-- The empty table is accepted, and what is 0 everywhere is its index.
use Prim.Native.Nat.{ℕ, zero, suc}
use lib.ListN.{length, get_or, replicate}
use mathlib.Core.List.{List, [], ◌∷◌}
use mathlib.Core.Path.{◌≡◌, refl}
use native.Mathlib.Omega.{arith}
use Rattle.index.proofs.SearchTrees.{tree_start_lem}
use Rattle.index.specs.Inside.IndexedTable.{Indexed, IndexedTable}
use Rattle.index.specs.Inside.Index.{first_at, next_in}
use Rattle.record.specs.TableRefused.{first_fault, table_fault}
use Rattle.record.specs.Table.{records_from, records_of, of_kind, name_count}
use Rattle.ty.specs.Choose.{choose}

-- one entry will do
pub blank-one : (i : ℕ) → get_or (replicate {A = ℕ} 1 0) i 0 ≡ 0
blank-one zero = refl
blank-one (suc i) = refl

pub empty_names : (t : List ℕ) → length t ≡ 0 → name_count (records_of t) ≡ 0
unfolding records_from of_kind
empty_names [] e = refl
empty_names (b ∷ bs) e = absurd (omega arith)

pub empty_clean : (t : List ℕ) → length t ≡ 0 → table_fault t ≡ 0
unfolding table_fault first_fault records_from choose
empty_clean [] e = refl
empty_clean (b ∷ bs) e = absurd (omega arith)

empty_indexed : (x : List ℕ) → ((i : ℕ) → get_or x i 0 ≡ 0) → Indexed [] x
unfolding records_from of_kind next_in
empty_indexed x z = record { names = z 0; first = λ b _. z (first_at 0 b); next = λ p _ h. absurd (omega arith); tree = tree_start_lem [] x z }

pub empty_accepted : (t x : List ℕ) → length t ≡ 0 → ((i : ℕ) → get_or x i 0 ≡ 0) → IndexedTable t x
empty_accepted [] x e z = record { clean = empty_clean [] e; indexed = empty_indexed x z }
empty_accepted (b ∷ bs) x e z = absurd (omega arith)
