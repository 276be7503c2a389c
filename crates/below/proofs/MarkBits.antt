-- Bits of masks, and the sets of ids that they stand for.
use Prim.Native.Nat.{ℕ, zero, suc, ◌-◌, ◌≤◌, ◌<◌, max}
use borrow.Author.Tests.{eqb-true, eqb-false, ne_eqb}
use lib.Bits.{bit_or}
use lib.Dec.{eqb}
use lib.ListN.{length, get_or, set, replicate}
use mathlib.Core.Bool.{Bool, true, false, not, ◌&&◌, ◌||◌}
use mathlib.Core.List.{List}
use mathlib.Core.Path.{◌≡◌, refl, sym, ap, ◌∙◌}
use native.Mathlib.Omega.{arith}
use Rattle.below.proofs.ParentTests.{by_cases}
use Rattle.below.proofs.Sweeps.{id_none}
use Rattle.below.specs.Inside.Marks.{id_count, IdSet, with_id, with_id_if, has_bit, has_mark, with_parents, with_parents_if, turn, swept, Unmarked}
use Rattle.below.specs.Inside.RecordParents.{ParentsOf}
use Rattle.below.specs.declared.parents.Parents.{Parents}
use Rattle.std.proofs.lemmas.List.{get_or-set_same, get_or-set_other}
use Rattle.std.proofs.lemmas.Nat.Bits.{bit_at_or, bit_at-lt, bit_at-zero}
use Rattle.std.specs.Int.{bit_at}
use Rattle.symbol.specs.Symbols.{Symbols}
use Rattle.ty.proofs.Choice.{choose_yes, choose_no, or_false, and_true}
use Rattle.ty.specs.Choose.{choose}
use Rattle.ty.specs.Name.{no_id}

small_or : (u v : ℕ) → u < 2 → v < 2 → eqb (max u v) 1 ≡ eqb u 1 || eqb v 1
small_or zero zero h k = refl
small_or zero (suc zero) h k = refl
small_or (suc zero) zero h k = refl
small_or (suc zero) (suc zero) h k = refl
small_or zero (suc (suc v)) h k = absurd (omega arith)
small_or (suc zero) (suc (suc v)) h k = absurd (omega arith)
small_or (suc (suc u)) v h k = absurd (omega arith)

pub bit_joined : (x y j : ℕ) → has_bit (bit_or x y) j ≡ has_bit x j || has_bit y j
unfolding has_bit
bit_joined x y j = ap (λ (z : ℕ). eqb z 1) (bit_at_or x y j) ∙ small_or (bit_at x j) (bit_at y j) (bit_at-lt x j) (bit_at-lt y j)

pub no_bit : (x j : ℕ) → x ≡ 0 → has_bit x j ≡ false
unfolding has_bit
no_bit x j e = ap (λ (z : ℕ). eqb (bit_at z j) 1) e ∙ ap (λ (z : ℕ). eqb z 1) (bit_at-zero j)

module _ (l : List ℕ) (p x : ℕ) (inside : p < length l) where
  abbrev joined : List ℕ
  joined = set l p (bit_or (get_or l p 0) x)

  joined_at : (j b : ℕ) → has_mark joined j b ≡ has_mark l j b || (eqb p b && has_bit x j)
  unfolding has_mark
  joined_at j b =
      by_cases (eqb p b)
      (λ e. let s : p ≡ b = eqb-true p b e in
      ap (λ (z : ℕ). has_bit (get_or joined z 0) j) (sym s)
      ∙ (ap (λ (z : ℕ). has_bit z j) (get_or-set_same l p (bit_or (get_or l p 0) x) 0 inside)
      ∙ (bit_joined (get_or l p 0) x j
      ∙ λ i. has_bit (get_or l (s i) 0) j || (sym e i && has_bit x j))))
      (λ e. ap (λ (z : ℕ). has_bit z j) (get_or-set_other l p b (bit_or (get_or l p 0) x) 0 (λ s. eqb-false p b e (sym s)))
      ∙ sym (or_false (has_bit (get_or l b 0) j) (eqb p b && has_bit x j) (ap (λ (z : Bool). z && has_bit x j) e)))

  pub id_marked : (p ≡ no_id → ⊥) → (j : ℕ) → has_mark joined j ≡ with_id_if (has_bit x j) (has_mark l j) p
  unfolding with_id
  id_marked n j = by_cases (has_bit x j) yes no
    where
      yes : has_bit x j ≡ true → has_mark joined j ≡ with_id_if (has_bit x j) (has_mark l j) p
      yes e = (λ i b. same b i) ∙ sym (choose_yes (has_bit x j) (with_id (has_mark l j) p) (has_mark l j) e)
        where
          same : (b : ℕ) → has_mark joined j b ≡ has_mark l j b || (not (eqb p no_id) && eqb p b)
          same b = joined_at j b ∙ λ i. has_mark l j b || (bit_set b i)
            where
              bit_set : (b : ℕ) → eqb p b && has_bit x j ≡ not (eqb p no_id) && eqb p b
              bit_set b = ap (λ (z : Bool). eqb p b && z) e ∙ (and_true (eqb p b) ∙ ap (λ (z : Bool). not z && eqb p b) (sym (ne_eqb p no_id n)))

      no : has_bit x j ≡ false → has_mark joined j ≡ with_id_if (has_bit x j) (has_mark l j) p
      no e = (λ i b. same b i) ∙ sym (choose_no (has_bit x j) (with_id (has_mark l j) p) (has_mark l j) e)
        where
          and_false : (s : Bool) → s && false ≡ false
          and_false true = refl
          and_false false = refl

          same : (b : ℕ) → has_mark joined j b ≡ has_mark l j b
          same b = joined_at j b ∙ or_false (has_mark l j b) (eqb p b && has_bit x j) (ap (λ (z : Bool). eqb p b && z) e ∙ and_false (eqb p b))

-- none is no mark
pub none_marked : (m : IdSet) (p : ℕ) (v : Bool) → p ≡ no_id → m ≡ with_id_if v m p
unfolding choose
none_marked m p true e = sym (id_none m p e)
none_marked m p false e = refl

-- what marking three parents does
pub parents_marked : (S : Symbols) (a : ℕ) (p : Parents) → ParentsOf S a p → (v : Bool) (m₀ m₁ m₂ m₃ : IdSet)
    → m₁ ≡ with_id_if v m₀ p.superclass → m₂ ≡ with_id_if v m₁ p.first_interface → m₃ ≡ with_id_if v m₂ p.second_interface
    → m₃ ≡ with_parents_if S v m₀ a
unfolding choose with_parents
parents_marked S a p g true m₀ m₁ m₂ m₃ e f h =
    h ∙ (ap (λ (w : IdSet). with_id w p.second_interface) (f ∙ ap (λ (w : IdSet). with_id w p.first_interface) e)
    ∙ λ i. with_id (with_id (with_id m₀ (g.superclass i)) (g.first_interface i)) (g.second_interface i))
parents_marked S a p g false m₀ m₁ m₂ m₃ e f h = h ∙ (f ∙ e)

-- ---- a turn of the sweep, by the mask that is read
pub turn_marked : (S : Symbols) (l : List ℕ) (c mask j : ℕ) → mask ≡ get_or l c 0 → (m : IdSet)
    → m ≡ with_parents_if S (has_bit mask j) (has_mark l j) c → m ≡ with_parents_if S (has_mark l j c) (has_mark l j) c
unfolding has_mark
turn_marked S l c mask j e m h = h ∙ λ i. with_parents_if S (has_bit (e i) j) (has_mark l j) c

pub turn_left : (S : Symbols) (l : List ℕ) (c mask j : ℕ) → mask ≡ get_or l c 0 → mask ≡ 0
    → has_mark l j ≡ with_parents_if S (has_mark l j c) (has_mark l j) c
turn_left S l c mask j e z =
    turn_marked S l c mask j e (has_mark l j)
    (sym (choose_no (has_bit mask j) (with_parents S (has_mark l j) c) (has_mark l j) (no_bit mask j z)))

-- the sweep over one record more
pub swept_next : (S : Symbols) (class : ℕ → ℕ) (k : ℕ) (m further : IdSet) → 0 < k
    → further ≡ turn S class (k - 1) m → swept S class (k - 1) further ≡ swept S class k m
unfolding swept
swept_next S class zero m further l e = absurd (omega arith)
swept_next S class (suc i) m further l e =
    let s : suc i - 1 ≡ i = omega arith in
    ap (swept S class (suc i - 1)) e ∙ λ q. swept S class (s q) (turn S class (s q) m)

pub swept_all : (S : Symbols) (class : ℕ → ℕ) (k : ℕ) (m : IdSet) → k ≤ 0 → m ≡ swept S class k m
unfolding swept
swept_all S class zero m l = refl
swept_all S class (suc k) m l = absurd (omega arith)

-- ---- a new array of marks
zeros : ℕ → List ℕ
zeros n = replicate n 0

zero_at : (n b : ℕ) → get_or (zeros n) b 0 ≡ 0
unfolding zeros
zero_at zero b = refl
zero_at (suc n) zero = refl
zero_at (suc n) (suc b) = zero_at n b

zeros-long : (n : ℕ) → length (zeros n) ≡ n
unfolding zeros
zeros-long zero = refl
zeros-long (suc n) = ap suc (zeros-long n)

pub new_marks : (n : ℕ) → n ≡ id_count → Unmarked (replicate n 0)
unfolding zeros
new_marks n e = record { long = zeros-long n ∙ e; zero_masks = zero_at n }
