-- The marks of some classes, made by marking their parents and one sweep.
use Prim.Native.Nat.{ℕ, ◌+◌, ◌*◌, ◌%◌, ◌^◌, ◌<◌, max}
use borrow.Author.Tests.{eqb-true, eqb-false, ne_eqb, leb-true, leb-false, lt-ltb, le-ltb}
use lib.Bits.{or_zero_l}
use lib.Dec.{eqb, leb, ltb}
use lib.ListN.{length, get_or}
use mathlib.Core.Bool.{Bool, true, false, not, ◌&&◌, ◌||◌}
use mathlib.Core.List.{List}
use mathlib.Core.Path.{◌≡◌, refl, sym, ap, ◌∙◌}
use Rattle.std.specs.Int.{w16}
use native.Mathlib.Omega.{arith}
use Rattle.symbol.proofs.ClassRuns.{class_run}
use Rattle.below.proofs.MarkBits.{no_bit}
use Rattle.below.proofs.ParentsFound.{early_found}
use Rattle.below.proofs.ParentTests.{by_cases, test-parent}
use Rattle.below.proofs.StepsMet.{within, above_one}
use Rattle.below.proofs.Sweeps.{none_swept, swept_is}
use Rattle.below.specs.Below.{is_below}
use Rattle.below.specs.Inside.Marks.{IdSet, no_ids, has_bit, has_mark, with_parents, with_parents_if, swept, Unmarked, MarksOf}
use Rattle.below.specs.Inside.RecordParents.{ParentsOf, ParentedIs, ParentsEarly, ParentsMarked}
use Rattle.below.specs.declared.parents.Parented.{Parented}
use Rattle.below.specs.declared.parents.Parents.{Parents}
use Rattle.record.specs.TableRefused.{table_fault}
use Rattle.std.proofs.lemmas.Nat.Bits.{bit_at_set_same, bit_at_set_other}
use Rattle.std.specs.Int.{bit_at}
use Rattle.symbol.specs.Inside.ClassRun.{class_at, rank_of, is_parent}
use Rattle.symbol.specs.Lookup.{symbols_of}
use Rattle.symbol.specs.Symbols.{Symbols}
use Rattle.ty.proofs.Choice.{choose_yes, choose_no}
use Rattle.ty.specs.Name.{no_id}

-- ---- a bit for each class
own_bit : (j k : ℕ) → j < 16 → has_bit (1 * 2 ^ j % 65536) k ≡ eqb j k
unfolding has_bit
own_bit j k l =
    by_cases (eqb j k)
    (λ e. let s : j ≡ k = eqb-true j k e in
    ap (λ (z : ℕ). eqb (bit_at (1 * 2 ^ j % 65536) z) 1) (sym s)
    ∙ (ap (λ (z : ℕ). eqb z 1) (ap (λ (z : ℕ). bit_at z j) (sym (or_zero_l (1 * 2 ^ j % 65536))) ∙ bit_at_set_same w16 0 j l) ∙ sym e))
    (λ e. let n = eqb-false j k e in
    ap (λ (z : ℕ). eqb z 1) (ap (λ (z : ℕ). bit_at z k) (sym (or_zero_l (1 * 2 ^ j % 65536))) ∙ bit_at_set_other w16 0 j l k (λ s. n (sym s)))
    ∙ (no_bit 0 k refl ∙ sym e))

unmarked_no : (m : List ℕ) → Unmarked m → (j : ℕ) → has_mark m j ≡ no_ids
unfolding has_mark no_ids
unmarked_no m g j = λ i b. no_bit (get_or m b 0) j (g.zero_masks b) i

module _ (t classes : List ℕ) where
  pub none_marked_yet : (m : List ℕ) → Unmarked m → ParentsMarked t classes 0 0 m
  none_marked_yet m g =
      record {
        few = omega arith;
        early = λ j l. absurd (omega arith);
        here = λ j l. absurd (omega arith);
        later = λ j l. unmarked_no m g j;
        long = g.long;
      }

  pub one_marked_more : (j r c n : ℕ) (m further : List ℕ) → j < 16 → c ≡ get_or classes j 0 → ParentsMarked t classes j r m → ParentsEarly t c n
      → ((k : ℕ) → has_mark further k ≡ with_parents_if (symbols_of t) (has_bit (1 * 2 ^ j % 65536) k) (has_mark m k) c)
      → length further ≡ length m → (q : ℕ) → q ≡ max r n → ParentsMarked t classes (j + 1) q further
  one_marked_more j r c n m further l e g h b s q w =
      record {
        few = let f = g.few in let k = h.few in omega arith;
        early = λ k u. by_cases (eqb j k) (λ i. early_here k i) (λ i. early_before k u i);
        here = λ k u. by_cases (eqb j k) (λ i. now k i) (λ i. before k i ∙ g.here k (smaller k u i));
        later = λ k u. before k (ne_eqb j k (λ i. absurd (omega arith))) ∙ g.later k (omega arith);
        long = s ∙ g.long;
      }
    where
      smaller : (k : ℕ) → k < j + 1 → eqb j k ≡ false → k < j
      smaller k u i = let n = eqb-false j k i in omega arith

      early_here : (k : ℕ) → eqb j k ≡ true → ParentsEarly t (get_or classes k 0) q
      early_here k i =
          let u : c ≡ get_or classes k 0 = e ∙ ap (λ (z : ℕ). get_or classes z 0) (eqb-true j k i) in
          rw (← u) (record { accepted = h.accepted; few = let f = g.few in let k = h.few in omega arith; early = λ p y. let x = h.early p y in omega arith })

      early_before : (k : ℕ) → k < j + 1 → eqb j k ≡ false → ParentsEarly t (get_or classes k 0) q
      early_before k u i =
          let o = g.early k (smaller k u i) in
          record { accepted = o.accepted; few = let f = g.few in let k = h.few in omega arith; early = λ p y. let x = o.early p y in omega arith }

      now : (k : ℕ) → eqb j k ≡ true → has_mark further k ≡ with_parents (symbols_of t) no_ids (get_or classes k 0)
      now k i =
          let u : j ≡ k = eqb-true j k i in
          b k ∙ (choose_yes (has_bit (1 * 2 ^ j % 65536) k) (with_parents (symbols_of t) (has_mark m k) c) (has_mark m k) (own_bit j k l ∙ i)
          ∙ λ z. with_parents (symbols_of t) (g.later k (omega arith) z) ((e ∙ ap (λ (z : ℕ). get_or classes z 0) u) z))

      before : (k : ℕ) → eqb j k ≡ false → has_mark further k ≡ has_mark m k
      before k i = b k ∙ choose_no (has_bit (1 * 2 ^ j % 65536) k) (with_parents (symbols_of t) (has_mark m k) c) (has_mark m k) (own_bit j k l ∙ i)

  -- what the sweep makes of them
  pub marks_made : (r : ℕ) (m swept_m : List ℕ) → ParentsMarked t classes (length classes) r m
      → ((j : ℕ) → has_mark swept_m j ≡ swept (symbols_of t) (class_at t) r (has_mark m j)) → MarksOf (symbols_of t) classes swept_m
  unfolding is_below no_ids
  marks_made r m w g h = record { say = λ j b. by_cases (leb (length classes) j) (later j b) (here j b) }
    where
      later : (j b : ℕ) → leb (length classes) j ≡ true → has_mark w j b ≡ (ltb j (length classes) && is_below (symbols_of t) (get_or classes j 0) b)
      later j b i =
          let l = leb-true (length classes) j i in
          ap (λ (z : IdSet). z b) (h j ∙ (ap (swept (symbols_of t) (class_at t) r) (g.later j l) ∙ none_swept (symbols_of t) (class_at t) r))
          ∙ sym (ap (λ (z : Bool). z && is_below (symbols_of t) (get_or classes j 0) b) (le-ltb j (length classes) l))

      up : (j : ℕ) → j < length classes → (b : ℕ)
          → swept (symbols_of t) (class_at t) r (with_parents (symbols_of t) no_ids (get_or classes j 0)) b
          ≡ within (symbols_of t) (symbols_of t).classes (get_or classes j 0) b
      up j l b =
          let o = g.early j l in
          let run = class_run t o.accepted in
          swept_is (symbols_of t) (class_at t) (rank_of t) run.lower (symbols_of t).classes run.low run.named r (get_or classes j 0) b o.early

      here : (j b : ℕ) → leb (length classes) j ≡ false → has_mark w j b ≡ (ltb j (length classes) && is_below (symbols_of t) (get_or classes j 0) b)
      here j b i =
          let l = leb-false (length classes) j i in
          ap (λ (z : IdSet). z b) (h j ∙ ap (swept (symbols_of t) (class_at t) r) (g.here j l))
          ∙ (up j l b ∙ sym (ap (λ (z : Bool). z && is_below (symbols_of t) (get_or classes j 0) b) (lt-ltb j (length classes) l)))

-- ---- the marks of one class
module _ (t : List ℕ) (e : table_fault t ≡ 0) (a b : ℕ) where
  abbrev S : Symbols
  S = symbols_of t

  pub parent_above : (p : Parents) → ParentsOf S a p
      → not (eqb b no_id) && (eqb p.superclass b || (eqb p.first_interface b || eqb p.second_interface b)) ≡ true → true ≡ is_below S a b
  unfolding is_below
  parent_above p g h =
      let run = class_run t e in
      sym (above_one S (rank_of t) run.lower S.classes run.low a b (test-parent S (is_one (g.superclass) (g.first_interface) (g.second_interface) h)))
    where
      is_one : {x y z : ℕ} → x ≡ S.super_of a → y ≡ S.first_interface_of a → z ≡ S.second_interface_of a
          → not (eqb b no_id) && (eqb x b || (eqb y b || eqb z b)) ≡ true → is_parent S a b ≡ true
      is_one f g h k = (λ i. not (eqb b no_id) && (eqb (sym f i) b || (eqb (sym g i) b || eqb (sym h i) b))) ∙ k

  -- the parents of a, swept from its record on
  pub swept_alone : (r : Parented) → ParentedIs t a r → (m₀ m₁ m₂ : List ℕ) → Unmarked m₀
      → ((j : ℕ) → has_mark m₁ j ≡ with_parents_if S (has_bit 1 j) (has_mark m₀ j) a)
      → ((j : ℕ) → has_mark m₂ j ≡ swept S (class_at t) r.number (has_mark m₁ j)) → has_mark m₂ 0 b ≡ is_below S a b
  unfolding is_below
  swept_alone r g m₀ m₁ m₂ u h k =
      let run = class_run t e in
      ap (λ (z : IdSet). z b) (k 0
      ∙ ap (swept S (class_at t) r.number) (h 0
      ∙ (choose_yes (has_bit 1 0) (with_parents S (has_mark m₀ 0) a) (has_mark m₀ 0) (own_bit 0 0 (omega arith))
      ∙ ap (λ (z : IdSet). with_parents S z a) (unmarked_no m₀ u 0))))
      ∙ swept_is S (class_at t) (rank_of t) run.lower S.classes run.low run.named r.number a b (early_found t e a r g).early
