-- A walk over a diagnostics buffer by its records, of five bytes each.
use Prim.Native.Nat.{ℕ, zero, suc, ◌+◌, ◌*◌, ◌≤◌, ◌<◌}
use lib.ListN.{length, get_or, drop, get_or-append, length-drop, length-append}
use lib.Seq.{drop-append-add}
use Rattle.std.proofs.lemmas.List.{get_or-drop, drop-drop}
use mathlib.Core.List.{List, ◌++◌}
use mathlib.Core.Path.{◌≡◌, refl, sym, ap, ◌∙◌}
use native.Mathlib.Omega.{arith}
use Rattle.console.specs.AnswerText.{line_at, records_in}

-- the record x stands behind the first k of d, and `left` behind it
module _ (d x left : List ℕ) (k : ℕ) (e : x ++ left ≡ drop (5 * k) d) (n : length x ≡ 5) where
  byte_here : (j p : ℕ) → j < 5 → p ≡ 5 * k + j → get_or x j 0 ≡ get_or d p 0
  byte_here j p h q =
      sym (get_or-append x left 0 j (omega arith)) ∙ ap (λ (l : List ℕ). get_or l j 0) e ∙ get_or-drop (5 * k) d j 0 ∙ ap (λ (i : ℕ). get_or d i 0) (sym q)

  pub line_here : line_at x 0 ≡ line_at d (5 * k)
  unfolding line_at
  line_here =
      let a = byte_here 0 (5 * k) (omega arith) (omega arith) in
      let b = byte_here 1 (5 * k + 1) (omega arith) refl in
      let c = byte_here 2 (5 * k + 1 + 1) (omega arith) (omega arith) in
      let f = byte_here 3 (5 * k + 3) (omega arith) refl in
      let g = byte_here 4 (5 * k + 3 + 1) (omega arith) (omega arith) in
      rw (a, b, c, f, g)

  pub left_behind : left ≡ drop (5 * (k + 1)) d
  left_behind =
      let m : 5 * (k + 1) ≡ 5 * k + length x = omega arith in
      sym (drop-append-add x left 0)
      ∙ ap (λ (l : List ℕ). drop (length x + 0) l) e
      ∙ ap (λ (i : ℕ). drop i (drop (5 * k) d)) (omega arith)
      ∙ drop-drop (length x) (5 * k) d
      ∙ ap (λ (i : ℕ). drop i d) (sym m)

  pub record_inside : 5 * k ≤ length d → 5 * (k + 1) ≤ length d
  record_inside h = omega (arith, ap (λ (l : List ℕ). length l) e, length-append x left, length-drop (5 * k) d)

-- where no record is left, or none is wanted, there were as many as are whole and wanted
pub all_records : (d : List ℕ) (k more count : ℕ) → more + k ≡ count → 5 * k ≤ length d → (0 < more → length (drop (5 * k) d) < 5)
    → k ≡ records_in (length d) count
unfolding records_in
all_records d k zero count e h f = omega arith
all_records d k (suc more) count e h f = omega (arith, f (omega arith), length-drop (5 * k) d)
