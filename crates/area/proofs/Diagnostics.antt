-- Laws of the lent buffer: two runs of diagnostics compose, and with room for all of them the buffer is their records with zeros behind.
use Prim.Native.Nat.{ℕ, suc, ◌+◌, ◌-◌, ◌*◌, ◌≤◌}
use borrow.Author.Tests.{le-leb}
use lib.ListN.{length, set, replicate, length-append, length-replicate, length-set}
use lib.Seq.{sets, length-sets}
use mathlib.Core.List.{List, [], ◌∷◌, ◌++◌, append_assoc}
use mathlib.Core.Path.{◌≡◌, refl, sym, ap, ◌∙◌}
use native.Mathlib.Nat.{add-zero}
use native.Mathlib.Omega.{arith}
use Rattle.area.specs.Diagnostic.{Diag, record_of, records, put_one, put_all}
use Rattle.ty.proofs.Choice.{by_choice, chosen}
use Rattle.ty.specs.Bytes.{two_bytes}
use Rattle.written.proofs.ListFacts.{stored_length, sets-zeros}
use Rattle.written.specs.Padding.{padded_to}

pub record_length_lem : (d : Diag) → length (record_of d) ≡ 5
unfolding record_of
record_length_lem d = refl

pub records-length : (ds : List Diag) → length (records ds) ≡ 5 * length ds
unfolding records
records-length [] = refl
records-length (d ∷ ds) = omega (arith, length-append (record_of d) (records ds), record_length_lem d, records-length ds)

pub records-append : (ds es : List Diag) → records (ds ++ es) ≡ records ds ++ records es
unfolding records
records-append [] es = refl
records-append (d ∷ ds) es = ap (λ (s : List ℕ). record_of d ++ s) (records-append ds es) ∙ sym (append_assoc (record_of d) (records ds) (records es))

-- ---- one diagnostic
module _ (b : List ℕ) (n : ℕ) (d : Diag) where
  pub put_one-fits : 5 * n + 5 ≤ length b → sets b (5 * n) (record_of d) ≡ put_one b n d
  unfolding put_one
  put_one-fits h = chosen _ _ _ _ (le-leb _ _ h) refl

  pub put_one-length : length (put_one b n d) ≡ length b
  unfolding put_one
  put_one-length = by_choice (λ (l : List ℕ). length l ≡ length b) _ (λ e. length-sets b (5 * n) (record_of d)) (λ e. refl)

-- the stores of `report`
module _ {b₁ : List ℕ} (b : List ℕ) (n kind node : ℕ) (e : b₁ ≡ sets (set b (5 * n) kind) (5 * n + 1) (two_bytes node)) where
  pub first-length : length b₁ ≡ length b
  first-length = stored_length (set b (5 * n) kind) (5 * n + 1) (two_bytes node) e ∙ length-set b (5 * n) kind

  module _ {b₂ : List ℕ} (number : ℕ) (f : b₂ ≡ sets b₁ (5 * n + 3) (two_bytes number)) where
    pub second_length : length b₂ ≡ length b
    second_length = stored_length b₁ (5 * n + 3) (two_bytes number) f ∙ first-length

-- ---- several
pub put_all_none : (b : List ℕ) (n : ℕ) → put_all b n [] ≡ b
unfolding put_all
put_all_none b n = refl

pub put_all-one : (b : List ℕ) (n : ℕ) (d : Diag) → put_all b n (d ∷ []) ≡ put_one b n d
unfolding put_all
put_all-one b n d = refl

pub put_all-append : (b : List ℕ) (n : ℕ) (ds es : List Diag) → put_all b n (ds ++ es) ≡ put_all (put_all b n ds) (n + length ds) es
unfolding put_all
put_all-append b n [] es = simp add-zero
put_all-append b n (d ∷ ds) es =
    put_all-append (put_one b n d) (n + 1) ds es
    ∙ ap (λ (k : ℕ). put_all (put_all (put_one b n d) (n + 1) ds) k es) (omega arith)

-- one more behind several
pub put_all_snoc : (b : List ℕ) (n : ℕ) (ds : List Diag) (d : Diag) → put_all b n (ds ++ (d ∷ [])) ≡ put_one (put_all b n ds) (n + length ds) d
put_all_snoc b n ds d = put_all-append b n ds (d ∷ []) ∙ put_all-one (put_all b n ds) (n + length ds) d

pub put_all-length : (b : List ℕ) (n : ℕ) (ds : List Diag) → length (put_all b n ds) ≡ length b
unfolding put_all
put_all-length b n [] = refl
put_all-length b n (d ∷ ds) = put_all-length (put_one b n d) (n + 1) ds ∙ put_one-length b n d

-- ---- in zeros
put_next : (pre : List ℕ) (k m : ℕ) (d : Diag) → length pre ≡ 5 * k → 5 ≤ m → put_one (pre ++ replicate m 0) k d ≡ (pre ++ record_of d) ++ replicate (m - 5) 0
put_next pre k m d e h =
    let l : length (pre ++ replicate m 0) ≡ length pre + m = length-append pre (replicate m 0) ∙ ap (λ (k : ℕ). length pre + k) (length-replicate m 0) in
    let room : 5 * k + 5 ≤ length (pre ++ replicate m 0) = omega arith in
    let r : length (record_of d) ≤ m = omega (arith, record_length_lem d) in
    sym (put_one-fits (pre ++ replicate m 0) k d room)
    ∙ ap (λ (i : ℕ). sets (pre ++ replicate m 0) i (record_of d)) (sym e) ∙ sets-zeros pre (record_of d) m r
    ∙ ap (λ (i : ℕ). (pre ++ record_of d) ++ replicate (m - i) 0) (record_length_lem d)

put_behind : (ds : List Diag) (pre : List ℕ) (k m : ℕ) → length pre ≡ 5 * k → 5 * length ds ≤ m
    → put_all (pre ++ replicate m 0) k ds ≡ pre ++ (records ds ++ replicate (m - 5 * length ds) 0)
unfolding put_all records
put_behind [] pre k m e h =
    let z : m ≡ m - 0 = omega arith in
    ap (λ (i : ℕ). pre ++ replicate i 0) z
put_behind (d ∷ ds) pre k m e h =
    let l : length (pre ++ record_of d) ≡ 5 * (k + 1) = length-append pre (record_of d) ∙ (omega (arith, record_length_lem d)) in
    let z : m - 5 - 5 * length ds ≡ m - 5 * suc (length ds) = omega arith in
    ap (λ (b : List ℕ). put_all b (k + 1) ds) (put_next pre k m d e (omega arith))
    ∙ put_behind ds (pre ++ record_of d) (k + 1) (m - 5) l (omega arith)
    ∙ ap (λ (i : ℕ). (pre ++ record_of d) ++ (records ds ++ replicate i 0)) z
    ∙ simp append_assoc

-- with room for all of them: the records in order, zeros behind
pub put_zeros : (n : ℕ) (ds : List Diag) → 5 * length ds ≤ n → put_all (replicate n 0) 0 ds ≡ records ds ++ replicate (n - 5 * length ds) 0
put_zeros n ds h = put_behind ds [] 0 n refl h

pub put_padded : (n : ℕ) (ds : List Diag) → 5 * length ds ≤ n → put_all (replicate n 0) 0 ds ≡ padded_to n (records ds)
unfolding padded_to
put_padded n ds h = put_zeros n ds h ∙ ap (λ (k : ℕ). records ds ++ replicate (n - k) 0) (sym (records-length ds))
