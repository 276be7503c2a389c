-- Laws on lists of bytes: parts, stores of several bytes, zeros.
use Prim.Native.Nat.{ℕ, zero, suc, ◌+◌, ◌-◌, ◌≤◌, ◌<◌}
use lib.ListN.{length, get_or, take, drop, set, replicate, length-append, length-drop, length-take, length-replicate}
use lib.Seq.{sets, sets-eq, length-take-le, take-suc, take_all, take-nil, get_or-drop, get_or-set_other, drop-set-add, take-set-le, take-append_seam, drop-append-add, length-sets}
use borrow.Rule.Slice.PartMut.{put_mid}
use Rattle.std.proofs.lemmas.Slice.{put_mid-paste}
use mathlib.Core.List.{List, [], ◌∷◌, ◌++◌}
use mathlib.Core.Path.{◌≡◌, refl, sym, ap, ◌∙◌}
use native.Mathlib.Nat.{add-zero, zero-sub, suc-sub-suc, sub-zero}
use native.Mathlib.Numerals.{add-one}
use native.Mathlib.Omega.{arith}

-- ---- parts
-- a part that lies inside has the length that is asked
pub part_length : (s : List ℕ) (at i : ℕ) → at + i ≤ length s → length (take i (drop at s)) ≡ i
part_length s at i h = length-take-le i (drop at s) (omega (arith, length-drop at s))

-- no part is longer than asked
pub part_short : (s : List ℕ) (at i : ℕ) → length (take i (drop at s)) ≤ i
part_short s at i = omega (arith, length-take i (drop at s))

pub part_next : (s : List ℕ) (at i : ℕ) → at + i < length s → take (i + 1) (drop at s) ≡ take i (drop at s) ++ (get_or s (at + i) 0 ∷ [])
part_next s at i h =
    let room : i < length (drop at s) = omega (arith, length-drop at s) in
    ap (λ (k : ℕ). take k (drop at s)) (add-one i) ∙ take-suc (drop at s) i 0 room ∙ ap (λ (v : ℕ). take i (drop at s) ++ (v ∷ [])) (get_or-drop at s i 0)

-- where fewer are there, a part is all that is left
pub part-rest : (r d : List ℕ) (n : ℕ) → r ≡ d → length r < n → r ≡ take n d
part-rest r d n e h = let f : length r ≡ length d = ap (λ (l : List ℕ). length l) e in e ∙ sym (take_all n d (omega arith))

-- the end of a front
pub drop-take : (j n : ℕ) (s : List ℕ) → drop j (take n s) ≡ take (n - j) (drop j s)
drop-take zero n s = ap (λ (k : ℕ). take k s) (sym (sub-zero n))
drop-take (suc j) zero s = ap (λ (k : ℕ). take k (drop (suc j) s)) (sym (zero-sub (suc j)))
drop-take (suc j) (suc n) [] = sym (take-nil (suc n - suc j))
drop-take (suc j) (suc n) (x ∷ s) = drop-take j n s ∙ ap (λ (k : ℕ). take k (drop j s)) (sym (suc-sub-suc n j))

-- ---- stores of several bytes
pub sets_snoc : (vs a : List ℕ) (p x : ℕ) → set (sets a p vs) (p + length vs) x ≡ sets a p (vs ++ (x ∷ []))
sets_snoc [] a p x = ap (λ (k : ℕ). set a k x) (add-zero p)
sets_snoc (v ∷ vs) a p x =
    let e : p + suc (length vs) ≡ suc p + length vs = omega arith in
    ap (λ (k : ℕ). set (sets (set a p v) (suc p) vs) k x) e ∙ sets_snoc vs (set a p v) (suc p) x

pub sets-append : (vs ws a : List ℕ) (p : ℕ) → sets (sets a p vs) (p + length vs) ws ≡ sets a p (vs ++ ws)
sets-append [] ws a p = ap (λ (k : ℕ). sets a k ws) (add-zero p)
sets-append (v ∷ vs) ws a p =
    let e : p + suc (length vs) ≡ suc p + length vs = omega arith in
    ap (λ (k : ℕ). sets (sets (set a p v) (suc p) vs) k ws) e ∙ sets-append vs ws (set a p v) (suc p)

-- stores keep a length
pub stored_length : {b' : List ℕ} (b : List ℕ) (at : ℕ) (vs : List ℕ) → b' ≡ sets b at vs → length b' ≡ length b
stored_length b at vs e = ap length e ∙ length-sets b at vs

-- a part of a slice that was written
pub part_stored : (xs ys zs : List ℕ) (at k : ℕ) → ys ≡ zs → k ≡ length zs → at + length zs ≤ length xs → put_mid at k xs ys ≡ sets xs at zs
part_stored xs ys zs at k e f h =
    put_mid-paste at k xs ys zs (length zs) e (sym f) refl
    ∙ ap (λ (w : List ℕ). take at xs ++ w ++ drop (at + length zs) xs) (take_all (length zs) zs (omega arith))
    ∙ sym (sets-eq zs xs at h)

-- `put_two`
pub two-set : (b : List ℕ) (at x y : ℕ) → set (set b at x) (at + 1) y ≡ sets b at (x ∷ y ∷ [])
two-set b at x y = rw (add-one at)

-- bytes behind a store stay
pub sets_behind : (vs a : List ℕ) (p j : ℕ) → p + length vs ≤ j → get_or (sets a p vs) j 0 ≡ get_or a j 0
sets_behind [] a p j h = refl
sets_behind (v ∷ vs) a p j h = sets_behind vs (set a p v) (suc p) j (omega arith) ∙ get_or-set_other a p j v 0 (λ e. omega arith)

-- what a store at the start puts there
pub sets_front : (vs a : List ℕ) → length vs ≤ length a → take (length vs) (sets a 0 vs) ≡ vs
sets_front vs a h = ap (λ (l : List ℕ). take (length vs) l) (sets-eq vs a 0 (omega arith)) ∙ take-append_seam vs (drop (0 + length vs) a)

-- a part that ends before a store stays
pub part-set : (a : List ℕ) (p k i v : ℕ) → p + k ≤ i → take k (drop p (set a i v)) ≡ take k (drop p a)
part-set a p k i v h =
    let e : i ≡ p + (i - p) = omega arith in
    ap (λ (j : ℕ). take k (drop p (set a j v))) e ∙ ap (λ (ws : List ℕ). take k ws) (drop-set-add p a (i - p) v) ∙ take-set-le k (drop p a) (i - p) v (omega arith)

pub part-sets : (vs a : List ℕ) (p k i : ℕ) → p + k ≤ i → take k (drop p (sets a i vs)) ≡ take k (drop p a)
part-sets [] a p k i h = refl
part-sets (v ∷ vs) a p k i h = part-sets vs (set a i v) p k (suc i) (omega arith) ∙ part-set a p k i v h

-- ---- zeros
pub drop-replicate : (n m a : ℕ) → drop n (replicate m a) ≡ replicate (m - n) a
drop-replicate zero m a = ap (λ (k : ℕ). replicate k a) (sym (sub-zero m))
drop-replicate (suc n) zero a = ap (λ (k : ℕ). replicate k a) (sym (zero-sub (suc n)))
drop-replicate (suc n) (suc m) a = drop-replicate n m a ∙ ap (λ (k : ℕ). replicate k a) (sym (suc-sub-suc m n))

-- a store at the start of some zeros takes their place
pub sets-zeros : (pre vs : List ℕ) (m : ℕ) → length vs ≤ m → sets (pre ++ replicate m 0) (length pre) vs ≡ (pre ++ vs) ++ replicate (m - length vs) 0
sets-zeros pre vs m h =
    let z : List ℕ = replicate m 0 in
    let l : length (pre ++ z) ≡ length pre + m = length-append pre z ∙ ap (λ (k : ℕ). length pre + k) (length-replicate m 0) in
    sets-eq vs (pre ++ z) (length pre) (omega arith)
    ∙ ap (λ (l : List ℕ). l ++ vs ++ drop (length pre + length vs) (pre ++ z)) (take-append_seam pre z)
    ∙ ap (λ (l : List ℕ). pre ++ vs ++ l) (drop-append-add pre z (length vs) ∙ drop-replicate (length vs) m 0)
