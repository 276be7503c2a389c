-- The bytes of a name in two parts, eight of them in both.
use Prim.Native.Nat.{ℕ, zero, suc, ◌+◌, ◌≤◌, ◌<◌}
use borrow.Author.Tests.{lt-ltb}
use lib.ListN.{length, get_or, take, drop}
use lib.Seq.{get_or-take, get_or-drop}
use mathlib.Core.Bool.{Bool, true, false, ◌&&◌}
use mathlib.Core.List.{List}
use mathlib.Core.Path.{◌≡◌, refl, sym, ap, ◌∙◌}
use native.Mathlib.Omega.{arith}
use Rattle.record.specs.Inside.Front.{broken_head, plain_head, good_byte, good_bytes, good_part}
use Rattle.ty.proofs.Choice.{choose_yes, and_right}

-- byte k of a part
part_byte : (s : List ℕ) (a k : ℕ) → k < 16 → get_or (take 16 (drop a s)) k 0 ≡ get_or s (a + k) 0
part_byte s a k h = get_or-take 16 (drop a s) k 0 h ∙ get_or-drop a s k 0

-- the first part
first_part : (k : ℕ) → k ≤ 16 → (s : List ℕ) (n : ℕ) → good_part k 0 (take 16 (drop 2 s)) n ≡ good_bytes k s n
unfolding good_bytes good_part
first_part zero h s n = refl
first_part (suc k) h s n =
    let p : k + 0 ≡ k = omega arith in
    let q : 2 + k ≡ k + 2 = omega arith in
    λ i. good_byte n (p i) ((part_byte s 2 k (omega (arith, h)) ∙ ap (λ (j : ℕ). get_or s j 0) q) i) && first_part k (omega (arith, h)) s n i

-- the second one, behind the first eight bytes
and_assoc : (a b c : Bool) → a && (b && c) ≡ (a && b) && c
and_assoc true b c = refl
and_assoc false b c = refl

second_part : (j m : ℕ) → m ≡ j + 8 → j ≤ 16 → (s : List ℕ) (n : ℕ) → good_bytes m s n ≡ good_part j 8 (take 16 (drop 10 s)) n && good_bytes 8 s n
unfolding good_bytes good_part
second_part zero m e h s n = let z : m ≡ 8 = omega (arith, e) in ap (λ (k : ℕ). good_bytes k s n) z
second_part (suc j) zero e h s n = absurd (omega (arith, e))
second_part (suc j) (suc m) e h s n =
    let k : m ≡ j + 8 = omega (arith, e) in
    let q : m + 2 ≡ 10 + j = omega (arith, e) in
    let b : get_or s (m + 2) 0 ≡ get_or (take 16 (drop 10 s)) j 0 = ap (λ (i : ℕ). get_or s i 0) q ∙ sym (part_byte s 10 j (omega (arith, h))) in
    (λ i. good_byte n (k i) (b i) && second_part j m k (omega (arith, h)) s n i)
    ∙ and_assoc (good_byte n (j + 8) (get_or (take 16 (drop 10 s)) j 0)) (good_part j 8 (take 16 (drop 10 s)) n) (good_bytes 8 s n)

-- fewer bytes of a part are good where more are
fewer : (k j m : ℕ) → m ≡ k + j → (from n : ℕ) (p : List ℕ) → good_part m from p n ≡ true → good_part j from p n ≡ true
unfolding good_part
fewer zero j m e from n p g = let z : j ≡ m = omega (arith, e) in ap (λ (i : ℕ). good_part i from p n) z ∙ g
fewer (suc k) j zero e from n p g = absurd (omega (arith, e))
fewer (suc k) j (suc m) e from n p g =
    fewer k j m (omega (arith, e)) from n p (and_right (good_byte n (m + from) (get_or p m 0)) (good_part m from p n) g)

and_false : (a : Bool) → a && false ≡ false
and_false true = refl
and_false false = refl

and_true : (a : Bool) → a && true ≡ a
and_true true = refl
and_true false = refl

-- both parts are good where all 24 bytes are
pub good_both : (s : List ℕ) (n : ℕ) → good_part 16 0 (take 16 (drop 2 s)) n && good_part 16 8 (take 16 (drop 10 s)) n ≡ good_bytes 24 s n
good_both s n = go (good_part 16 8 (take 16 (drop 10 s)) n) refl ∙ sym (second_part 16 24 (omega arith) (omega arith) s n)
  where
    go : (v : Bool) → good_part 16 8 (take 16 (drop 10 s)) n ≡ v
        → good_part 16 0 (take 16 (drop 2 s)) n && v ≡ v && good_bytes 8 s n
    go false e = and_false (good_part 16 0 (take 16 (drop 2 s)) n)
    go true e =
        and_true (good_part 16 0 (take 16 (drop 2 s)) n) ∙ first_part 16 (omega arith) s n ∙ second_part 8 16 (omega arith) (omega arith) s n
        ∙ ap (λ (b : Bool). b && good_bytes 8 s n) (fewer 8 8 16 (omega arith) 8 n (take 16 (drop 10 s)) e)

-- a name that is cut
pub name_cut : (s : List ℕ) (bad : Bool) → length s < 26 → broken_head s ≡ plain_head s 26 bad 1 0 0 0
unfolding plain_head
name_cut s bad h = sym (choose_yes _ _ _ (lt-ltb (length s) 26 h))

pub ruleset name_rules = (good_both, name_cut)
