-- Laws of runs of stores, and of text as lists.
use Prim.Native.Nat.{ℕ, zero, suc, ◌+◌, ◌-◌, ◌*◌, ◌/◌, ◌%◌, ◌≤◌, ◌<◌}
use borrow.Author.Tests.{lt-ltb, le-ltb, ltb-true, ltb-false}
use lib.Dec.{ltb}
use lib.ListN.{length, get_or, take, set, replicate}
use lib.Seq.{sets, set_out, take-suc}
use mathlib.Core.Bool.{Bool, true, false}
use mathlib.Core.List.{List, [], ◌∷◌, ◌++◌, append_assoc, append-nil}
use mathlib.Core.Path.{◌≡◌, refl, sym, ap, ◌∙◌}
use native.Mathlib.Numerals.{add-one}
use native.Mathlib.Omega.{arith}
use Rattle.console.specs.AnswerText.{line_at, lines_of}
use Rattle.console.specs.Buffer.{holding}
use Rattle.console.specs.Text.{digits, decimal, hex_byte, hex_bytes}
use Rattle.ty.specs.Choose.{choose}

-- ---- runs of stores
-- past the end nothing is stored
pub sets_past : (vs l : List ℕ) (i : ℕ) → length l ≤ i → sets l i vs ≡ l
sets_past [] l i h = refl
sets_past (v ∷ vs) l i h =
    let e : set l i v ≡ l = set_out l i v h in
    ap (λ (k : List ℕ). sets k (suc i) vs) e ∙ sets_past vs l (suc i) (omega arith)

sets_cons : (vs l : List ℕ) (x i : ℕ) → sets (x ∷ l) (suc i) vs ≡ x ∷ sets l i vs
sets_cons [] l x i = refl
sets_cons (v ∷ vs) l x i = sets_cons vs (set l i v) x (suc i)

-- a text stored into zeros
pub sets-zeros : (n : ℕ) (text : List ℕ) → sets (replicate n 0) 0 text ≡ holding n text
unfolding holding
sets-zeros zero [] = refl
sets-zeros zero (v ∷ vs) =
    let e : 0 ≡ 0 - suc (length vs) = omega arith in
    sets_past (v ∷ vs) [] 0 (omega arith) ∙ ap (λ (k : ℕ). replicate k 0) e
sets-zeros (suc n) [] =
    let e : suc n ≡ suc n - 0 = omega arith in
    ap (λ (k : ℕ). replicate k 0) e
sets-zeros (suc n) (v ∷ vs) =
    let e : n - length vs ≡ suc n - suc (length vs) = omega arith in
    sets_cons vs (replicate n 0) v 0 ∙ ap (λ (k : List ℕ). v ∷ k) (sets-zeros n vs) ∙ ap (λ (k : ℕ). v ∷ (take n vs ++ replicate k 0)) e

-- ---- decimal digits
-- more digits than there are make no difference
digits-one : (f n : ℕ) → n < 10 → digits (suc f) n ≡ (48 + n % 10) ∷ []
unfolding digits choose
digits-one f n h = rw (lt-ltb n 10 h)

digits_more : (f n : ℕ) → 10 ≤ n → digits (suc f) n ≡ digits f (n / 10) ++ ((48 + n % 10) ∷ [])
unfolding digits choose
digits_more f n h = rw (le-ltb n 10 h)

tenth : (n : ℕ) → 10 ≤ n → n / 10 < n
tenth n h = omega arith

enough : (f g n : ℕ) → n < f → n < g → digits f n ≡ digits g n
enough zero g n h k = absurd (omega arith)
enough (suc f) zero n h k = absurd (omega arith)
enough (suc f) (suc g) n h k = go (ltb n 10) refl (λ m p q. enough f g m p q)
  where
    go : (t : Bool) → ltb n 10 ≡ t → ((m : ℕ) → m < f → m < g → digits f m ≡ digits g m) → digits (suc f) n ≡ digits (suc g) n
    go true e again = digits-one f n (ltb-true n 10 e) ∙ sym (digits-one g n (ltb-true n 10 e))
    go false e again =
        let m : 10 ≤ n = ltb-false n 10 e in
        digits_more f n m
        ∙ ap (λ (x : List ℕ). x ++ ((48 + n % 10) ∷ [])) (again (n / 10) (omega (arith, tenth n m)) (omega (arith, tenth n m)))
        ∙ sym (digits_more g n m)

-- a number's digits are those of its tenth, if that is not 0, and its last
pub decimal-one : (n : ℕ) → n < 10 → decimal n ≡ (48 + n % 10) ∷ []
unfolding decimal
decimal-one n h = digits-one n n h

pub decimal_more : (n : ℕ) → 10 ≤ n → decimal n ≡ decimal (n / 10) ++ ((48 + n % 10) ∷ [])
unfolding decimal
decimal_more n h =
    digits_more n n h ∙ ap (λ (x : List ℕ). x ++ ((48 + n % 10) ∷ [])) (enough n (suc (n / 10)) (n / 10) (tenth n h) (omega arith))

-- ---- hex
pub hex_append : (xs ys : List ℕ) → hex_bytes (xs ++ ys) ≡ hex_bytes xs ++ hex_bytes ys
unfolding hex_bytes
hex_append [] ys = refl
hex_append (x ∷ xs) ys = ap (λ (k : List ℕ). hex_byte x ++ k) (hex_append xs ys) ∙ sym (append_assoc (hex_byte x) (hex_bytes xs) (hex_bytes ys))

pub hex_next : (s : List ℕ) (i : ℕ) → i < length s → hex_bytes (take (i + 1) s) ≡ hex_bytes (take i s) ++ hex_byte (get_or s i 0)
unfolding hex_bytes
hex_next s i h =
    ap (λ (k : ℕ). hex_bytes (take k s)) (add-one i)
    ∙ ap hex_bytes (take-suc s i 0 h)
    ∙ hex_append (take i s) (get_or s i 0 ∷ [])
    ∙ ap (λ (k : List ℕ). hex_bytes (take i s) ++ k) (append-nil (hex_byte (get_or s i 0)))

pub lines_next : (d : List ℕ) (n : ℕ) → lines_of d n ++ line_at d (5 * n) ≡ lines_of d (n + 1)
unfolding lines_of
lines_next d n = rw add-one
