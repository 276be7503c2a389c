-- Laws of `Wrote`.
use Prim.Native.Nat.{ℕ, ◌+◌, ◌*◌, ◌/◌, ◌%◌, ◌≤◌, ◌<◌}
use borrow.Author.Tests.{leb-true, leb-false}
use lib.Dec.{leb}
use lib.ListN.{length, get_or, take, replicate, length-append, length-replicate}
use lib.Seq.{sets, length-sets, set_out, take-length, length-take-le}
use mathlib.Core.Bool.{Bool, true, false}
use mathlib.Core.List.{List, [], ◌∷◌, ◌++◌}
use mathlib.Core.Path.{◌≡◌, refl, sym, ap, ◌∙◌}
use native.Mathlib.Omega.{arith}
use Rattle.console.proofs.TextLists.{sets_past, sets-zeros, decimal-one, decimal_more, hex_next, lines_next}
use Rattle.console.specs.AnswerText.{blank, line_break, dash, field_text, type_text, line_of, line_at, lines_of}
use Rattle.console.specs.Buffer.{Filled}
use Rattle.console.specs.Inside.Wrote.{Wrote}
use Rattle.console.specs.declared.print.Writer.{Writer}
use Rattle.console.specs.Text.{decimal, hex_digit, hex_byte, hex_bytes}
use Rattle.ty.specs.Bytes.{id_at}
use Rattle.written.proofs.ListFacts.{sets-append}

-- nothing written
pub wrote_none : (w : Writer) → Wrote w w []
wrote_none w = record { bytes = refl; next = omega arith; same = refl }

-- a byte for which there is no room
pub wrote_past : (w : Writer) (v : ℕ) → length w.out.now ≤ w.at → Wrote w w (v ∷ [])
wrote_past w v h = record { bytes = sym (set_out w.out.now w.at v h); next = omega arith; same = refl }

pub wrote_as : {w w' : Writer} {xs ys : List ℕ} → Wrote w w' xs → xs ≡ ys → Wrote w w' ys
wrote_as p e = rw e at p

pub wrote_length : {w w' : Writer} {xs : List ℕ} → Wrote w w' xs → length w'.out.now ≡ length w.out.now
wrote_length {w} {w'} {xs} p = ap length p.bytes ∙ length-sets w.out.now w.at xs

-- one text behind another
pub wrote_then : {w w₁ w₂ : Writer} {xs ys : List ℕ} → Wrote w w₁ xs → Wrote w₁ w₂ ys → Wrote w w₂ (xs ++ ys)
wrote_then {w} {w₁} {w₂} {xs} {ys} p z =
    let same_length : length w₁.out.now ≡ length b = wrote_length p in
    let both : length (xs ++ ys) ≡ length xs + length ys = length-append xs ys in
    record {
      bytes = z.bytes ∙ ap (λ (l : List ℕ). sets l w₁.at ys) p.bytes ∙ go (leb (w.at + length xs) (length b)) refl ∙ sets-append xs ys b w.at;
      next = omega (arith, p.next, z.next, same_length, both);
      same = z.same ∙ p.same;
    }
  where
    b : List ℕ
    b = w.out.now

    go : (t : Bool) → leb (w.at + length xs) (length b) ≡ t → sets (sets b w.at xs) w₁.at ys ≡ sets (sets b w.at xs) (w.at + length xs) ys
    go true e =
        let h : w.at + length xs ≤ length b = leb-true (w.at + length xs) (length b) e in
        let k : w₁.at ≡ w.at + length xs = omega (arith, p.next) in
        ap (λ (x : ℕ). sets (sets b w.at xs) x ys) k
    go false e =
        let h : length b < w.at + length xs = leb-false (w.at + length xs) (length b) e in
        let n : length (sets b w.at xs) ≡ length b = length-sets b w.at xs in
        let k : length (sets b w.at xs) ≤ w₁.at = omega (arith, p.next) in
        let m : length (sets b w.at xs) ≤ w.at + length xs = omega arith in
        sets_past ys (sets b w.at xs) w₁.at k ∙ sym (sets_past ys (sets b w.at xs) (w.at + length xs) m)

-- ---- numbers
module _ {w w' : Writer} where
  pub wrote_one : (n : ℕ) {d : ℕ} → n < 10 → d ≡ 48 + n % 10 → Wrote w w' (d ∷ []) → Wrote w w' (decimal n)
  wrote_one n {d} h e p = wrote_as p (ap (λ (x : ℕ). x ∷ []) e ∙ sym (decimal-one n h))

  pub wrote_more : {w₁ : Writer} (n : ℕ) {d : ℕ} → 10 ≤ n → Wrote w w₁ (decimal (n / 10)) → d ≡ 48 + n % 10 → Wrote w₁ w' (d ∷ []) → Wrote w w' (decimal n)
  wrote_more n {d} h p e z = wrote_as (wrote_then p z) (ap (λ (x : ℕ). decimal (n / 10) ++ (x ∷ [])) e ∙ sym (decimal_more n h))

  pub wrote_hex : {w₁ : Writer} (v : ℕ) {d e : ℕ} → d ≡ hex_digit (v / 16) → Wrote w w₁ (d ∷ []) → e ≡ hex_digit (v % 16) → Wrote w₁ w' (e ∷ []) → Wrote w w' (hex_byte v)
  unfolding hex_byte
  wrote_hex v {d} {e} h p k z = wrote_as (wrote_then p z) (ap (λ (x : ℕ). d ∷ x ∷ []) k ∙ ap (λ (x : ℕ). x ∷ hex_digit (v % 16) ∷ []) h)

  pub wrote_field : {w₁ : Writer} (n : ℕ) {end : ℕ} → Wrote w w₁ (decimal n) → Wrote w₁ w' (end ∷ []) → Wrote w w' (field_text n end)
  unfolding field_text
  wrote_field n p z = wrote_then p z

-- ---- bytes in hex
pub hex_none : (s : List ℕ) (w : Writer) → Wrote w w (hex_bytes (take 0 s))
unfolding hex_bytes
hex_none s w = wrote_none w

pub hex_turn : {w w₁ w₂ : Writer} (s : List ℕ) (i : ℕ) → i < length s → Wrote w w₁ (hex_bytes (take i s)) → Wrote w₁ w₂ (hex_byte (get_or s i 0))
    → Wrote w w₂ (hex_bytes (take (i + 1) s))
hex_turn s i h p z = wrote_as (wrote_then p z) (sym (hex_next s i h))

pub hex_done : {w w' : Writer} (s : List ℕ) (i : ℕ) → i ≡ length s → Wrote w w' (hex_bytes (take i s)) → Wrote w w' (hex_bytes s)
hex_done s i e p = wrote_as p (ap (λ (k : ℕ). hex_bytes (take k s)) e ∙ ap hex_bytes (take-length s))

pub type_none : {w w' : Writer} (s : List ℕ) → length s ≡ 0 → Wrote w w' (dash ∷ []) → Wrote w w' (type_text s)
unfolding type_text
type_none [] e p = p
type_none (x ∷ s) e p = absurd (omega arith)

pub type_some : {w w' : Writer} (s : List ℕ) → (length s ≡ 0 → ⊥) → Wrote w w' (hex_bytes s) → Wrote w w' (type_text s)
unfolding type_text
type_some [] e p = absurd (e refl)
type_some (x ∷ s) e p = p

-- ---- lines
pub lines_none : (d : List ℕ) (w : Writer) → Wrote w w (lines_of d 0)
unfolding lines_of
lines_none d w = wrote_none w

pub lines_turn : {w w₁ w₂ : Writer} (d : List ℕ) (i : ℕ) → Wrote w w₁ (lines_of d i) → Wrote w₁ w₂ (line_at d (5 * i)) → Wrote w w₂ (lines_of d (i + 1))
lines_turn d i p z = wrote_as (wrote_then p z) (lines_next d i)

pub lines_done : {w w' : Writer} (d : List ℕ) (i n : ℕ) → i ≡ n → Wrote w w' (lines_of d i) → Wrote w w' (lines_of d n)
lines_done d i n e p = wrote_as p (ap (lines_of d) e)

module _ {w w₁ w₂ w₃ : Writer} (d : List ℕ) (p k n m : ℕ) where
  pub wrote_line : k ≡ get_or d p 0 → Wrote w w₁ (field_text k blank) → n ≡ id_at d (p + 1) → Wrote w₁ w₂ (field_text n blank) → m ≡ id_at d (p + 3)
      → Wrote w₂ w₃ (field_text m line_break) → Wrote w w₃ (line_at d p)
  unfolding line_at line_of
  wrote_line f o g x h y =
      wrote_as (wrote_then o (wrote_then x y))
      (ap (λ (z : ℕ). field_text z blank ++ (field_text n blank ++ field_text m line_break)) f
      ∙ ap (λ (z : ℕ). field_text (get_or d p 0) blank ++ (field_text z blank ++ field_text m line_break)) g
      ∙ ap (λ (z : ℕ). field_text (get_or d p 0) blank ++ (field_text (id_at d (p + 1)) blank ++ field_text z line_break)) h)

-- all that is printed, in a cleared buffer
pub wrote_all : {w w₁ w₂ : Writer} {xs ys : List ℕ} (b₀ : List ℕ) → w.at ≡ 0 → w.out.now ≡ replicate (length b₀) 0 → Wrote w w₁ xs → Wrote w₁ w₂ ys
    → Filled b₀ w₂.out.now w₂.at (xs ++ ys)
wrote_all {w} {w₁} {w₂} {xs} {ys} b₀ o e p z =
    let a : Wrote w w₂ (xs ++ ys) = wrote_then p z in
    let n : length w.out.now ≡ length b₀ = ap length e ∙ length-replicate (length b₀) 0 in
    let m : length w₂.out.now ≡ length w.out.now = wrote_length a in
    let h : w₂.at ≤ length w₂.out.now = omega (arith, a.next, o, m) in
    record {
      bytes = a.bytes ∙ ap (λ (i : ℕ). sets w.out.now i (xs ++ ys)) o ∙ ap (λ (l : List ℕ). sets l 0 (xs ++ ys)) e ∙ sets-zeros (length b₀) (xs ++ ys);
      size = omega (arith, a.next, o, n);
      part = (h, sym (length-take-le w₂.at w₂.out.now h));
    }

-- the same buffer
pub filled_as : {b₀ b b₁ : List ℕ} {r : ℕ} {text : List ℕ} → Filled b₀ b r text → b₁ ≡ b → Filled b₀ b₁ r text
filled_as w e = rw e w
