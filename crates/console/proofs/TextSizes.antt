-- How much is printed at most.
use Prim.Native.Nat.{ℕ, zero, suc, ◌+◌, ◌*◌, ◌/◌, ◌%◌, ◌^◌, ◌≤◌, ◌<◌, min}
use borrow.Author.Tests.{ltb-true, ltb-false}
use lib.Dec.{ltb}
use lib.ListN.{length, get_or, length-append}
use mathlib.Core.Bool.{Bool, true, false}
use mathlib.Core.List.{List, [], ◌∷◌, ◌++◌}
use mathlib.Core.Path.{◌≡◌, refl, ap, ◌∙◌}
use native.Mathlib.Nat.{pow-suc}
use native.Mathlib.Omega.{arith}
use Rattle.console.proofs.TextLists.{decimal-one, decimal_more}
use Rattle.console.specs.AnswerText.{blank, line_break, field_text, type_text, first_line, line_of, line_at, lines_of, records_in, printed}
use Rattle.console.specs.Input.{Bytes}
use Rattle.console.specs.Text.{decimal, hex_byte, hex_bytes}
use Rattle.ty.specs.Bytes.{id_at}

-- a number below 10 ^ (k + 1) has at most k + 1 digits
decimal_short : (k n : ℕ) → n < 10 ^ suc k → length (decimal n) ≤ suc k
decimal_short zero n h =
    let e : length (decimal n) ≡ 1 = ap length (decimal-one n h) in
    omega arith
decimal_short (suc k) n h = go (ltb n 10) refl (λ m g. decimal_short k m g)
  where
    go : (t : Bool) → ltb n 10 ≡ t → ((m : ℕ) → m < 10 ^ suc k → length (decimal m) ≤ suc k) → length (decimal n) ≤ suc (suc k)
    go true e again =
        let f : length (decimal n) ≡ 1 = ap length (decimal-one n (ltb-true n 10 e)) in
        omega arith
    go false e again =
        let p : 10 ^ suc (suc k) ≡ 10 ^ suc k * 10 = pow-suc 10 (suc k) in
        let f : length (decimal n) ≡ length (decimal (n / 10)) + 1 = ap length (decimal_more n (ltb-false n 10 e)) ∙ length-append (decimal (n / 10)) ((48 + n % 10) ∷ []) in
        let g : length (decimal (n / 10)) ≤ suc k = again (n / 10) (omega arith) in
        omega arith

field_short : (k n end : ℕ) → n < 10 ^ suc k → length (field_text n end) ≤ k + 2
unfolding field_text
field_short k n end h = omega (arith, length-append (decimal n) (end ∷ []), decimal_short k n h)

hex_length : (s : List ℕ) → length (hex_bytes s) ≡ 2 * length s
unfolding hex_bytes hex_byte
hex_length [] = refl
hex_length (b ∷ s) = omega (arith, hex_length s)

type_short : (s : List ℕ) → length (type_text s) ≤ 2 * length s + 1
unfolding type_text
type_short [] = omega arith
type_short (b ∷ s) = omega (arith, hex_length (b ∷ s))

-- number, pass mark, a type of at most 256 bytes and a count below 10 ^ 20
first_short : (number pass : ℕ) (s : List ℕ) (count : ℕ) → number < 256 → pass < 256 → length s ≤ 256 → count < 10 ^ 20
    → length (first_line number pass s count) ≤ 547
unfolding first_line
first_short number pass s count a b c d =
    let x : List ℕ = (blank ∷ []) ++ field_text count line_break in
    omega (
      arith,
      length-append (field_text number blank) (field_text pass blank ++ (field_text (length s) blank ++ (type_text s ++ x))),
      length-append (field_text pass blank) (field_text (length s) blank ++ (type_text s ++ x)),
      length-append (field_text (length s) blank) (type_text s ++ x),
      length-append (type_text s) x,
      length-append (blank ∷ []) (field_text count line_break),
      field_short 2 number blank (omega arith),
      field_short 2 pass blank (omega arith),
      field_short 2 (length s) blank (omega arith),
      type_short s,
      field_short 19 count line_break d,
    )

line_short : (d : List ℕ) → Bytes d → (p : ℕ) → length (line_at d p) ≤ 16
unfolding line_at line_of
line_short d bytes p =
    let k : ℕ = get_or d p 0 in
    let n : ℕ = id_at d (p + 1) in
    let m : ℕ = id_at d (p + 3) in
    omega (
      arith,
      length-append (field_text k blank) (field_text n blank ++ field_text m line_break),
      length-append (field_text n blank) (field_text m line_break),
      field_short 2 k blank (omega (arith, bytes p)),
      field_short 4 n blank (omega (arith, bytes (p + 1), bytes (p + 1 + 1))),
      field_short 4 m line_break (omega (arith, bytes (p + 3), bytes (p + 3 + 1))),
    )

lines_short : (d : List ℕ) → Bytes d → (n : ℕ) → length (lines_of d n) ≤ 16 * n
unfolding lines_of
lines_short d bytes zero = omega arith
lines_short d bytes (suc n) = omega (arith, length-append (lines_of d n) (line_at d (5 * n)), lines_short d bytes n, line_short d bytes (5 * n))

-- an answer in bytes, with a type of at most 256 of them and a diagnostics buffer of at most 65,535, prints at most 210,259 bytes
pub printed_short : (number pass : ℕ) (s : List ℕ) (count : ℕ) (d : List ℕ) → number < 256 → pass < 256 → length s ≤ 256 → count < 10 ^ 20 → Bytes d → length d ≤ 65535
    → length (printed number pass s count d) ≤ 210259
unfolding printed records_in
printed_short number pass s count d a b c e bytes h =
    omega (
      arith,
      length-append (first_line number pass s count) (lines_of d (min count (length d / 5))),
      first_short number pass s count a b c e,
      lines_short d bytes (min count (length d / 5)),
    )
