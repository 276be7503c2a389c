-- The number of a name, in 64 bits.
use Prim.Native.Nat.{ℕ, ◌+◌, ◌%◌}
use mathlib.Core.Path.{◌≡◌, ap, ◌∙◌}
use native.Mathlib.Omega.{arith}
use Rattle.std.proofs.Math.Nat.{add-mod-mod, mod-add-mod}

-- a sum of three numbers, each in so many bits
pub three_sum : (m a b c : ℕ) → ((a % m + b % m) % m + c % m) % m ≡ (a + b + c) % m
three_sum m a b c =
    let one : a % m + b % m + c ≡ a % m + (b % m + c) = omega arith in
    let two : a + (b % m + c) ≡ b % m + (a + c) = omega arith in
    let three : b + (a + c) ≡ a + b + c = omega arith in
    add-mod-mod ((a % m + b % m) % m) c m ∙ mod-add-mod (a % m + b % m) m c ∙ ap (λ (n : ℕ). n % m) one ∙ mod-add-mod a m (b % m + c)
    ∙ ap (λ (n : ℕ). n % m) two ∙ mod-add-mod b m (a + c) ∙ ap (λ (n : ℕ). n % m) three
