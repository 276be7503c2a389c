-- The front of a buffer that a text was put into: what fits of the text, and all of it where it fits.
use Prim.Native.Nat.{ℕ, ◌-◌, ◌≤◌}
use lib.ListN.{length, take, replicate, length-take}
use lib.Seq.{take_all, take_at}
use mathlib.Core.List.{List}
use mathlib.Core.Path.{◌≡◌, ap, ◌∙◌}
use native.Mathlib.Omega.{arith}
use Rattle.console.specs.Buffer.{Filled, holding}

pub filled-part : {b b' : List ℕ} {r : ℕ} {text : List ℕ} → Filled b b' r text → take r b' ≡ take (length b) text
unfolding holding
filled-part {b} {b'} {r} {text} f =
    let n : length (take (length b) text) ≡ r = omega (arith, f.size, length-take (length b) text) in
    ap (λ (x : List ℕ). take r x) f.bytes ∙ take_at (take (length b) text) (replicate (length b - length text) 0) r n

pub filled-whole : {b b' : List ℕ} {r : ℕ} {text : List ℕ} → Filled b b' r text → length text ≤ length b → take r b' ≡ text
filled-whole {b} {b'} {r} {text} f h = filled-part f ∙ take_all (length b) text h
