-- One more of the sixteen places is occupied.
use Rattle.std.specs.Prelude.{◌≡◌, ℕ, ◌+◌, ◌-◌, ◌<◌, List, length, take, drop, set, replicate}
use mathlib.Core.Path.{ap, sym, ◌∙◌}
use native.Mathlib.Omega.{arith}
use Rattle.std.proofs.lemmas.List.{length-set, drop-set-lt, drop-drop, drop-replicate}
use Rattle.symbol.specs.Inside.Occupied.{Occupied, occupied_length}

module _ {A : Type 0} {blank : A} {n : ℕ} {xs ys : List A} where
  pub one_occupied : Occupied blank n xs → take n xs ≡ ys → length ys < 16 → (x : A) → Occupied blank (n + 1) (set xs n x)
  one_occupied o e h x =
      record {
        few = omega (arith, h, occupied_length o, ap length e);
        long = length-set xs n x ∙ o.long;
        rest = drop-set-lt (n + 1) xs n x (omega arith) ∙ sym (drop-drop 1 n xs) ∙ ap (λ (zs : List A). drop 1 zs) o.rest
            ∙ drop-replicate 1 (16 - n) blank ∙ ap (λ (k : ℕ). replicate k blank) (omega arith);
      }
