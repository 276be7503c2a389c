-- What a type holds is its last bytes, so its length says where it stands.
use Prim.Native.Nat.{ℕ, zero, suc, ◌+◌, ◌-◌}
use lib.ListN.{length, drop, length-drop}
use mathlib.Core.List.{List, [], ◌∷◌}
use mathlib.Core.Path.{◌≡◌, refl, sym, ap, ◌∙◌}
use native.Mathlib.Omega.{arith}
use Rattle.ty.proofs.Choice.{by_choice}
use Rattle.ty.specs.Bytes.{Ty, kind_of, size_width, inner_of}

-- what is left behind some bytes is told by its length
pub drop-last : (n : ℕ) (s : List ℕ) → drop n s ≡ drop (length s - length (drop n s)) s
drop-last zero s = let e : length s - length s ≡ 0 = omega arith in ap (λ (k : ℕ). drop k s) (sym e)
drop-last (suc n) [] = refl
drop-last (suc n) (x ∷ s) =
    let e : suc (length s) - length (drop n s) ≡ suc (length s - length (drop n s)) = omega (arith, length-drop n s) in
    drop-last n s ∙ ap (λ (k : ℕ). drop k (x ∷ s)) (sym e)

pub inner_last : (s : Ty) → inner_of s ≡ drop (length s - length (inner_of s)) s
unfolding inner_of
inner_last s = by_choice (λ (t : Ty). t ≡ drop (length s - length t) s) _ (λ e. drop-last (2 + size_width (kind_of s)) s) (λ e. drop-last 1 s)
