-- Laws on parts of lists.
use Prim.Native.Nat.{ℕ, zero, suc, ◌-◌, ◌<◌}
use lib.ListN.{length, get_or, take, drop, length-drop, drop_of_length-le}
use lib.Seq.{take_all, drop-length}
use mathlib.Core.List.{List, [], ◌∷◌}
use mathlib.Core.Path.{◌≡◌, refl, sym, ◌∙◌}
use native.Mathlib.Nat.{not-suc-le-zero, le_of_suc-le-suc}
use native.Mathlib.Omega.{arith}

-- inside the list the default does not matter
pub head_any : (s : List ℕ) (i d e : ℕ) → i < length s → get_or s i d ≡ get_or s i e
head_any [] i d e h = absurd (not-suc-le-zero h)
head_any (x ∷ s) zero d e h = refl
head_any (x ∷ s) (suc i) d e h = head_any s i d e (le_of_suc-le-suc h)

-- a part up to the end
pub part-drop : (n : ℕ) (s : List ℕ) → take (length s - n) (drop n s) ≡ drop n s
part-drop n s = take_all (length s - n) (drop n s) (simp length-drop (omega arith))

-- past the end nothing is left
pub drop_past : (n : ℕ) (s : List ℕ) → length s < n → drop (length s) s ≡ drop n s
drop_past n s h = drop-length s ∙ sym (drop_of_length-le s {i = n} (omega arith))
