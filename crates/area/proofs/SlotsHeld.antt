-- Laws of the slots as the list of the types that they hold.
use Prim.Native.Nat.{ℕ, ◌+◌, ◌≤◌, ◌<◌}
use lib.ListN.{length, take, drop, set, length-append, length-set}
use lib.Seq.{sets, get_or-set_same, get_or-set_other, length-take-le}
use mathlib.Core.List.{List, [], ◌∷◌, ◌++◌}
use mathlib.Core.Path.{◌≡◌, sym, ap, ◌∙◌}
use native.Mathlib.Omega.{arith}
use Rattle.std.proofs.lemmas.List.{set-append_left, take-append-drop}
use Rattle.area.specs.Inside.Slot.{Child, Holds, AllHold}
use Rattle.area.specs.Inside.Storable.{ReadsChildren}
use Rattle.area.specs.declared.Source.TheVariants.{Kind, ListOf, Name, First, Second, Inner, Pointer, Part, Function}
use Rattle.area.specs.declared.Source.{Source}
use Rattle.ty.specs.declared.Part.{Part as TypePart}
use Rattle.ty.specs.Bytes.{Ty}
use Rattle.written.proofs.ListFacts.{sets-append, sets_front}

-- some bytes, and others behind them
pub put_both : (b b₁ b₂ front rest : List ℕ) → b₁ ≡ sets b 0 front → b₂ ≡ sets b₁ (length front) rest → length front + length rest ≤ length b
    → take (length front + length rest) b₂ ≡ front ++ rest
put_both b b₁ b₂ front rest e f h =
    let n : length (front ++ rest) ≡ length front + length rest = length-append front rest in
    let z : length front ≡ 0 + length front = omega arith in
    let g : b₂ ≡ sets b 0 (front ++ rest)
    = f ∙ ap (λ (w : List ℕ). sets w (length front) rest) e ∙ ap (λ (k : ℕ). sets (sets b 0 front) k rest) z ∙ sets-append front rest b 0 in
    rw (← n, g) (sets_front (front ++ rest) b (omega arith))

-- a store before slot m, the slots from m on being lent apart
pub set_before : (s : List Ty) (node m : ℕ) (t : Ty) → node < m → m ≤ length s → set (take m s) node t ++ drop m s ≡ set s node t
set_before s node m t h k =
    let n : length (take m s) ≡ m = length-take-le m s k in
    sym (set-append_left (take m s) (drop m s) node t (omega arith)) ∙ ap (λ (w : List Ty). set w node t) (take-append-drop m s)

-- ---- a store
pub holds_here : (s : List Ty) (m : ℕ) (t : Ty) → m < length s → Holds (set s m t) m t
holds_here s m t h = record { is = get_or-set_same s m t [] h; inside = rw (length-set s m t) h }

-- a store at n leaves every slot before n
pub holds_under : (s : List Ty) (m n : ℕ) (t u : Ty) → m < n → Holds s m u → Holds (set s n t) m u
holds_under s m n t u h w = record { is = get_or-set_other s n m t [] (λ e. omega arith) ∙ w.is; inside = rw (length-set s n t) w.inside }

-- a node that holds something, with a number higher than its parent's
pub child_of : (s : List Ty) (node m : ℕ) (t : Ty) → node < m → Holds s m t → Child s node m
child_of s node m t h w = record { past = h; inside = w.inside }

-- ---- several slots
pub all_hold_more : (s : List Ty) (lo hi : ℕ) (ms : List ℕ) (ts : List Ty) → lo ≤ hi → AllHold s hi ms ts → AllHold s lo ms ts
unfolding AllHold
all_hold_more s lo hi [] [] h w = tt
all_hold_more s lo hi [] (t ∷ ts) h w = absurd w
all_hold_more s lo hi (m ∷ ms) [] h w = absurd w
all_hold_more s lo hi (m ∷ ms) (t ∷ ts) h w = (omega (arith, w.0), w.1, all_hold_more s lo hi ms ts h w.2)

-- ---- what `store` asks
-- children that have slots serve every source
pub reads_both_children : (slots : List Ty) (node first second : ℕ) → Child slots node first → Child slots node second → (s : Source) → ReadsChildren slots node first second s
unfolding ReadsChildren
reads_both_children slots node first second x y (Kind k) = tt
reads_both_children slots node first second x y (ListOf k) = tt
reads_both_children slots node first second x y (Name id) = tt
reads_both_children slots node first second x y First = x
reads_both_children slots node first second x y Second = y
reads_both_children slots node first second x y Inner = x
reads_both_children slots node first second x y Pointer = x
reads_both_children slots node first second x y (Part p) = tt
reads_both_children slots node first second x y (Function p) = tt

pub reads_no_child : (slots : List Ty) (node first second : ℕ) (k : ℕ) → ReadsChildren slots node first second (Kind k)
unfolding ReadsChildren
reads_no_child slots node first second k = tt

pub reads_table_part : (slots : List Ty) (node first second : ℕ) (p : TypePart) → ReadsChildren slots node first second (Part p)
unfolding ReadsChildren
reads_table_part slots node first second p = tt
