-- The numbers and the types of the nodes that a judgement finishes: the numbers are the tree's, none comes twice, the root is the last,
-- and every type fits in a slot.
use Prim.Native.Nat.{ℕ, suc, ◌≤◌, ◌<◌}
use lib.ListN.{length}
use mathlib.Core.List.{List, [], ◌∷◌, ◌++◌}
use mathlib.Core.Option.{Option, none, some}
use mathlib.Core.Path.{◌≡◌, refl}
use native.Mathlib.Omega.{arith}
use Rattle.area.specs.Inside.Slot.{slot_size}
use Rattle.question.specs.Tree.{Node, Row, leaf, binary, unary, named, member, call, method, nil, cons, number_after, number_after_row, size, sizes, LeavesFit, RowFits}
use Rattle.question.specs.declared.Header.{Header}
use Rattle.operators.specs.Out.{error_ty, any_ty}
use Rattle.symbol.specs.Symbols.{Symbols}
use Rattle.ty.specs.Bytes.{Ty}
use Rattle.typing.proofs.Length.{type_short}
use Rattle.typing.proofs.Short.{SymbolsFit}
use Rattle.typing.specs.Callee.{Callee, call_of, method_of}
use Rattle.typing.specs.Judge.{Given, Judged, RowJudged, call_step, method_step, judge, judges}

-- every number is from lo up to hi
unfoldable pub NumbersIn : ℕ → ℕ → List Given → Type 0
NumbersIn lo hi [] = Unit {0}
NumbersIn lo hi (g ∷ gs) = (lo ≤ g.node) × (g.node < hi) × NumbersIn lo hi gs

-- no number is m
unfoldable pub NoNumber : ℕ → List Given → Type 0
NoNumber m [] = Unit {0}
NoNumber m (g ∷ gs) = (g.node ≡ m → ⊥) × NoNumber m gs

-- no number comes twice
unfoldable pub NumbersDiffer : List Given → Type 0
NumbersDiffer [] = Unit {0}
NumbersDiffer (g ∷ gs) = NoNumber g.node gs × NumbersDiffer gs

-- every type fits in a slot
unfoldable pub TypesFit : List Given → Type 0
TypesFit [] = Unit {0}
TypesFit (g ∷ gs) = (length g.ty ≤ slot_size) × TypesFit gs

-- ---- lists
between_more : (lo hi lo' hi' : ℕ) (gs : List Given) → lo ≤ lo' → hi' ≤ hi → NumbersIn lo' hi' gs → NumbersIn lo hi gs
unfolding NumbersIn
between_more lo hi lo' hi' [] h k w = tt
between_more lo hi lo' hi' (g ∷ gs) h k w = (omega (arith, w.0), omega (arith, w.1), between_more lo hi lo' hi' gs h k w.2)

between_join : (lo hi : ℕ) (gs hs : List Given) → NumbersIn lo hi gs → NumbersIn lo hi hs → NumbersIn lo hi (gs ++ hs)
unfolding NumbersIn
between_join lo hi [] hs w v = v
between_join lo hi (g ∷ gs) hs w v = (w.0, w.1, between_join lo hi gs hs w.2 v)

absent-before : (lo hi k : ℕ) (gs : List Given) → k < lo → NumbersIn lo hi gs → NoNumber k gs
unfolding NumbersIn NoNumber
absent-before lo hi k [] h w = tt
absent-before lo hi k (g ∷ gs) h w = (λ e. omega (arith, w.0), absent-before lo hi k gs h w.2)

absent_join : (k : ℕ) (gs hs : List Given) → NoNumber k gs → NoNumber k hs → NoNumber k (gs ++ hs)
unfolding NoNumber
absent_join k [] hs w v = v
absent_join k (g ∷ gs) hs w v = (w.0, absent_join k gs hs w.1 v)

distinct_join : (lo m hi : ℕ) (gs hs : List Given) → NumbersIn lo m gs → NumbersIn m hi hs → NumbersDiffer gs → NumbersDiffer hs → NumbersDiffer (gs ++ hs)
unfolding NumbersIn NumbersDiffer
distinct_join lo m hi [] hs w v d e = e
distinct_join lo m hi (g ∷ gs) hs w v d e = (absent_join g.node gs hs d.0 (absent-before m hi g.node hs w.1 v), distinct_join lo m hi gs hs w.2 v d.1 e)

distinct_done : (n hi : ℕ) (gs : List Given) (t : Ty) → NumbersIn (suc n) hi gs → NumbersDiffer gs → NumbersDiffer (gs ++ (record { node = n; ty = t } ∷ []))
unfolding NumbersIn NumbersDiffer NoNumber
distinct_done n hi [] t w d = (tt, tt)
distinct_done n hi (g ∷ gs) t w d = (absent_join g.node gs _ d.0 (λ e. omega (arith, w.0), tt), distinct_done n hi gs t w.2 d.1)

short_nil : TypesFit []
unfolding TypesFit
short_nil = tt

short_join : (gs hs : List Given) → TypesFit gs → TypesFit hs → TypesFit (gs ++ hs)
unfolding TypesFit
short_join [] hs w v = v
short_join (g ∷ gs) hs w v = (w.0, short_join gs hs w.1 v)

short_done : (n : ℕ) (gs : List Given) (t : Ty) → length t ≤ 256 → TypesFit gs → TypesFit (gs ++ (record { node = n; ty = t } ∷ []))
unfolding TypesFit
short_done n gs t h w = short_join gs _ w (h, tt)

-- ---- the numbers are from lo up to hi, and none comes twice
pub record Spread (lo hi : ℕ) (gs : List Given) : Type 0 where
  pub ordered : lo ≤ hi
  pub between : NumbersIn lo hi gs
  pub distinct : NumbersDiffer gs

spread_nil : {lo hi : ℕ} → lo ≤ hi → Spread lo hi []
unfolding NumbersIn NumbersDiffer
spread_nil h = record { ordered = h; between = tt; distinct = tt }

spread_join : {lo m hi : ℕ} (gs hs : List Given) → Spread lo m gs → Spread m hi hs → Spread lo hi (gs ++ hs)
spread_join {lo} {m} {hi} gs hs w v =
    record {
      ordered = omega (arith, w.ordered, v.ordered);
      between = between_join lo hi gs hs (between_more lo hi lo m gs (omega arith) v.ordered w.between) (between_more lo hi m hi hs w.ordered (omega arith) v.between);
      distinct = distinct_join lo m hi gs hs w.between v.between w.distinct v.distinct;
    }

spread_done : {n hi : ℕ} (gs : List Given) (t : Ty) → Spread (suc n) hi gs → Spread n hi (gs ++ (record { node = n; ty = t } ∷ []))
unfolding NumbersIn
spread_done {n} {hi} gs t w =
    record {
      ordered = omega (arith, w.ordered);
      between = between_join n hi gs _ (between_more n hi (suc n) hi gs (omega arith) (omega arith) w.between) (omega arith, omega (arith, w.ordered), tt);
      distinct = distinct_done n hi gs t w.between w.distinct;
    }

spread_wide : {lo m hi : ℕ} (gs : List Given) → Spread lo m gs → m ≤ hi → Spread lo hi gs
spread_wide {lo} {m} {hi} gs w h = record { ordered = omega (arith, w.ordered); between = between_more lo hi lo m gs (omega arith) h w.between; distinct = w.distinct }

-- the list ends with node n of the type t
abbrev pub EndsWith : List Given → ℕ → Ty → Type 0
EndsWith gs n t = (hs : List Given) × (gs ≡ hs ++ (record { node = n; ty = t } ∷ []))

module _ (S : Symbols) (H : Header) where
  call_spread : (n e : ℕ) (found : Option Callee) (b : RowJudged) → Spread (suc n) e b.typed → Spread n e (call_step S n found b).typed
  unfolding call_step
  call_spread n e none b w = spread_done [] error_ty (spread_nil w.ordered)
  call_spread n e (some c) b w = spread_done b.typed _ w

  method_spread : (n m e : ℕ) (a : Judged) (found : Option Callee) (b : RowJudged) → Spread (suc n) m a.typed → Spread m e b.typed → Spread n e (method_step S n a found b).typed
  unfolding method_step
  method_spread n m e a none b w v = spread_done a.typed any_ty (spread_wide a.typed w v.ordered)
  method_spread n m e a (some c) b w v = spread_done (a.typed ++ b.typed) _ (spread_join a.typed b.typed w v)

  mutual
    unfolding number_after judge

    pub node_spread : (x : Node) (n : ℕ) → Spread n (number_after x n) (judge S H x n).typed
    node_spread (leaf t) n = spread_done [] t (spread_nil (omega arith))
    node_spread (binary op l r) n = spread_done _ _ (spread_join _ _ (node_spread l (suc n)) (node_spread r (number_after l (suc n))))
    node_spread (unary op x) n = spread_done _ _ (node_spread x (suc n))
    node_spread (named id x) n = spread_done _ _ (node_spread x (suc n))
    node_spread (member id x) n = spread_done _ _ (node_spread x (suc n))
    node_spread (call id r) n = call_spread n _ (call_of S H id) _ (row_spread r (suc n))
    node_spread (method id x r) n = method_spread n _ _ _ (method_of S H id (judge S H x (suc n)).ty) _ (node_spread x (suc n)) (row_spread r (number_after x (suc n)))

    pub row_spread : (r : Row) (n : ℕ) → Spread n (number_after_row r n) (judges S H r n).typed
    row_spread nil n = spread_nil (omega arith)
    row_spread (cons x r) n = spread_join _ _ (node_spread x n) (row_spread r (number_after x n))

  -- ---- the root is the last
  call-last : (n : ℕ) (found : Option Callee) (b : RowJudged) → EndsWith (call_step S n found b).typed n (call_step S n found b).ty
  unfolding call_step
  call-last n none b = ([], refl)
  call-last n (some c) b = (b.typed, refl)

  method-last : (n : ℕ) (a : Judged) (found : Option Callee) (b : RowJudged) → EndsWith (method_step S n a found b).typed n (method_step S n a found b).ty
  unfolding method_step
  method-last n a none b = (a.typed, refl)
  method-last n a (some c) b = (a.typed ++ b.typed, refl)

  pub root_last : (x : Node) (n : ℕ) → EndsWith (judge S H x n).typed n (judge S H x n).ty
  unfolding judge
  root_last (leaf t) n = ([], refl)
  root_last (binary op l r) n = ((judge S H l (suc n)).typed ++ (judge S H r (number_after l (suc n))).typed, refl)
  root_last (unary op x) n = ((judge S H x (suc n)).typed, refl)
  root_last (named id x) n = ((judge S H x (suc n)).typed, refl)
  root_last (member id x) n = ((judge S H x (suc n)).typed, refl)
  root_last (call id r) n = call-last n (call_of S H id) (judges S H r (suc n))
  root_last (method id x r) n = method-last n (judge S H x (suc n)) (method_of S H id (judge S H x (suc n)).ty) (judges S H r (number_after x (suc n)))

-- ---- every type fits
module _ (S : Symbols) (fit : SymbolsFit S) (H : Header) where
  call_each : (n : ℕ) (found : Option Callee) (b : RowJudged) → length (call_step S n found b).ty ≤ 256 → TypesFit b.typed → TypesFit (call_step S n found b).typed
  unfolding call_step
  call_each n none b h w = short_done n [] error_ty h short_nil
  call_each n (some c) b h w = short_done n b.typed _ h w

  method_each : (n : ℕ) (a : Judged) (found : Option Callee) (b : RowJudged) → length (method_step S n a found b).ty ≤ 256 → TypesFit a.typed → TypesFit b.typed → TypesFit (method_step S n a found b).typed
  unfolding method_step
  method_each n a none b h w v = short_done n a.typed _ h w
  method_each n a (some c) b h w v = short_done n (a.typed ++ b.typed) _ h (short_join a.typed b.typed w v)

  pub root_fits : (x : Node) (n : ℕ) → LeavesFit x → size x ≤ 64 → length (judge S H x n).ty ≤ 256
  root_fits x n f h = omega (arith, type_short S fit H x n f)

  mutual
    unfolding judge size LeavesFit

    pub node_short : (x : Node) (n : ℕ) → LeavesFit x → size x ≤ 64 → TypesFit (judge S H x n).typed
    node_short (leaf t) n f h = short_done n [] t (omega arith) short_nil
    node_short (binary op l r) n f h =
        short_done n _ _ (root_fits (binary op l r) n f h) (short_join _ _ (node_short l (suc n) f.0 (omega arith)) (node_short r (number_after l (suc n)) f.1 (omega arith)))
    node_short (unary op x) n f h = short_done n _ _ (root_fits (unary op x) n f h) (node_short x (suc n) f (omega arith))
    node_short (named id x) n f h = short_done n _ _ (root_fits (named id x) n f h) (node_short x (suc n) f (omega arith))
    node_short (member id x) n f h = short_done n _ _ (root_fits (member id x) n f h) (node_short x (suc n) f (omega arith))
    node_short (call id r) n f h = call_each n (call_of S H id) (judges S H r (suc n)) (root_fits (call id r) n f h) (row_short r (suc n) f (omega arith))
    node_short (method id x r) n f h =
        method_each n (judge S H x (suc n)) (method_of S H id (judge S H x (suc n)).ty) (judges S H r (number_after x (suc n))) (root_fits (method id x r) n f h)
        (node_short x (suc n) f.0 (omega arith)) (row_short r (number_after x (suc n)) f.1 (omega arith))

    pub row_short : (r : Row) (n : ℕ) → RowFits r → sizes r ≤ 64 → TypesFit (judges S H r n).typed
    row_short nil n f h = short_nil
    row_short (cons x r) n f h = short_join _ _ (node_short x n f.0 (omega arith)) (row_short r (number_after x n) f.1 (omega arith))
