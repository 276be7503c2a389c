-- What the slots hold behind a judgement, by its fold.
use Prim.Native.Nat.{ℕ, ◌+◌, ◌≤◌, ◌<◌}
use lib.ListN.{length}
use mathlib.Core.List.{List}
use mathlib.Core.Path.{◌≡◌, sym}
use native.Mathlib.Omega.{arith}
use Rattle.area.proofs.SlotsHeld.{all_hold_more}
use Rattle.area.specs.Inside.Slot.{Holds, AllHold}
use Rattle.nodes.proofs.Filling.{filled-first, filled-rest, filled_as, filled-last, filled-under, filled-long}
use Rattle.cycle.proofs.Spaces.{slots_few, space_still}
use Rattle.typing.proofs.Spreading.{node_spread, row_spread, root_last}
use Rattle.cycle.specs.Inside.Contract.{slots_for, Space}
use Rattle.nodes.specs.Inside.SlotsFilled.{SlotsFilled, store_all}
use Rattle.nodes.specs.Inside.Row.{nodes_of, tys_of}
use Rattle.question.proofs.Standing.{at_fits}
use Rattle.question.proofs.Trees.{after_size, some_size}
use Rattle.question.specs.Inside.Stands.{TreeStands, RowStands}
use Rattle.question.specs.Tree.{Node, Row, nil, cons, number_after, number_after_row, size, sizes, bytes}
use Rattle.question.specs.declared.Header.{Header}
use Rattle.record.specs.TableRefused.{table_fault}
use Rattle.symbol.specs.Lookup.{symbols_of}
use Rattle.ty.specs.Bytes.{Ty}
use Rattle.typing.proofs.Length.{type_short}
use Rattle.typing.proofs.Tables.{symbols_fit}
use Rattle.typing.specs.Judge.{Given, judge, judges}

-- a table that draws no number
pub record CleanTable (t : List ℕ) : Type 0 where
  pub clean : table_fault t ≡ 0

-- ---- what is lent stays lent
module _ {ts ts' : List Ty} {gs : List Given} (f : SlotsFilled ts ts' gs) where
  pub space_before : {q : List ℕ} → Space q ts' → Space q ts
  space_before w = space_still (sym (filled-long f)) w

  pub space_behind : {q : List ℕ} → Space q ts → Space q ts'
  space_behind w = space_still (filled-long f) w

-- ---- slots before the tree's are left alone
pub node_under : (t : List ℕ) (H : Header) (c : Node) (n : ℕ) {ts ts' : List Ty} → SlotsFilled ts ts' (judge (symbols_of t) H c n).typed
    → (m : ℕ) (u : Ty) → m < n → Holds ts m u → Holds ts' m u
node_under t H c n f m u h v = filled-under f n (number_after c n) (node_spread (symbols_of t) H c n).between m u h v

pub row_under : (t : List ℕ) (H : Header) (r : Row) (n : ℕ) {ts ts' : List Ty} → SlotsFilled ts ts' (judges (symbols_of t) H r n).typed
    → (m : ℕ) (u : Ty) → m < n → Holds ts m u → Holds ts' m u
row_under t H r n f m u h v = filled-under f n (number_after_row r n) (row_spread (symbols_of t) H r n).between m u h v

module _ {t : List ℕ} (ok : CleanTable t) (H : Header) where
  -- ---- the root's slot holds its type
  pub tree-fits : (q : List ℕ) (c : Node) (n at : ℕ) → TreeStands q c at → size c ≤ slots_for (length q) → length (judge (symbols_of t) H c n).ty ≤ 256
  tree-fits q c n at st h = omega (arith, type_short (symbols_of t) (symbols_fit t ok.clean) H c n (at_fits q c at st), slots_few (length q))

  pub tree_held : (q : List ℕ) (c : Node) (n at : ℕ) → TreeStands q c at → n + size c ≤ slots_for (length q) → {ts ts' : List Ty} → SlotsFilled ts ts' (judge (symbols_of t) H c n).typed
      → Space q ts' → Holds ts' n (judge (symbols_of t) H c n).ty
  tree_held q c n at st room f w =
      let (gs, e) = root_last (symbols_of t) H c n in
      let v = space_before f w in
      filled-last gs n _ (filled_as e f) (omega (arith, v.enough, some_size c))

  -- ---- the arguments' slots hold their types
  pub row_held : (q : List ℕ) (r : Row) (n at : ℕ) → RowStands q r at → n + sizes r ≤ slots_for (length q) → {ts ts' : List Ty} → SlotsFilled ts ts' (judges (symbols_of t) H r n).typed
      → Space q ts → AllHold ts' n (nodes_of (judges (symbols_of t) H r n).args) (tys_of (judges (symbols_of t) H r n).args)
  unfolding RowStands judges sizes nodes_of tys_of AllHold
  row_held q nil n at st room f w = tt
  row_held q (cons c r) n at st room {ts} {ts'} f w =
      let gs : List Given = (judge (symbols_of t) H c n).typed in
      let f₁ : SlotsFilled ts (store_all ts gs) gs = filled-first ts gs in
      let f₂ : SlotsFilled (store_all ts gs) ts' (judges (symbols_of t) H r (number_after c n)).typed = filled-rest gs _ f in
      let w₁ : Space q (store_all ts gs) = space_behind f₁ w in
      let k = after_size c n in (
        omega arith,
        row_under t H r (number_after c n) f₂ n _ (omega (arith, some_size c)) (tree_held q c n at st.0 (omega arith) f₁ w₁),
        all_hold_more ts' n (number_after c n) (nodes_of (judges (symbols_of t) H r (number_after c n)).args) (tys_of (judges (symbols_of t) H r (number_after c n)).args) (omega arith)
            (row_held q r (number_after c n) (at + bytes c) st.1 (omega arith) f₂ w₁),
      )
