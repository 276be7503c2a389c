-- The slots behind a judged tree: that of every finished node holds that node's type, and what belongs to another number is as it was.
use Prim.Native.Nat.{ℕ, zero, suc}
use lib.ListN.{replicate}
use mathlib.Core.List.{List, [], Memᴰ}
use mathlib.Core.Option.{none, some}
use mathlib.Core.Path.{◌≡◌, refl, ap, ◌∙◌}
use native.Mathlib.Omega.{arith}
use Rattle.area.specs.Inside.Slot.{type_at, Holds}
use Rattle.area.specs.declared.reports.Reports.{Reports}
use Rattle.typing.proofs.Spreading.{node_spread}
use Rattle.cycle.specs.Inside.Contract.{Space, NodeAsked}
use Rattle.nodes.specs.Inside.SlotsFilled.{SlotsFilled}
use Rattle.nodes.specs.declared.progress.State.{State}
use Rattle.question.proofs.Trees.{after_size}
use Rattle.question.specs.Tree.{number_after}
use Rattle.question.specs.declared.Header.{Header}
use Rattle.symbol.specs.Lookup.{symbols_of}
use Rattle.ty.specs.Bytes.{Ty}
use Rattle.typing.specs.Judge.{Given, judge}
use Rattle.typing.specs.Mark.{type_in}
use Rattle.nodes.proofs.Storing.{type_kept, all_held, type_absent, member_type}

empty_at : (n k : ℕ) → type_at (replicate n []) k ≡ []
empty_at zero k = refl
empty_at (suc n) zero = refl
empty_at (suc n) (suc k) = empty_at n k

-- ---- a judged tree's slots
module _ (t : List ℕ) (H : Header) {q : List ℕ} {s : State} {b : Reports} (x : NodeAsked q s b) {ts ts' : List Ty}
    (f : SlotsFilled ts ts' (judge (symbols_of t) H x.tree s.node).typed) where
  abbrev finished : List Given
  finished = (judge (symbols_of t) H x.tree s.node).typed

  -- the slot of a number that has a type holds it
  pub type_held : Space q ts → (k : ℕ) (u : Ty) → type_in finished k ≡ some u → Holds ts' k u
  type_held w k u e =
      let v = node_spread (symbols_of t) H x.tree s.node in
      rw f.slots
      (all_held finished ts s.node (number_after x.tree s.node) (omega (arith, after_size x.tree s.node, x.room, w.enough)) v.between v.distinct k u e)

  -- every finished node's type lies in its slot
  pub given_held : Space q ts → (g : Given) → Memᴰ g finished → Holds ts' g.node g.ty
  given_held w g i = type_held w g.node g.ty (member_type finished (node_spread (symbols_of t) H x.tree s.node).distinct g i)

  -- where no node is finished the slot holds what it held
  pub unfinished_type : (k : ℕ) → type_in finished k ≡ none → type_at ts' k ≡ type_at ts k
  unfinished_type k e = rw f.slots (type_kept finished ts k (type_absent finished k e))

  -- in fresh slots it holds nothing
  pub unfinished_none : (n k : ℕ) → ts ≡ replicate n [] → type_in finished k ≡ none → type_at ts' k ≡ []
  unfinished_none n k z e = unfinished_type k e ∙ ap (λ (w : List Ty). type_at w k) z ∙ empty_at n k
