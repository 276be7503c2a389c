use Prim.Native.Nat.{ℕ, suc, ◌≤◌}
use borrow.Author.Tests.{ne_eqb, eq-eqb}
use lib.ListN.{length, set}
use lib.Seq.{set_out}
use mathlib.Core.List.{List}
use mathlib.Core.Path.{◌≡◌, refl, sym, ap, ◌∙◌}
use Rattle.ty.proofs.Choice.{chosen, passed}
use Rattle.ty.specs.Choose.{choose}
use Rattle.record.specs.RecordKind.{record_kind_number}
use Rattle.record.specs.declared.front.RecordKind.TheVariants.{Class}
use Rattle.index.specs.Inside.Ahead.{marked}
use Rattle.index.proofs.KindTests.{kinds_differ, kinds_agree}
use Rattle.index.proofs.ahead.mark.Goals as goal

module _ (k one p : ℕ) (late : List ℕ) where
  other : (k ≡ 2 → ⊥) → late ≡ marked k one p late
  unfolding marked
  other n = passed _ _ _ _ (ne_eqb k 2 n) refl

  class : k ≡ 2 → (late' : List ℕ) → late' ≡ set late one (suc p) → late' ≡ marked k one p late
  unfolding marked
  class y late' e = chosen _ _ _ _ (eq-eqb k 2 y) e

  past : k ≡ 2 → length late ≤ one → late ≡ marked k one p late
  past y l = class y late (sym (set_out late one (suc p) l))

pub returns-in_default : goal.returns-in_default
unfolding marked choose
returns-in_default c = λ s. rw c.in_default.is

pub returns-then-ne : goal.returns-then-ne
returns-then-ne c = λ s. rw c.in-Some.is (other (record_kind_number c.in-Some.h.kind) c.in-Some.h.one c.args.p.at c.args.late.now
    (kinds_differ c.in-Some.h.kind Class c.ne.result c.ne.ensures c.if-ne.true))

pub returns-then-late-i : goal.returns-then-late-i
returns-then-late-i c = λ s. rw c.in-Some.is (past (record_kind_number c.in-Some.h.kind) c.in-Some.h.one c.args.p.at c.args.late.now
    (kinds_agree c.in-Some.h.kind Class c.ne.result c.ne.ensures c.if-ne.false) c.if-late-i.true)

pub returns : goal.returns
returns c = λ s. rw c.in-Some.is (class (record_kind_number c.in-Some.h.kind) c.in-Some.h.one c.args.p.at c.args.late.now
    (kinds_agree c.in-Some.h.kind Class c.ne.result c.ne.ensures c.if-ne.false) c.put.new.x (c.put.ensures ∙ ap (set c.args.late.now c.in-Some.h.one) c.entry.ensures))
