-- The classes of a call's arguments, gathered one argument at a time.
use Prim.Native.Nat.{ℕ, ◌+◌, ◌≤◌, ◌<◌}
use borrow.Author.Tests.{eq-eqb, ne_eqb}
use lib.Dec.{eqb}
use lib.ListN.{get_or, length, drop, length-append}
use mathlib.Core.List.{List, [], ◌∷◌, ◌++◌, append_assoc, append-nil}
use mathlib.Core.Path.{◌≡◌, refl, sym, ap, ◌∙◌}
use native.Mathlib.Omega.{arith}
use Rattle.area.specs.Inside.Slot.{type_at}
use Rattle.operators.specs.Inside.Core.{core_of}
use Rattle.overload.specs.Inside.Classes.{class_of, classes_of}
use Rattle.scoring.proofs.ParamsAndArgsLeft.{args_next, args_none}
use Rattle.scoring.specs.Arg.{Arg as Seen}
use Rattle.scoring.specs.Inside.Args.{args_in}
use Rattle.scoring.specs.declared.args.Arg.{Arg}
use Rattle.ty.proofs.Choice.{by_choice, choose_yes, choose_no}
use Rattle.ty.specs.Bytes.{Ty}
use Rattle.ty.specs.Name.{no_id}

-- ---- one argument, of the type x
module _ (x : Ty) (cs : List ℕ) where
  pub class_there : (core_of x ≡ no_id → ⊥) → cs ++ core_of x ∷ [] ≡ cs ++ class_of x
  unfolding class_of
  class_there n = ap (λ (z : List ℕ). cs ++ z) (sym (choose_no (eqb (core_of x) no_id) _ _ (ne_eqb _ _ n)))

  pub class_none : core_of x ≡ no_id → cs ≡ cs ++ class_of x
  unfolding class_of
  class_none e = sym (ap (λ (z : List ℕ). cs ++ z) (choose_yes (eqb (core_of x) no_id) _ _ (eq-eqb _ _ e)) ∙ append-nil cs)

one_class : (x : Ty) → length (class_of x) ≤ 1
unfolding class_of
one_class x = by_choice (λ (z : List ℕ). length z ≤ 1) (eqb (core_of x) no_id) (λ _. omega arith) (λ _. omega arith)

-- ---- the loop: cs are the classes of the first i arguments
pub record Gathered (ts : List Ty) (xs : List Arg) (cs : List ℕ) (i : ℕ) : Type 0 where
  pub all : cs ++ classes_of (args_in ts (drop i xs)) ≡ classes_of (args_in ts xs)
  pub few : length cs ≤ i

module _ (ts : List Ty) (xs : List Arg) where
  pub gathered_none : Gathered ts xs [] 0
  gathered_none = record { all = refl; few = omega arith }

  module _ (cs : List ℕ) (i : ℕ) (g : Gathered ts xs cs i) where
    pub gathered_more : (d : Arg) → i < length xs → (x : Ty) → x ≡ type_at ts (get_or xs i d).node → (more : List ℕ) → more ≡ cs ++ class_of x
        → Gathered ts xs more (i + 1)
    unfolding classes_of
    gathered_more d h x e more f =
        let w : length more ≡ length (cs ++ class_of x) = ap (λ (z : List ℕ). length z) f in
        record {
          all = rw (f, e)
              (append_assoc cs (class_of (type_at ts (get_or xs i d).node)) (classes_of (args_in ts (drop (i + 1) xs)))
              ∙ sym (ap (λ (z : List Seen). cs ++ classes_of z) (args_next ts xs i d h)) ∙ g.all);
          few = omega (arith, length-append cs (class_of x), one_class x, g.few);
        }

    pub gathered_all : length xs ≤ i → cs ≡ classes_of (args_in ts xs)
    unfolding classes_of
    gathered_all h = sym (append-nil cs) ∙ sym (ap (λ (z : List Seen). cs ++ classes_of z) (args_none ts xs i h)) ∙ g.all
