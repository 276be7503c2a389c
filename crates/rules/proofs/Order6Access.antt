-- The claims of order 6 on access.
use Prim.Native.Nat.{ℕ, zero, suc}
use borrow.Author.Tests.{eqb-true, eqb-false, eq-eqb, ne_eqb}
use lib.Dec.{eqb}
use mathlib.Core.Bool.{Bool, true, false, false≢true}
use mathlib.Core.List.{List}
use mathlib.Core.Path.{◌≡◌, refl, ◌∙◌}
use Rattle.record.specs.TableRefused.{table_fault}
use Rattle.symbol.proofs.Subclasses.{climb}
use Rattle.symbol.specs.Lookup.{symbols_of}
use Rattle.ty.specs.Choose.{choose}
use Rattle.ty.specs.Name.{no_id}
use Rattle.operators.specs.Order6Method.{with_interfaces}
use Rattle.question.specs.declared.Header.{Header}
use Rattle.rules.specs.Access.{blocked}
use Rattle.rules.specs.Order6Access.{MetBySuperclasses, step, then, AccessBySuperclasses}
use Rattle.symbol.specs.Subclass.{climbs, is_subclass}
use Rattle.symbol.specs.Symbols.{Symbols}

module _ (S : Symbols) (first second : ℕ → ℕ) where
  subclass_same : (a b : ℕ) → is_subclass (with_interfaces S first second) a b ≡ is_subclass S a b
  unfolding is_subclass
  subclass_same a b = refl

  access_same : (H : Header) (vis owner : ℕ) → blocked (with_interfaces S first second) H vis owner ≡ blocked S H vis owner
  unfolding blocked is_subclass
  access_same H vis owner = refl

module _ (S : Symbols) where
  -- what a climb of n steps finds is met
  climbs-met : (n a b : ℕ) → climbs S.super_of n a b ≡ true → MetBySuperclasses S a b
  unfolding climbs choose
  climbs-met zero a b e = absurd (false≢true e)
  climbs-met (suc n) a b e = go (eqb (S.super_of a) no_id) refl (eqb (S.super_of a) b) refl (climbs-met n (S.super_of a) b) e
    where
      go : (p : Bool) → eqb (S.super_of a) no_id ≡ p → (q : Bool) → eqb (S.super_of a) b ≡ q
          → (climbs S.super_of n (S.super_of a) b ≡ true → MetBySuperclasses S (S.super_of a) b)
          → choose p false (choose q true (climbs S.super_of n (S.super_of a) b)) ≡ true → MetBySuperclasses S a b
      go true i q j r h = absurd (false≢true h)
      go false i true j r h = let s : S.super_of a ≡ b = eqb-true (S.super_of a) b j in step s (λ k. eqb-false (S.super_of a) no_id i (s ∙ k))
      go false i false j r h = then refl (eqb-false (S.super_of a) no_id i) (r h)

  subclass-met : (a b : ℕ) → is_subclass S a b ≡ true → MetBySuperclasses S a b
  unfolding is_subclass
  subclass-met a b e = climbs-met S.classes a b e

module _ (t : List ℕ) (e : table_fault t ≡ 0) where
  met-subclass : (a b : ℕ) → MetBySuperclasses (symbols_of t) a b → is_subclass (symbols_of t) a b ≡ true
  unfolding choose
  met-subclass a b (step h n) = climb t e b a ∙ rw (h, ne_eqb b no_id n, eq-eqb b b refl)
  met-subclass a b (then {c = c} h n m) = climb t e b a ∙ rw (h, ne_eqb c no_id n, met-subclass c b m) (go (eqb c b))
    where
      go : (q : Bool) → choose q true true ≡ true
      go true = refl
      go false = refl

pub access_by_superclasses : AccessBySuperclasses
access_by_superclasses =
    record {
      met = λ t e a b. (subclass-met (symbols_of t) a b, met-subclass t e a b);
      subclasses = subclass_same;
      access = access_same;
    }
