-- The claims of order 2.
use Prim.Native.Nat.{ℕ, zero, suc, ◌+◌, ◌<◌}
use lib.ListN.{length}
use mathlib.Core.Bool.{Bool, true, false, false≢true}
use mathlib.Core.List.{List}
use mathlib.Core.Logic.{◌⊎◌, inl, inr}
use mathlib.Core.Path.{◌≡◌, refl, sym, ap, ◌∙◌}
use native.Mathlib.Nat.{not-suc-le-zero}
use native.Mathlib.Omega.{arith}
use Rattle.below.proofs.Belows.{below_then_met, met-below, none_below}
use Rattle.below.specs.Below.{is_below}
use Rattle.operators.proofs.Assigns.{Reason, reason_by, by_reason, Shorter, left_shorter, right_shorter, both_shorter, assigns_by}
use Rattle.operators.proofs.AssignSteps.{one_kind, no_array, yes_or, step_arrays, step_right, step_left, step_climb}
use Rattle.operators.specs.Assign.{assign_step, can_assign, assigns}
use Rattle.operators.specs.Operand.{is_kind}
use Rattle.operators.specs.Order2.{ClassMet, named, arrays, list-array, to_nullable, from-nullable, assigns_unrelated, SubclassAssigns}
use Rattle.operators.specs.declared.assign.Next.TheVariants.{Yes, No, Left, Right, Both, Classes}
use Rattle.operators.specs.declared.assign.Next.{Next}
use Rattle.record.specs.TableRefused.{table_fault}
use Rattle.symbol.specs.Lookup.{symbols_of}
use Rattle.symbol.specs.Symbols.{Symbols}
use Rattle.ty.specs.Bytes.{Ty, name_of, is_array, inner_of}
use Rattle.ty.specs.Kind.{nullable_kind, list_kind, named_kind}

-- no class is below another
abbrev unrelated : ℕ → ℕ → Bool
unrelated c d = false

-- ---- what assigned by document 01 still does; each of the three claims is an induction over both lengths
abbrev Kept : (ℕ → ℕ → Bool) → Ty → Ty → Type 0
Kept below a b = assigns_unrelated a b ≡ true → can_assign below a b ≡ true

module _ (below : ℕ → ℕ → Bool) (n : ℕ) (a b : Ty) (l : length a + length b < suc n) where
  kept_by : ((x y : Ty) → length x + length y < n → Kept below x y) → (r : Next) → r ≡ assign_step a b → Kept below a b
  kept_by ih Yes e h = assigns_by below a b Yes e
  kept_by ih No e h = absurd (false≢true (sym (assigns_by unrelated a b No e) ∙ h))
  kept_by ih Left e h =
      let s = left_shorter a b e in
      assigns_by below a b Left e ∙ ih (inner_of a) b (omega arith) (sym (assigns_by unrelated a b Left e) ∙ h)
  kept_by ih Right e h =
      let s = right_shorter a b e in
      assigns_by below a b Right e ∙ ih a (inner_of b) (omega arith) (sym (assigns_by unrelated a b Right e) ∙ h)
  kept_by ih Both e h =
      let s = both_shorter a b e in
      assigns_by below a b Both e ∙ ih (inner_of a) (inner_of b) (omega (arith, s.0, s.1)) (sym (assigns_by unrelated a b Both e) ∙ h)
  kept_by ih Classes e h = absurd (false≢true (sym (assigns_by unrelated a b Classes e) ∙ h))

kept_in : (below : ℕ → ℕ → Bool) (n : ℕ) (a b : Ty) → length a + length b < n → Kept below a b
kept_in below zero a b l h = absurd (not-suc-le-zero l)
kept_in below (suc n) a b l h = kept_by below n a b l (λ x y k u. kept_in below n x y k u) (assign_step a b) refl h

-- ---- nothing else assigns
module _ (S : Symbols) where
  abbrev Known : Ty → Ty → Type 0
  Known a b = (assigns_unrelated a b ≡ true) ⊎ ClassMet S a b

  module _ (n : ℕ) (a b : Ty) (l : length a + length b < suc n) (ih : (x y : Ty) → length x + length y < n → assigns S x y ≡ true → Known x y) where
    -- what is known of the types inside holds of the whole
    inside : (x y : Ty) → assigns_unrelated a b ≡ assigns_unrelated x y → (ClassMet S x y → ClassMet S a b) → Known x y → Known a b
    inside x y u m (inl k) = inl (u ∙ k)
    inside x y u m (inr k) = inr (m k)

    known_by : (r : Next) → r ≡ assign_step a b → assigns S a b ≡ true → Known a b
    unfolding Reason
    known_by Yes e h = inl (assigns_by unrelated a b Yes e)
    known_by No e h = absurd (false≢true (sym (assigns_by (is_below S) a b No e) ∙ h))
    known_by Left e h =
        let s = left_shorter a b e in
        inside (inner_of a) b (assigns_by unrelated a b Left e) (from-nullable (reason_by a b Left e).0)
        (ih (inner_of a) b (omega arith) (sym (assigns_by (is_below S) a b Left e) ∙ h))
    known_by Right e h =
        let s = right_shorter a b e in
        inside a (inner_of b) (assigns_by unrelated a b Right e) (to_nullable (reason_by a b Right e))
        (ih a (inner_of b) (omega arith) (sym (assigns_by (is_below S) a b Right e) ∙ h))
    known_by Both e h =
        let s = both_shorter a b e in
        inside (inner_of a) (inner_of b) (assigns_by unrelated a b Both e) (λ m. go (reason_by a b Both e) m)
        (ih (inner_of a) (inner_of b) (omega (arith, s.0, s.1)) (sym (assigns_by (is_below S) a b Both e) ∙ h))
      where
        go : ((is_kind list_kind a ≡ true) ⊎ (is_array a ≡ true)) × (is_array b ≡ true) → ClassMet S (inner_of a) (inner_of b) → ClassMet S a b
        go (inl i, k) m = list-array i k m
        go (inr i, k) m = arrays i k m
    known_by Classes e h =
        let k = reason_by a b Classes e in
        inr (named k.0 k.1 (below_then_met S (name_of a) (name_of b) (sym (assigns_by (is_below S) a b Classes e) ∙ h)))

  known_in : (n : ℕ) (a b : Ty) → length a + length b < n → assigns S a b ≡ true → Known a b
  known_in zero a b l h = absurd (not-suc-le-zero l)
  known_in (suc n) a b l h = known_by n a b l (λ x y k u. known_in n x y k u) (assign_step a b) refl h

  -- ---- a class goes where one above it is expected
  -- also under a Nullable that is expected
  opened : {a b : Ty} → is_kind nullable_kind b ≡ true → ClassMet S a b → ClassMet S a (inner_of b)
  opened {a} {b} k (named h i m) = one_kind nullable_kind named_kind b refl k i
  opened {a} {b} k (arrays h i m) = no_array nullable_kind b refl k i
  opened {a} {b} k (list-array h i m) = no_array nullable_kind b refl k i
  opened k (to_nullable h m) = m
  opened k (from-nullable h m) = from-nullable h (opened k m)

module _ (t : List ℕ) (f : table_fault t ≡ 0) where
  abbrev below : ℕ → ℕ → Bool
  below = is_below (symbols_of t)

  abbrev Goes : Ty → Ty → Type 0
  Goes a b = ClassMet (symbols_of t) a b → assigns (symbols_of t) a b ≡ true

  module _ (n : ℕ) (a b : Ty) (l : length a + length b < suc n) (ih : (x y : Ty) → length x + length y < n → Goes x y) where
    to_nullable_goes : is_kind nullable_kind b ≡ true → Goes a b
    unfolding Reason Shorter
    to_nullable_goes k m =
        let s = by_reason a b Right k in
        yes_or a b below Right (step_right a b k) (ih a (inner_of b) (omega arith) (opened (symbols_of t) k m))

    other_goes : is_kind nullable_kind b ≡ false → Goes a b
    unfolding Reason Shorter
    other_goes k (named h i m) = yes_or a b below Classes (step_climb a b h i) (met-below t f (name_of a) (name_of b) m)
    other_goes k (arrays h i m) =
        let s = by_reason a b Both (inr h, i) in
        yes_or a b below Both (step_arrays a b (inr h) i) (ih (inner_of a) (inner_of b) (omega (arith, s.0, s.1)) m)
    other_goes k (list-array h i m) =
        let s = by_reason a b Both (inl h, i) in
        yes_or a b below Both (step_arrays a b (inl h) i) (ih (inner_of a) (inner_of b) (omega (arith, s.0, s.1)) m)
    other_goes k (to_nullable h m) = absurd (false≢true (sym k ∙ h))
    other_goes k (from-nullable h m) =
        let s = by_reason a b Left (h, k) in
        yes_or a b below Left (step_left a b h k) (ih (inner_of a) b (omega arith) m)

    goes_by : (q : Bool) → is_kind nullable_kind b ≡ q → Goes a b
    goes_by true k m = to_nullable_goes k m
    goes_by false k m = other_goes k m

  goes_in : (n : ℕ) (a b : Ty) → length a + length b < n → Goes a b
  goes_in zero a b l m = absurd (not-suc-le-zero l)
  goes_in (suc n) a b l m = goes_by n a b l (λ x y k u. goes_in n x y k u) (is_kind nullable_kind b) refl m

  pub subclass_assigns : SubclassAssigns t
  subclass_assigns =
      record {
        met = λ a b m. goes_in (suc (length a + length b)) a b (omega arith) m;
        kept = λ a b h. kept_in below (suc (length a + length b)) a b (omega arith) h;
        no_more = λ a b h. known_in (symbols_of t) (suc (length a + length b)) a b (omega arith) h;
        unrelated = λ h a b. ap (λ (r : ℕ → ℕ → Bool). can_assign r a b) (λ i c d. none_below (symbols_of t) h c d i);
      }
