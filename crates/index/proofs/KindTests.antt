-- The test of two kinds of records is that of their numbers.
use Prim.Native.Nat.{suc}
use borrow.Author.Tests.{eqb-true, eqb-false}
use denote.Enum.Bare.{sameb}
use denote.Enum.Declared.{tag_of}
use lib.Dec.{eqb, eqb-suc-suc}
use mathlib.Core.Bool.{Bool, true, false, not}
use mathlib.Core.Path.{◌≡◌, refl, sym, ap, ◌∙◌}
use Rattle.record.specs.RecordKind.{record_kind_number}
use Rattle.record.specs.contracts.front.RecordKind.{the_type}
use Rattle.record.specs.declared.front.RecordKind.TheVariants.{Name, Class, Operators, Function, Field, Visibility, Suspend, Variant}
use Rattle.record.specs.declared.front.RecordKind.{RecordKind}

kind_tag : (k : RecordKind) → record_kind_number k ≡ suc (tag_of the_type k)
kind_tag Name = refl
kind_tag Class = refl
kind_tag Operators = refl
kind_tag Function = refl
kind_tag Field = refl
kind_tag Visibility = refl
kind_tag Suspend = refl
kind_tag Variant = refl

module _ (a b : RecordKind) where
  pub kinds_tested : sameb the_type a b ≡ eqb (record_kind_number a) (record_kind_number b)
  kinds_tested = sym (eqb-suc-suc (tag_of the_type a) (tag_of the_type b)) ∙ (λ i. eqb (sym (kind_tag a) i) (sym (kind_tag b) i))

  module _ (r : Bool) (e : r ≡ sameb the_type a b) where
    pub kinds_same : r ≡ true → record_kind_number a ≡ record_kind_number b
    kinds_same t = eqb-true _ _ (sym (e ∙ kinds_tested) ∙ t)

    pub kinds_apart : r ≡ false → record_kind_number a ≡ record_kind_number b → ⊥
    kinds_apart f = eqb-false _ _ (sym (e ∙ kinds_tested) ∙ f)

  module _ (r : Bool) (e : r ≡ not (sameb the_type a b)) where
    flip : (v w : Bool) → v ≡ not w → w ≡ not v
    flip v true q = ap not (sym q)
    flip v false q = ap not (sym q)

    pub kinds_differ : r ≡ true → record_kind_number a ≡ record_kind_number b → ⊥
    kinds_differ t = kinds_apart false (sym (flip r _ e ∙ ap not t)) refl

    pub kinds_agree : r ≡ false → record_kind_number a ≡ record_kind_number b
    kinds_agree f = kinds_same true (sym (flip r _ e ∙ ap not f)) refl
