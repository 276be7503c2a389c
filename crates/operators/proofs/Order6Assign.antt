-- The claims of order 6 on assignability: order 2's, of the classes that are met along superclasses and interfaces.
use Prim.Native.Nat.{ℕ}
use mathlib.Core.Bool.{true}
use mathlib.Core.List.{List}
use mathlib.Core.Logic.{◌⊎◌, inl, inr}
use mathlib.Core.Path.{◌≡◌, refl}
use Rattle.below.specs.Below.{Met, step, then}
use Rattle.operators.proofs.AssignSteps.{one_kind, no_array}
use Rattle.operators.proofs.Order2.{subclass_assigns}
use Rattle.operators.specs.Order2.{ClassMet, named, arrays, list-array, to_nullable, from-nullable, assigns_unrelated}
use Rattle.operators.specs.Order6Assign.{BothNamed, ParentsAssign}
use Rattle.record.specs.TableRefused.{table_fault}
use Rattle.symbol.specs.Lookup.{symbols_of}
use Rattle.symbol.specs.Symbols.{Symbols}
use Rattle.ty.specs.Bytes.{Ty, name_of}
use Rattle.ty.specs.Kind.{nullable_kind, list_kind, named_kind}

-- what holds of two Named types by their classes is that one is met
named_met : (S : Symbols) (a b : Ty) → BothNamed a b → ClassMet S a b → Met S (name_of a) (name_of b)
named_met S a b n (named h k m) = m
named_met S a b n (arrays h k m) = no_array named_kind a refl n.0 h
named_met S a b n (list-array h k m) = one_kind named_kind list_kind a refl n.0 h
named_met S a b n (to_nullable h m) = one_kind named_kind nullable_kind b refl n.1 h
named_met S a b n (from-nullable h m) = one_kind named_kind nullable_kind a refl n.0 h

module _ (t : List ℕ) (f : table_fault t ≡ 0) where
  known : (a b : Ty) → BothNamed a b → (assigns_unrelated a b ≡ true) ⊎ ClassMet (symbols_of t) a b
      → (assigns_unrelated a b ≡ true) ⊎ Met (symbols_of t) (name_of a) (name_of b)
  known a b n (inl e) = inl e
  known a b n (inr m) = inr (named_met (symbols_of t) a b n m)

  pub parents_assign : ParentsAssign t
  parents_assign =
      let r = subclass_assigns t f in
      record {
        parent = λ a b n h. r.met a b (named n.0 n.1 (step h));
        above = λ a b p n h m. r.met a b (named n.0 n.1 (then h m));
        no_further = λ a b n e. known a b n (r.no_more a b e);
      }
