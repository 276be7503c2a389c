-- What order 6 claims of access. Document 02: "protected access and operator methods climb superclasses only". So they do not ask for interfaces.
use Rattle.std.specs.Prelude.{ℕ, true, List, ◌↔◌, ◌≡◌, ◌≢◌}
use Rattle.operators.specs.Order6Method.{with_interfaces}
use Rattle.question.specs.declared.Header.{Header}
use Rattle.rules.specs.Access.{blocked}
use Rattle.record.specs.TableRefused.{table_fault}
use Rattle.symbol.specs.Lookup.{symbols_of}
use Rattle.symbol.specs.Subclass.{is_subclass}
use Rattle.symbol.specs.Symbols.{Symbols}
use Rattle.ty.specs.Name.{no_id}

-- b is met from a along superclasses alone, in however many steps
pub data MetBySuperclasses (S : Symbols) : ℕ → ℕ → Type 0 where
  step : {a b : ℕ} → S.super_of a ≡ b → b ≢ no_id → MetBySuperclasses S a b
  then : {a c b : ℕ} → S.super_of a ≡ c → c ≢ no_id → MetBySuperclasses S c b → MetBySuperclasses S a b

pub record AccessBySuperclasses : Type 0 where
  -- "protected access .. superclasses only": in an accepted table a class is a subclass of exactly those that are met so
  pub met : (t : List ℕ) → table_fault t ≡ 0 → (a b : ℕ) → (is_subclass (symbols_of t) a b ≡ true) ↔ MetBySuperclasses (symbols_of t) a b
  -- whatever the interfaces are, a class is a subclass of those that superclasses lead to
  pub subclasses : (S : Symbols) (first second : ℕ → ℕ) (a b : ℕ) → is_subclass (with_interfaces S first second) a b ≡ is_subclass S a b
  -- and the same members are blocked
  pub access : (S : Symbols) (first second : ℕ → ℕ) (H : Header) (vis owner : ℕ) → blocked (with_interfaces S first second) H vis owner ≡ blocked S H vis owner
