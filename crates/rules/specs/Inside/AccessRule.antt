-- What the code of the access check reports, as a struct: `Access` and `Member` say which reports that is, and the laws `MemberRuling` that it is the same.
use Rattle.std.specs.Prelude.{ℕ, Option, None}
use Rattle.std.proofs.Math.Option as maybe
use Rattle.area.specs.DiagnosticKind.{access_diag}
use Rattle.operators.specs.Inside.RuledParts.{some_report}
use Rattle.operators.specs.Operand.{is_kind}
use Rattle.operators.specs.declared.ruled.Diagnostic.{Diagnostic}
use Rattle.question.specs.declared.Header.{Header}
use Rattle.rules.specs.Access.{blocked}
use Rattle.symbol.specs.Symbols.{Symbols}
use Rattle.ty.specs.Bytes.{Ty, name_of}
use Rattle.ty.specs.Choose.{choose}
use Rattle.ty.specs.Kind.{named_kind}

module _ (S : Symbols) (H : Header) where
  -- of a member of an owner, of a visibility
  unfoldable pub access_ruled : ℕ → ℕ → Option Diagnostic
  access_ruled vis owner = choose (blocked S H vis owner) (some_report access_diag vis) None

  -- of a member that has a visibility
  unfoldable pub visibility_ruled : ℕ → maybe.Option ℕ → Option Diagnostic
  visibility_ruled owner maybe.none = None
  visibility_ruled owner (maybe.some vis) = access_ruled vis owner

  abbrev pub owner_ruled : ℕ → ℕ → Option Diagnostic
  owner_ruled owner id = visibility_ruled owner (S.visibility_of owner id)

  -- of a member of a base
  unfoldable pub base_ruled : Ty → ℕ → Option Diagnostic
  base_ruled base id = choose (is_kind named_kind base) (owner_ruled (name_of base) id) None
