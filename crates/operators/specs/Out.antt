-- What a rule gives: the node's type, and what is reported at the node, in order.
use Rattle.std.specs.Prelude.{ℕ, Bool, List, [], ◌∷◌, ◌++◌}
use Rattle.std.proofs.Math.Option.{Option, none, some}
use Rattle.ty.specs.Choose.{choose}
use Rattle.ty.specs.Kind.{any_kind, error_kind}
use Rattle.ty.specs.Bytes.{Ty, plain_ty}

-- a diagnostic at the node itself: a kind and a number of document 01's "Answer"
pub record Report : Type 0 where
  pub kind : ℕ
  pub number : ℕ

pub record Out : Type 0 where
  pub ty : Ty
  pub reports : List Report

abbrev pub error_ty : Ty
error_ty = plain_ty error_kind

abbrev pub any_ty : Ty
any_ty = plain_ty any_kind

abbrev pub report : ℕ → ℕ → Report
report k n = record { kind = k; number = n }

-- a type, and nothing is reported
abbrev pub clean : Ty → Out
clean t = record { ty = t; reports = [] }

-- the type of a kind that has no body and no child, and nothing is reported
abbrev pub plain : ℕ → Out
plain k = clean (plain_ty k)

-- Error, and one report
abbrev pub fails : ℕ → Out
fails k = record { ty = error_ty; reports = report k 0 ∷ [] }

-- a report, unless a test holds
unfoldable pub unless : Bool → Report → List Report
unless ok r = choose ok [] (r ∷ [])

-- a type, and a report unless a test holds
abbrev pub checked : Bool → Ty → ℕ → Out
checked ok t k = record { ty = t; reports = unless ok (report k 0) }

-- o with reports that come before its own
abbrev pub reports_before : List Report → Out → Out
reports_before rs o = record { ty = o.ty; reports = rs ++ o.reports }

-- the type that was found, or else o
unfoldable pub found : Option Ty → Out → Out
found (some t) o = clean t
found none o = o
