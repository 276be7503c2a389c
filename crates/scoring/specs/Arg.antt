-- A call's arguments, and what a call comes to.
use Rattle.std.specs.Prelude.{ℕ, List, []}
use Rattle.std.proofs.Math.Option.{Option}
use Rattle.ty.specs.Bytes.{Ty}
use Rattle.area.specs.Diagnostic.{Diag}

-- an argument as its call sees it: the name that its node gives it, if any; its type; its node
pub record Arg : Type 0 where
  pub name : Option ℕ
  pub ty : Ty
  pub node : ℕ

-- a call's type and what is reported once its arguments are judged
pub record Verdict : Type 0 where
  pub ty : Ty
  pub diags : List Diag

abbrev pub silent : Ty → Verdict
silent t = record { ty = t; diags = [] }
