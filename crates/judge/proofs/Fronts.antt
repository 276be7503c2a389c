-- An answer's front says what its outcome does, whatever the type.
use Rattle.std.proofs.Common.{ℕ, ◌≡◌, ap, List, [], Result, Ok, Err}
use Rattle.judge.specs.Answered.{outcome_is, front_with}
use Rattle.judge.specs.declared.Front.{Front}
use Rattle.judge.specs.declared.Judged.{Judged}
use Rattle.judge.specs.declared.refusal.Refusal.{Refusal}
use Rattle.typing.specs.Answer.{Answer}

-- the type is what the front leaves out
abbrev typed : Answer → List ℕ → Answer
typed x ty = record { number = x.number; pass = x.pass; ty = ty; len = x.len; count = x.count }

pub front_typed : (a : Front) (r : Result Judged Refusal) (ty : List ℕ) → front_with a [] ≡ outcome_is r [] → front_with a ty ≡ outcome_is r ty
front_typed a (Ok j) ty e = ap (λ (x : Answer). typed x ty) e
front_typed a (Err f) ty e = ap (λ (x : Answer). typed x ty) e
