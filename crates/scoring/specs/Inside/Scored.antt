-- Scores as the code has them, and what the two passes of scoring hand on.
use Rattle.std.specs.Prelude.{ℕ, ◌≡◌, Bool, List, Option as Maybe, Some, None}
use Rattle.std.proofs.Math.Option.{Option, none, some}
use Rattle.ty.specs.Bytes.{Ty}
use Rattle.symbol.specs.Lookup.{symbols_of}
use Rattle.symbol.specs.Inside.LookupAnswer.{params_in, overload_in}
use Rattle.symbol.specs.Symbols.{Param, Symbols}
use Rattle.symbol.specs.declared.functions.Function.{Function}
use Rattle.symbol.specs.declared.functions.Param.{Param as Read}
use Rattle.scoring.specs.Arg.{Arg}
use Rattle.scoring.specs.WithParams.{left_behind}
use Rattle.scoring.specs.Score.{plus, compared, score}
use Rattle.scoring.specs.Inside.Passes.{mark_one, marks_of, unmarked, named_one, named_score, unnamed_one, unnamed_score}
use Rattle.scoring.specs.Inside.Received.{left_in}
use Rattle.scoring.specs.declared.score.Score.{Score}
use Rattle.scoring.specs.declared.score.NamedPass.{NamedPass}
use Rattle.scoring.specs.declared.score.PositionalPass.{PositionalPass}

-- a score as the code answers it
abbrev pub score_of : Maybe Score → Option ℕ
score_of None = none
score_of (Some s) = some s.points

-- the same the other way round
abbrev pub as_score : Option ℕ → Maybe Score
as_score none = None
as_score (some n) = Some (record { points = n })

-- how many points, 0 where there is no match
abbrev pub points_of : Maybe Score → ℕ
points_of None = 0
points_of (Some s) = s.points

-- an argument's type against a parameter that may be missing, and then the score o
abbrev pub compared_or : Symbols → Option ℕ → Option Param → Ty → Option ℕ
compared_or S o none x = o
compared_or S o (some p) x = compared S p x

-- the named pass m with one argument more, of the name n, if any, and the type x
abbrev pub named_more : List ℕ → List Read → Option ℕ → Ty → NamedPass → NamedPass
named_more t p n x m =
    record { score = as_score (plus (score_of m.score) (named_one (symbols_of t) (params_in t p) n x)); marks = mark_one (params_in t p) n m.marks }

-- what the named pass hands on, for the arguments xs
abbrev pub named_in : List ℕ → List Read → List Arg → NamedPass
named_in t p xs = record { score = as_score (named_score (symbols_of t) (params_in t p) xs); marks = marks_of (params_in t p) xs }

-- the positional pass w with one argument more, of the name n, if any, and the type x, is r
pub record TakenOne (t : List ℕ) (p : List Read) (marks : List Bool) (n : Option ℕ) (x : Ty) (w r : PositionalPass) : Type 0 where
  pub score : r.score ≡ as_score (plus (score_of w.score) (unnamed_one (symbols_of t) (left_in t p marks w.next) n x))
  pub left : left_in t p marks r.next ≡ left_behind (left_in t p marks w.next) n

-- the score of the positional pass, with the named pass's marks
abbrev pub positional_in : List ℕ → List Read → List Bool → List Arg → Option ℕ
positional_in t p marks xs = unnamed_score (symbols_of t) (unmarked (params_in t p) marks) xs

-- the score of a function that was read
abbrev pub score_in : List ℕ → Function → List Arg → Option ℕ
score_in t f xs = score (symbols_of t) (overload_in t f) xs
