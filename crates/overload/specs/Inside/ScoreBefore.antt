-- An overload's score as it was before order 4, by document 01 alone: an exact match scores 2, an accepted one 1; every unnamed argument is compared with the
-- same parameter, the first that no argument names; where every parameter is named and the last is vararg, an unnamed argument scores 1. A name that
-- stands elsewhere with another text bears `_before`; law `AsBefore` says where nothing changes.
use Rattle.std.specs.Prelude.{ℕ, suc, Bool, true, false, List, [], ◌∷◌, get_or, set}
use Rattle.std.proofs.Math.Option.{Option, none, some}
use Rattle.ty.specs.Choose.{choose}
use Rattle.ty.specs.Bytes.{Ty}
use Rattle.symbol.specs.Symbols.{Param, Overload, Symbols}
use Rattle.scoring.specs.Arg.{Arg}
use Rattle.scoring.specs.Arity.{last_vararg}
use Rattle.scoring.specs.Score.{plus, compared}
use Rattle.scoring.specs.WithParams.{param_named}
use Rattle.scoring.specs.Inside.Params.{place_named}
use Rattle.scoring.specs.Inside.Passes.{no_marks}

unfoldable pub mark_at : Option ℕ → List Bool → List Bool
mark_at none marks = marks
mark_at (some i) marks = set marks i true

-- an argument marks the parameter that it names
unfoldable pub mark_one_before : List Param → Option ℕ → List Bool → List Bool
mark_one_before ps none marks = marks
mark_one_before ps (some id) marks = mark_at (place_named id 0 ps) marks

unfoldable pub marks_from_before : List Param → List Bool → List Arg → List Bool
marks_from_before ps marks [] = marks
marks_from_before ps marks (a ∷ xs) = marks_from_before ps (mark_one_before ps a.name marks) xs

-- the marks that the named pass leaves
abbrev pub marks_of_before : List Param → List Arg → List Bool
marks_of_before ps xs = marks_from_before ps no_marks xs

-- the first parameter without a mark, the first parameter here standing at i
unfoldable pub unmarked_from : ℕ → List Param → List Bool → Option Param
unmarked_from i [] marks = none
unmarked_from i (p ∷ ps) marks = choose (get_or marks i false) (unmarked_from (suc i) ps marks) (some p)

-- the parameter that every unnamed argument is compared with
abbrev pub free : List Param → List Arg → Option Param
free ps xs = unmarked_from 0 ps (marks_of_before ps xs)

module _ (S : Symbols) where
  unfoldable pub compared_with : Option Param → Ty → Option ℕ
  compared_with none x = none
  compared_with (some p) x = compared S p x

  -- the named pass: each named argument against the parameter of its name
  unfoldable pub named_one_before : List Param → Option ℕ → Ty → Option ℕ
  named_one_before ps none x = some 0
  named_one_before ps (some id) x = compared_with (param_named id ps) x

  unfoldable pub named_score_before : List Param → List Arg → Option ℕ
  named_score_before ps [] = some 0
  named_score_before ps (a ∷ xs) = plus (named_one_before ps a.name a.ty) (named_score_before ps xs)

  -- the positional pass: each unnamed argument against the free parameter f; v: the last parameter is vararg
  unfoldable pub unnamed_one_before : Option Param → Bool → Option ℕ → Ty → Option ℕ
  unnamed_one_before f v (some id) x = some 0
  unnamed_one_before (some p) v none x = compared S p x
  unnamed_one_before none true none x = some 1
  unnamed_one_before none false none x = none

  unfoldable pub unnamed_score_before : Option Param → Bool → List Arg → Option ℕ
  unnamed_score_before f v [] = some 0
  unnamed_score_before f v (a ∷ xs) = plus (unnamed_one_before f v a.name a.ty) (unnamed_score_before f v xs)

  -- the same with the marks that the named pass left
  abbrev pub positional_score : List Param → List Bool → List Arg → Option ℕ
  positional_score ps marks xs = unnamed_score_before (unmarked_from 0 ps marks) (last_vararg ps) xs

  -- an overload's score, if it matches
  unfoldable pub score_before : Overload → List Arg → Option ℕ
  score_before o xs = plus (named_score_before o.params xs) (positional_score o.params (marks_of_before o.params xs) xs)
