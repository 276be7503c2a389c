-- The score in two passes, as the code adds it up: the named arguments, then the unnamed ones. Together they are the score (proofs BothPasses).
use Rattle.std.specs.Prelude.{ℕ, Bool, false, ◌||◌, List, [], ◌∷◌, replicate}
use Rattle.std.proofs.Math.Option.{Option, none, some}
use Rattle.ty.specs.Choose.{choose}
use Rattle.ty.specs.Bytes.{Ty}
use Rattle.symbol.specs.Symbols.{Param, Symbols}
use Rattle.scoring.specs.Arg.{Arg}
use Rattle.scoring.specs.WithParams.{param_named, is_name, next_param, left_behind}
use Rattle.scoring.specs.Score.{plus, score_one}

-- `matched_params`: a mark per parameter, at most 16
abbrev pub no_marks : List Bool
no_marks = replicate 16 false

-- an argument marks the parameters of its name, the first parameter here having the first mark here
unfoldable pub mark_one : List Param → Option ℕ → List Bool → List Bool
mark_one [] n marks = marks
mark_one (p ∷ ps) n [] = []
mark_one (p ∷ ps) n (m ∷ marks) = (m || is_name n p.name) ∷ mark_one ps n marks

unfoldable pub marks_from : List Param → List Bool → List Arg → List Bool
marks_from ps marks [] = marks
marks_from ps marks (a ∷ xs) = marks_from ps (mark_one ps a.name marks) xs

-- the marks that the named pass leaves
abbrev pub marks_of : List Param → List Arg → List Bool
marks_of ps xs = marks_from ps no_marks xs

-- the parameters without a mark
unfoldable pub unmarked : List Param → List Bool → List Param
unmarked [] marks = []
unmarked (p ∷ ps) [] = []
unmarked (p ∷ ps) (m ∷ marks) = choose m (unmarked ps marks) (p ∷ unmarked ps marks)

module _ (S : Symbols) where
  -- the named pass: each named argument against the parameter of its name
  unfoldable pub named_one : List Param → Option ℕ → Ty → Option ℕ
  named_one ps none x = some 0
  named_one ps (some id) x = score_one S (param_named id ps) (some id) x

  unfoldable pub named_score : List Param → List Arg → Option ℕ
  named_score ps [] = some 0
  named_score ps (a ∷ xs) = plus (named_one ps a.name a.ty) (named_score ps xs)

  -- the positional pass: each unnamed argument against the next of the parameters fs that are left
  unfoldable pub unnamed_one : List Param → Option ℕ → Ty → Option ℕ
  unnamed_one fs (some id) x = some 0
  unnamed_one fs none x = score_one S (next_param fs) none x

  unfoldable pub unnamed_score : List Param → List Arg → Option ℕ
  unnamed_score fs [] = some 0
  unnamed_score fs (a ∷ xs) = plus (unnamed_one fs a.name a.ty) (unnamed_score (left_behind fs a.name) xs)
