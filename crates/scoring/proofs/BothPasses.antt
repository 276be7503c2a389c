-- The two passes together give the score, and the parameters without a mark are those that no argument names.
use Prim.Native.Nat.{ℕ, zero, suc, ◌≤◌}
use lib.ListN.{length, replicate}
use mathlib.Core.Bool.{Bool, true, false, ◌||◌}
use mathlib.Core.List.{List, [], ◌∷◌}
use mathlib.Core.Option.{Option, none, some}
use mathlib.Core.Path.{◌≡◌, refl, sym, ap, ◌∙◌}
use native.Mathlib.Omega.{arith}
use Rattle.scoring.proofs.ScoreSums.{plus_zero, plus_none_more, plus_swap}
use Rattle.scoring.specs.Arg.{Arg}
use Rattle.scoring.specs.Inside.Passes.{no_marks, mark_one, marks_from, marks_of, unmarked, named_one, named_score, unnamed_one, unnamed_score}
use Rattle.scoring.specs.Score.{plus, score_one, total}
use Rattle.scoring.specs.WithParams.{param_named, is_name, some_arg_named, free_params, next_param, parameter_for, left_behind, in_turn}
use Rattle.symbol.specs.Symbols.{Param, Symbols}
use Rattle.ty.specs.Bytes.{Ty}
use Rattle.ty.specs.Choose.{choose}

-- ---- marks
or_false : (b : Bool) → (b || false) ≡ b
or_false true = refl
or_false false = refl

or_assoc : (a b c : Bool) → ((a || b) || c) ≡ (a || (b || c))
or_assoc true b c = refl
or_assoc false b c = refl

-- an unnamed argument marks nothing
pub mark_none : (ps : List Param) (marks : List Bool) → mark_one ps none marks ≡ marks
unfolding mark_one is_name
mark_none [] marks = refl
mark_none (p ∷ ps) [] = refl
mark_none (p ∷ ps) (m ∷ marks) = rw (or_false m, mark_none ps marks) refl

-- the parameters that have no mark and that no argument names
unfoldable left_free : List Param → List Bool → List Arg → List Param
left_free [] marks xs = []
left_free (p ∷ ps) [] xs = []
left_free (p ∷ ps) (m ∷ marks) xs = choose (m || some_arg_named xs p.name) (left_free ps marks xs) (p ∷ left_free ps marks xs)

no_arg : (ps : List Param) (marks : List Bool) → unmarked ps marks ≡ left_free ps marks []
unfolding unmarked left_free some_arg_named
no_arg [] marks = refl
no_arg (p ∷ ps) [] = refl
no_arg (p ∷ ps) (m ∷ marks) = rw (or_false m, no_arg ps marks) refl

one_arg : (ps : List Param) (marks : List Bool) (a : Arg) (xs : List Arg) → left_free ps (mark_one ps a.name marks) xs ≡ left_free ps marks (a ∷ xs)
unfolding left_free mark_one some_arg_named
one_arg [] marks a xs = refl
one_arg (p ∷ ps) [] a xs = refl
one_arg (p ∷ ps) (m ∷ marks) a xs = rw (or_assoc m (is_name a.name p.name) (some_arg_named xs p.name), one_arg ps marks a xs) refl

all_args : (ps : List Param) (marks : List Bool) (xs : List Arg) → unmarked ps (marks_from ps marks xs) ≡ left_free ps marks xs
unfolding marks_from
all_args ps marks [] = no_arg ps marks
all_args ps marks (a ∷ xs) = all_args ps (mark_one ps a.name marks) xs ∙ one_arg ps marks a xs

-- without a mark before, these are the free ones
no_mark : (ps : List Param) (n : ℕ) (xs : List Arg) → length ps ≤ n → left_free ps (replicate n false) xs ≡ free_params ps xs
unfolding left_free free_params
no_mark [] n xs h = refl
no_mark (p ∷ ps) zero xs h = absurd (omega arith)
no_mark (p ∷ ps) (suc n) xs h = rw (no_mark ps n xs (omega arith)) refl

pub unmarked_free : (ps : List Param) (xs : List Arg) → length ps ≤ 16 → unmarked ps (marks_of ps xs) ≡ free_params ps xs
unmarked_free ps xs h = all_args ps no_marks xs ∙ no_mark ps 16 xs h

-- ---- sums
module _ (S : Symbols) (ps : List Param) where
  -- an argument's score, where the parameters fs are left
  one_split : (fs : List Param) (n : Option ℕ) (x : Ty) → score_one S (parameter_for ps fs n) n x ≡ plus (named_one S ps n x) (unnamed_one S fs n x)
  unfolding parameter_for named_one unnamed_one
  one_split fs none x = sym (plus_zero (score_one S (next_param fs) none x))
  one_split fs (some id) x = sym (plus_none_more (score_one S (param_named id ps) (some id) x))

  pub score_split : (fs : List Param) (xs : List Arg) → total S (in_turn ps fs xs) ≡ plus (named_score S ps xs) (unnamed_score S fs xs)
  unfolding total in_turn named_score unnamed_score
  score_split fs [] = sym (plus_zero (some 0))
  score_split fs (a ∷ xs) =
      let rest = score_split (left_behind fs a.name) xs in
      ap (λ (z : Option ℕ). plus z (total S (in_turn ps (left_behind fs a.name) xs))) (one_split fs a.name a.ty)
      ∙ ap (λ (z : Option ℕ). plus (plus (named_one S ps a.name a.ty) (unnamed_one S fs a.name a.ty)) z) rest
      ∙ plus_swap (named_one S ps a.name a.ty) (unnamed_one S fs a.name a.ty) (named_score S ps xs) (unnamed_score S (left_behind fs a.name) xs)
