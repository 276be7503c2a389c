-- Order 6 by computation, from bytes. Document 02: "Typings stay unique when a class is reached along two ways."
use Prim.Native.Nat.{ℕ}
use mathlib.Core.Bool.{true, false}
use mathlib.Core.List.{List, [], ◌∷◌, ◌++◌}
use mathlib.Core.Option.{none, some}
use mathlib.Core.Path.{◌≡◌, refl}
use Rattle.below.specs.Below.{is_below}
use Rattle.symbol.specs.Lookup.{symbols_of}
use Rattle.typing.proofs.Computed.{computed}
use Rattle.typing.proofs.Marked.{arg, scores_of}
use Rattle.typing.proofs.OneTyping.{Accepted, OneTyping, one_typing, NoTyping, no_typing}
use Rattle.typing.proofs.Samples.{letter, class, class_with, parent, no_parent, function, param, script, leaf, call, int, named_class, diagnostic}
use Rattle.typing.specs.Judge.{Given}

-- A diamond. a is 40, b 41, c 42 and d 43; f is 44, p is 45. d has the superclass b and the interface c, b has the superclass a, and c has the interface a: one
-- way goes by superclasses alone, the other by interfaces alone.
abbrev diamond : List ℕ → List ℕ
diamond functions =
    letter 97 ++ (letter 98 ++ (letter 99 ++ (letter 100 ++ (letter 102 ++ (letter 112
    ++ (class 40 no_parent
    ++ (class 41 (parent 40)
    ++ (class_with 42 no_parent (parent 40) no_parent
    ++ (class_with 43 (parent 41) (parent 42) no_parent ++ functions)))))))))

-- f(p a): Int
abbrev takes_top : List ℕ
takes_top = diamond (function 44 int 1 (param 45 (named_class 40)))

-- f(p b) and f(p c), one for each of the two ways
abbrev takes_either : List ℕ
takes_either = diamond (function 44 int 1 (param 45 (named_class 41)) ++ function 44 int 1 (param 45 (named_class 42)))

-- f with a d
abbrev with_lowest : List ℕ
with_lowest = script (call 44 1 (leaf (named_class 43)))

-- what a call with one leaf is given: the leaf, then the call
abbrev call_and_leaf : List ℕ → List ℕ → List Given
call_and_leaf argument result = record { node = 1; ty = argument } ∷ record { node = 0; ty = result } ∷ []

pub record Diamond : Type 0 where
  -- a is above d along b, and along c
  along_b : (is_below (symbols_of takes_top) 43 41 ≡ true) × (is_below (symbols_of takes_top) 41 40 ≡ true)
  along_c : (is_below (symbols_of takes_top) 43 42 ≡ true) × (is_below (symbols_of takes_top) 42 40 ≡ true)
  reached : is_below (symbols_of takes_top) 43 40 ≡ true
  -- neither of b and c is above the other, and d is above nothing
  beside : (is_below (symbols_of takes_top) 41 42 ≡ false) × (is_below (symbols_of takes_top) 42 41 ≡ false)
  lowest : (is_below (symbols_of takes_top) 40 43 ≡ false) × (is_below (symbols_of takes_top) 43 43 ≡ false)
  -- a class reached along two ways scores 1, as one that is reached along one
  scores : scores_of takes_top 44 (arg none (named_class 43) ∷ []) ≡ some 1 ∷ []
  -- f(d) is Int, with one typing
  one : OneTyping takes_top with_lowest int (call_and_leaf (named_class 43) int)
  -- with an overload for each of the two ways both match with 1: a tie, and no typing
  tie : NoTyping takes_either with_lowest int (diagnostic 19 0 2)

accepted_top : Accepted takes_top with_lowest
unfolding computed
accepted_top = record { table = refl; question = refl }

pub diamond_cases : Diamond
unfolding scores_of computed
diamond_cases = record {
  along_b = (refl, refl);
  along_c = (refl, refl);
  reached = refl;
  beside = (refl, refl);
  lowest = (refl, refl);
  scores = refl;
  one = one_typing takes_top with_lowest int (call_and_leaf (named_class 43) int) accepted_top (record { answer = refl; buffer = refl }) refl;
  tie = no_typing takes_either with_lowest int (diagnostic 19 0 2) (record { table = refl; question = refl }) (record { answer = refl; buffer = refl });
}

-- A tower of three levels, in which each class of a level has all three of the level above it for its superclass and interfaces: a to c are 40 to 42, d to f
-- 43 to 45, g to i 46 to 48. The function m is 49, its parameter p 50.
abbrev tower : List ℕ → List ℕ
tower functions =
    letter 97 ++ (letter 98 ++ (letter 99 ++ (letter 100 ++ (letter 101 ++ (letter 102 ++ (letter 103 ++ (letter 104 ++ (letter 105 ++ (letter 109 ++ (letter 112
    ++ (class 40 no_parent ++ (class 41 no_parent ++ (class 42 no_parent
    ++ (level 43 40 41 42 ++ (level 44 40 41 42 ++ (level 45 40 41 42
    ++ (level 46 43 44 45 ++ (level 47 43 44 45 ++ (level 48 43 44 45 ++ functions)))))))))))))))))))
  where
    level : ℕ → ℕ → ℕ → ℕ → List ℕ
    level id super first second = class_with id (parent super) (parent first) (parent second)

-- m(p c): g, which takes a class of the highest level and gives one of the lowest
abbrev takes_highest : List ℕ
takes_highest = tower (function 49 (named_class 46) 1 (param 50 (named_class 42)))

-- m(m(i))
abbrev twice : List ℕ
twice = script (call 49 1 (call 49 1 (leaf (named_class 48))))

pub record Tower : Type 0 where
  -- from a class of the lowest level each of the highest is reached, along three ways
  first : is_below (symbols_of takes_highest) 48 40 ≡ true
  second : is_below (symbols_of takes_highest) 48 41 ≡ true
  third : is_below (symbols_of takes_highest) 48 42 ≡ true
  beside : is_below (symbols_of takes_highest) 48 47 ≡ false
  downward : is_below (symbols_of takes_highest) 40 48 ≡ false
  scores : scores_of takes_highest 49 (arg none (named_class 48) ∷ []) ≡ some 1 ∷ []
  -- m(m(i)) is g, with one typing
  one :
      OneTyping takes_highest twice (named_class 46)
      (record { node = 2; ty = named_class 48 } ∷ record { node = 1; ty = named_class 46 } ∷ record { node = 0; ty = named_class 46 } ∷ [])

pub tower_cases : Tower
unfolding scores_of computed
tower_cases = record {
  first = refl;
  second = refl;
  third = refl;
  beside = refl;
  downward = refl;
  scores = refl;
  one = one_typing takes_highest twice (named_class 46) _ (record { table = refl; question = refl }) (record { answer = refl; buffer = refl }) refl;
}
