-- Document 01's marked cases (◆), with its words beside each, and the sample of its "Answer", computed from the definitions.
use Prim.Native.Nat.{ℕ}
use lib.ListN.{replicate}
use mathlib.Core.Bool.{Bool, true, false}
use mathlib.Core.List.{List, [], ◌∷◌, ◌++◌, map}
use mathlib.Core.Option.{Option, none, some}
use mathlib.Core.Path.{◌≡◌, refl}
use Rattle.written.specs.Padding.{padded_to}
use Rattle.scoring.specs.Arg.{Arg}
use Rattle.scoring.specs.Score.{score}
use Rattle.operators.specs.Assign.{assigns}
use Rattle.symbol.specs.Lookup.{symbols_of}
use Rattle.symbol.specs.Symbols.{Symbols}
use Rattle.ty.specs.Name.{list_id, mutable_list_id, no_id}
use Rattle.typing.proofs.Computed.{computed}
use Rattle.typing.proofs.Samples.{letter, class, parent, no_parent, operators, function, param, script, leaf, binary, unary, named, call, int, long, float, double, boolean, string, any, error, nullable, pointer, array, list, map_to, function_to, named_class, diagnostic, Says, Passes, Fails}
use Rattle.typing.specs.Answer.{Answer, refused, answer_of, buffer_of}

-- an argument of a type, with a name or without
abbrev pub arg : Option ℕ → List ℕ → Arg
arg name t = record { name = name; ty = t; node = 0 }

-- the scores of the ownerless functions of a name, `none` for no match
unfoldable pub scores_of : List ℕ → ℕ → List Arg → List (Option ℕ)
scores_of t id xs = map (λ o. score (symbols_of t) o xs) ((symbols_of t).functions_of no_id id)

-- a number, and the lent bytes afterwards
record Fits (lent : ℕ) (a : Answer) (b : List ℕ) (number : ℕ) (diags : List ℕ) : Type 0 where
  said : a.number ≡ number
  left : b ≡ padded_to lent diags

-- f(p): Int, with one parameter of a type; f is name 40, p is 41
abbrev taking : List ℕ → List ℕ
taking ty = letter 102 ++ (letter 112 ++ function 40 int 1 (param 41 ty))

-- the question of the sample
abbrev sample_question : List ℕ
sample_question = 255 ∷ 255 ∷ 255 ∷ 255 ∷ 0 ∷ 2 ∷ 6 ∷ 0 ∷ 0 ∷ []

-- x is 40, y is 41, z is 42; y is x's superclass, and z is y's. x and z have operator sets, z's with plus; y has one with the mask, where there is one
abbrev chain : List ℕ → List ℕ
chain sets = letter 120 ++ (letter 121 ++ (letter 122 ++ (class 42 no_parent ++ (class 41 (parent 42) ++ (class 40 (parent 41) ++ sets)))))

-- x is 40 and y, its superclass, is 41; f is 42 and p 43
abbrev related : List ℕ
related = letter 120 ++ (letter 121 ++ (letter 102 ++ (letter 112 ++ (class 41 no_parent ++ class 40 (parent 41)))))

-- whether a type assigns to another one under that table
abbrev Related : List ℕ → List ℕ → Bool → Type 0
Related a b answer = assigns (symbols_of related) a b ≡ answer

-- f, p and q are 40, 41 and 42: f(p Int, q String) and f(p Int, q Int), the second with another result
abbrev first : List ℕ
first = letter 102 ++ (letter 112 ++ (letter 113 ++ function 40 int 2 (param 41 int ++ param 42 string)))

abbrev two : List ℕ
two = first ++ function 40 string 2 (param 41 int ++ param 42 int)

-- f, a and b are 40, 41 and 42: f(a Int, b Int)
abbrev ints : List ℕ
ints = letter 102 ++ (letter 97 ++ (letter 98 ++ function 40 int 2 (param 41 int ++ param 42 int)))

abbrev plus : List ℕ → List ℕ → List ℕ
plus l r = script (binary 0 (leaf l) (leaf r))

pub record Marked : Type 0 where
  -- "◆ Nullable(Nothing), the null literal, assigns to Int."
  null_to_int : (S : Symbols) → assigns S (nullable (10 ∷ [])) int ≡ true
  null_argument : Passes (taking int) (script (call 40 1 (leaf (nullable (10 ∷ []))))) int
  -- "◆ Nullable(String) does not."
  nullable-string : (S : Symbols) → assigns S (nullable string) int ≡ false
  nullable_argument : Fails (taking int) (script (call 40 1 (leaf (nullable string)))) int (diagnostic 17 1 1)
  -- "◆ Named A does not assign to Named B although B is A's superclass" is turned round by order 2: "Named A now assigns to Named B if B is met climbing
  -- from A, at every depth where assignability compares types", and B not to A
  superclass : Related (named_class 40) (named_class 41) true
  subclass : Related (named_class 41) (named_class 40) false
  superclass_arrays : Related (array (named_class 40)) (array (named_class 41)) true
  superclass_list-array : Related (list (named_class 40)) (array (named_class 41)) true
  superclass_to_nullable : Related (named_class 40) (nullable (named_class 41)) true
  superclass_from-nullable : Related (nullable (named_class 40)) (named_class 41) true
  superclass_argument : Passes (related ++ function 42 int 1 (param 43 (named_class 41))) (script (call 42 1 (leaf (named_class 40)))) int
  superclass_scores : scores_of (related ++ function 42 int 1 (param 43 (named_class 41))) 42 (arg none (named_class 40) ∷ []) ≡ some 1 ∷ []
  -- an overload that takes the superclass matches as well as any other that is accepted: f(p Any) and f(p y) tie
  superclass_tie :
      Fails (related ++ (function 42 int 1 (param 43 any) ++ function 42 int 1 (param 43 (named_class 41)))) (script (call 42 1 (leaf (named_class 40)))) int
      (diagnostic 19 0 2)
  superclass_compared : Passes related (script (binary 5 (leaf (named_class 41)) (leaf (named_class 40)))) boolean
  -- where it does not compare types, they stay unrelated
  superclass_pointers : Related (pointer (named_class 40)) (pointer (named_class 41)) false
  superclass_maps : Related (map_to (named_class 40)) (map_to (named_class 41)) false
  superclass_functions : Related (function_to (named_class 40)) (function_to (named_class 41)) false
  -- "only List, ArrayList and MutableList, as names, assign among themselves", in whichever table
  list-names : (S : Symbols) → assigns S (named_class list_id) (named_class mutable_list_id) ≡ true
  -- "◆ Long + Long is Int."
  long-plus : Passes [] (plus long long) int
  -- "◆ Long − Long is Long."
  long_minus : Passes [] (script (binary 1 (leaf long) (leaf long))) long
  -- "◆ Double + Double is Float."
  double-plus : Passes [] (plus double double) float
  -- "◆ Any + Int is String."
  any-plus : Passes [] (plus any int) string
  -- "◆ The climb stops at a class without an operator set, even if its superclass has one."
  climb_stops : Fails (chain (operators 40 2 ++ operators 42 1)) (plus (named_class 40) (named_class 40)) error (diagnostic 2 0 0)
  -- (and goes on past one with an operator set; "A method without a function gives Any.")
  climb_goes : Passes (chain (operators 40 2 ++ (operators 41 2 ++ operators 42 1))) (plus (named_class 40) (named_class 40)) any
  -- "◆ NotNull gives Error and a diagnostic on Int; a nullable operand is reported earlier."
  not_null : Fails [] (script (unary 6 (leaf int))) error (diagnostic 13 0 0)
  not_null_nullable : Fails [] (script (unary 6 (leaf (nullable int)))) error (diagnostic 8 0 0)
  -- "◆ Overloads f(Int, String) and f(Int, Int) called f(Int, String): neither matches" and "◆ Called f(Int, Int): both match with 4, a tie of two" are turned
  -- round by order 4: "f(Int, String) chooses the first of the two marked overloads, and f(Int, Int) the second" (whose result here is String)
  first_chosen : Passes two (script (call 40 2 (leaf int ++ leaf string))) int
  first_scores : scores_of two 40 (arg none int ∷ arg none string ∷ []) ≡ some 4 ∷ none ∷ []
  second_chosen : Passes two (script (call 40 2 (leaf int ++ leaf int))) string
  second_scores : scores_of two 40 (arg none int ∷ arg none int ∷ []) ≡ none ∷ some 4 ∷ []
  -- "With f(Int, String) as the only overload, f(Int, String) matches nothing and passes by the check by index": it matches now
  only : Passes first (script (call 40 2 (leaf int ++ leaf string))) int
  only_scores : scores_of first 40 (arg none int ∷ arg none string ∷ []) ≡ some 4 ∷ []
  -- "◆ f(p Int, q String) called f(q = Int, String) matches nothing, yet the only fitting overload is then checked by index and passes silently": "The marked
  -- call f(q = Int, String) now gives two mismatches"
  own_parameters : Says first (script (call 40 2 (named 42 (leaf int) ++ leaf string))) 0 int 2 (diagnostic 17 1 1 ++ diagnostic 17 3 2)
  own_scores : scores_of first 40 (arg (some 42) int ∷ arg none string ∷ []) ≡ none ∷ []
  -- (each argument the other way round matches its own)
  own_passes : Passes first (script (call 40 2 (named 42 (leaf string) ++ leaf int))) int
  -- "◆ f(a Int, b Int) called f(a = Int, a = Int) matches."
  twice-named : Passes ints (script (call 40 2 (named 41 (leaf int) ++ named 41 (leaf int)))) int
  twice_scores : scores_of ints 40 (arg (some 41) int ∷ arg (some 41) int ∷ []) ≡ some 4 ∷ []
  -- "Bytes (hex) 00 00 FF FF FF FF 00 02 06 00 00 print `0 0 1 15 1`, then `13 0 0`."
  sample : answer_of [] sample_question 65535 ≡ record { number = 0; pass = 0; ty = 21 ∷ replicate 255 0; len = 1; count = 1 }
  sample_buffer : buffer_of [] sample_question 65535 ≡ padded_to 65535 (diagnostic 13 0 0)
  -- "(one diagnostic: 5 bytes pass, 4 don't)"
  five : Fits 5 (answer_of [] (script (unary 6 (leaf int))) 5) (buffer_of [] (script (unary 6 (leaf int))) 5) 0 (diagnostic 13 0 0)
  four : Fits 4 (answer_of [] (script (unary 6 (leaf int))) 4) (buffer_of [] (script (unary 6 (leaf int))) 4) 12 []
  -- "No bytes print `8 0 0 - 0`."
  nothing : answer_of [] [] 65535 ≡ refused 8

pub marked : Marked
unfolding scores_of computed
marked = record {
  null_to_int = λ S. refl;
  null_argument = record { answer = refl; buffer = refl };
  nullable-string = λ S. refl;
  nullable_argument = record { answer = refl; buffer = refl };
  superclass = refl;
  subclass = refl;
  superclass_arrays = refl;
  superclass_list-array = refl;
  superclass_to_nullable = refl;
  superclass_from-nullable = refl;
  superclass_argument = record { answer = refl; buffer = refl };
  superclass_scores = refl;
  superclass_tie = record { answer = refl; buffer = refl };
  superclass_compared = record { answer = refl; buffer = refl };
  superclass_pointers = refl;
  superclass_maps = refl;
  superclass_functions = refl;
  list-names = λ S. refl;
  long-plus = record { answer = refl; buffer = refl };
  long_minus = record { answer = refl; buffer = refl };
  double-plus = record { answer = refl; buffer = refl };
  any-plus = record { answer = refl; buffer = refl };
  climb_stops = record { answer = refl; buffer = refl };
  climb_goes = record { answer = refl; buffer = refl };
  not_null = record { answer = refl; buffer = refl };
  not_null_nullable = record { answer = refl; buffer = refl };
  first_chosen = record { answer = refl; buffer = refl };
  first_scores = refl;
  second_chosen = record { answer = refl; buffer = refl };
  second_scores = refl;
  only = record { answer = refl; buffer = refl };
  only_scores = refl;
  own_parameters = record { answer = refl; buffer = refl };
  own_scores = refl;
  own_passes = record { answer = refl; buffer = refl };
  twice-named = record { answer = refl; buffer = refl };
  twice_scores = refl;
  sample = refl;
  sample_buffer = refl;
  five = record { said = refl; left = refl };
  four = record { said = refl; left = refl };
  nothing = refl;
}
