-- Order 6 by computation, from bytes: what is reached along interfaces, and what is not. Document 02: "Assignability reaches through superclass and interfaces
-- alike; protected access and operator methods climb superclasses only."
use Prim.Native.Nat.{ℕ}
use mathlib.Core.Bool.{Bool, true, false}
use mathlib.Core.List.{List, [], ◌∷◌, ◌++◌}
use mathlib.Core.Option.{none, some}
use mathlib.Core.Path.{◌≡◌, refl}
use Rattle.operators.specs.Assign.{assigns}
use Rattle.symbol.specs.Lookup.{symbols_of}
use Rattle.typing.proofs.Computed.{computed}
use Rattle.typing.proofs.Marked.{arg, scores_of}
use Rattle.typing.proofs.Samples.{letter, class, class_with, parent, no_parent, operators, function, param, script, leaf, binary, call, member, method, int, boolean, string, any, error, nullable, pointer, array, list, named_class, diagnostic, Passes, Fails}

-- x is 40, y 41 and z 42, f is 43 and p 44; their classes, and what follows these
abbrev table : List ℕ → List ℕ
table records = letter 120 ++ (letter 121 ++ (letter 122 ++ (letter 102 ++ (letter 112 ++ records))))

-- x with one parent y, or with y and others: by the place where y stands
abbrev by_superclass : List ℕ
by_superclass = class 41 no_parent ++ class 40 (parent 41)

abbrev by_first_interface : List ℕ
by_first_interface = class 41 no_parent ++ class_with 40 no_parent (parent 41) no_parent

abbrev by_second_interface : List ℕ
by_second_interface = class 41 no_parent ++ class_with 40 no_parent no_parent (parent 41)

-- x has the second interface y, y has the superclass z, and z has the first interface p, which has no record
abbrev mixed : List ℕ
mixed = class_with 42 no_parent (parent 44) no_parent ++ (class 41 (parent 42) ++ class_with 40 no_parent no_parent (parent 41))

-- whether a type assigns to another one under the table of those classes
abbrev Related : List ℕ → List ℕ → List ℕ → Bool → Type 0
Related classes a b answer = assigns (symbols_of (table classes)) a b ≡ answer

-- f(p) with a parameter of that class, and its call with an x
abbrev takes : List ℕ → ℕ → List ℕ
takes classes id = table (classes ++ function 43 int 1 (param 44 (named_class id)))

abbrev with_x : List ℕ
with_x = script (call 43 1 (leaf (named_class 40)))

-- y has the protected function f, without parameters and of the result Int, and the protected field p, a String
abbrev protected : List ℕ → List ℕ
protected classes = table (classes ++ ((4 ∷ 41 ∷ 0 ∷ 43 ∷ 0 ∷ 1 ∷ 0 ∷ 0 ∷ int) ++ ((5 ∷ 41 ∷ 0 ∷ 44 ∷ 0 ∷ string) ++ (6 ∷ 41 ∷ 0 ∷ 44 ∷ 0 ∷ 1 ∷ []))))

-- a question inside of x, without a package
abbrev inside : List ℕ → List ℕ
inside tree = 40 ∷ 0 ∷ 255 ∷ 255 ∷ 0 ∷ tree

abbrev call_protected : List ℕ
call_protected = inside (method 43 0 (leaf (named_class 41)) [])

abbrev read_protected : List ℕ
read_protected = inside (member 44 (leaf (named_class 41)))

-- x has an operator set with minus alone; that of y has plus, eq and lt (bits 0, 5 and 7)
abbrev with_sets : List ℕ → List ℕ
with_sets classes = table (classes ++ (operators 40 2 ++ operators 41 161))

abbrev plus : List ℕ
plus = script (binary 0 (leaf (named_class 40)) (leaf (named_class 40)))

abbrev equal : List ℕ
equal = script (binary 5 (leaf (named_class 40)) (leaf (named_class 41)))

abbrev less : List ℕ
less = script (binary 7 (leaf (named_class 40)) (leaf (named_class 41)))

pub record InterfaceCases : Type 0 where
  -- "Assignability reaches through superclass and interfaces alike": from each of the three places, and not the other way
  superclass : Passes (takes by_superclass 41) with_x int
  first : Passes (takes by_first_interface 41) with_x int
  second : Passes (takes by_second_interface 41) with_x int
  other_way : Fails (takes by_second_interface 40) (script (call 43 1 (leaf (named_class 41)))) int (diagnostic 17 1 1)
  scores : scores_of (takes by_second_interface 41) 43 (arg none (named_class 40) ∷ []) ≡ some 1 ∷ []
  -- along interfaces and superclasses by turns; an interface without a record is reached, and nothing is behind it
  behind_one : Passes (takes mixed 41) with_x int
  behind_two : Passes (takes mixed 42) with_x int
  without_record : Passes (takes mixed 44) with_x int
  none_behind : Fails (takes mixed 43) with_x int (diagnostic 17 1 1)
  -- at every depth where assignability compares types, and nowhere else
  arrays : Related by_first_interface (array (named_class 40)) (array (named_class 41)) true
  list_to_array : Related by_second_interface (list (named_class 40)) (array (named_class 41)) true
  nullables : Related by_second_interface (nullable (named_class 40)) (nullable (named_class 41)) true
  pointers : Related by_first_interface (pointer (named_class 40)) (pointer (named_class 41)) false
  -- "protected access .. superclasses only": inside of x a protected function or field of y is reached where y is the superclass
  access_superclass : Passes (protected by_superclass) call_protected int
  access_first : Fails (protected by_first_interface) call_protected int (diagnostic 20 0 1)
  access_second : Fails (protected by_second_interface) call_protected int (diagnostic 20 0 1)
  member_superclass : Passes (protected by_superclass) read_protected string
  member_second : Fails (protected by_second_interface) read_protected string (diagnostic 20 0 1)
  -- "and operator methods": x + x by the set of y where y is the superclass (Any, since the method has no function); else + has no rule for an x
  plus_superclass : Passes (with_sets by_superclass) plus any
  plus_first : Fails (with_sets by_first_interface) plus error (diagnostic 2 0 0)
  plus_second : Fails (with_sets by_second_interface) plus error (diagnostic 2 0 0)
  -- x == y by the ordinary rule is Boolean, and no warning, since an x assigns to y; x < y never asks assignability
  equal_superclass : Passes (with_sets by_superclass) equal any
  equal_second : Passes (with_sets by_second_interface) equal boolean
  less_superclass : Passes (with_sets by_superclass) less any
  less_second : Fails (with_sets by_second_interface) less boolean (diagnostic 5 0 0)

pub interface_cases : InterfaceCases
unfolding scores_of computed
interface_cases = record {
  superclass = record { answer = refl; buffer = refl };
  first = record { answer = refl; buffer = refl };
  second = record { answer = refl; buffer = refl };
  other_way = record { answer = refl; buffer = refl };
  scores = refl;
  behind_one = record { answer = refl; buffer = refl };
  behind_two = record { answer = refl; buffer = refl };
  without_record = record { answer = refl; buffer = refl };
  none_behind = record { answer = refl; buffer = refl };
  arrays = refl;
  list_to_array = refl;
  nullables = refl;
  pointers = refl;
  access_superclass = record { answer = refl; buffer = refl };
  access_first = record { answer = refl; buffer = refl };
  access_second = record { answer = refl; buffer = refl };
  member_superclass = record { answer = refl; buffer = refl };
  member_second = record { answer = refl; buffer = refl };
  plus_superclass = record { answer = refl; buffer = refl };
  plus_first = record { answer = refl; buffer = refl };
  plus_second = record { answer = refl; buffer = refl };
  equal_superclass = record { answer = refl; buffer = refl };
  equal_second = record { answer = refl; buffer = refl };
  less_superclass = record { answer = refl; buffer = refl };
  less_second = record { answer = refl; buffer = refl };
}
