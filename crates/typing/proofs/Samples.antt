-- Tables and questions in bytes, for the cases that are computed. Document 01, "Types as bytes" and "Table and question". Ids here are below 256.
use Prim.Native.Nat.{ℕ}
use lib.ListN.{length, replicate}
use mathlib.Core.List.{List, [], ◌∷◌, ◌++◌}
use mathlib.Core.Path.{◌≡◌}
use Rattle.written.specs.Padding.{padded_to}
use Rattle.typing.specs.Answer.{answer_bytes, answer_of, buffer_of}

-- record kind 1: a name of one letter
abbrev pub letter : ℕ → List ℕ
letter c = 1 ∷ 1 ∷ c ∷ replicate 23 0

-- an id in two bytes, as the superclass or an interface of a class, and 65,535 for none
abbrev pub parent : ℕ → List ℕ
parent id = id ∷ 0 ∷ []

abbrev pub no_parent : List ℕ
no_parent = 255 ∷ 255 ∷ []

-- record kind 2: a class in `types`, without package; its superclass and its two interfaces
abbrev pub class_with : ℕ → List ℕ → List ℕ → List ℕ → List ℕ
class_with id super first second = 2 ∷ id ∷ 0 ∷ super ++ (first ++ (second ++ (255 ∷ 255 ∷ 1 ∷ [])))

-- and one without interfaces
abbrev pub class : ℕ → List ℕ → List ℕ
class id super = class_with id super no_parent no_parent

-- record kind 3: an operator set with a mask below 256
abbrev pub operators : ℕ → ℕ → List ℕ
operators id mask = 3 ∷ id ∷ 0 ∷ mask ∷ 0 ∷ []

-- record kind 4: an ownerless public function with so many parameters
abbrev pub function : ℕ → List ℕ → ℕ → List ℕ → List ℕ
function id result count params = 4 ∷ 255 ∷ 255 ∷ id ∷ 0 ∷ 0 ∷ 0 ∷ count ∷ result ++ params

-- a parameter without default
abbrev pub param : ℕ → List ℕ → List ℕ
param id ty = id ∷ 0 ∷ 0 ∷ ty

-- a question without current type and package, not in a suspend function
abbrev pub script : List ℕ → List ℕ
script tree = 255 ∷ 255 ∷ 255 ∷ 255 ∷ 0 ∷ tree

abbrev pub leaf : List ℕ → List ℕ
leaf ty = 0 ∷ ty

abbrev pub binary : ℕ → List ℕ → List ℕ → List ℕ
binary op l r = 1 ∷ op ∷ l ++ r

abbrev pub unary : ℕ → List ℕ → List ℕ
unary op x = 2 ∷ op ∷ x

abbrev pub named : ℕ → List ℕ → List ℕ
named id x = 3 ∷ id ∷ 0 ∷ x

abbrev pub member : ℕ → List ℕ → List ℕ
member id x = 4 ∷ id ∷ 0 ∷ x

abbrev pub call : ℕ → ℕ → List ℕ → List ℕ
call id count args = 5 ∷ id ∷ 0 ∷ count ∷ args

abbrev pub method : ℕ → ℕ → List ℕ → List ℕ → List ℕ
method id count object args = 6 ∷ id ∷ 0 ∷ count ∷ object ++ args

-- types
abbrev pub int : List ℕ
int = 0 ∷ []

abbrev pub long : List ℕ
long = 1 ∷ []

abbrev pub float : List ℕ
float = 4 ∷ []

abbrev pub double : List ℕ
double = 5 ∷ []

abbrev pub boolean : List ℕ
boolean = 6 ∷ []

abbrev pub string : List ℕ
string = 8 ∷ []

abbrev pub any : List ℕ
any = 9 ∷ []

abbrev pub error : List ℕ
error = 21 ∷ []

abbrev pub nullable : List ℕ → List ℕ
nullable t = 12 ∷ t

abbrev pub pointer : List ℕ → List ℕ
pointer t = 13 ∷ t

-- an Array without size
abbrev pub array : List ℕ → List ℕ
array t = 14 ∷ 0 ∷ 0 ∷ 0 ∷ 0 ∷ 0 ∷ t

abbrev pub list : List ℕ → List ℕ
list t = 15 ∷ t

-- a Map from String
abbrev pub map_to : List ℕ → List ℕ
map_to t = 16 ∷ 8 ∷ t

-- a Function without parameters
abbrev pub function_to : List ℕ → List ℕ
function_to t = 18 ∷ 0 ∷ t

abbrev pub named_class : ℕ → List ℕ
named_class id = 17 ∷ id ∷ 0 ∷ []

-- a record of the buffer, node and number below 256
abbrev pub diagnostic : ℕ → ℕ → ℕ → List ℕ
diagnostic kind node number = kind ∷ node ∷ 0 ∷ number ∷ 0 ∷ []

-- the answer without a refusal, with a buffer of 20 bytes: pass mark, type, diagnostic count, and what the buffer holds before its zeros
pub record Says (t q : List ℕ) (pass : ℕ) (ty : List ℕ) (count : ℕ) (diags : List ℕ) : Type 0 where
  pub answer : answer_of t q 20 ≡ record { number = 0; pass = pass; ty = padded_to answer_bytes ty; len = length ty; count = count }
  pub buffer : buffer_of t q 20 ≡ padded_to 20 diags

-- it passes
abbrev pub Passes : List ℕ → List ℕ → List ℕ → Type 0
Passes t q ty = Says t q 1 ty 0 []

-- it has one diagnostic
abbrev pub Fails : List ℕ → List ℕ → List ℕ → List ℕ → Type 0
Fails t q ty d = Says t q 0 ty 1 d
