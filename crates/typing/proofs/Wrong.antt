-- Two of document 01's wrong judges ("Note from the buyer"): demand 3 alone is false of their answers.
use Prim.Native.Nat.{ℕ}
use mathlib.Core.Bool.{true}
use mathlib.Core.List.{List, [], ◌∷◌, ◌++◌, head-eq_of_cons-eq}
use mathlib.Core.Option.{some}
use mathlib.Core.Path.{◌≡◌, refl, sym, ◌∙◌}
use native.Mathlib.Omega.{arith}
use Rattle.written.specs.Padding.{padded_to}
use Rattle.question.specs.Header.{header_of}
use Rattle.question.specs.Parse.{tree_of}
use Rattle.symbol.specs.Lookup.{symbols_of}
use Rattle.ty.specs.Bytes.{Ty}
use Rattle.typing.proofs.Computed.{computed}
use Rattle.typing.proofs.Promise.{typing_of}
use Rattle.typing.proofs.Samples.{letter, function, script, leaf, binary, call, int, string, any}
use Rattle.typing.specs.Answer.{Answer, answer_bytes, judgement_of}
use Rattle.typing.specs.Demand3.{TypingOf, Passed, Demand3}
use Rattle.typing.specs.Mark.{passes, type_in}
use Rattle.typing.specs.Visits.{Choice}

-- "the answer then has .. the typing's root type byte for byte with its length and no diagnostic, and the buffer is all zero", of an answer and a buffer
abbrev TypingsAnswer : List ℕ → List ℕ → ℕ → Answer → List ℕ → Type 0
TypingsAnswer t q lent a b = (τ : Choice) → TypingOf t q τ → (T : Ty) → τ 0 ≡ some T → Passed T lent a b

-- where a typing gives the root a type that begins with k, an answer with the one byte i for its type is not the typing's
other : (t q : List ℕ) (lent : ℕ) (a : Answer) (b : List ℕ) (k i : ℕ) (rest : Ty) → passes (judgement_of t q) ≡ true → type_in (judgement_of t q).typed 0 ≡ some (k ∷ rest)
    → (i ≡ k → ⊥) → a.ty ≡ padded_to answer_bytes (i ∷ []) → TypingsAnswer t q lent a b → ⊥
unfolding padded_to
other t q lent a b k i rest p e d h s =
    let c : Passed (k ∷ rest) lent a b = s (type_in (judgement_of t q).typed) (typing_of (symbols_of t) (header_of q) (tree_of q) p) (k ∷ rest) e in
    d (head-eq_of_cons-eq (sym h ∙ c.ty))

-- A judge that types every script Any: on the script that is a leaf Int.
any-typed : (a : Answer) (b : List ℕ) (lent : ℕ) → a.ty ≡ padded_to answer_bytes any → TypingsAnswer [] (script (leaf int)) lent a b → ⊥
unfolding type_in computed
any-typed a b lent h s = other [] (script (leaf int)) lent a b 0 9 [] refl refl (λ z. omega arith) h s

pub every_any : (a : Answer) (b : List ℕ) (lent : ℕ) → a.ty ≡ padded_to answer_bytes any → Demand3 [] (script (leaf int)) lent a b → ⊥
every_any a b lent h d = any-typed a b lent h d.passed

-- A judge that resolves the first call and copies its type to the rest: on f() = g(), where f() is Int and g() is String (f is name 40, g is 41). An
-- assignment has the type of its right side.
abbrev two_calls : List ℕ
two_calls = letter 102 ++ (letter 103 ++ (function 40 int 0 [] ++ function 41 string 0 []))

abbrev assignment : List ℕ
assignment = script (binary 19 (call 40 0 []) (call 41 0 []))

first_copied : (a : Answer) (b : List ℕ) (lent : ℕ) → a.ty ≡ padded_to answer_bytes int → TypingsAnswer two_calls assignment lent a b → ⊥
unfolding type_in computed
first_copied a b lent h s = other two_calls assignment lent a b 8 0 [] refl refl (λ z. omega arith) h s

pub first-call_copied : (a : Answer) (b : List ℕ) (lent : ℕ) → a.ty ≡ padded_to answer_bytes int → Demand3 two_calls assignment lent a b → ⊥
first-call_copied a b lent h d = first_copied a b lent h d.passed
