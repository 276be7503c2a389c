-- Demand 3: "A typing is any choice of types, whoever made it, that gives each visited node a type other than Error and obeys document 01's clean rules at
-- each of them. For every accepted table and every question accepted under it, whatever buffer is lent, any two typings are alike: they visit the same nodes
-- and give each the same type. The judge's pass mark is 1 exactly when a typing exists; the answer then has number 0, the typing's root type byte for byte
-- with its length and no diagnostic, and the buffer is all zero. The mark is also 1 exactly when the definition of demand 2, before number 12 is asked, yields
-- no diagnostic, warnings included, and no visited node of type Error. With a typing or without, the answer and the buffer are that definition's."
-- A typing is `IsTyping` of Typing.antt; the definition of demand 2 is `judgement_of`, `answer_of` and `buffer_of` of Answer.antt.
use Rattle.std.specs.Prelude.{ℕ, length, ◌≢◌, ◌↔◌, ◌≡◌}
use mathlib.Core.List.{List, [], Memᴰ}
use Rattle.std.proofs.Math.Option.{some}
use Rattle.written.specs.Padding.{padded_to}
use Rattle.question.specs.Header.{header_of}
use Rattle.question.specs.Parse.{tree_of}
use Rattle.question.specs.QuestionRefused.{question_fault}
use Rattle.operators.specs.Out.{error_ty}
use Rattle.symbol.specs.Lookup.{symbols_of}
use Rattle.record.specs.TableRefused.{table_fault}
use Rattle.ty.specs.Bytes.{Ty}
use Rattle.typing.specs.Answer.{Answer, answer_bytes, zeros, names_of, judgement_of, answer_of, buffer_of}
use Rattle.typing.specs.Judge.{Given, Judged}
use Rattle.typing.specs.Typing.{IsTyping}
use Rattle.typing.specs.Visits.{Choice, Visits}

-- τ is a typing of the question
abbrev pub TypingOf : List ℕ → List ℕ → Choice → Type 0
TypingOf t q τ = IsTyping (symbols_of t) (header_of q) (tree_of q) τ

-- τ visits node k of the question
abbrev pub VisitedBy : List ℕ → List ℕ → Choice → ℕ → Type 0
VisitedBy t q τ k = Visits (symbols_of t) τ (tree_of q) 0 k

-- a judgement with no diagnostic, warnings included, and no visited node of type Error
pub record Quiet (j : Judged) : Type 0 where
  pub diags : j.diags ≡ []
  pub types : (g : Given) → Memᴰ g j.typed → g.ty ≢ error_ty

-- two typings visit the same nodes and give each the same type
pub record Alike (t q : List ℕ) (τ σ : Choice) : Type 0 where
  pub nodes : (k : ℕ) → VisitedBy t q τ k ↔ VisitedBy t q σ k
  pub types : (k : ℕ) → τ k ≡ σ k

-- what the answer is where T is a typing's root type: number 0, the type byte for byte with its length, no diagnostic; and the buffer is all zero
pub record Passed (T : Ty) (lent : ℕ) (a : Answer) (b : List ℕ) : Type 0 where
  pub number : a.number ≡ 0
  pub ty : a.ty ≡ padded_to answer_bytes T
  pub len : a.len ≡ length T
  pub count : a.count ≡ 0
  pub buffer : b ≡ zeros lent

-- of an answer a and a buffer b afterwards, where `lent` bytes were lent, for a table t and a question q
pub record Demand3 (t q : List ℕ) (lent : ℕ) (a : Answer) (b : List ℕ) : Type 0 where
  -- "any two typings are alike: they visit the same nodes and give each the same type"
  pub alike : (τ σ : Choice) → TypingOf t q τ → TypingOf t q σ → Alike t q τ σ
  -- "The judge's pass mark is 1 exactly when a typing exists;"
  pub mark : (a.pass ≡ 1) ↔ ((τ : Choice) × TypingOf t q τ)
  -- "the answer then has number 0, the typing's root type byte for byte with its length and no diagnostic, and the buffer is all zero."
  pub passed : (τ : Choice) → TypingOf t q τ → (T : Ty) → τ 0 ≡ some T → Passed T lent a b
  -- "The mark is also 1 exactly when the definition of demand 2, before number 12 is asked, yields no diagnostic, warnings included, and no visited node of
  -- type Error."
  pub quiet : (a.pass ≡ 1) ↔ Quiet (judgement_of t q)
  -- "With a typing or without, the answer and the buffer are that definition's."
  pub answer : a ≡ answer_of t q lent
  pub buffer : b ≡ buffer_of t q lent

-- "For every accepted table and every question accepted under it, whatever buffer is lent", of a judge's answers a and its buffers b
abbrev pub Demands : (List ℕ → List ℕ → ℕ → Answer) → (List ℕ → List ℕ → ℕ → List ℕ) → Type 0
Demands a b = (t q : List ℕ) (lent : ℕ) → table_fault t ≡ 0 → question_fault (names_of t) q ≡ 0 → Demand3 t q lent (a t q lent) (b t q lent)
