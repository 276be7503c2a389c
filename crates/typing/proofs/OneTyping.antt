-- A table and a question with one typing, and those with none, by what demand 3 says where both are accepted.
use Prim.Native.Nat.{ℕ}
use mathlib.Core.List.{List}
use mathlib.Core.Path.{◌≡◌, ap, ◌∙◌}
use native.Mathlib.Omega.{arith}
use Rattle.question.specs.Header.{header_of}
use Rattle.question.specs.Parse.{tree_of}
use Rattle.question.specs.QuestionRefused.{question_fault}
use Rattle.record.specs.TableRefused.{table_fault}
use Rattle.symbol.specs.Lookup.{symbols_of}
use Rattle.typing.proofs.Demand3.{demand3}
use Rattle.typing.proofs.Flat.{flat_typing}
use Rattle.typing.proofs.Samples.{Passes, Fails}
use Rattle.typing.proofs.Unique.{typing_types}
use Rattle.typing.specs.Answer.{Answer, names_of, judgement_of}
use Rattle.typing.specs.Demand3.{TypingOf, Alike}
use Rattle.typing.specs.Judge.{Given}
use Rattle.typing.specs.Mark.{type_in}
use Rattle.typing.specs.Visits.{Choice}

-- table and question draw no number
pub record Accepted (t q : List ℕ) : Type 0 where
  pub table : table_fault t ≡ 0
  pub question : question_fault (names_of t) q ≡ 0

-- the answer passes with the type `ty`; there is a typing, any two are alike, and each gives the nodes those types and no other number one
pub record OneTyping (t q : List ℕ) (ty : List ℕ) (types : List Given) : Type 0 where
  pub answer : Passes t q ty
  pub exists : (τ : Choice) × TypingOf t q τ
  pub alike : (τ σ : Choice) → TypingOf t q τ → TypingOf t q σ → Alike t q τ σ
  pub each : (τ : Choice) → TypingOf t q τ → (k : ℕ) → τ k ≡ type_in types k

pub one_typing : (t q ty : List ℕ) (types : List Given) → Accepted t q → Passes t q ty → (judgement_of t q).typed ≡ types → OneTyping t q ty types
one_typing t q ty types a p e =
    let d = demand3 t q 20 a.table a.question in
    record {
      answer = p;
      exists = d.mark.0 (ap (λ (z : Answer). z.pass) p.answer);
      alike = d.alike;
      each = λ τ f k.
          typing_types (symbols_of t) (header_of q) (tree_of q) τ (flat_typing (symbols_of t) (header_of q) τ (tree_of q) f) k ∙ ap (λ gs. type_in gs k) e;
    }

-- the answer has that type and that one diagnostic, and there is no typing
pub record NoTyping (t q : List ℕ) (ty diagnostic : List ℕ) : Type 0 where
  pub answer : Fails t q ty diagnostic
  pub none : ¬ ((τ : Choice) × TypingOf t q τ)

pub no_typing : (t q ty diagnostic : List ℕ) → Accepted t q → Fails t q ty diagnostic → NoTyping t q ty diagnostic
no_typing t q ty diagnostic a f =
    record {
      answer = f;
      none = λ x.
          let m = (demand3 t q 20 a.table a.question).mark.1 x in
          let z = ap (λ (z : Answer). z.pass) f.answer in absurd (omega arith);
    }
