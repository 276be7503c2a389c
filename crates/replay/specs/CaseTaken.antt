-- What a case that was judged took from the input: a table, a question and the expected text, each behind its length in 2 bytes.
use Rattle.std.specs.Prelude.{ℕ, Option, Bool, true, false, ⊤, length, List, ◌++◌, ◌≡◌}
use Rattle.std.specs.Io.KnownBytes.{Consumes}
use Rattle.judge_text.specs.ProgramText.{answer_text, program_buffer}
use Rattle.replay.specs.declared.Case.{Case}
use Rattle.replay.specs.declared.Case.TheVariants.{End, Agrees, Differs, Broken}
use Rattle.ty.specs.Bytes.{id_at, same_bytes}

-- two bytes, which make a part's length
abbrev pub LengthOf : List ℕ → List ℕ → Type 0
LengthOf head part = (length head ≡ 2) × (id_at head 0 ≡ length part)

-- where a reader's bytes are known, it lost those of a case with these parts
pub record CaseTaken (old new : Option (List ℕ)) (table question expected : List ℕ) : Type 0 where
  pub a : List ℕ
  pub b : List ℕ
  pub c : List ℕ
  pub table_length : LengthOf a table
  pub question_length : LengthOf b question
  pub expected_length : LengthOf c expected
  pub taken : Consumes old new ((a ++ table) ++ ((b ++ question) ++ (c ++ expected)))

-- what is said of a table, a question and an expected text: whether they agree
abbrev pub Saying : Type 1
Saying = List ℕ → List ℕ → List ℕ → Bool → Type 0

-- a case was taken, and of its parts this is said
pub record CaseJudged (old new : Option (List ℕ)) (Says : Saying) (so : Bool) : Type 0 where
  pub table : List ℕ
  pub question : List ℕ
  pub expected : List ℕ
  pub parts : CaseTaken old new table question expected
  pub says : Says table question expected so

-- a case that agrees or differs was taken; of the input's end, or of its breaking off, nothing is said, as a read may have failed
abbrev pub CaseOf : Option (List ℕ) → Option (List ℕ) → Saying → Case → Type 0
CaseOf old new Says End = ⊤
CaseOf old new Says Agrees = CaseJudged old new Says true
CaseOf old new Says Differs = CaseJudged old new Says false
CaseOf old new Says Broken = ⊤

-- the text that the judge's program prints is the expected one
abbrev pub WholeText : Saying
WholeText table question expected so = so ≡ same_bytes (answer_text table question program_buffer) expected
