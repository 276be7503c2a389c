-- What reading a case leaves in the lent slices, and what is answered of what then stands in them. What it takes from the input says `CaseTaken`.
use Rattle.std.specs.Prelude.{ℕ, Option, ◌≤◌, length, take, drop, List, ◌++◌, ◌⊎◌, ◌≡◌}
use Rattle.std.specs.Io.KnownBytes.{Consumes}
use Rattle.ty.specs.Bytes.{id_at}
use Rattle.console.specs.Buffer.{Counts, holding}
use Rattle.judge_text.specs.ProgramText.{answer_text}
use Rattle.replay.specs.Agreement.{agreement}
use Rattle.replay.specs.declared.Case.{Case}
use Rattle.replay.specs.declared.Case.TheVariants.{End, Agrees, Differs, Broken}
use Rattle.ty.specs.Choose.{choose}
use Rattle.ty.specs.Slice.{Borrowed}
use Rattle.typing.specs.Answer.{buffer_of}

-- a length n was read: where the input's bytes are known, it lost two, which make that number
abbrev pub LengthRead : Option (List ℕ) → Option (List ℕ) → ℕ → Type 0
LengthRead old new n = (bs : List ℕ) × Consumes old new bs × (length bs ≡ 2) × (id_at bs 0 ≡ n)

-- a part of n bytes was read: where the input's bytes are known, it lost two, which make that number, and then the part's
abbrev pub PartFrom : Option (List ℕ) → Option (List ℕ) → ℕ → List ℕ → Type 0
PartFrom old new n part = (bs : List ℕ) × Consumes old new (bs ++ part) × (length bs ≡ 2) × (id_at bs 0 ≡ n)

-- the first n bytes of s, of which it has so many, were read; behind them it is as it was: now it is s'
pub record PartRead (s s' : List ℕ) (n : ℕ) : Type 0 where
  pub most : n ≤ 65535
  pub counts : Counts n s'
  pub rest : drop n s' ≡ drop n s

-- a part was read to the front of a lent slice
abbrev pub ReadTo : Borrowed → ℕ → Type 0
ReadTo s n = PartRead s.entry.now s.exit.now n

abbrev pub Unchanged : Borrowed → Type 0
Unchanged s = s.exit.now ≡ s.entry.now

-- the input ended before a case
pub record Ended (question expected diagnostics out : Borrowed) (r : Case) : Type 0 where
  pub number : r ≡ End
  pub question_kept : Unchanged question
  pub expected_kept : Unchanged expected
  pub diagnostics_kept : Unchanged diagnostics
  pub out_kept : Unchanged out

-- it ended within one, or a part had no room
pub record BrokenOff (diagnostics out : Borrowed) (r : Case) : Type 0 where
  pub number : r ≡ Broken
  pub diagnostics_kept : Unchanged diagnostics
  pub out_kept : Unchanged out

-- a table, a question and a text were read and judged
pub record Compared (table question expected diagnostics out : Borrowed) (r : Case) : Type 0 where
  pub t : ℕ
  pub q : ℕ
  pub e : ℕ
  pub table_read : ReadTo table t
  pub question_read : ReadTo question q
  pub expected_read : ReadTo expected e
  pub number : r ≡ choose (agreement (take t table.exit.now) (take q question.exit.now) (take e expected.exit.now)
      (length diagnostics.entry.now) (length out.entry.now)) Agrees Differs
  pub text : out.exit.now
      ≡ holding (length out.entry.now) (answer_text (take t table.exit.now) (take q question.exit.now) (length diagnostics.entry.now))
  pub buffer : diagnostics.exit.now
      ≡ buffer_of (take t table.exit.now) (take q question.exit.now) (length diagnostics.entry.now)

-- one of the three
abbrev pub CaseRead : Borrowed → Borrowed → Borrowed → Borrowed → Borrowed → Case → Type 0
CaseRead table question expected diagnostics out r =
    Ended question expected diagnostics out r ⊎ (BrokenOff diagnostics out r ⊎ Compared table question expected diagnostics out r)
