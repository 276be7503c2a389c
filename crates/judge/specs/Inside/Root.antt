-- The answer once the tree is judged, as the root's type and the state behind it say.
use Rattle.std.specs.Prelude.{ℕ, ◌*◌, eqb, ltb, length, Bool, ◌&&◌, List, ◌≡◌, Option, None, Some}
use Rattle.area.specs.Diagnostic.{record_length}
use Rattle.written.specs.Padding.{padded_to}
use Rattle.nodes.specs.declared.progress.State.{State}
use Rattle.judge.specs.RefusalNumber.{refusal_number}
use Rattle.judge.specs.declared.refusal.Refusal.{Refusal}
use Rattle.judge.specs.declared.refusal.Refusal.TheVariants.{TypeTooLong, ShortBuffer}
use Rattle.ty.specs.Bytes.{Ty}
use Rattle.ty.specs.Choose.{choose}
use Rattle.typing.specs.Answer as of
use Rattle.typing.specs.Answer.{answer_bytes, zeros, refused}
use Rattle.typing.specs.Mark.{mark_of}

-- whether a whole judgement with so many diagnostics passes
unfoldable pub passes_at : State → ℕ → Bool
passes_at s count = eqb count 0 && s.fine

-- Why a whole judgement is refused, if it is, where the root type has len bytes, there are so many diagnostics, and lent bytes are lent: 13, then 12.
unfoldable pub root_refusal : ℕ → ℕ → ℕ → Option Refusal
root_refusal len count lent = choose (ltb answer_bytes len) (Some TypeTooLong) (choose (ltb lent (record_length * count)) (Some ShortBuffer) None)

-- the answer by that, once the root has the type ty
unfoldable pub root_answer : Option Refusal → State → ℕ → Ty → of.Answer
root_answer None s count ty =
    record { number = 0; pass = mark_of (passes_at s count); ty = padded_to answer_bytes ty; len = length ty; count = count }
root_answer (Some r) s count ty = refused (refusal_number r)

-- the buffer by that, which was b
unfoldable pub root_buffer : Option Refusal → List ℕ → List ℕ
root_buffer None b = b
root_buffer (Some r) b = zeros (length b)

-- there are so many diagnostics, the root has the type ty, the buffer was b, and is all zero where the answer is a refusal
pub record RootIs (s : State) (count : ℕ) (ty : Ty) (b b' : List ℕ) (r : of.Answer) : Type 0 where
  pub answer : r ≡ root_answer (root_refusal (length ty) count (length b)) s count ty
  pub buffer : b' ≡ root_buffer (root_refusal (length ty) count (length b)) b
