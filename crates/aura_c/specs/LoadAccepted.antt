-- The judge accepts what the test load writes. Document 02, order 1: "a question .. for an empty table", "Each question written is accepted".
use Rattle.std.specs.Prelude.{ℕ, ◌≤◌, List, ◌≡◌}
use Rattle.load.specs.Load.{load_question}
use Rattle.question.specs.Parse.{most_nodes}
use Rattle.record.specs.TableRefused.{table_fault}
use Rattle.typing.specs.Answer.{fault_of}

-- under every accepted table, so under the empty one, no number is drawn before judging
unfoldable pub LoadAccepted : ℕ → ℕ → Type 0
LoadAccepted start nodes = 1 ≤ nodes → nodes ≤ most_nodes → (t : List ℕ) → table_fault t ≡ 0 → fault_of t (load_question start nodes) ≡ 0
