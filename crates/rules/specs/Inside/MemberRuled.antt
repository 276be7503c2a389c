-- What the code of member nodes answers: the definition's `Out`.
use Rattle.std.specs.Prelude.{ℕ, true, List, ◌≡◌}
use Rattle.operators.specs.Inside.Ruled.{out_of}
use Rattle.operators.specs.declared.ruled.Ruled.{Ruled}
use Rattle.question.specs.declared.Header.{Header}
use Rattle.rules.specs.Member.{has_elements, member_out}
use Rattle.symbol.specs.Lookup.{symbols_of}
use Rattle.ty.specs.Bytes.{Ty, inner_of}

-- an object holds what its base holds, where that has elements
abbrev pub HoldsSame : Ty → Ty → Type 0
HoldsSame x base = has_elements base ≡ true → inner_of x ≡ inner_of base

-- what a member node's answer stands for; there is no second child
abbrev pub MemberRuled : List ℕ → Header → ℕ → Ty → Ruled → Type 0
MemberRuled table H id t a = (y : List ℕ) → out_of table t y a ≡ member_out (symbols_of table) H id t
