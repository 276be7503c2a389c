-- What order 5 claims of members. Document 02: "All Array rules cover both kinds and are shown for either width together." `is_array` holds of an Array of
-- either width: its members are a List's, by its element type, and no access check is asked.
use Rattle.std.specs.Prelude.{ℕ, true, ◌≡◌}
use Rattle.question.specs.declared.Header.{Header}
use Rattle.rules.specs.Member.{element_member, member_out}
use Rattle.symbol.specs.Symbols.{Symbols}
use Rattle.ty.specs.Bytes.{Ty, is_array, inner_of}

abbrev pub ArrayMembers : Symbols → Header → ℕ → Ty → Type 0
ArrayMembers S H id t = is_array t ≡ true → member_out S H id t ≡ element_member (inner_of t) id
