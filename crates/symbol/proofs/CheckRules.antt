-- The lemmas that the functions of the check cite together.
use Rattle.symbol.proofs.ParentLate.{one_none, one_before, one_told}

-- of a class without an earlier record
pub ruleset missing_rules = (one_none, one_before, one_told)
