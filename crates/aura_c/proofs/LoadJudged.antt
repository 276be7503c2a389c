-- The judge accepts what `aura_load` writes.
use Prim.Native.Nat.{ℕ, ◌≤◌}
use Rattle.aura_c.specs.LoadAccepted.{LoadAccepted}
use Rattle.load.specs.Order1.{LoadFine}
use Rattle.ty.specs.Choose.{choose}
use Rattle.typing.specs.Answer.{names_of, fault_of}

pub load_accepted : (start nodes : ℕ) → (1 ≤ nodes → nodes ≤ 64 → LoadFine start nodes) → LoadAccepted start nodes
unfolding LoadAccepted fault_of choose
load_accepted start nodes f p q t e = rw e ((f p q).accepted (names_of t))
