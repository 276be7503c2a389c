use borrow.Author.Tests.{eqb-true}
use lib.Dec.{eqb, ltb, leb}
use mathlib.Core.Bool.{Bool, beq, true, false, not, ◌&&◌, ◌||◌}
use mathlib.Core.Path.{◌≡◌, refl, sym}
use Rattle.record.specs.Inside.Front.{good_byte}
use Rattle.ty.specs.Choose.{choose}
use Rattle.record.proofs.front.good_byte.Goals as goal

-- inside the name a byte is good, behind it zero, and a good byte is not zero
by_place : (inside zero good : Bool) → (zero ≡ true → good ≡ false) → not (beq inside zero) && (zero || good) ≡ choose inside good zero
unfolding choose
by_place true true good h = sym (h refl)
by_place true false good h = refl
by_place false true good h = refl
by_place false false good h = refl

pub returns : goal.returns
unfolding good_byte
returns c = let b = c.args.b in by_place (ltb c.args.i c.args.n) (eqb b 0) (leb 33 b && (leb b 126 && not (eqb b 46))) (λ e. rw (eqb-true b 0 e))
