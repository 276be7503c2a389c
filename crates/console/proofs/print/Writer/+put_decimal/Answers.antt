use Prim.Native.Nat.{◌+◌, ◌%◌}
use mathlib.Core.Path.{◌≡◌, refl}
use native.Mathlib.Omega.{arith}
use Rattle.console.proofs.Writing.{wrote_one, wrote_more}
use Rattle.console.proofs.print.Writer.+put_decimal.Goals as goal

pub returns-then-n-lt10 : goal.returns-then-n-lt10
returns-then-n-lt10 t c = let d : 48 + c.args.n ≡ 48 + c.args.n % 10 = omega arith in
    wrote_one c.args.n c.if-n-lt10.true d c.put_byte.ensures

pub returns : goal.returns
returns t c = wrote_more c.args.n c.if-n-lt10.false c.put_decimal.ensures refl c.put_byte-2.ensures
