use Rattle.console.proofs.print.Writer.+put_decimal.Given as goal

-- the number falls
abbrev pub decreases-put_decimal : goal.decreases-put_decimal
decreases-put_decimal l = l.n
