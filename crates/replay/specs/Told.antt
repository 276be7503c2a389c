-- What the program prints of a run.
use Rattle.std.specs.Prelude.{ℕ, List, ◌++◌}
use lib.Chars.{codes}
use Rattle.std.specs.Fmt.{decimal}
use Rattle.replay.specs.declared.Case.{Case}
use Rattle.replay.specs.declared.Case.TheVariants.{End, Agrees, Differs, Broken}

-- how many cases agree, and what the next one came to, which is the one of that number, counted from 0
unfoldable pub told : ℕ → Case → List ℕ
told n End = decimal n ++ codes " cases agree\n"
told n Agrees = decimal n ++ codes " cases agree\n"
told n Differs = decimal n ++ codes " cases agree, not case " ++ decimal n ++ codes "\n"
told n Broken = decimal n ++ codes " cases agree, then the input breaks off\n"
