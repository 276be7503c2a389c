-- What stands in the places behind a call's arguments.
use Rattle.std.specs.Prelude.{None}
use Rattle.scoring.specs.declared.args.Arg.{Arg}

abbrev pub no_arg : Arg
no_arg = record { node = 0; name = None }
