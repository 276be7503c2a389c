-- What stands in the places behind a function's parameters.
use Rattle.std.specs.Prelude.{false}
use Rattle.symbol.specs.declared.functions.Param.{Param}

abbrev pub no_param : Param
no_param = record { name = 0; default = false; vararg = false; part = record { start = 0; len = 0 } }
