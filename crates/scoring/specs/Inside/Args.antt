-- A call's arguments as they are handed on: of each its node and its name; the type of a node is in the node's slot.
use Rattle.std.specs.Prelude.{List, [], ◌∷◌}
use Rattle.area.specs.Inside.Slot.{type_at}
use Rattle.symbol.specs.Inside.LookupAnswer.{optional}
use Rattle.ty.specs.Bytes.{Ty}
use Rattle.scoring.specs.Arg.{Arg as Seen}
use Rattle.scoring.specs.declared.args.Arg.{Arg}

-- the arguments as their call sees them
unfoldable pub args_in : List Ty → List Arg → List Seen
args_in ts [] = []
args_in ts (x ∷ xs) = record { name = optional x.name; ty = type_at ts x.node; node = x.node } ∷ args_in ts xs
