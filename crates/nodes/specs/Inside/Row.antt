-- A call's arguments as the row judge hands them on: of each its node and its name.
use Rattle.std.specs.Prelude.{ℕ, List, [], ◌∷◌, Some, None}
use Rattle.std.specs.Prelude as std
use Rattle.std.proofs.Math.Option.{Option, none, some}
use Rattle.scoring.specs.Arg.{Arg}
use Rattle.scoring.specs.declared.args.Arg.{Arg as Handed}
use Rattle.question.specs.NodeRead.{node_at}
use Rattle.question.specs.NodeRead.{Bad, Leaf, Endless, Binary, Unary, Named, Member, Call, Method}
use Rattle.question.specs.NodeRead.{NodeRead}
use Rattle.ty.specs.Bytes.{Ty}
use Rattle.ty.specs.Name.{no_id}

-- the name that a node gives to the argument that it is
unfoldable pub name_read : NodeRead → std.Option ℕ
name_read Bad = None
name_read (Leaf len top) = None
name_read (Endless top) = None
name_read (Binary op) = None
name_read (Unary op) = None
name_read (Named id) = Some id
name_read (Member id) = None
name_read (Call id n) = None
name_read (Method id n) = None

abbrev pub name_at : List ℕ → ℕ → std.Option ℕ
name_at q at = name_read (node_at q at)

-- the number that stands for a name, 65,535 for none
unfoldable pub id_of : Option ℕ → ℕ
id_of none = no_id
id_of (some id) = id

abbrev pub as_option : Option ℕ → std.Option ℕ
as_option none = None
as_option (some id) = Some id

-- the arguments as they are handed on, and their types
unfoldable pub handed_on : List Arg → List Handed
handed_on [] = []
handed_on (x ∷ xs) = record { node = x.node; name = as_option x.name } ∷ handed_on xs

unfoldable pub nodes_of : List Arg → List ℕ
nodes_of [] = []
nodes_of (x ∷ xs) = x.node ∷ nodes_of xs

unfoldable pub tys_of : List Arg → List Ty
tys_of [] = []
tys_of (x ∷ xs) = x.ty ∷ tys_of xs
