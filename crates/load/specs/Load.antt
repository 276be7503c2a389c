-- The test load. Document 02, order 1: "From a 32-bit start number and a node count the part writes a question with header FF FF FF FF 00 (hex) for an empty
-- table. .. It refuses a node count outside 1 to 64 with 14, then a buffer too short for the question with 15, writing only zeros."
use Rattle.std.specs.Prelude.{ℕ, ◌+◌, ◌*◌, ◌||◌, List, [], ◌∷◌, ◌++◌, ◌==◌, nat_lt}
use Rattle.load.specs.DrawnTree.{drawn_tree}
use Rattle.question.specs.Parse.{most_nodes}
use Rattle.question.specs.Write.{write_tree}
use Rattle.ty.specs.Choose.{choose}
use Rattle.written.specs.Output.{Output, wrote, refused}
use Rattle.written.specs.declared.WriteFault.TheVariants.{BadCount, TooShort}
use Rattle.written.specs.declared.WriteFault.{WriteFault}

-- "header FF FF FF FF 00 (hex)"
abbrev pub load_header : List ℕ
load_header = 255 ∷ 255 ∷ 255 ∷ 255 ∷ 0 ∷ []

-- the question of so many nodes: the start number is the state before the first draw
unfoldable pub load_question : ℕ → ℕ → List ℕ
load_question start nodes = load_header ++ write_tree (drawn_tree nodes start).tree

-- how many bytes that are: each node has two
abbrev pub load_bytes : ℕ → ℕ
load_bytes nodes = 5 + 2 * nodes

-- what the part does, with so many bytes lent
unfoldable pub load_of : ℕ → ℕ → ℕ → Output WriteFault
load_of start nodes lent =
    choose (nodes == 0 || nat_lt most_nodes nodes) (refused BadCount)
    (choose (nat_lt lent (load_bytes nodes)) (refused TooShort)
    (wrote (load_question start nodes)))
