-- How the code decides whether an id of a node is undefined: by the highest one. proofs/Ids.antt says that this is `node_fault`.
use Rattle.std.specs.Prelude.{ℕ}
use Rattle.question.specs.QuestionRefused.{defined}
use Rattle.question.specs.declared.Names.{Names}
use Rattle.question.specs.NodeRead.{Bad, Leaf, Endless, Binary, Unary, Named, Member, Call, Method}
use Rattle.question.specs.NodeRead.{NodeRead}
use Rattle.ty.specs.Choose.{choose}

unfoldable pub id_fault : Names → ℕ → ℕ
id_fault N id = choose (defined N id) 0 10

-- a leaf type without end: an undefined id in it has the lower number
unfoldable pub endless_fault : Names → ℕ → ℕ
endless_fault N top = choose (defined N top) 11 10

-- the number of a node, by what reading it finds
unfoldable pub read_fault : Names → NodeRead → ℕ
read_fault N Bad = 8
read_fault N (Leaf len top) = id_fault N top
read_fault N (Endless top) = endless_fault N top
read_fault N (Binary op) = 0
read_fault N (Unary op) = 0
read_fault N (Named id) = id_fault N id
read_fault N (Member id) = id_fault N id
read_fault N (Call id n) = id_fault N id
read_fault N (Method id n) = id_fault N id
