-- What order 1 claims, for every start number and every node count from 1 to 64. Document 02: "Each question written is accepted and has exactly the wanted
-- nodes."
use Rattle.std.specs.Prelude.{◌≡◌, ℕ, length}
use Rattle.load.specs.DrawnTree.{drawn_tree}
use Rattle.load.specs.Load.{load_question, load_bytes}
use Rattle.question.specs.Parse.{tree_of}
use Rattle.question.specs.QuestionRefused.{question_fault}
use Rattle.question.specs.Tree.{size}
use Rattle.question.specs.declared.Names.{Names}

pub record LoadFine (start nodes : ℕ) : Type 0 where
  -- "accepted": under the names of the empty table, and under any others, as it has no id
  pub accepted : (N : Names) → question_fault N (load_question start nodes) ≡ 0
  -- the tree that is read is the drawn one
  pub tree : tree_of (load_question start nodes) ≡ (drawn_tree nodes start).tree
  -- "exactly the wanted nodes"
  pub count : size (tree_of (load_question start nodes)) ≡ nodes
  -- and 5 + 2 × nodes bytes
  pub long : length (load_question start nodes) ≡ load_bytes nodes
