-- What the part that writes one tree leaves: the tree's bytes from `at` on, and as its answer r the state behind the last draw.
use Rattle.std.specs.Prelude.{◌≡◌, ℕ, List}
use Rattle.std.proofs.lemmas.List.Edits.{sets}
use Rattle.load.specs.DrawnTree.{drawn_tree}
use Rattle.question.specs.Write.{write_tree}

pub record WritesTree (nodes state at : ℕ) (before after : List ℕ) (r : ℕ) : Type 0 where
  pub behind : r ≡ (drawn_tree nodes state).state
  pub buffer : after ≡ sets before at (write_tree (drawn_tree nodes state).tree)
