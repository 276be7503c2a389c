-- Worked questions, computed from the definitions.
use Rattle.std.proofs.Common.{◌≡◌, [], ◌∷◌, refl}
use Rattle.load.specs.Draw.{stepped, taken_from}
use Rattle.load.specs.DrawnTree.{drawn_leaf, unary_over, drawn_unary, left_nodes, binary_behind, drawn_binary, drawn_inner, drawn_in, drawn_tree}
use Rattle.load.specs.Load.{load_question, load_of}
use Rattle.question.specs.Tree.{size}
use Rattle.question.specs.Write.{write_tree}
use Rattle.ty.specs.Choose.{choose}
use Rattle.written.specs.Output.{refused, lent_after}
use Rattle.written.specs.declared.WriteFault.TheVariants.{BadCount, TooShort}

record Worked : Type 0 where
  -- one leaf
  one : load_question 0 1 ≡ 255 ∷ 255 ∷ 255 ∷ 255 ∷ 0 ∷ 0 ∷ 2 ∷ []
  -- start number 1, five nodes: four unaries over a leaf
  five : load_question 1 5 ≡ 255 ∷ 255 ∷ 255 ∷ 255 ∷ 0 ∷ 2 ∷ 1 ∷ 2 ∷ 2 ∷ 2 ∷ 3 ∷ 2 ∷ 3 ∷ 0 ∷ 6 ∷ []
  -- a binary of three nodes
  three : load_question 2 3 ≡ 255 ∷ 255 ∷ 255 ∷ 255 ∷ 0 ∷ 1 ∷ 14 ∷ 0 ∷ 9 ∷ 0 ∷ 9 ∷ []
  -- no node, too many, and one byte too few
  none : load_of 7 0 0 ≡ refused BadCount
  many : load_of 7 65 1000 ≡ refused BadCount
  short : load_of 7 64 132 ≡ refused TooShort
  zeros : lent_after 3 (load_of 7 64 3) ≡ 0 ∷ 0 ∷ 0 ∷ []
  -- the most nodes, from the largest start number
  all : size (drawn_tree 64 4_294_967_295).tree ≡ 64

worked : Worked
unfolding stepped taken_from drawn_leaf unary_over drawn_unary left_nodes binary_behind drawn_binary drawn_inner drawn_in drawn_tree load_question load_of size write_tree choose lent_after
worked = record { one = refl; five = refl; three = refl; none = refl; many = refl; short = refl; zeros = refl; all = refl }
