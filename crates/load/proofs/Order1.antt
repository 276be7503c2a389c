-- The claims of order 1.
use Rattle.std.proofs.Common.{◌≡◌, ℕ, ◌≤◌, false, refl, ap, ◌∙◌, arith}
use Rattle.load.proofs.Fits.{fits}
use Rattle.load.specs.DrawnTree.{drawn_tree}
use Rattle.load.specs.Load.{load_question}
use Rattle.load.specs.Order1.{LoadFine}
use Rattle.question.proofs.WrittenTrees.{reads_back}
use Rattle.question.specs.Parse.{most_nodes}
use Rattle.question.specs.ReadBack.{ReadsBack}
use Rattle.question.specs.Tree.{size}
use Rattle.question.specs.Write.{write_suspend, write_header, write_question}
use Rattle.question.specs.declared.Header.{Header}
use Rattle.question.specs.declared.Names.{Names}
use Rattle.ty.specs.Name.{no_id}

-- no current type, no package, in no suspend function
abbrev none_header : Header
none_header = record { current = no_id; pkg = no_id; suspend = false }

load_written : (start nodes : ℕ) → load_question start nodes ≡ write_question none_header (drawn_tree nodes start).tree
unfolding load_question write_question write_header write_suspend
load_written start nodes = refl

-- names without any of a table
abbrev no_names : Names
no_names = record { count = 0 }

pub load_fine : (start nodes : ℕ) → 1 ≤ nodes → nodes ≤ most_nodes → LoadFine start nodes
load_fine start nodes p q =
    let f = fits nodes start p in
    let few : size (drawn_tree nodes start).tree ≤ most_nodes = omega (arith, f.sized) in
    let w = load_written start nodes in
    let b : (N : Names) → ReadsBack N none_header (drawn_tree nodes start).tree = λ N. reads_back N none_header (drawn_tree nodes start).tree (f.legal N) few in
    record {
      accepted = λ N. rw w ((b N).accepted refl refl);
      tree = rw w (b no_names).tree;
      count = rw w (ap size (b no_names).tree ∙ f.sized);
      long = rw w (omega (arith, (b no_names).long, f.long));
    }
