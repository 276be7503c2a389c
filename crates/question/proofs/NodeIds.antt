-- The highest id of a node decides whether all of its ids are defined: what the code finds of a node is the node's number.
use Prim.Native.Nat.{ℕ}
use lib.ListN.{drop}
use mathlib.Core.Bool.{Bool, true, false, ◌&&◌}
use mathlib.Core.List.{List}
use mathlib.Core.Path.{◌≡◌, refl}
use Rattle.question.specs.Inside.Top.{id_fault, endless_fault, read_fault}
use Rattle.question.specs.NodeRead.{leaf_of, node_of, node_in, node_at}
use Rattle.question.specs.QuestionRefused.{defined, node_ids, shape_fault, node_fault}
use Rattle.question.specs.declared.Names.{Names}
use Rattle.question.specs.NodeRead.{Bad, Binary, Unary, Named, Member, Call, Method}
use Rattle.question.specs.NodeRead.{NodeRead}
use Rattle.ty.proofs.Choice.{by_choice}
use Rattle.ty.proofs.Ids.{whole-defined, endless-defined}
use Rattle.std.specs.Prelude.{Result, Ok, Err}
use Rattle.ty.specs.Choose.{choose}
use Rattle.ty.specs.Name.{all_defined}
use Rattle.ty.specs.Read.{read_type, longest_type}
use Rattle.ty.specs.declared.read.TypeFault.TheVariants.{Cut, Malformed, Endless as Unended}
use Rattle.ty.specs.declared.read.TypeFault.{TypeFault}
use Rattle.ty.specs.declared.read.TypeRead.{TypeRead}

and_true : (t : Bool) → t && true ≡ t
and_true true = refl
and_true false = refl

module _ (N : Names) (s : List ℕ) where
  -- what is found of h, which stands at the front of s, is its number
  unfoldable Same : NodeRead → Type 0
  Same h = read_fault N h ≡ choose (all_defined (node_ids h s) N.count) (shape_fault h) 10

  at_bad : Same Bad
  unfolding Same read_fault node_ids shape_fault all_defined choose
  at_bad = refl

  at_binary : (op : ℕ) → Same (Binary op)
  unfolding Same read_fault node_ids shape_fault all_defined choose
  at_binary op = refl

  at_unary : (op : ℕ) → Same (Unary op)
  unfolding Same read_fault node_ids shape_fault all_defined choose
  at_unary op = refl

  at_named : (id : ℕ) → Same (Named id)
  unfolding Same read_fault id_fault node_ids shape_fault all_defined
  at_named id = rw (and_true (defined N id))

  at_member : (id : ℕ) → Same (Member id)
  unfolding Same read_fault id_fault node_ids shape_fault all_defined
  at_member id = rw (and_true (defined N id))

  at_call : (id n : ℕ) → Same (Call id n)
  unfolding Same read_fault id_fault node_ids shape_fault all_defined
  at_call id n = rw (and_true (defined N id))

  at_method : (id n : ℕ) → Same (Method id n)
  unfolding Same read_fault id_fault node_ids shape_fault all_defined
  at_method id n = rw (and_true (defined N id))

  at_leaf : (r : Result TypeRead TypeFault) → read_type (drop 1 s) longest_type ≡ r → Same (leaf_of r)
  unfolding Same leaf_of read_fault id_fault endless_fault node_ids shape_fault
  at_leaf (Ok r) e = rw (whole-defined (drop 1 s) longest_type r.len r.top r.error N.count e)
  at_leaf (Err Cut) e = at_bad
  at_leaf (Err Malformed) e = at_bad
  at_leaf (Err (Unended top error)) e = rw (endless-defined (drop 1 s) longest_type top error N.count e)

  same_in : Same (node_in s)
  unfolding node_in node_of
  same_in =
      by_choice Same _ (λ _. at_leaf (read_type (drop 1 s) longest_type) refl) λ _.
      by_choice Same _ (λ _. at_binary _) λ _.
      by_choice Same _ (λ _. at_unary _) λ _.
      by_choice Same _ (λ _. at_named _) λ _.
      by_choice Same _ (λ _. at_member _) λ _.
      by_choice Same _ (λ _. at_call _ _) λ _.
      by_choice Same _ (λ _. at_method _ _) λ _.
      at_bad

pub same_fault : (N : Names) (q : List ℕ) (at : ℕ) → read_fault N (node_at q at) ≡ node_fault N q at
unfolding node_fault node_at Same
same_fault N q at = same_in N (drop at q)
