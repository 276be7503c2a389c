-- No node is read where a byte is no kind's.
use Prim.Native.Nat.{ℕ}
use borrow.Author.Tests.{ne_eqb}
use lib.ListN.{length, get_or}
use mathlib.Core.List.{List}
use mathlib.Core.Path.{◌≡◌, sym}
use Rattle.question.specs.Node.{read_of}
use Rattle.question.specs.NodeKind.{node_kind_number}
use Rattle.question.specs.NodeRead.{Bad, node_of, node_in}
use Rattle.question.specs.declared.node.Node.{Node}
use Rattle.question.specs.declared.node.NodeFault.TheVariants.{Bad as BadNode}
use Rattle.question.specs.declared.node.NodeFault.{NodeFault}
use Rattle.question.specs.declared.node.NodeKind.TheVariants.{Leaf as LeafKind, Binary as BinaryKind, Unary as UnaryKind, Named as NamedKind}
use Rattle.question.specs.declared.node.NodeKind.TheVariants.{Member as MemberKind, Call as CallKind, Method as MethodKind}
use Rattle.question.specs.declared.node.NodeKind.{NodeKind}
use Rattle.std.specs.Prelude.{Result, Ok, Err, IsErrAnd}
use Rattle.ty.specs.Choose.{choose}
use Rattle.ty.specs.Kind.{no_kind}

-- no kind has the number k
module _ (k : ℕ) (h : (kind : NodeKind) → node_kind_number kind ≡ k → ⊥) where
  not : (kind : NodeKind) → k ≡ node_kind_number kind → ⊥
  not kind e = h kind (sym e)

  none_of : (there op id n : ℕ) → node_of k there op id n ≡ Bad
  unfolding node_of choose
  none_of there op id n =
      simp (
        ne_eqb k 1 (not BinaryKind),
        ne_eqb k 2 (not UnaryKind),
        ne_eqb k 3 (not NamedKind),
        ne_eqb k 4 (not MemberKind),
        ne_eqb k 5 (not CallKind),
        ne_eqb k 6 (not MethodKind),
      )

module _ (s : List ℕ) where
  pub unknown_kind : (r : Result Node NodeFault) → IsErrAnd r (λ fault. fault ≡ BadNode)
      → ((kind : NodeKind) → node_kind_number kind ≡ get_or s 0 no_kind → ⊥) → read_of r ≡ node_in s
  unfolding node_in choose
  unknown_kind (Ok node) f h = absurd f
  unknown_kind (Err fault) f h =
      rw (f, ne_eqb (get_or s 0 no_kind) 0 (not _ h LeafKind)) (sym (none_of _ h (length s) _ _ _))
