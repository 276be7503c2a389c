-- Worked questions, computed from the definitions.
use Prim.Native.Nat.{ℕ, zero, suc}
use lib.ListN.{replicate}
use mathlib.Core.List.{List, [], ◌∷◌, ◌++◌}
use mathlib.Core.Path.{◌≡◌, refl}
use Rattle.question.specs.Header.{header_of}
use Rattle.question.specs.Parse.{first, rest, take_row, drop_row, onto, row_at, tree_of}
use Rattle.question.specs.NodeRead.{leaf_of, node_of, node_in, node_at, own_bytes, children}
use Rattle.question.specs.QuestionRefused.{header_fault, node_ids, shape_fault, node_fault, more_fault, end_fault, nodes_fault, tree_fault, question_fault}
use Rattle.question.specs.Tree.{leaf, binary, unary, named, member, call, method, nil, cons}
use Rattle.ty.specs.Choose.{choose}
use Rattle.ty.specs.Name.{all_defined}
use Rattle.ty.specs.Bytes.{size_width}
use Rattle.ty.specs.Read.{body_length, child_count, number_at, id_in, item_of, item_at, no_end, read_from, read_type}
use Rattle.ty.specs.Ids.{own_ids, ids_from, ids_in}

-- the number of a question under so many table names
abbrev number : ℕ → List ℕ → ℕ
number n q = question_fault (record { count = n }) q

-- a header without current type and package, before a tree
abbrev under : List ℕ → List ℕ
under t = 255 ∷ 255 ∷ 255 ∷ 255 ∷ 0 ∷ t

-- n times unary operator 6 (NotNull)
nest : ℕ → List ℕ → List ℕ
nest zero t = t
nest (suc n) t = 2 ∷ 6 ∷ nest n t

-- each is a question, its number of names and its number
record Numbers : Type 0 where
  -- document 01: NotNull over Int
  sample : number 0 (under (2 ∷ 6 ∷ 0 ∷ 0 ∷ [])) ≡ 0
  -- no bytes
  none : number 0 ([]) ≡ 8
  -- a header of 4 bytes
  header_short : number 0 (255 ∷ 255 ∷ 255 ∷ 255 ∷ []) ≡ 8
  -- a header and no tree
  header_only : number 0 (under []) ≡ 8
  -- in-suspend 2
  suspend_two : number 0 (255 ∷ 255 ∷ 255 ∷ 255 ∷ 2 ∷ 0 ∷ 0 ∷ []) ≡ 8
  -- in-suspend 1
  suspend_one : number 0 (255 ∷ 255 ∷ 255 ∷ 255 ∷ 1 ∷ 0 ∷ 0 ∷ []) ≡ 0
  -- current type 40 of no table names
  current_unknown : number 0 (40 ∷ 0 ∷ 255 ∷ 255 ∷ 0 ∷ 0 ∷ 0 ∷ []) ≡ 10
  package_unknown : number 1 (40 ∷ 0 ∷ 41 ∷ 0 ∷ 0 ∷ 0 ∷ 0 ∷ []) ≡ 10
  package_known : number 2 (40 ∷ 0 ∷ 41 ∷ 0 ∷ 0 ∷ 0 ∷ 0 ∷ []) ≡ 0
  -- an undefined id in the header before a malformed node
  header_first : number 0 (40 ∷ 0 ∷ 255 ∷ 255 ∷ 0 ∷ 9 ∷ []) ≡ 10
  -- a malformed header with an undefined id
  suspend_first : number 0 (40 ∷ 0 ∷ 255 ∷ 255 ∷ 2 ∷ 0 ∷ 0 ∷ []) ≡ 8
  -- 16,384 bytes: the header is looked at
  longest : number 0 (40 ∷ 0 ∷ 255 ∷ 255 ∷ 0 ∷ replicate 16379 0) ≡ 10
  -- 16,385 bytes: it is not
  too_long : number 0 (40 ∷ 0 ∷ 255 ∷ 255 ∷ 0 ∷ replicate 16380 0) ≡ 8
  binary_last : number 0 (under (1 ∷ 22 ∷ 0 ∷ 0 ∷ 0 ∷ 0 ∷ [])) ≡ 0
  binary_past : number 0 (under (1 ∷ 23 ∷ 0 ∷ 0 ∷ 0 ∷ 0 ∷ [])) ≡ 8
  unary_past : number 0 (under (2 ∷ 7 ∷ 0 ∷ 0 ∷ [])) ≡ 8
  kind_past : number 0 (under (7 ∷ 0 ∷ 0 ∷ 0 ∷ [])) ≡ 8
  count_most : number 0 (under (5 ∷ 0 ∷ 0 ∷ 16 ∷ replicate 32 0)) ≡ 0
  count_past : number 0 (under (5 ∷ 0 ∷ 0 ∷ 17 ∷ replicate 34 0)) ≡ 8
  -- a method call: an object and one argument
  object_first : number 0 (under (6 ∷ 39 ∷ 0 ∷ 1 ∷ 0 ∷ 0 ∷ 0 ∷ 8 ∷ [])) ≡ 0
  argument_missing : number 0 (under (6 ∷ 39 ∷ 0 ∷ 1 ∷ 0 ∷ 0 ∷ [])) ≡ 8
  -- bytes behind the tree
  behind : number 0 (under (0 ∷ 0 ∷ 0 ∷ [])) ≡ 8
  id_unknown : number 0 (under (4 ∷ 40 ∷ 0 ∷ 0 ∷ 0 ∷ [])) ≡ 10
  -- 65,535 in a node
  id_none : number 100 (under (4 ∷ 255 ∷ 255 ∷ 0 ∷ 0 ∷ [])) ≡ 10
  id_known_lem : number 1 (under (3 ∷ 40 ∷ 0 ∷ 0 ∷ 0 ∷ [])) ≡ 0
  -- the first faulty node has an undefined id, a later one is cut
  id_before_cut : number 0 (under (4 ∷ 40 ∷ 0 ∷ 0 ∷ [])) ≡ 10
  -- a node cut behind an undefined id
  id_cut : number 0 (under (5 ∷ 40 ∷ 0 ∷ [])) ≡ 8
  type_id : number 0 (under (0 ∷ 17 ∷ 40 ∷ 0 ∷ [])) ≡ 10
  -- a type cut behind an undefined id
  type_cut : number 0 (under (0 ∷ 16 ∷ 17 ∷ 40 ∷ 0 ∷ [])) ≡ 8
  -- 191 Nullables over Int
  type_whole : number 0 (under (0 ∷ replicate 191 12 ++ (0 ∷ []))) ≡ 0
  -- 192 Nullables
  type_endless : number 0 (under (0 ∷ replicate 192 12 ++ (0 ∷ []))) ≡ 11
  -- an undefined id and no end
  type_endless_id : number 0 (under (0 ∷ 16 ∷ 17 ∷ 40 ∷ 0 ∷ replicate 192 12)) ≡ 10
  -- 191 bytes and no end: cut
  type_short_lem : number 0 (under (0 ∷ replicate 191 12)) ≡ 8
  -- 64 nodes
  nodes_most : number 0 (under (nest 63 (0 ∷ 0 ∷ []))) ≡ 0
  -- 65 nodes
  nodes_past : number 0 (under (nest 64 (0 ∷ 0 ∷ []))) ≡ 9
  -- the 65th has an undefined id
  nodes_past_id : number 0 (under (nest 64 (0 ∷ 17 ∷ 40 ∷ 0 ∷ []))) ≡ 9
  -- the 65th has a type without end
  nodes_past_endless : number 0 (under (nest 64 (0 ∷ replicate 192 12))) ≡ 9
  -- the 65th is cut
  nodes_past_cut : number 0 (under (nest 64 (0 ∷ []))) ≡ 8

numbers : Numbers
unfolding choose nest header_of leaf_of node_of node_in node_at own_bytes children first rest take_row drop_row onto row_at tree_of header_fault node_ids shape_fault node_fault all_defined more_fault end_fault nodes_fault tree_fault question_fault size_width body_length child_count number_at id_in item_of item_at no_end read_from read_type own_ids ids_from ids_in
numbers =
    record {
      sample = refl;
      none = refl;
      header_short = refl;
      header_only = refl;
      suspend_two = refl;
      suspend_one = refl;
      current_unknown = refl;
      package_unknown = refl;
      package_known = refl;
      header_first = refl;
      suspend_first = refl;
      longest = refl;
      too_long = refl;
      binary_last = refl;
      binary_past = refl;
      unary_past = refl;
      kind_past = refl;
      count_most = refl;
      count_past = refl;
      object_first = refl;
      argument_missing = refl;
      behind = refl;
      id_unknown = refl;
      id_none = refl;
      id_known_lem = refl;
      id_before_cut = refl;
      id_cut = refl;
      type_id = refl;
      type_cut = refl;
      type_whole = refl;
      type_endless = refl;
      type_endless_id = refl;
      type_short_lem = refl;
      nodes_most = refl;
      nodes_past = refl;
      nodes_past_id = refl;
      nodes_past_endless = refl;
      nodes_past_cut = refl;
    }

-- a call of plus with two arguments, Int and a member, and a method call on a Boolean with a named argument
tree_of_lem : tree_of (under (1 ∷ 0 ∷ 5 ∷ 6 ∷ 0 ∷ 2 ∷ 0 ∷ 0 ∷ 4 ∷ 22 ∷ 0 ∷ 0 ∷ 12 ∷ 8 ∷ 6 ∷ 29 ∷ 0 ∷ 1 ∷ 0 ∷ 6 ∷ 3 ∷ 7 ∷ 0 ∷ 2 ∷ 1 ∷ 0 ∷ 3 ∷ []))
    ≡ binary 0 (call 6 (cons (leaf (0 ∷ [])) (cons (member 22 (leaf (12 ∷ 8 ∷ []))) nil)))
    (method 29 (leaf (6 ∷ [])) (cons (named 7 (unary 1 (leaf (3 ∷ [])))) nil))
unfolding choose header_of leaf_of node_of node_in node_at own_bytes children first rest take_row drop_row onto row_at tree_of header_fault node_ids shape_fault node_fault all_defined more_fault end_fault nodes_fault tree_fault question_fault size_width body_length child_count number_at id_in item_of item_at no_end read_from read_type own_ids ids_from ids_in
tree_of_lem = refl
