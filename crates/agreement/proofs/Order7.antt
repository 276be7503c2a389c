-- Order 7's claim holds.
use Rattle.agreement.proofs.AddedBehind.{added_alike}
use Rattle.agreement.proofs.EqualAnswers.{same_answers}
use Rattle.agreement.proofs.FunctionAdded.{names_as_many, by_id_without, members_without, own_list, other_lists}
use Rattle.agreement.specs.Order7.{OneMore, Order7}
use Rattle.question.specs.Header.{header_of}
use Rattle.question.specs.Parse.{tree_of}
use Rattle.record.specs.Layout.{owner_field, name_field}
use Rattle.symbol.specs.Lookup.{overload_of, symbols_of}

-- An added function leaves a question's answer and its diagnostics as they were.
pub order7 : Order7
order7 t u A q calls =
    same_answers t u A.accepted_old A.accepted_new (rw (M.old, M.now) (names_as_many M.front M.new M.rear M.function)) q
    (λ z. added_alike (symbols_of t) (symbols_of u) (owner_field M.new) (name_field M.new) (overload_of M.new)
    (rw (M.old, M.now) (by_id_without M.front M.new M.rear M.function))
    (rw (M.old, M.now) (members_without M.front M.new M.rear M.function))
    (rw (M.old, M.now) (own_list M.front M.new M.rear M.function A.last))
    (rw (M.old, M.now) (other_lists M.front M.new M.rear M.function))
    A.listed A.builtins (header_of q) (tree_of q) (calls z))
  where
    M : OneMore t u
    M = A.more
