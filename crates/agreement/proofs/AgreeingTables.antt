-- Tables that agree on all that a question asks for give it the same answer, and so does a function more of a name that it does not ask for.
use Prim.Native.Nat.{ℕ}
use borrow.Author.Tests.{eq-eqb}
use lib.ListN.{get_or}
use mathlib.Core.Bool.{not, true≢false}
use mathlib.Core.List.{List, ◌∷◌, ◌++◌}
use mathlib.Core.Path.{◌≡◌, refl, ap, sym, ◌∙◌}
use Rattle.agreement.proofs.EqualAnswers.{same_answers}
use Rattle.agreement.proofs.FunctionAdded.{by_id_without, members_without, names_as_many, other_lists}
use Rattle.agreement.proofs.JudgedAlike.{judged_alike}
use Rattle.agreement.specs.Agree.{Agree}
use Rattle.agreement.specs.AgreeingTables.{AgreeingAnswers, UnaskedFunction, other_than}
use Rattle.question.specs.Header.{header_of}
use Rattle.question.specs.Parse.{tree_of}
use Rattle.record.specs.Layout.{record_kind, name_field}
use Rattle.record.specs.Table.{Record}
use Rattle.symbol.specs.Lookup.{symbols_in, symbols_of}

pub agreeing_answers : AgreeingAnswers
agreeing_answers asked t u q A k =
    same_answers t u A.accepted_old A.accepted_new A.names q
    (λ z. judged_alike asked (symbols_of t) (symbols_of u) A.agree (header_of q) k.operators (tree_of q) 0 k.tree)

module _ (front : List Record) (r : Record) (rear : List Record) (function : record_kind r ≡ 4) where
  agree_otherwise : Agree (other_than (name_field r)) (symbols_in (front ++ rear)) (symbols_in (front ++ (r ∷ rear)))
  agree_otherwise = record {
    by_id = by_id_without front r rear function;
    members = record {
      field_of = λ owner name k. (members_without front r rear function).field_of owner name refl;
      visibility_of = λ owner name k. (members_without front r rear function).visibility_of owner name refl;
      is_suspend = λ owner name k. (members_without front r rear function).is_suspend owner name refl;
      is_variant = λ owner name k. (members_without front r rear function).is_variant owner name refl;
    };
    functions_of = λ owner name k.
        other_lists front r rear function owner name
        (λ e.
        let q : name ≡ name_field r = ap (λ (ids : List ℕ). get_or ids 1 0) (sym e) in
        true≢false (sym k ∙ ap not (eq-eqb name (name_field r) q)));
  }

pub unasked_function : UnaskedFunction
unasked_function t u q e f M k =
    agreeing_answers (other_than (name_field M.new)) t u q
    (record {
      accepted_old = e;
      accepted_new = f;
      names = rw (M.old, M.now) (names_as_many M.front M.new M.rear M.function);
      agree = rw (M.old, M.now) (agree_otherwise M.front M.new M.rear M.function);
    })
    k
