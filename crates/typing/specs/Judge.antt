-- The judgement of a tree. Document 01, "Table and question": leaf gives its type, a named argument its value's, children go left to right; 1, 2, 4 are
-- `check_binary`, `check_unary`, `check_member`; 5 is `check_call_args` on the ownerless list; 6 is `check_call`'s MemberAccess branch.
use Rattle.std.specs.Prelude.{ℕ, suc, List, [], ◌∷◌, ◌++◌}
use Rattle.std.proofs.Math.Option.{Option, none, some}
use Rattle.area.specs.Diagnostic.{Diag}
use Rattle.scoring.specs.Arg.{Arg, Verdict}
use Rattle.overload.specs.Resolve.{resolve}
use Rattle.question.specs.Tree.{Node, leaf, binary, unary, named, member, call, method, Row, nil, cons, number_after, argument_name}
use Rattle.question.specs.declared.Header.{Header}
use Rattle.operators.specs.Binary.{binary_out}
use Rattle.operators.specs.Diag.{reported_at}
use Rattle.rules.specs.Member.{member_out}
use Rattle.operators.specs.Out.{Report, Out, error_ty, any_ty}
use Rattle.operators.specs.Unary.{unary_out}
use Rattle.symbol.specs.Symbols.{Symbols}
use Rattle.ty.specs.Bytes.{Ty}
use Rattle.typing.specs.Callee.{Callee, call_of, method_of}

-- a node and the type that it is given
pub record Given : Type 0 where
  pub node : ℕ
  pub ty : Ty

-- A tree's judgement: the root's type; the visited nodes with their types, in the order in which they are finished (children left to right, then the node);
-- the diagnostics in order.
pub record Judged : Type 0 where
  pub ty : Ty
  pub typed : List Given
  pub diags : List Diag

-- a row's: its arguments as the call sees them
pub record RowJudged : Type 0 where
  pub args : List Arg
  pub typed : List Given
  pub diags : List Diag

-- node n is finished with the type t, behind what was finished and reported
abbrev pub done : ℕ → Ty → List Given → List Diag → Judged
done n t g d = record { ty = t; typed = g ++ (record { node = n; ty = t } ∷ []); diags = d }

-- by a rule's outcome
abbrev pub closed : ℕ → Out → List Given → List Diag → Judged
closed n o g d = done n o.ty g (d ++ reported_at n o.reports)

-- by a call's outcome, behind its arguments
abbrev pub called : ℕ → List Report → Verdict → List Given → List Diag → List Diag → Judged
called n before v g first args = done n v.ty g (first ++ (reported_at n before ++ (args ++ v.diags)))

abbrev pub row_joined : Option ℕ → ℕ → Judged → RowJudged → RowJudged
row_joined name n a b =
    record { args = record { name = name; ty = a.ty; node = n } ∷ b.args; typed = a.typed ++ b.typed; diags = a.diags ++ b.diags }

-- a call: an empty list gives Error silently, arguments unvisited
unfoldable pub call_step : Symbols → ℕ → Option Callee → RowJudged → Judged
call_step S n none b = done n error_ty [] []
call_step S n (some c) b = called n c.before (resolve S c.overloads n b.args) b.typed [] b.diags

-- a method call: a base that isn't Named, or has no list, gives Any and its arguments stay unvisited
unfoldable pub method_step : Symbols → ℕ → Judged → Option Callee → RowJudged → Judged
method_step S n a none b = done n any_ty a.typed a.diags
method_step S n a (some c) b = called n c.before (resolve S c.overloads n b.args) (a.typed ++ b.typed) a.diags b.diags

module _ (S : Symbols) (H : Header) where
  unfoldable mutual
    -- the tree whose root has number n
    pub judge : Node → ℕ → Judged
    judge (leaf t) n = done n t [] []
    judge (binary op l r) n =
        let a = judge l (suc n) in
        let b = judge r (number_after l (suc n)) in
        closed n (binary_out S op a.ty b.ty) (a.typed ++ b.typed) (a.diags ++ b.diags)
    judge (unary op x) n =
        let a = judge x (suc n) in
        closed n (unary_out op a.ty) a.typed a.diags
    judge (named id x) n =
        let a = judge x (suc n) in
        done n a.ty a.typed a.diags
    judge (member id x) n =
        let a = judge x (suc n) in
        closed n (member_out S H id a.ty) a.typed a.diags
    judge (call id r) n = call_step S n (call_of S H id) (judges r (suc n))
    judge (method id x r) n =
        let a = judge x (suc n) in
        method_step S n a (method_of S H id a.ty) (judges r (number_after x (suc n)))

    -- the row whose first argument has number n
    pub judges : Row → ℕ → RowJudged
    judges nil n = record { args = []; typed = []; diags = [] }
    judges (cons x r) n = row_joined (argument_name x) n (judge x n) (judges r (number_after x n))
