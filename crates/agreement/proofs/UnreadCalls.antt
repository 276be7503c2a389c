-- Which calls order 7 does not ask, from bytes: those of another list, by its owner or its name, those that are not visited, and members. The answers are the
-- same.
use Prim.Native.Nat.{ℕ}
use mathlib.Core.List.{List, [], ◌∷◌, ◌++◌, nil≢cons}
use mathlib.Core.Logic.{inl}
use mathlib.Core.Path.{◌≡◌, refl, sym}
use native.Mathlib.Omega.{arith}
use Rattle.agreement.proofs.NeededCalls.{with_f, records_f, takes_int}
use Rattle.agreement.proofs.NeededScores.{or_int, called_with_int}
use Rattle.agreement.proofs.OneCall.{AtCalls, by_calls, owned_unread, unvisited, call_unread, method_unread, bare_unvisited}
use Rattle.agreement.proofs.Order7.{order7}
use Rattle.agreement.proofs.ReadCalls.{x_int, x_either, adds_to_x}
use Rattle.agreement.specs.Order7.{AddsFunction, CallsUndisturbed}
use Rattle.agreement.specs.Reads.{ReadsAt, Reads}
use Rattle.agreement.specs.SameAnswers.{SameAnswers}
use Rattle.question.specs.Header.{header_of}
use Rattle.question.specs.Parse.{tree_of}
use Rattle.question.specs.QuestionRefused.{question_fault}
use Rattle.question.specs.Tree.{leaf as leaf·}
use Rattle.record.specs.Layout.{owner_field, name_field}
use Rattle.scoring.proofs.NoneAndNil.{some≢none}
use Rattle.scoring.specs.Arg.{Arg}
use Rattle.symbol.specs.Lookup.{symbols_of}
use Rattle.ty.specs.Name.{no_id}
use Rattle.typing.proofs.Base.{some_inj}
use Rattle.typing.proofs.Computed.{computed}
use Rattle.typing.proofs.OneTyping.{Accepted}
use Rattle.typing.proofs.Samples.{letter, class, no_parent, function, script, leaf, member, call, method}
use Rattle.typing.proofs.Samples.{int, string, any, function_to, named_class, Passes}
use Rattle.typing.specs.Answer.{names_of}
use Rattle.typing.specs.Mark.{type_in}

-- in a question, the list that a function is added to is read with those arguments
abbrev ReadBy : (t u : List ℕ) → AddsFunction t u → List ℕ → List Arg → Type 0
ReadBy t u adds q xs = Reads (symbols_of t) (header_of q) (tree_of q) (owner_field adds.more.new) (name_field adds.more.new) xs

-- no call reads the list: both answers are the same, here without a diagnostic
pub record NotAsked (t u q ty : List ℕ) : Type 0 where
  pub adds : AddsFunction t u
  pub accepted_old : Accepted t q
  pub accepted_new : Accepted u q
  pub unread : (xs : List Arg) → ¬ ReadBy t u adds q xs
  pub calls : CallsUndisturbed t u adds.more q
  pub before : Passes t q ty
  pub after : Passes u q ty
  pub same : SameAnswers t u q

not_asked :
    (t u q ty : List ℕ) (adds : AddsFunction t u) → question_fault (names_of t) q ≡ 0 → question_fault (names_of u) q ≡ 0
    → ((xs : List Arg) → ¬ ReadBy t u adds q xs) → Passes t q ty → Passes u q ty → NotAsked t u q ty
not_asked t u q ty adds a b unread before after =
    record {
      adds = adds;
      accepted_old = record { table = adds.accepted_old; question = a };
      accepted_new = record { table = adds.accepted_new; question = b };
      unread = unread;
      calls = calls;
      before = before;
      after = after;
      same = order7 t u adds q calls;
    }
  where
    calls : CallsUndisturbed t u adds.more q
    calls e xs r = absurd (unread xs r)

-- the ownerless f is another list than x's
abbrev call_f : List ℕ
call_f = script (call 41 1 (leaf int))

pub other_list : NotAsked x_int x_either call_f int
unfolding computed AtCalls
other_list =
    not_asked x_int x_either call_f int adds_to_x refl refl
    (owned_unread (symbols_of x_int) (header_of call_f) 41 (leaf· int) (λ P n. tt) 40 41 (λ e. omega (arith, e)))
    (record { answer = refl; buffer = refl })
    (record { answer = refl; buffer = refl })

-- the member x.f is of the first function's type
abbrev member_f : List ℕ
member_f = script (member 41 (leaf (named_class 40)))

pub as_member : NotAsked x_int x_either member_f (function_to int)
unfolding computed AtCalls
as_member =
    not_asked x_int x_either member_f (function_to int) adds_to_x refl refl
    (λ xs. by_calls (symbols_of x_int) (header_of member_f) (tree_of member_f) 40 41 xs ⊥ tt)
    (record { answer = refl; buffer = refl })
    (record { answer = refl; buffer = refl })

-- f(Int), of the ownerless f(a Int): Int and the new f(a Int): String, is a tie where it stands alone (`NeededScores.equal_scores`). Here it is the argument of
-- a method call that does not visit its arguments.
abbrev argument_of : List ℕ → List ℕ
argument_of object = script (method 40 1 (leaf object) (call 40 1 (leaf int)))

-- the object's base is not Named
abbrev of_int : List ℕ
of_int = argument_of int

pub unnamed_base : NotAsked takes_int or_int of_int any
unfolding computed AtCalls type_in
unnamed_base =
    not_asked takes_int or_int of_int any called_with_int.adds refl refl
    (unvisited (symbols_of takes_int) (header_of of_int) 40 (leaf· int) 40 (leaf· int) (λ P n. tt) (λ P n. tt) int no_id 40 (λ e. some≢none (sym e)) refl refl)
    (record { answer = refl; buffer = refl })
    (record { answer = refl; buffer = refl })

-- the base has no list of that name
abbrev of_a : List ℕ
of_a = argument_of (named_class 41)

a_unread : (xs : List Arg) → ¬ Reads (symbols_of takes_int) (header_of of_a) (tree_of of_a) no_id 40 xs
unfolding computed AtCalls type_in
a_unread =
    unvisited (symbols_of takes_int) (header_of of_a) 40 (leaf· (named_class 41)) 40 (leaf· int) (λ P n. tt) (λ P n. tt) (named_class 41) no_id 40
    (λ e. let z : ◌≡◌ {A = ℕ} 41 no_id = some_inj e in omega arith)
    refl
    refl

pub without_list : NotAsked takes_int or_int of_a any
unfolding computed AtCalls type_in
without_list =
    not_asked takes_int or_int of_a any called_with_int.adds refl refl a_unread
    (record { answer = refl; buffer = refl })
    (record { answer = refl; buffer = refl })

-- ---- another name

-- x is 40 and has a record, g is 41 and h 42: functions of x without parameters
abbrev x_functions : List ℕ → List ℕ
x_functions functions = letter 120 ++ (letter 103 ++ (letter 104 ++ (class 40 no_parent ++ functions)))

abbrev of_x : ℕ → List ℕ → List ℕ
of_x id result = 4 ∷ 40 ∷ 0 ∷ id ∷ 0 ∷ 0 ∷ 0 ∷ 0 ∷ result

abbrev g_and_h : List ℕ
g_and_h = x_functions (of_x 41 int ++ of_x 42 int)

abbrev other_g : List ℕ
other_g = x_functions (of_x 41 int ++ (of_x 42 int ++ of_x 41 string))

abbrev adds_g : AddsFunction g_and_h other_g
unfolding computed
adds_g = record {
  accepted_old = refl;
  accepted_new = refl;
  more =
      record {
        front = letter 120 ∷ letter 103 ∷ letter 104 ∷ class 40 no_parent ∷ of_x 41 int ∷ of_x 42 int ∷ [];
        new = of_x 41 string;
        rear = [];
        old = refl;
        now = refl;
        function = refl;
      };
  last = refl;
  listed = λ e. nil≢cons (sym e);
  builtins = inl refl;
}

-- x.h() does not read the list of x's g, which x.g() would read with a tie
abbrev method_h : List ℕ
method_h = script (method 42 0 (leaf (named_class 40)) [])

pub other_method : NotAsked g_and_h other_g method_h int
unfolding computed AtCalls ReadsAt
other_method =
    not_asked g_and_h other_g method_h int adds_g refl refl
    (method_unread (symbols_of g_and_h) (header_of method_h) 42 (leaf· (named_class 40)) (λ P n. tt) 40 41 (λ e. omega (arith, e)))
    (record { answer = refl; buffer = refl })
    (record { answer = refl; buffer = refl })

-- f() and a(), both ownerless; a second f() is added
abbrev f_and_a : List ℕ
f_and_a = with_f (function 40 int 0 [] ++ function 41 int 0 [])

abbrev other_f : List ℕ
other_f = f_and_a ++ function 40 string 0 []

abbrev adds_f : AddsFunction f_and_a other_f
unfolding computed
adds_f = record {
  accepted_old = refl;
  accepted_new = refl;
  more =
      record {
        front = records_f (function 40 int 0 []) ++ (function 41 int 0 [] ∷ []);
        new = function 40 string 0 [];
        rear = [];
        old = refl;
        now = refl;
        function = refl;
      };
  last = refl;
  listed = λ e. nil≢cons (sym e);
  builtins = inl refl;
}

-- a() does not read f's list
abbrev call_a : List ℕ
call_a = script (call 41 0 [])

pub other_call : NotAsked f_and_a other_f call_a int
unfolding computed AtCalls ReadsAt
other_call =
    not_asked f_and_a other_f call_a int adds_f refl refl
    (call_unread (symbols_of f_and_a) (header_of call_a) 41 no_id 40 (λ e. omega (arith, e)))
    (record { answer = refl; buffer = refl })
    (record { answer = refl; buffer = refl })

-- f() as the argument of a method call whose base is not Named: it would be a tie, but is not visited. It has no argument that could be without a type.
abbrev inside_method : List ℕ
inside_method = script (method 41 1 (leaf int) (call 40 0 []))

pub unvisited_call : NotAsked f_and_a other_f inside_method any
unfolding computed AtCalls ReadsAt type_in
unvisited_call =
    not_asked f_and_a other_f inside_method any adds_f refl refl
    (bare_unvisited (symbols_of f_and_a) (header_of inside_method) 41 (leaf· int) 40 (λ P n. tt) no_id 40 (λ e. omega (arith, e)) refl)
    (record { answer = refl; buffer = refl })
    (record { answer = refl; buffer = refl })
