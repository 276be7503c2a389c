-- Which calls order 7 asks, from bytes: a method call reads its owner's list, and a call in an argument is asked as any other. UnreadCalls has those that are
-- not asked.
use Prim.Native.Nat.{ℕ}
use mathlib.Core.Bool.{false≢true}
use mathlib.Core.List.{List, [], ◌∷◌, ◌++◌, nil≢cons, Memᴰ}
use mathlib.Core.Logic.{inl, inr}
use mathlib.Core.Path.{◌≡◌, refl, ap, sym, ◌∙◌}
use native.Mathlib.Omega.{arith}
use Rattle.agreement.proofs.NeededCalls.{Called, Knows, Matched, Less, old_ones, added, stays, disturbed, no_more, NoneAbove, cannot_stay}
use Rattle.agreement.proofs.NeededCalls.{with_f, records_f, takes, unnamed, no_names}
use Rattle.agreement.proofs.OneCall.{AtCalls, ReadOnce, method_read_once, outer_reads, inner_reads}
use Rattle.agreement.specs.Order7.{AddsFunction, CallsUndisturbed, old_list, new_function}
use Rattle.agreement.specs.Reads.{Reads}
use Rattle.agreement.specs.SameAnswers.{SameAnswers}
use Rattle.agreement.specs.Undisturbed.{OldMatch, StaysWithOld, Undisturbed}
use Rattle.question.specs.Header.{header_of}
use Rattle.question.specs.Parse.{tree_of}
use Rattle.question.specs.QuestionRefused.{question_fault}
use Rattle.question.specs.Tree.{Node, leaf as leaf·, call as call·, cons, nil}
use Rattle.record.specs.Table.{Record}
use Rattle.scoring.proofs.NoneAndNil.{some≢none}
use Rattle.symbol.specs.Lookup.{symbols_of}
use Rattle.ty.specs.Name.{no_id}
use Rattle.typing.proofs.Computed.{computed}
use Rattle.typing.proofs.OneTyping.{Accepted}
use Rattle.typing.proofs.Samples.{letter, class, no_parent, function, param, script, leaf, call, method}
use Rattle.typing.proofs.Samples.{int, string, boolean, named_class, nullable, diagnostic, Passes, Fails}
use Rattle.typing.specs.Answer.{Answer, names_of}
use Rattle.typing.specs.Mark.{type_in}

-- ---- a function of the class x is added

-- x, f and a are 40, 41 and 42. x's f(a Int), by its result
abbrev of_x : List ℕ → List ℕ
of_x result = 4 ∷ 40 ∷ 0 ∷ 41 ∷ 0 ∷ 0 ∷ 0 ∷ 1 ∷ result ++ param 42 int

-- x has a record; an ownerless f(a Int): Int, and x's f(a Int): Int
abbrev x_records : List Record
x_records = letter 120 ∷ letter 102 ∷ letter 97 ∷ class 40 no_parent ∷ function 41 int 1 (param 42 int) ∷ of_x int ∷ []

abbrev pub x_int : List ℕ
x_int = letter 120 ++ (letter 102 ++ (letter 97 ++ (class 40 no_parent ++ (function 41 int 1 (param 42 int) ++ of_x int))))

-- x's f(a Int): String is added
abbrev pub x_either : List ℕ
x_either = x_int ++ of_x string

abbrev pub adds_to_x : AddsFunction x_int x_either
unfolding computed
adds_to_x = record {
  accepted_old = refl;
  accepted_new = refl;
  more = record { front = x_records; new = of_x string; rear = []; old = refl; now = refl; function = refl };
  last = refl;
  listed = λ e. nil≢cons (sym e);
  builtins = inl refl;
}

-- ---- a method call reads the list of its owner

-- f(Int) of an object
abbrev f_of : List ℕ → List ℕ
f_of object = script (method 41 1 (leaf object) (leaf int))

-- one call reads the list, and both of its functions match with 2: a tie, 19
pub record MethodTie (q : List ℕ) : Type 0 where
  pub called : Called x_int x_either q (unnamed 2 int)
  pub known : Knows called
  pub matched : Matched called
  pub not_less : ¬ Less called
  pub disturbs : ¬ CallsUndisturbed x_int x_either called.adds.more q
  pub before : Passes x_int q int
  pub after : Fails x_either q int (diagnostic 19 0 2)
  pub differ : ¬ SameAnswers x_int x_either q

method_tie :
    (q : List ℕ) → question_fault (names_of x_int) q ≡ 0 → question_fault (names_of x_either) q ≡ 0
    → ReadOnce (symbols_of x_int) (header_of q) (tree_of q) 40 41 (unnamed 2 int)
    → Passes x_int q int → Fails x_either q int (diagnostic 19 0 2) → MethodTie q
unfolding computed NoneAbove
method_tie q a b o before after =
    record {
      called = c;
      known = no_names _ 2 int;
      matched = match;
      not_less = λ l. not_stays (stays c (no_names _ 2 int) match l);
      disturbs = disturbed c not_stays;
      before = before;
      after = after;
      differ = λ s.
          let pass = λ (z : Answer). z.pass in
          let z : ◌≡◌ {A = ℕ} 1 0 = sym (ap pass before.answer) ∙ (ap pass (s 20).0 ∙ ap pass after.answer) in omega arith;
    }
  where
    c : Called x_int x_either q (unnamed 2 int)
    c =
        record {
          adds = adds_to_x;
          accepted_old = record { table = adds_to_x.accepted_old; question = a };
          accepted_new = record { table = adds_to_x.accepted_new; question = b };
          once = o;
          not_dropped = λ d. false≢true (d.1);
          not_unfit = λ e. false≢true (sym e);
        }

    match : Matched c
    match = (2, record { overload = _; usable = Memᴰ.head refl; scores = refl })

    not_stays : ¬ StaysWithOld (symbols_of x_int) (old_ones c) (added c) (unnamed 2 int)
    not_stays = cannot_stay (symbols_of x_int) (unnamed 2 int) 2 (old_ones c) (added c) refl (no_more 2, tt)

abbrev f_of_x : List ℕ
f_of_x = f_of (named_class 40)

pub method_of_x : MethodTie f_of_x
unfolding computed AtCalls type_in
method_of_x =
    method_tie f_of_x refl refl
    (method_read_once (symbols_of x_int) (header_of f_of_x) 41 (leaf· (named_class 40)) (leaf· int) (λ P n. tt) (λ P n. tt) 40 int _ int refl refl refl refl)
    (record { answer = refl; buffer = refl })
    (record { answer = refl; buffer = refl })

-- a base is the object's type, one Nullable taken off
abbrev f_of_null : List ℕ
f_of_null = f_of (nullable (named_class 40))

abbrev null_leaf : Node
null_leaf = leaf· (nullable (named_class 40))

pub method_of_nullable : MethodTie f_of_null
unfolding computed AtCalls type_in
method_of_nullable =
    method_tie f_of_null refl refl
    (method_read_once (symbols_of x_int) (header_of f_of_null) 41 null_leaf (leaf· int) (λ P n. tt) (λ P n. tt) 40 int _ int refl refl refl refl)
    (record { answer = refl; buffer = refl })
    (record { answer = refl; buffer = refl })

-- ---- a call in an argument

-- f(a Int): Boolean and f(a Boolean): Int; the new one is f(a Int): String
abbrev first_two : List ℕ
first_two = with_f (takes int boolean ++ takes boolean int)

abbrev all_three : List ℕ
all_three = first_two ++ takes int string

-- f(f(Int))
abbrev nested : List ℕ
nested = script (call 40 1 (call 40 1 (leaf int)))

-- At the outer call, with a Boolean, the new one does not match, and all that is supposed holds. At the inner one, with an Int, it scores 2, as an old one: 19.
pub record InnerTie : Type 0 where
  pub adds : AddsFunction first_two all_three
  pub accepted_old : Accepted first_two nested
  pub accepted_new : Accepted all_three nested
  pub outer : Reads (symbols_of first_two) (header_of nested) (tree_of nested) no_id 40 (unnamed 1 boolean)
  pub stays : Undisturbed (symbols_of first_two) (old_list _ _ adds.more) (new_function _ _ adds.more) (unnamed 1 boolean)
  pub inner : Reads (symbols_of first_two) (header_of nested) (tree_of nested) no_id 40 (unnamed 2 int)
  pub tie : ¬ Undisturbed (symbols_of first_two) (old_list _ _ adds.more) (new_function _ _ adds.more) (unnamed 2 int)
  pub disturbs : ¬ CallsUndisturbed first_two all_three adds.more nested
  pub before : Passes first_two nested int
  pub after : Fails all_three nested int (diagnostic 19 1 2)
  pub differ : ¬ SameAnswers first_two all_three nested

abbrev adds_third : AddsFunction first_two all_three
unfolding computed
adds_third = record {
  accepted_old = refl;
  accepted_new = refl;
  more =
      record {
        front = records_f (takes int boolean) ++ (takes boolean int ∷ []);
        new = takes int string;
        rear = [];
        old = refl;
        now = refl;
        function = refl;
      };
  last = refl;
  listed = λ e. nil≢cons (sym e);
  builtins = inl refl;
}

inner_read : Reads (symbols_of first_two) (header_of nested) (tree_of nested) no_id 40 (unnamed 2 int)
unfolding computed type_in
inner_read = inner_reads (symbols_of first_two) (header_of nested) 40 40 (leaf· int) boolean int refl refl

tied : ¬ Undisturbed (symbols_of first_two) (old_list _ _ adds_third.more) (new_function _ _ adds_third.more) (unnamed 2 int)
unfolding computed adds_third NoneAbove
tied (inl d) = false≢true (d.1)
tied (inr (inl n)) = false≢true (sym n)
tied (inr (inr b)) = cannot_stay (symbols_of first_two) (unnamed 2 int) 2 _ _ refl (no_more 2, ((λ best e. absurd (some≢none (sym e))), tt)) b

pub inner_tie : InnerTie
unfolding computed adds_third type_in
inner_tie = record {
  adds = adds_third;
  accepted_old = record { table = adds_third.accepted_old; question = refl };
  accepted_new = record { table = adds_third.accepted_new; question = refl };
  outer = outer_reads (symbols_of first_two) (header_of nested) 40 (call· 40 (cons (leaf· int) nil)) int boolean refl refl;
  stays =
      let m : OldMatch (symbols_of first_two) (old_list _ _ adds_third.more) (unnamed 1 boolean) 2 =
      record { overload = _; usable = Memᴰ.tail (Memᴰ.head refl); scores = refl } in
      inr (inr (record { known = no_names _ 1 boolean; old = (2, m); less = inl refl }));
  inner = inner_read;
  tie = tied;
  disturbs = λ f. tied (f refl (unnamed 2 int) inner_read);
  before = record { answer = refl; buffer = refl };
  after = record { answer = refl; buffer = refl };
  differ = λ s. let z : ◌≡◌ {A = ℕ} 1 0 = ap (λ (a : Answer). a.pass) (s 20).0 in omega arith;
}
