-- What order 7 supposes of the two tables is needed: in each case, from bytes, one part fails, all others hold, and the answers differ. The list was empty; the
-- old functions are builtins and the new one is not; the new one stands in front of an old one.
use Prim.Native.Nat.{ℕ}
use lib.ListN.{get_or}
use mathlib.Core.Bool.{false≢true}
use mathlib.Core.List.{List, [], ◌∷◌, ◌++◌, nil≢cons}
use mathlib.Core.Logic.{◌≢◌, inl, inr, ⊎_elim}
use mathlib.Core.Path.{◌≡◌, refl, ap, sym}
use native.Mathlib.Omega.{arith}
use Rattle.agreement.proofs.OneCall.{AtCalls, by_calls, each_reading, read_once}
use Rattle.agreement.specs.Order7.{OneMore, StandsLast, DropsAsBefore, CallsUndisturbed, old_list}
use Rattle.agreement.specs.SameAnswers.{SameAnswers}
use Rattle.agreement.specs.Undisturbed.{Undisturbed}
use Rattle.question.specs.Header.{header_of}
use Rattle.question.specs.Parse.{tree_of}
use Rattle.question.specs.Tree.{leaf as leaf·}
use Rattle.symbol.specs.Lookup.{symbols_of}
use Rattle.typing.proofs.Computed.{computed}
use Rattle.typing.proofs.OneTyping.{Accepted}
use Rattle.typing.proofs.Samples.{letter, class, no_parent, function, param, script, leaf, member, call, int, string, error, function_to, named_class}
use Rattle.typing.proofs.Samples.{diagnostic, Passes, Fails}
use Rattle.typing.specs.Answer.{Answer}
use Rattle.typing.specs.Mark.{type_in}

-- ---- the list was empty

-- x is 40 and has a record, g is 41
abbrev with_x : List ℕ → List ℕ
with_x functions = letter 120 ++ (letter 103 ++ (class 40 no_parent ++ functions))

-- x's function g without parameters, by its builtin flag and its result
abbrev g_of_x : ℕ → List ℕ → List ℕ
g_of_x flag result = 4 ∷ 40 ∷ 0 ∷ 41 ∷ 0 ∷ 0 ∷ flag ∷ 0 ∷ result

-- x.g
abbrev member_g : List ℕ
member_g = script (member 41 (leaf (named_class 40)))

abbrev no_g : List ℕ
no_g = with_x []

abbrev builtin_g : List ℕ
builtin_g = with_x (g_of_x 1 int)

-- x has no function g, and then a builtin one: the name is unresolved before, and a Function type afterwards. No call reads the list.
pub record EmptyList : Type 0 where
  pub accepted_old : Accepted no_g member_g
  pub accepted_new : Accepted builtin_g member_g
  pub more : OneMore no_g builtin_g
  pub last : StandsLast no_g builtin_g more
  pub empty : old_list no_g builtin_g more ≡ []
  pub builtins : DropsAsBefore no_g builtin_g more
  pub calls : CallsUndisturbed no_g builtin_g more member_g
  pub before : Fails no_g member_g error (diagnostic 22 0 0)
  pub after : Passes builtin_g member_g (function_to int)
  pub differ : ¬ SameAnswers no_g builtin_g member_g

pub empty_list : EmptyList
unfolding computed AtCalls
empty_list = record {
  accepted_old = record { table = refl; question = refl };
  accepted_new = record { table = refl; question = refl };
  more = record { front = letter 120 ∷ letter 103 ∷ class 40 no_parent ∷ []; new = g_of_x 1 int; rear = []; old = refl; now = refl; function = refl };
  last = refl;
  empty = refl;
  builtins = inr refl;
  calls = λ a xs. by_calls (symbols_of no_g) (header_of member_g) (tree_of member_g) 40 41 xs _ tt;
  before = record { answer = refl; buffer = refl };
  after = record { answer = refl; buffer = refl };
  differ = λ s. let z : ◌≡◌ {A = ℕ} 0 1 = ap (λ (a : Answer). a.pass) (s 20).0 in omega arith;
}

-- ---- the old functions are builtins

-- f is 40 and a 41; a builtin f(a Int): Int
abbrev builtin_f : List ℕ → List ℕ
builtin_f functions = letter 102 ++ (letter 97 ++ ((4 ∷ 255 ∷ 255 ∷ 40 ∷ 0 ∷ 0 ∷ 1 ∷ 1 ∷ int ++ param 41 int) ++ functions))

-- f(Int)
abbrev pub with_int : List ℕ
with_int = script (call 40 1 (leaf int))

abbrev only_builtin : List ℕ
only_builtin = builtin_f []

abbrev own_beside : List ℕ
own_beside = builtin_f (function 40 int 0 [])

-- f(): Int, not a builtin, is added: it does not fit the call f(Int), but the builtin drops out.
pub record OnlyBuiltins : Type 0 where
  pub accepted_old : Accepted only_builtin with_int
  pub accepted_new : Accepted own_beside with_int
  pub more : OneMore only_builtin own_beside
  pub last : StandsLast only_builtin own_beside more
  pub listed : old_list only_builtin own_beside more ≢ []
  pub builtins : ¬ DropsAsBefore only_builtin own_beside more
  pub calls : CallsUndisturbed only_builtin own_beside more with_int
  pub before : Passes only_builtin with_int int
  pub after : Fails own_beside with_int error (diagnostic 15 0 1)
  pub differ : ¬ SameAnswers only_builtin own_beside with_int

pub only_builtins : OnlyBuiltins
unfolding computed AtCalls type_in
only_builtins = record {
  accepted_old = record { table = refl; question = refl };
  accepted_new = record { table = refl; question = refl };
  more =
      record {
        front = letter 102 ∷ letter 97 ∷ (4 ∷ 255 ∷ 255 ∷ 40 ∷ 0 ∷ 0 ∷ 1 ∷ 1 ∷ int ++ param 41 int) ∷ [];
        new = function 40 int 0 [];
        rear = [];
        old = refl;
        now = refl;
        function = refl;
      };
  last = refl;
  listed = λ e. nil≢cons (sym e);
  builtins = ⊎_elim false≢true false≢true;
  calls = λ a.
      each_reading (Undisturbed (symbols_of only_builtin) _ _)
      (read_once (symbols_of only_builtin) (header_of with_int) 40 (leaf· int) (λ P n. tt) int int refl refl)
      (inr (inl refl));
  before = record { answer = refl; buffer = refl };
  after = record { answer = refl; buffer = refl };
  differ = λ s. let z : ◌≡◌ {A = ℕ} 1 0 = ap (λ (a : Answer). a.pass) (s 20).0 in omega arith;
}

-- ---- the new function is not the last

abbrev one_g : List ℕ
one_g = with_x (g_of_x 0 int)

abbrev in_front : List ℕ
in_front = with_x (g_of_x 0 string ++ g_of_x 0 int)

-- x's function g: String is added in front of its g: Int, and x.g is of the first one's Function type. No call reads the list.
pub record InFront : Type 0 where
  pub accepted_old : Accepted one_g member_g
  pub accepted_new : Accepted in_front member_g
  pub more : OneMore one_g in_front
  pub last : ¬ StandsLast one_g in_front more
  pub listed : old_list one_g in_front more ≢ []
  pub builtins : DropsAsBefore one_g in_front more
  pub calls : CallsUndisturbed one_g in_front more member_g
  pub before : Passes one_g member_g (function_to int)
  pub after : Passes in_front member_g (function_to string)
  pub differ : ¬ SameAnswers one_g in_front member_g

pub new_in_front : InFront
unfolding computed AtCalls
new_in_front = record {
  accepted_old = record { table = refl; question = refl };
  accepted_new = record { table = refl; question = refl };
  more =
      record {
        front = letter 120 ∷ letter 103 ∷ class 40 no_parent ∷ [];
        new = g_of_x 0 string;
        rear = g_of_x 0 int ∷ [];
        old = refl;
        now = refl;
        function = refl;
      };
  last = λ e. nil≢cons (sym e);
  listed = λ e. nil≢cons (sym e);
  builtins = inl refl;
  calls = λ a xs. by_calls (symbols_of one_g) (header_of member_g) (tree_of member_g) 40 41 xs _ tt;
  before = record { answer = refl; buffer = refl };
  after = record { answer = refl; buffer = refl };
  differ = λ s. let z : ◌≡◌ {A = ℕ} 0 8 = ap (λ (a : Answer). get_or a.ty 2 0) (s 20).0 in omega arith;
}
