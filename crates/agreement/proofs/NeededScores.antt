-- What order 7 supposes of the scores at a call is needed: in each case, from bytes, one part fails, all others hold, and the answers differ. An old function
-- scores but does not fit in number; the scores are equal. Where the new one scores less, or is dropped as builtin, all that is supposed holds, and the answers
-- are the same.
use Prim.Native.Nat.{ℕ}
use lib.ListN.{get_or}
use mathlib.Core.Bool.{false≢true}
use mathlib.Core.List.Memᴰ
use mathlib.Core.List.{List, [], ◌∷◌, ◌++◌, nil≢cons, Memᴰ}
use mathlib.Core.Logic.{inl, inr}
use mathlib.Core.Option.{some}
use mathlib.Core.Path.{◌≡◌, refl, ap, sym}
use native.Mathlib.Omega.{arith}
use Rattle.agreement.proofs.NeededCalls.{Called, lower, Knows, Matched, Less, old_ones, added, added_score, stays, disturbed, no_more, NoneAbove, cannot_stay}
use Rattle.agreement.proofs.NeededCalls.{with_f, records_f, takes, takes_int, unnamed, no_names}
use Rattle.agreement.proofs.NeededTables.{with_int}
use Rattle.agreement.proofs.OneCall.{AtCalls, each_reading, read_once}
use Rattle.agreement.proofs.Order7.{order7}
use Rattle.agreement.specs.Order7.{AddsFunction, CallsUndisturbed, old_list, new_function}
use Rattle.agreement.specs.SameAnswers.{SameAnswers}
use Rattle.agreement.specs.Undisturbed.{Dropped, Unfit, OldMatch, StaysWithOld, Undisturbed}
use Rattle.question.specs.Header.{header_of}
use Rattle.question.specs.Tree.{leaf as leaf·}
use Rattle.scoring.specs.Arity.{usable}
use Rattle.scoring.specs.Score.{score}
use Rattle.symbol.specs.Lookup.{symbols_of}
use Rattle.symbol.specs.Symbols.{Overload}
use Rattle.ty.specs.Name.{no_id}
use Rattle.typing.proofs.Computed.{computed}
use Rattle.typing.proofs.OneTyping.{Accepted}
use Rattle.typing.proofs.Samples.{function, param, int, string, any, error, diagnostic, Passes, Fails}
use Rattle.typing.specs.Answer.{Answer}
use Rattle.typing.specs.Mark.{type_in}

-- ---- one that scores but does not fit in number

abbrev two_ints : List ℕ
two_ints = with_f (function 40 int 2 (param 41 int ++ param 42 int))

abbrev or_string : List ℕ
or_string = two_ints ++ takes string string

-- f(a Int, b Int) would score 2 with f(Int), but does not fit: 15 before, and 17 of the new f(a String) afterwards
pub record UnfitMatches : Type 0 where
  pub called : Called two_ints or_string with_int (unnamed 1 int)
  pub known : Knows called
  pub scoring : (o : Overload) × Memᴰ o (usable (old_ones called)) × (score (symbols_of two_ints) o (unnamed 1 int) ≡ some 2) × Unfit o (unnamed 1 int)
  pub unmatched : ¬ Matched called
  pub less : Less called
  pub disturbs : ¬ CallsUndisturbed two_ints or_string called.adds.more with_int
  pub before : Fails two_ints with_int error (diagnostic 15 0 1)
  pub after : Fails or_string with_int string (diagnostic 17 1 1)
  pub differ : ¬ SameAnswers two_ints or_string with_int

abbrev called_with_one : Called two_ints or_string with_int (unnamed 1 int)
unfolding computed AtCalls type_in
called_with_one = record {
  adds = record {
    accepted_old = refl;
    accepted_new = refl;
    more =
        record {
          front = records_f (function 40 int 2 (param 41 int ++ param 42 int));
          new = takes string string;
          rear = [];
          old = refl;
          now = refl;
          function = refl;
        };
    last = refl;
    listed = λ e. nil≢cons (sym e);
    builtins = inl refl;
  };
  accepted_old = record { table = refl; question = refl };
  accepted_new = record { table = refl; question = refl };
  once = read_once (symbols_of two_ints) (header_of with_int) 40 (leaf· int) (λ P n. tt) error int refl refl;
  not_dropped = λ d. false≢true (d.1);
  not_unfit = λ e. false≢true (sym e);
}

pub unfit_matches : UnfitMatches
unfolding computed called_with_one
unfit_matches = record {
  called = called_with_one;
  known = no_names _ 1 int;
  scoring = (_, Memᴰ.head refl, refl, refl);
  unmatched = unmatched;
  less = inl refl;
  disturbs = disturbed called_with_one (λ b. unmatched b.old);
  before = record { answer = refl; buffer = refl };
  after = record { answer = refl; buffer = refl };
  differ = λ s. let z : ◌≡◌ {A = ℕ} 21 8 = ap (λ (a : Answer). get_or a.ty 0 0) (s 20).0 in omega arith;
}
  where
    unmatched : ¬ Matched called_with_one
    unmatched (points, m) = Memᴰ.not-nil m.usable

-- ---- equal scores

abbrev pub or_int : List ℕ
or_int = takes_int ++ takes int string

old_match : OldMatch (symbols_of takes_int) ((symbols_of takes_int).functions_of no_id 40) (unnamed 1 int) 2
unfolding computed
old_match = record { overload = _; usable = Memᴰ.head refl; scores = refl }

-- f(a Int): Int matches with 2, and so does the new f(a Int): String: a tie, 19
pub record EqualScores : Type 0 where
  pub called : Called takes_int or_int with_int (unnamed 1 int)
  pub known : Knows called
  pub matched : Matched called
  pub equal : (added_score called ≡ some 2) × OldMatch (symbols_of takes_int) (old_ones called) (unnamed 1 int) 2
  pub not_less : ¬ Less called
  pub disturbs : ¬ CallsUndisturbed takes_int or_int called.adds.more with_int
  pub before : Passes takes_int with_int int
  pub after : Fails or_int with_int int (diagnostic 19 0 2)
  pub differ : ¬ SameAnswers takes_int or_int with_int

abbrev pub called_with_int : Called takes_int or_int with_int (unnamed 1 int)
unfolding computed AtCalls type_in
called_with_int = record {
  adds = record {
    accepted_old = refl;
    accepted_new = refl;
    more = record { front = records_f (takes int int); new = takes int string; rear = []; old = refl; now = refl; function = refl };
    last = refl;
    listed = λ e. nil≢cons (sym e);
    builtins = inl refl;
  };
  accepted_old = record { table = refl; question = refl };
  accepted_new = record { table = refl; question = refl };
  once = read_once (symbols_of takes_int) (header_of with_int) 40 (leaf· int) (λ P n. tt) int int refl refl;
  not_dropped = λ d. false≢true (d.1);
  not_unfit = λ e. false≢true (sym e);
}

pub equal_scores : EqualScores
unfolding computed called_with_int NoneAbove
equal_scores = record {
  called = called_with_int;
  known = no_names _ 1 int;
  matched = (2, old_match);
  equal = (refl, old_match);
  not_less = λ l. not_stays (stays called_with_int (no_names _ 1 int) (2, old_match) l);
  disturbs = disturbed called_with_int not_stays;
  before = record { answer = refl; buffer = refl };
  after = record { answer = refl; buffer = refl };
  differ = λ s. let z : ◌≡◌ {A = ℕ} 1 0 = ap (λ (a : Answer). a.pass) (s 20).0 in omega arith;
}
  where
    not_stays : ¬ StaysWithOld (symbols_of takes_int) (old_ones called_with_int) (added called_with_int) (unnamed 1 int)
    not_stays = cannot_stay (symbols_of takes_int) (unnamed 1 int) 2 (old_ones called_with_int) (added called_with_int) refl (no_more 2, tt)

-- ---- all that is supposed holds

abbrev or_any : List ℕ
or_any = takes_int ++ takes any string

-- f(a Int): Int matches with 2, and the new f(a Any): String with 1
pub record LowerScore : Type 0 where
  pub called : Called takes_int or_any with_int (unnamed 1 int)
  pub stays : StaysWithOld (symbols_of takes_int) (old_ones called) (added called) (unnamed 1 int)
  pub less : added_score called ≡ some 1
  pub calls : CallsUndisturbed takes_int or_any called.adds.more with_int
  pub before : Passes takes_int with_int int
  pub after : Passes or_any with_int int
  pub same : SameAnswers takes_int or_any with_int

abbrev called_with_less : Called takes_int or_any with_int (unnamed 1 int)
unfolding computed AtCalls type_in
called_with_less = record {
  adds = record {
    accepted_old = refl;
    accepted_new = refl;
    more = record { front = records_f (takes int int); new = takes any string; rear = []; old = refl; now = refl; function = refl };
    last = refl;
    listed = λ e. nil≢cons (sym e);
    builtins = inl refl;
  };
  accepted_old = record { table = refl; question = refl };
  accepted_new = record { table = refl; question = refl };
  once = read_once (symbols_of takes_int) (header_of with_int) 40 (leaf· int) (λ P n. tt) int int refl refl;
  not_dropped = λ d. false≢true (d.1);
  not_unfit = λ e. false≢true (sym e);
}

pub lower_score : LowerScore
unfolding computed called_with_less
lower_score = record {
  called = called_with_less;
  stays = holds;
  less = refl;
  calls = undisturbed;
  before = record { answer = refl; buffer = refl };
  after = record { answer = refl; buffer = refl };
  same = order7 takes_int or_any called_with_less.adds with_int undisturbed;
}
  where
    holds : StaysWithOld (symbols_of takes_int) (old_ones called_with_less) (added called_with_less) (unnamed 1 int)
    holds = stays called_with_less (no_names _ 1 int) (2, old_match) (lower called_with_less 1 2 refl old_match (omega arith))

    undisturbed : CallsUndisturbed takes_int or_any called_with_less.adds.more with_int
    undisturbed a = each_reading (Undisturbed (symbols_of takes_int) _ _) (called_with_less.once) (inr (inr holds))

-- a builtin f(a Int): String
abbrev builtin_f : List ℕ
builtin_f = 4 ∷ 255 ∷ 255 ∷ 40 ∷ 0 ∷ 0 ∷ 1 ∷ 1 ∷ string ++ param 41 int

abbrev or_builtin : List ℕ
or_builtin = takes_int ++ builtin_f

-- beside f(a Int): Int the new one drops out as builtin; it would score as much
pub record DropsOut : Type 0 where
  pub adds : AddsFunction takes_int or_builtin
  pub accepted_old : Accepted takes_int with_int
  pub accepted_new : Accepted or_builtin with_int
  pub dropped : Dropped (old_list takes_int or_builtin adds.more) (new_function takes_int or_builtin adds.more)
  pub calls : CallsUndisturbed takes_int or_builtin adds.more with_int
  pub before : Passes takes_int with_int int
  pub after : Passes or_builtin with_int int
  pub same : SameAnswers takes_int or_builtin with_int

abbrev adds_builtin : AddsFunction takes_int or_builtin
unfolding computed
adds_builtin = record {
  accepted_old = refl;
  accepted_new = refl;
  more = record { front = records_f (takes int int); new = builtin_f; rear = []; old = refl; now = refl; function = refl };
  last = refl;
  listed = λ e. nil≢cons (sym e);
  builtins = inl refl;
}

pub drops_out : DropsOut
unfolding computed
drops_out = record {
  adds = adds_builtin;
  accepted_old = record { table = refl; question = refl };
  accepted_new = record { table = refl; question = refl };
  dropped = (refl, refl);
  calls = undisturbed;
  before = record { answer = refl; buffer = refl };
  after = record { answer = refl; buffer = refl };
  same = order7 takes_int or_builtin adds_builtin with_int undisturbed;
}
  where
    undisturbed : CallsUndisturbed takes_int or_builtin adds_builtin.more with_int
    undisturbed a xs r = inl (refl, refl)
