-- What order 7 supposes of a call is needed: in each case, from bytes, one call reads the list, one part fails there, all others hold, and the answers differ.
-- The new function does not know a named argument; no old one matches. NeededScores has the other cases.
use Prim.Native.Nat.{ℕ, ◌≤◌, ◌<◌}
use lib.ListN.{get_or}
use mathlib.Core.Bool.{false≢true}
use mathlib.Core.List.Memᴰ
use mathlib.Core.List.{List, [], ◌∷◌, ◌++◌, nil≢cons, Memᴰ}
use mathlib.Core.Logic.{◌⊎◌, inl, inr}
use mathlib.Core.Option.{Option, none, some}
use mathlib.Core.Path.{◌≡◌, refl, ap, sym, ◌∙◌}
use native.Mathlib.Omega.{arith}
use Rattle.agreement.proofs.OneCall.{AtCalls, ReadOnce, read_once}
use Rattle.agreement.specs.Order7.{AddsFunction, CallsUndisturbed, old_list, new_function}
use Rattle.agreement.specs.SameAnswers.{SameAnswers}
use Rattle.agreement.specs.Undisturbed.{Dropped, Unfit, OldMatch, ScoresLess, StaysWithOld, Undisturbed}
use Rattle.question.specs.Header.{header_of}
use Rattle.question.specs.Parse.{tree_of}
use Rattle.question.specs.Tree.{leaf as leaf·, named as named·}
use Rattle.record.specs.Layout.{owner_field, name_field}
use Rattle.record.specs.Table.{Record}
use Rattle.scoring.proofs.NoneAndNil.{some≢none}
use Rattle.scoring.specs.Arg.{Arg}
use Rattle.scoring.specs.Score.{score}
use Rattle.symbol.specs.Lookup.{symbols_of}
use Rattle.symbol.specs.Symbols.{Overload, Param, Symbols}
use Rattle.typing.proofs.Base.{some_inj}
use Rattle.typing.proofs.Computed.{computed}
use Rattle.typing.proofs.OneTyping.{Accepted}
use Rattle.typing.proofs.Samples.{letter, function, param, script, leaf, named, call, int, boolean, string, error, diagnostic, Passes, Fails}
use Rattle.typing.specs.Answer.{Answer}
use Rattle.typing.specs.CleanCall.{AllKnown, candidates}
use Rattle.typing.specs.Mark.{type_in}

-- Two tables as order 7 has them, and a question that both accept. One call reads the list, with the arguments xs: the new function is not dropped as builtin
-- there, and fits in number.
pub record Called (t u q : List ℕ) (xs : List Arg) : Type 0 where
  pub adds : AddsFunction t u
  pub accepted_old : Accepted t q
  pub accepted_new : Accepted u q
  pub once : ReadOnce (symbols_of t) (header_of q) (tree_of q) (owner_field adds.more.new) (name_field adds.more.new) xs
  pub not_dropped : ¬ Dropped (old_list t u adds.more) (new_function t u adds.more)
  pub not_unfit : ¬ Unfit (new_function t u adds.more) xs

module _ {t u q : List ℕ} {xs : List Arg} (C : Called t u q xs) where
  abbrev pub old_ones : List Overload
  old_ones = old_list t u C.adds.more

  abbrev pub added : Overload
  added = new_function t u C.adds.more

  abbrev pub added_score : Option ℕ
  added_score = score (symbols_of t) added xs

  -- the parts of `StaysWithOld`: the new function knows the named arguments
  abbrev pub Knows : Type 0
  Knows = AllKnown (added ∷ []) xs

  -- an old usable one matches
  abbrev pub Matched : Type 0
  Matched = (points : ℕ) × OldMatch (symbols_of t) old_ones xs points

  -- the new one has no score, or a lower one than an old match
  abbrev pub Less : Type 0
  Less = (added_score ≡ none) ⊎ ScoresLess (symbols_of t) old_ones added xs

  -- whatever score an old match has, a lower one is less
  pub lower : (s old : ℕ) → added_score ≡ some s → OldMatch (symbols_of t) old_ones xs old → s < old → Less
  lower s old e m l = inr (record { points = s; new = e; old_points = old; old = m; less = l })

  -- these are all
  pub stays : Knows → Matched → Less → StaysWithOld (symbols_of t) old_ones added xs
  stays k m l = record { known = k; old = m; less = l }

  -- where the call does not stay with an old one, what is supposed of the calls fails
  pub disturbed : ¬ StaysWithOld (symbols_of t) old_ones added xs → ¬ CallsUndisturbed t u C.adds.more q
  disturbed n f = go (f C.accepted_old.question xs C.once.reads)
    where
      go : Undisturbed (symbols_of t) old_ones added xs → ⊥
      go (inl d) = C.not_dropped d
      go (inr (inl m)) = C.not_unfit m
      go (inr (inr b)) = n b

pub no_more : (points best : ℕ) → some points ≡ some best → best ≤ points
no_more points best e = let x : points ≡ best = some_inj e in omega arith

module _ (S : Symbols) (xs : List Arg) (points : ℕ) where
  -- of these overloads, none scores more than so many points
  unfoldable pub NoneAbove : List Overload → Type 0
  NoneAbove [] = Unit {0}
  NoneAbove (o ∷ os) = ((best : ℕ) → score S o xs ≡ some best → best ≤ points) × NoneAbove os

  not_above : (o : Overload) (os : List Overload) → Memᴰ o os → NoneAbove os → (best : ℕ) → score S o xs ≡ some best → best ≤ points
  unfolding NoneAbove
  not_above o [] m n best e = absurd (Memᴰ.not-nil m)
  not_above o (v ∷ vs) (Memᴰ.head p) (l, n) best e = l best (ap (λ w. score S w xs) (sym p) ∙ e)
  not_above o (v ∷ vs) (Memᴰ.tail m) (l, n) best e = not_above o vs m n best e

  -- where no old one that is usable and fits scores more than the new one, the call does not stay with an old one
  pub cannot_stay : (os : List Overload) (f : Overload) → score S f xs ≡ some points → NoneAbove (candidates os xs) → ¬ StaysWithOld S os f xs
  cannot_stay os f e n b = go b.less
    where
      go : (score S f xs ≡ none) ⊎ ScoresLess S os f xs → ⊥
      go (inl d) = some≢none (sym e ∙ d)
      go (inr r) =
          let x : points ≡ r.points = some_inj (sym e ∙ r.new) in
          let y = not_above r.old.overload (candidates os xs) r.old.usable n r.old_points r.old.scores in omega (arith, r.less)

-- f, a and b are 40, 41 and 42; behind these the functions
abbrev pub with_f : List ℕ → List ℕ
with_f functions = letter 102 ++ (letter 97 ++ (letter 98 ++ functions))

-- their records, with one function
abbrev pub records_f : List ℕ → List Record
records_f function = letter 102 ∷ letter 97 ∷ letter 98 ∷ function ∷ []

-- f(a), by the types of a and of its result
abbrev pub takes : List ℕ → List ℕ → List ℕ
takes ty result = function 40 result 1 (param 41 ty)

-- an argument without a name, by its node
abbrev pub unnamed : ℕ → List ℕ → List Arg
unnamed node ty = record { name = none; ty = ty; node = node } ∷ []

-- every overload knows its name
pub no_names : (vs : List Overload) (node : ℕ) (ty : List ℕ) → AllKnown vs (unnamed node ty)
no_names vs node ty v m a n id e = absurd (some≢none (sym e ∙ ap (λ (b : Arg). b.name) (Memᴰ.eq_of_singleton n)))

-- f(a Int): Int
abbrev pub takes_int : List ℕ
takes_int = with_f (takes int int)

-- ---- a name that the new function does not know

abbrev or_other_name : List ℕ
or_other_name = takes_int ++ function 40 int 1 (param 42 int)

-- f(a = Int)
abbrev with_name : List ℕ
with_name = script (call 40 1 (named 41 (leaf int)))

abbrev named_a : List Arg
named_a = record { name = some 41; ty = int; node = 1 } ∷ []

-- beside f(a Int), the new f(b Int) does not match, and draws 16
pub record UnknownName : Type 0 where
  pub called : Called takes_int or_other_name with_name named_a
  pub unknown : ¬ Knows called
  pub matched : Matched called
  pub less : Less called
  pub disturbs : ¬ CallsUndisturbed takes_int or_other_name called.adds.more with_name
  pub before : Passes takes_int with_name int
  pub after : Fails or_other_name with_name int (diagnostic 16 1 1)
  pub differ : ¬ SameAnswers takes_int or_other_name with_name

abbrev called_by_name : Called takes_int or_other_name with_name named_a
unfolding computed AtCalls type_in
called_by_name = record {
  adds = record {
    accepted_old = refl;
    accepted_new = refl;
    more = record { front = records_f (takes int int); new = function 40 int 1 (param 42 int); rear = []; old = refl; now = refl; function = refl };
    last = refl;
    listed = λ e. nil≢cons (sym e);
    builtins = inl refl;
  };
  accepted_old = record { table = refl; question = refl };
  accepted_new = record { table = refl; question = refl };
  once = read_once (symbols_of takes_int) (header_of with_name) 40 (named· 41 (leaf· int)) (λ P n. tt) int int refl refl;
  not_dropped = λ d. false≢true (d.1);
  not_unfit = λ e. false≢true (sym e);
}

pub unknown_name : UnknownName
unfolding computed called_by_name
unknown_name = record {
  called = called_by_name;
  unknown = unknown;
  matched = (2, record { overload = _; usable = Memᴰ.head refl; scores = refl });
  less = inl refl;
  disturbs = disturbed called_by_name (λ b. unknown b.known);
  before = record { answer = refl; buffer = refl };
  after = record { answer = refl; buffer = refl };
  differ = λ s. let z : ◌≡◌ {A = ℕ} 1 0 = ap (λ (a : Answer). a.pass) (s 20).0 in omega arith;
}
  where
    unknown : ¬ Knows called_by_name
    unknown k =
        let z = k (added called_by_name) (Memᴰ.head refl) _ (Memᴰ.head refl) 41 refl in
        let p : ◌≡◌ {A = ℕ} z.param.name 42 = ap (λ (p : Param). p.name) (Memᴰ.eq_of_singleton z.among) in
        let c = z.called in omega arith

-- ---- no old one matches

abbrev or_boolean : List ℕ
or_boolean = takes_int ++ takes boolean int

-- f(String)
abbrev with_string : List ℕ
with_string = script (call 40 1 (leaf string))

-- neither f(a Int) nor the new f(a Boolean) matches: 17 of the only one that fits before, and 18 of both afterwards
pub record NoneMatched : Type 0 where
  pub called : Called takes_int or_boolean with_string (unnamed 1 string)
  pub known : Knows called
  pub unmatched : ¬ Matched called
  pub less : Less called
  pub disturbs : ¬ CallsUndisturbed takes_int or_boolean called.adds.more with_string
  pub before : Fails takes_int with_string int (diagnostic 17 1 1)
  pub after : Fails or_boolean with_string error (diagnostic 18 0 0)
  pub differ : ¬ SameAnswers takes_int or_boolean with_string

abbrev called_with_string : Called takes_int or_boolean with_string (unnamed 1 string)
unfolding computed AtCalls type_in
called_with_string = record {
  adds = record {
    accepted_old = refl;
    accepted_new = refl;
    more = record { front = records_f (takes int int); new = takes boolean int; rear = []; old = refl; now = refl; function = refl };
    last = refl;
    listed = λ e. nil≢cons (sym e);
    builtins = inl refl;
  };
  accepted_old = record { table = refl; question = refl };
  accepted_new = record { table = refl; question = refl };
  once = read_once (symbols_of takes_int) (header_of with_string) 40 (leaf· string) (λ P n. tt) int string refl refl;
  not_dropped = λ d. false≢true (d.1);
  not_unfit = λ e. false≢true (sym e);
}

pub none_matched : NoneMatched
unfolding computed called_with_string
none_matched = record {
  called = called_with_string;
  known = no_names _ 1 string;
  unmatched = unmatched;
  less = inl refl;
  disturbs = disturbed called_with_string (λ b. unmatched b.old);
  before = record { answer = refl; buffer = refl };
  after = record { answer = refl; buffer = refl };
  differ = λ s. let z : ◌≡◌ {A = ℕ} 0 21 = ap (λ (a : Answer). get_or a.ty 0 0) (s 20).0 in omega arith;
}
  where
    unmatched : ¬ Matched called_with_string
    unmatched (points, m) = some≢none (sym m.scores ∙ ap (λ o. score (symbols_of takes_int) o (unnamed 1 string)) (Memᴰ.eq_of_singleton m.usable))
