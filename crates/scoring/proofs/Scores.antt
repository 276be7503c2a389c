-- Scores: sums of them, and the two passes one argument at a time.
use Prim.Native.Nat.{ℕ, ◌+◌, ◌*◌, ◌≤◌, ◌<◌}
use lib.ListN.{get_or, length, take, drop}
use mathlib.Core.Bool.{Bool, true, false, true≢false}
use mathlib.Core.List.{List}
use mathlib.Core.Option.{Option, none, some}
use mathlib.Core.Path.{◌≡◌, refl, sym, ap, ◌∙◌}
use native.Mathlib.Omega.{arith}
use Rattle.std.specs.Prelude.{Option as Maybe, Some, None, is_some}
use Rattle.scoring.proofs.ParamsAndArgsLeft.{params_length, args_next, args_none}
use Rattle.scoring.proofs.ParamSearch.{param_named_is}
use Rattle.scoring.proofs.ScoreSums.{plus_zero, plus_none_more, plus_assoc}
use Rattle.area.specs.Inside.Slot.{type_at}
use Rattle.scoring.specs.Arg.{Arg as Seen}
use Rattle.scoring.specs.Inside.Args.{args_in}
use Rattle.scoring.specs.Inside.Params.{param_here, param_at, named_place}
use Rattle.scoring.specs.Inside.Scored.{score_of, as_score, points_of, compared_or, named_more, named_in, TakenOne, positional_in, score_in}
use Rattle.scoring.specs.Inside.Passes.{mark_one, marks_from, marks_of, no_marks, unmarked, named_one, named_score, unnamed_one, unnamed_score}
use Rattle.scoring.specs.Inside.Received.{ReceivedIs, left_in}
use Rattle.scoring.specs.WithParams.{param_named, next_param, parameter_for, left_behind, free_params}
use Rattle.scoring.specs.Score.{plus, compared, score_one, score}
use Rattle.scoring.specs.declared.parameter.Received.{Received}
use Rattle.scoring.specs.declared.score.PositionalPass.{PositionalPass}
use Rattle.scoring.proofs.BothPasses.{mark_none, unmarked_free, score_split}
use Rattle.scoring.specs.declared.args.Arg.{Arg}
use Rattle.scoring.specs.declared.score.NamedPass.{NamedPass}
use Rattle.scoring.specs.declared.score.Score.{Score}
use Rattle.rules.specs.Accept.{param_accepts}
use Rattle.symbol.specs.Inside.LookupAnswer.{optional, param_seen, params_in}
use Rattle.symbol.specs.Symbols.{Param, Symbols}
use Rattle.symbol.specs.Lookup.{symbols_of}
use Rattle.symbol.specs.declared.functions.Function.{Function}
use Rattle.symbol.specs.declared.functions.Param.{Param as Read}
use Rattle.ty.proofs.Choice.{by_choice, choose_yes, choose_no}
use Rattle.ty.specs.Bytes.{Ty, same_bytes}

-- ---- a score and what it says
score_back : (s : Option ℕ) → score_of (as_score s) ≡ s
score_back none = refl
score_back (some n) = refl

score_forth : (r : Maybe Score) → as_score (score_of r) ≡ r
score_forth None = refl
score_forth (Some s) = refl

pub score_of_lem : (r : Maybe Score) (s : Option ℕ) → r ≡ as_score s → score_of r ≡ s
score_of_lem r s e = ap (λ (z : Maybe Score). score_of z) e ∙ score_back s

pub pass_is : {s s' : Maybe Score} {m m' : List Bool} → s ≡ s' → m ≡ m' → ◌≡◌ {A = NamedPass} (record { score = s; marks = m }) (record { score = s'; marks = m' })
pass_is {s} {s'} {m} {m'} e f = λ i. record { score = e i; marks = f i }

-- ---- a sum of two
-- none more
pub add_nothing : (r : Maybe Score) (one : Option ℕ) → one ≡ some 0 → r ≡ as_score (plus (score_of r) one)
add_nothing r one e =
    sym (ap (λ (z : Option ℕ). as_score (plus (score_of r) z)) e ∙ ap (λ (z : Option ℕ). as_score z) (plus_none_more (score_of r)) ∙ score_forth r)

-- one more of a sum
sum_turn : {s' left whole : Option ℕ} (s one rest : Option ℕ) → s' ≡ plus s one → left ≡ plus one rest → plus s left ≡ whole → plus s' rest ≡ whole
sum_turn {s'} {left} {whole} s one rest e f g =
    ap (λ (z : Option ℕ). plus z rest) e ∙ plus_assoc s one rest ∙ ap (λ (z : Option ℕ). plus s z) (sym f) ∙ g

sum_done : {s left whole : Option ℕ} → left ≡ some 0 → plus s left ≡ whole → s ≡ whole
sum_done {s} {left} {whole} e g = sym (plus_none_more s) ∙ ap (λ (z : Option ℕ). plus s z) (sym e) ∙ g

-- ---- an argument against a parameter, by the tests of the code
module _ (S : Symbols) (t : List ℕ) (o : Option ℕ) (x : Ty) (f : Maybe Read) (p : Read) (at : f ≡ Some p) where
  compared_at : as_score (compared S (param_seen t p) x) ≡ as_score (compared_or S o (param_here t f) x)
  compared_at = sym (ap (λ (r : Maybe Read). as_score (compared_or S o (param_here t r) x)) at)

  module _ (q b : List ℕ) (part : q ≡ take p.part.len (drop p.part.start b)) (bytes : b ≡ t) (v : Bool) (same : v ≡ same_bytes x q) where
    type_is : q ≡ (param_seen t p).ty
    type_is = part ∙ ap (λ (z : List ℕ). take p.part.len (drop p.part.start z)) bytes

    same_is : same_bytes x (param_seen t p).ty ≡ v
    same_is = sym (same ∙ ap (λ (z : List ℕ). same_bytes x z) type_is)

    pub compared_same : v ≡ true → Some (record { points = 2 }) ≡ as_score (compared_or S o (param_here t f) x)
    unfolding compared
    compared_same e = sym (ap (λ (s : Option ℕ). as_score s) (choose_yes _ _ _ (same_is ∙ e))) ∙ compared_at

    module _ (e : v ≡ false) (c : Bool) (accepts : c ≡ param_accepts S q x p.vararg) where
      accepts_is : param_accepts S (param_seen t p).ty x p.vararg ≡ c
      accepts_is = sym (accepts ∙ ap (λ (z : List ℕ). param_accepts S z x p.vararg) type_is)

      pub compared_taken : c ≡ true → Some (record { points = 1 }) ≡ as_score (compared_or S o (param_here t f) x)
      unfolding compared
      compared_taken h = sym (ap (λ (s : Option ℕ). as_score s) (choose_no _ _ _ (same_is ∙ e) ∙ choose_yes _ _ _ (accepts_is ∙ h))) ∙ compared_at

      pub compared_not : c ≡ false → None ≡ as_score (compared_or S o (param_here t f) x)
      unfolding compared
      compared_not h = sym (ap (λ (s : Option ℕ). as_score s) (choose_no _ _ _ (same_is ∙ e) ∙ choose_no _ _ _ (accepts_is ∙ h))) ∙ compared_at

module _ (S : Symbols) where
  -- in the named pass
  named_is : (ps : List Param) (id : ℕ) (x : Ty) → compared_or S none (param_named id ps) x ≡ named_one S ps (some id) x
  unfolding named_one score_one
  named_is ps id x = go (param_named id ps)
    where
      go : (f : Option Param) → compared_or S none f x ≡ score_one S f (some id) x
      go none = refl
      go (some p) = refl

  -- in the positional pass, where the parameters fs are left
  unnamed_is : (fs : List Param) (x : Ty) → compared_or S (some 1) (next_param fs) x ≡ unnamed_one S fs none x
  unfolding unnamed_one score_one
  unnamed_is fs x = go (next_param fs)
    where
      go : (f : Option Param) → compared_or S (some 1) f x ≡ score_one S f none x
      go none = refl
      go (some p) = refl

  -- at most two points for an argument
  compared_few : (p : Param) (x : Ty) → points_of (as_score (compared S p x)) ≤ 2
  unfolding compared
  compared_few p x =
      by_choice (λ (s : Option ℕ). points_of (as_score s) ≤ 2) _ (λ _. omega arith) λ _.
      by_choice (λ (s : Option ℕ). points_of (as_score s) ≤ 2) _ (λ _. omega arith) (λ _. omega arith)

  one_few : (o : Maybe Score) (f : Option Param) (x : Ty) → points_of o ≤ 2 → points_of (as_score (compared_or S (score_of o) f x)) ≤ 2
  one_few o none x h = let f : points_of (as_score (score_of o)) ≡ points_of o = ap (λ (z : Maybe Score). points_of z) (score_forth o) in omega arith
  one_few o (some p) x h = compared_few p x

  -- where a missing parameter scores 1
  pub one_few_le : (f : Option Param) (x : Ty) (r : Maybe Score) → r ≡ as_score (compared_or S (some 1) f x) → points_of r ≤ 64
  one_few_le f x r e =
      let g : points_of r ≡ points_of (as_score (compared_or S (some 1) f x)) = ap (λ (z : Maybe Score). points_of z) e in
      omega (arith, one_few (Some (record { points = 1 })) f x (omega arith))

  pub none_few : (f : Option Param) (x : Ty) → points_of (as_score (compared_or S none f x)) ≤ 2
  none_few f x = one_few None f x (omega arith)

  score_few : (f : Option Param) (n : Option ℕ) (x : Ty) → points_of (as_score (score_one S f n x)) ≤ 2
  unfolding score_one
  score_few (some p) n x = compared_few p x
  score_few none none x = omega arith
  score_few none (some id) x = omega arith

  named_few : (ps : List Param) (m : Option ℕ) (x : Ty) → points_of (as_score (named_one S ps m x)) ≤ 2
  unfolding named_one
  named_few ps none x = omega arith
  named_few ps (some id) x = score_few (param_named id ps) (some id) x

  unnamed_few : (fs : List Param) (m : Option ℕ) (x : Ty) → points_of (as_score (unnamed_one S fs m x)) ≤ 2
  unfolding unnamed_one
  unnamed_few fs (some id) x = omega arith
  unnamed_few fs none x = score_few (next_param fs) none x

-- a sum has at most the points of both
plus_few : (a b : Option ℕ) → points_of (as_score (plus a b)) ≤ points_of (as_score a) + points_of (as_score b)
unfolding plus
plus_few none b = omega arith
plus_few (some a) none = omega arith
plus_few (some a) (some b) = omega arith

-- one argument more
pub sum_few : (r s : Maybe Score) (one : Option ℕ) (n : ℕ) → r ≡ as_score (plus (score_of s) one) → points_of (as_score one) ≤ 2 → points_of s ≤ 2 * n → points_of r ≤ 2 * (n + 1)
sum_few r s one n e h w =
    let f : points_of r ≡ points_of (as_score (plus (score_of s) one)) = ap (λ (z : Maybe Score). points_of z) e in
    let g : points_of (as_score (score_of s)) ≡ points_of s = ap (λ (z : Maybe Score). points_of z) (score_forth s) in
    omega (arith, plus_few (score_of s) one)

-- ---- the named pass
module _ (t : List ℕ) (p : List Read) (n : Maybe ℕ) (x : Ty) (m : NamedPass) where
  -- an unnamed argument
  pub named_passed : n ≡ None → m ≡ named_more t p (optional n) x m
  unfolding named_one
  named_passed e =
      let f : optional n ≡ none = ap (λ (k : Maybe ℕ). optional k) e in
      pass_is (add_nothing m.score _ (ap (λ (k : Option ℕ). named_one (symbols_of t) (params_in t p) k x) f))
      (sym (ap (λ (k : Option ℕ). mark_one (params_in t p) k m.marks) f ∙ mark_none (params_in t p) m.marks))

  -- one that names the parameter q at r, if any
  pub named_added : (id : ℕ) → n ≡ Some id → (r : Maybe ℕ) → r ≡ named_place t p id → (q : Maybe Read) → q ≡ param_at p r → (one s : Maybe Score)
      (marks : List Bool) → one ≡ as_score (compared_or (symbols_of t) none (param_here t q) x) → s ≡ as_score (plus (score_of m.score) (score_of one))
      → marks ≡ mark_one (params_in t p) (some id) m.marks → ◌≡◌ {A = NamedPass} (record { score = s; marks = marks }) (named_more t p (optional n) x m)
  named_added id h r e q w one s marks f g k =
      let z : optional n ≡ some id = ap (λ (k : Maybe ℕ). optional k) h in
      let c : score_of one ≡ named_one (symbols_of t) (params_in t p) (optional n) x
      = score_of_lem one _ f ∙ ap (λ (o : Maybe Read). compared_or (symbols_of t) none (param_here t o) x) w
      ∙ ap (λ (o : Option Param). compared_or (symbols_of t) none o x) (sym (param_named_is t p id r e))
      ∙ named_is (symbols_of t) (params_in t p) id x ∙ ap (λ (k : Option ℕ). named_one (symbols_of t) (params_in t p) k x) (sym z) in
      pass_is (g ∙ ap (λ (k : Option ℕ). as_score (plus (score_of m.score) k)) c)
      (k ∙ ap (λ (k : Option ℕ). mark_one (params_in t p) k m.marks) (sym z))

module _ (t : List ℕ) (p : List Read) (ts : List Ty) (xs : List Arg) where
  -- the arguments before number i give the pass m
  pub record NamedFrom (m : NamedPass) (i : ℕ) : Type 0 where
    pub few : points_of m.score ≤ 2 * i
    pub score : plus (score_of m.score) (named_score (symbols_of t) (params_in t p) (args_in ts (drop i xs))) ≡ named_score (symbols_of t) (params_in t p) (args_in ts xs)
    pub marked : marks_from (params_in t p) m.marks (args_in ts (drop i xs)) ≡ marks_of (params_in t p) (args_in ts xs)

  pub named_start : NamedFrom (record { score = Some (record { points = 0 }); marks = no_marks }) 0
  named_start = record { few = omega arith; score = plus_zero (named_score (symbols_of t) (params_in t p) (args_in ts xs)); marked = refl }

  module _ (m : NamedPass) (i : ℕ) (w : NamedFrom m i) where
    pub named_next : (m' : NamedPass) (y : Ty) (d : Arg) → i < length xs → y ≡ type_at ts (get_or xs i d).node
        → m' ≡ named_more t p (optional (get_or xs i d).name) y m → NamedFrom m' (i + 1)
    unfolding named_score marks_from
    named_next m' y d h k e' =
        let a = get_or xs i d in
        let e : m' ≡ named_more t p (optional a.name) (type_at ts a.node) m = e' ∙ ap (λ (z : Ty). named_more t p (optional a.name) z m) k in
        let g = args_next ts xs i d h in
        let one = named_one (symbols_of t) (params_in t p) (optional a.name) (type_at ts a.node) in
        let f : m'.score ≡ as_score (plus (score_of m.score) one) = ap (λ (z : NamedPass). z.score) e in
        record {
          few = sum_few m'.score m.score one i f (named_few (symbols_of t) (params_in t p) (optional a.name) (type_at ts a.node)) w.few;
          score = sum_turn (score_of m.score) one _ (score_of_lem m'.score _ f) (ap (λ (xs : List Seen). named_score (symbols_of t) (params_in t p) xs) g) w.score;
          marked = ap (λ (z : NamedPass). marks_from (params_in t p) z.marks (args_in ts (drop (i + 1) xs))) e
              ∙ sym (ap (λ (xs : List Seen). marks_from (params_in t p) m.marks xs) g) ∙ w.marked;
        }

    pub named_done : length xs ≤ i → m ≡ named_in t p (args_in ts xs)
    unfolding named_score marks_from
    named_done h =
        let e = args_none ts xs i h in
        pass_is
        (sym (score_forth m.score)
        ∙ ap (λ (z : Option ℕ). as_score z) (sum_done (ap (λ (xs : List Seen). named_score (symbols_of t) (params_in t p) xs) e) w.score))
        (sym (ap (λ (xs : List Seen). marks_from (params_in t p) m.marks xs) e) ∙ w.marked)

-- ---- the positional pass
module _ (t : List ℕ) (p : List Read) (marks : List Bool) (n : Maybe ℕ) (x : Ty) (w : PositionalPass) where
  -- a named argument
  pub unnamed_passed : is_some n ≡ true → TakenOne t p marks (optional n) x w w
  unfolding unnamed_one left_behind
  unnamed_passed h = go n h
    where
      go : (n : Maybe ℕ) → is_some n ≡ true → TakenOne t p marks (optional n) x w w
      go None h = absurd (true≢false (sym h))
      go (Some id) h = record { score = add_nothing w.score _ refl; left = refl }

  -- an unnamed one, whose turn is r
  pub unnamed_added : is_some n ≡ false → (r : Received) → ReceivedIs t p marks w.next none r → (one s : Maybe Score)
      → one ≡ as_score (compared_or (symbols_of t) (some 1) (param_here t r.param) x) → s ≡ as_score (plus (score_of w.score) (score_of one))
      → TakenOne t p marks (optional n) x w (record { score = s; next = r.next })
  unfolding parameter_for
  unnamed_added h r e one s f g = go n h
    where
      c : score_of one ≡ unnamed_one (symbols_of t) (left_in t p marks w.next) none x
      c = score_of_lem one _ f ∙ ap (λ (o : Option Param). compared_or (symbols_of t) (some 1) o x) e.param ∙ unnamed_is (symbols_of t) (left_in t p marks w.next) x

      go : (n : Maybe ℕ) → is_some n ≡ false → TakenOne t p marks (optional n) x w (record { score = s; next = r.next })
      go None h = record { score = g ∙ ap (λ (k : Option ℕ). as_score (plus (score_of w.score) k)) c; left = e.left }
      go (Some id) h = absurd (true≢false h)

module _ (t : List ℕ) (p : List Read) (marks : List Bool) (ts : List Ty) (xs : List Arg) where
  -- the arguments before number i give the pass w
  pub record UnnamedFrom (w : PositionalPass) (i : ℕ) : Type 0 where
    pub few : points_of w.score ≤ 2 * i
    pub score : plus (score_of w.score) (unnamed_score (symbols_of t) (left_in t p marks w.next) (args_in ts (drop i xs)))
        ≡ unnamed_score (symbols_of t) (unmarked (params_in t p) marks) (args_in ts xs)

  pub unnamed_start : UnnamedFrom (record { score = Some (record { points = 0 }); next = 0 }) 0
  unfolding left_in
  unnamed_start = record { few = omega arith; score = plus_zero (unnamed_score (symbols_of t) (unmarked (params_in t p) marks) (args_in ts xs)) }

  module _ (w : PositionalPass) (i : ℕ) (from : UnnamedFrom w i) where
    pub unnamed_next : (w' : PositionalPass) (y : Ty) (d : Arg) → i < length xs → y ≡ type_at ts (get_or xs i d).node
        → TakenOne t p marks (optional (get_or xs i d).name) y w w' → UnnamedFrom w' (i + 1)
    unfolding unnamed_score
    unnamed_next w' y d h k e =
        let a = get_or xs i d in
        let fs = left_in t p marks w.next in
        let one = unnamed_one (symbols_of t) fs (optional a.name) (type_at ts a.node) in
        let f : w'.score ≡ as_score (plus (score_of w.score) one)
        = e.score ∙ ap (λ (z : Ty). as_score (plus (score_of w.score) (unnamed_one (symbols_of t) fs (optional a.name) z))) k in
        record {
          few = sum_few w'.score w.score one i f (unnamed_few (symbols_of t) fs (optional a.name) (type_at ts a.node)) from.few;
          score = sum_turn (score_of w.score) one _ (score_of_lem w'.score _ f)
              (ap (λ (xs : List Seen). unnamed_score (symbols_of t) fs xs) (args_next ts xs i d h)
              ∙ ap (λ (fs' : List Param). plus one (unnamed_score (symbols_of t) fs' (args_in ts (drop (i + 1) xs)))) (sym e.left))
              from.score;
        }

    pub unnamed_done : length xs ≤ i → w.score ≡ as_score (positional_in t p marks (args_in ts xs))
    unfolding unnamed_score
    unnamed_done h =
        sym (score_forth w.score)
        ∙ ap (λ (z : Option ℕ). as_score z)
        (sum_done (ap (λ (xs : List Seen). unnamed_score (symbols_of t) (left_in t p marks w.next) xs) (args_none ts xs i h)) from.score)

-- ---- both
-- the passes n and s
module _ (t : List ℕ) (f : Function) (xs : List Seen) (n : NamedPass) (s : Maybe Score) (e : n ≡ named_in t f.params xs)
    (g : s ≡ as_score (positional_in t f.params n.marks xs)) (few : length f.params ≤ 16) where
  pub score_is : (r : Maybe Score) → r ≡ as_score (plus (score_of n.score) (score_of s)) → r ≡ as_score (score_in t f xs)
  unfolding score
  score_is r h =
      let ps = params_in t f.params in
      let wide : length ps ≤ 16 = omega (arith, params_length t f.params) in
      let free : unmarked ps n.marks ≡ free_params ps xs = ap (λ (z : NamedPass). unmarked ps z.marks) e ∙ unmarked_free ps xs wide in
      h ∙ ap (λ (z : Option ℕ). as_score (plus z (score_of s))) (score_of_lem n.score _ (ap (λ (z : NamedPass). z.score) e))
      ∙ ap (λ (z : Option ℕ). as_score (plus (named_score (symbols_of t) ps xs) z))
      (score_of_lem s _ g ∙ ap (λ (fs : List Param). unnamed_score (symbols_of t) fs xs) free)
      ∙ ap (λ (z : Option ℕ). as_score z) (sym (score_split (symbols_of t) ps (free_params ps xs) xs))

-- ---- what the functions' proofs take
pub ruleset comparison = (compared_same, compared_taken, compared_not)

pub ruleset named_one_more = (named_passed, named_added, none_few)

pub ruleset named_whole = (named_start, named_done)

pub ruleset unnamed_whole = (unnamed_start, unnamed_done)
