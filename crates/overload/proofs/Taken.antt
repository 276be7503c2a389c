-- The unnamed arguments take, in turn, the parameters that no argument names, each once, and only a vararg leaves an argument over.
use Prim.Native.Nat.{ℕ, zero, suc, ◌+◌, ◌-◌, ◌≤◌}
use borrow.Author.Tests.{leb-true, eqb-true, eqb-false, eq-eqb, ne_eqb}
use lib.Dec.{eqb, leb}
use lib.ListN.{length, take, replicate}
use mathlib.Core.Bool.{Bool, true, false, ◌&&◌, ◌||◌, true≢false}
use mathlib.Core.List.Memᴰ
use mathlib.Core.List.{List, [], ◌∷◌, ◌++◌, map, Memᴰ}
use mathlib.Core.Logic.{◌⊎◌, inl, inr}
use mathlib.Core.Option.{Option, none, some}
use mathlib.Core.Path.{◌≡◌, refl, ap, sym, ◌∙◌}
use native.Mathlib.Omega.{arith}
use Rattle.overload.specs.Order4.{count_by_name, unnamed_count, onto_unnamed, unnamed_params, given_params, first_or_none, NoParameter, unknown_name, left_over}
use Rattle.scoring.proofs.NoneAndNil.{some≢none}
use Rattle.scoring.specs.Arg.{Arg}
use Rattle.scoring.specs.Arity.{last_vararg, required, fits}
use Rattle.scoring.specs.WithParams.{param_named, is_name, some_arg_named, free_params, next_param, behind_next, parameter_for, left_behind}
use Rattle.scoring.specs.WithParams.{WithParam, in_turn, with_params, NamesDiffer}
use Rattle.symbol.specs.Symbols.{Param, Overload}
use Rattle.ty.specs.Choose.{choose}

-- ---- one parameter or none for each argument
pub args_kept : (ps fs : List Param) (xs : List Arg) → map (λ (z : WithParam). z.arg) (in_turn ps fs xs) ≡ xs
unfolding in_turn
args_kept ps fs [] = refl
args_kept ps fs (a ∷ xs) = ap (λ (ys : List Arg). a ∷ ys) (args_kept ps (left_behind fs a.name) xs)

turn_of : (ps fs : List Param) (xs : List Arg) (z : WithParam) → Memᴰ z (in_turn ps fs xs) → (gs : List Param) × (z.param ≡ parameter_for ps gs z.arg.name)
unfolding in_turn
turn_of ps fs [] z m = absurd (Memᴰ.not-nil m)
turn_of ps fs (a ∷ xs) z m = go (Memᴰ.cases_cons m) (turn_of ps (left_behind fs a.name) xs z)
  where
    go : (z ≡ record { arg = a; param = parameter_for ps fs a.name }) ⊎ Memᴰ z (in_turn ps (left_behind fs a.name) xs)
        → (Memᴰ z (in_turn ps (left_behind fs a.name) xs) → (gs : List Param) × (z.param ≡ parameter_for ps gs z.arg.name))
        → (gs : List Param) × (z.param ≡ parameter_for ps gs z.arg.name)
    go (inl p) f = (fs, ap (λ (y : WithParam). y.param) p ∙ ap (λ (y : WithParam). parameter_for ps fs y.arg.name) (sym p))
    go (inr k) f = f k

-- a named argument gets the parameter of its name
pub by_name : (ps fs : List Param) (xs : List Arg) (z : WithParam) → Memᴰ z (in_turn ps fs xs) → (id : ℕ) → z.arg.name ≡ some id → z.param ≡ param_named id ps
unfolding parameter_for
by_name ps fs xs z m id e = let (gs, p) = turn_of ps fs xs z m in p ∙ ap (λ (n : Option ℕ). parameter_for ps gs n) e

-- ---- in turn
take_nil : (n : ℕ) → ◌≡◌ {A = List Param} (take n []) []
take_nil zero = refl
take_nil (suc n) = refl

none_more : (n : ℕ) → none ∷ first_or_none n [] ≡ first_or_none (suc n) []
none_more n =
    let e : n - 0 ≡ n = omega arith in
    let f : suc n - 0 ≡ suc n = omega arith in
    ap (λ (ps : List Param). none ∷ map some ps ++ replicate (n - 0) none) (take_nil n) ∙ ap (λ (k : ℕ). none ∷ replicate k none) e
    ∙ sym (ap (λ (k : ℕ). replicate k none) f)

some_more : (n : ℕ) (f : Param) (fs : List Param) → some f ∷ first_or_none n fs ≡ first_or_none (suc n) (f ∷ fs)
some_more n f fs =
    let e : n - length fs ≡ suc n - suc (length fs) = omega arith in
    ap (λ (k : ℕ). some f ∷ map some (take n fs) ++ replicate k none) e

turns_from : (ps fs : List Param) (xs : List Arg) → unnamed_params (in_turn ps fs xs) ≡ first_or_none (unnamed_count xs) fs
unfolding in_turn unnamed_params unnamed_count count_by_name onto_unnamed parameter_for left_behind next_param behind_next
turns_from ps fs [] = let e : 0 - length fs ≡ 0 = omega arith in sym (ap (λ (k : ℕ). replicate k none) e)
turns_from ps fs (a ∷ xs) = go a.name fs (λ gs. turns_from ps gs xs)
  where
    go : (m : Option ℕ) (fs : List Param) → ((gs : List Param) → unnamed_params (in_turn ps gs xs) ≡ first_or_none (unnamed_count xs) gs)
        → onto_unnamed m (parameter_for ps fs m) (unnamed_params (in_turn ps (left_behind fs m) xs)) ≡ first_or_none (count_by_name m (unnamed_count xs)) fs
    go (some id) fs e = e fs
    go none [] e = ap (λ (os : List (Option Param)). none ∷ os) (e []) ∙ none_more (unnamed_count xs)
    go none (f ∷ fs) e = ap (λ (os : List (Option Param)). some f ∷ os) (e fs) ∙ some_more (unnamed_count xs) f fs

-- they take the first of the parameters that no argument names, one each
pub turns_lem : (ps : List Param) (xs : List Arg) → unnamed_params (with_params ps xs) ≡ first_or_none (unnamed_count xs) (free_params ps xs)
turns_lem ps xs = turns_from ps (free_params ps xs) xs

-- the parameters among the first k, and none behind
given_first : (qs : List Param) (n : ℕ) → given_params (map some qs ++ replicate n none) ≡ qs
unfolding given_params
given_first [] zero = refl
given_first [] (suc n) = given_first [] n
given_first (q ∷ qs) n = ap (λ (ps : List Param). q ∷ ps) (given_first qs n)

taken_first : (ps : List Param) (xs : List Arg) → given_params (unnamed_params (with_params ps xs)) ≡ take (unnamed_count xs) (free_params ps xs)
taken_first ps xs =
    ap given_params (turns_lem ps xs) ∙ given_first (take (unnamed_count xs) (free_params ps xs)) (unnamed_count xs - length (free_params ps xs))

-- ---- each once
free_absent : (id : ℕ) (ps : List Param) (xs : List Arg) → param_named id ps ≡ none → param_named id (free_params ps xs) ≡ none
unfolding param_named free_params choose
free_absent id [] xs e = refl
free_absent id (p ∷ ps) xs e = go (some_arg_named xs p.name) (eqb p.name id) refl e (free_absent id ps xs)
  where
    go : (b c : Bool) → eqb p.name id ≡ c → choose c (some p) (param_named id ps) ≡ none
        → (param_named id ps ≡ none → param_named id (free_params ps xs) ≡ none)
        → param_named id (choose b (free_params ps xs) (p ∷ free_params ps xs)) ≡ none
    go b true i e' f = absurd (some≢none e')
    go true false i e' f = f e'
    go false false i e' f = rw i (f e')

free_differ : (ps : List Param) (xs : List Arg) → NamesDiffer ps → NamesDiffer (free_params ps xs)
unfolding free_params NamesDiffer choose
free_differ [] xs d = tt
free_differ (p ∷ ps) xs d = go (some_arg_named xs p.name) (free_differ ps xs d.1)
  where
    go : (b : Bool) → NamesDiffer (free_params ps xs) → NamesDiffer (choose b (free_params ps xs) (p ∷ free_params ps xs))
    go true h = h
    go false h = (free_absent p.name ps xs d.0, h)

take_absent : (id n : ℕ) (ps : List Param) → param_named id ps ≡ none → param_named id (take n ps) ≡ none
unfolding param_named choose
take_absent id zero ps e = refl
take_absent id (suc n) [] e = refl
take_absent id (suc n) (p ∷ ps) e = go (eqb p.name id) e (take_absent id n ps)
  where
    go : (c : Bool) → choose c (some p) (param_named id ps) ≡ none → (param_named id ps ≡ none → param_named id (take n ps) ≡ none)
        → choose c (some p) (param_named id (take n ps)) ≡ none
    go true e' f = absurd (some≢none e')
    go false e' f = f e'

take_differ : (n : ℕ) (ps : List Param) → NamesDiffer ps → NamesDiffer (take n ps)
unfolding NamesDiffer
take_differ zero ps d = tt
take_differ (suc n) [] d = tt
take_differ (suc n) (p ∷ ps) d = (take_absent p.name n ps d.0, take_differ n ps d.1)

-- no two of the parameters that unnamed arguments take have one name
pub taken_differ : (ps : List Param) (xs : List Arg) → NamesDiffer ps → NamesDiffer (given_params (unnamed_params (with_params ps xs)))
taken_differ ps xs d = rw (taken_first ps xs) (take_differ (unnamed_count xs) (free_params ps xs) (free_differ ps xs d))

-- ---- how many are free
name_here : (a : Arg) (id n : ℕ) (b : Bool) → a.name ≡ some id → eqb n id ≡ b → is_name a.name n ≡ b
unfolding is_name
name_here a id n b m e = ap (λ (k : Option ℕ). is_name k n) m ∙ go b e
  where
    go : (b : Bool) → eqb n id ≡ b → eqb id n ≡ b
    go true i = eq-eqb id n (sym (eqb-true n id i))
    go false i = ne_eqb id n (λ q. eqb-false n id i (sym q))

-- an argument with a name that no parameter has leaves all of them free
free_unknown : (id : ℕ) (a : Arg) (ps : List Param) (xs : List Arg) → a.name ≡ some id → param_named id ps ≡ none → free_params ps (a ∷ xs) ≡ free_params ps xs
unfolding free_params some_arg_named param_named choose
free_unknown id a [] xs m e = refl
free_unknown id a (p ∷ ps) xs m e = go (eqb p.name id) refl e (free_unknown id a ps xs m)
  where
    go : (c : Bool) → eqb p.name id ≡ c → choose c (some p) (param_named id ps) ≡ none
        → (param_named id ps ≡ none → free_params ps (a ∷ xs) ≡ free_params ps xs)
        → choose (is_name a.name p.name || some_arg_named xs p.name) (free_params ps (a ∷ xs)) (p ∷ free_params ps (a ∷ xs))
        ≡ choose (some_arg_named xs p.name) (free_params ps xs) (p ∷ free_params ps xs)
    go true i e' f = absurd (some≢none e')
    go false i e' f = rw (name_here a id p.name false m i, f e')

-- one without a name too
pub free_unnamed : (a : Arg) (ps : List Param) (xs : List Arg) → a.name ≡ none → free_params ps (a ∷ xs) ≡ free_params ps xs
unfolding free_params some_arg_named is_name
free_unnamed a [] xs m = refl
free_unnamed a (p ∷ ps) xs m =
    let e : is_name a.name p.name ≡ false = ap (λ (k : Option ℕ). is_name k p.name) m in
    rw (e, free_unnamed a ps xs m)

-- and any takes at most one away
free_one : (id : ℕ) (a : Arg) (ps : List Param) (xs : List Arg) → a.name ≡ some id → NamesDiffer ps
    → length (free_params ps xs) ≤ suc (length (free_params ps (a ∷ xs)))
unfolding free_params some_arg_named NamesDiffer choose
free_one id a [] xs m d = omega arith
free_one id a (p ∷ ps) xs m d = go (eqb p.name id) refl (some_arg_named xs p.name) (free_one id a ps xs m d.1)
  where
    go : (c : Bool) → eqb p.name id ≡ c → (b : Bool) → length (free_params ps xs) ≤ suc (length (free_params ps (a ∷ xs)))
        → length (choose b (free_params ps xs) (p ∷ free_params ps xs))
        ≤ suc (length (choose (is_name a.name p.name || b) (free_params ps (a ∷ xs)) (p ∷ free_params ps (a ∷ xs))))
    go true i b h =
        let q : p.name ≡ id = eqb-true p.name id i in
        let n : param_named id ps ≡ none = rw q at d.0 in
        let e : length (free_params ps (a ∷ xs)) ≡ length (free_params ps xs) = ap (λ (fs : List Param). length fs) (free_unknown id a ps xs m n) in
        rw (name_here a id p.name true m i) (under b e)
      where
        under : (b : Bool) → length (free_params ps (a ∷ xs)) ≡ length (free_params ps xs)
            → length (choose b (free_params ps xs) (p ∷ free_params ps xs)) ≤ suc (length (free_params ps (a ∷ xs)))
        under true e = omega arith
        under false e = omega arith
    go false i true h = rw (name_here a id p.name false m i) h
    go false i false h = rw (name_here a id p.name false m i) (omega (arith, h))

pub free_all : (ps : List Param) → free_params ps [] ≡ ps
unfolding free_params some_arg_named choose
free_all [] = refl
free_all (p ∷ ps) = ap (λ (qs : List Param). p ∷ qs) (free_all ps)

-- each named argument takes at most one of them away
free_many : (ps : List Param) (xs : List Arg) → NamesDiffer ps → length ps + unnamed_count xs ≤ length (free_params ps xs) + length xs
unfolding unnamed_count count_by_name
free_many ps [] d = let e : length (free_params ps []) ≡ length ps = ap (λ (qs : List Param). length qs) (free_all ps) in omega arith
free_many ps (a ∷ xs) d = go a.name refl (free_many ps xs d)
  where
    go : (m : Option ℕ) → a.name ≡ m → length ps + unnamed_count xs ≤ length (free_params ps xs) + length xs
        → length ps + count_by_name m (unnamed_count xs) ≤ length (free_params ps (a ∷ xs)) + suc (length xs)
    go none e h =
        let q : length (free_params ps (a ∷ xs)) ≡ length (free_params ps xs) = ap (λ (fs : List Param). length fs) (free_unnamed a ps xs e) in
        omega arith
    go (some id) e h = omega (arith, h, free_one id a ps xs e d)

-- ---- left over
-- where as many are free as arguments have no name, each of these takes one
left_some : (fs : List Param) (m : Option ℕ) (n : ℕ) → count_by_name m n ≤ length fs → n ≤ length (left_behind fs m)
unfolding count_by_name left_behind behind_next
left_some fs (some id) n h = h
left_some [] none n h = omega (arith, h)
left_some (f ∷ fs) none n h = omega (arith, h)

enough : (ps fs : List Param) (xs : List Arg) → unnamed_count xs ≤ length fs → (z : WithParam) → Memᴰ z (in_turn ps fs xs) → z.arg.name ≡ none
    → z.param ≡ none → ⊥
unfolding in_turn unnamed_count count_by_name parameter_for next_param
enough ps fs [] h z m n e = Memᴰ.not-nil m
enough ps fs (a ∷ xs) h z m n e = go (Memᴰ.cases_cons m) (enough ps (left_behind fs a.name) xs (left_some fs a.name (unnamed_count xs) h) z)
  where
    here : (k : Option ℕ) (fs : List Param) → k ≡ none → count_by_name k (unnamed_count xs) ≤ length fs → parameter_for ps fs k ≡ none → ⊥
    here (some id) fs p l q = some≢none p
    here none [] p l q = omega (arith, l)
    here none (f ∷ fs) p l q = some≢none q

    go : (z ≡ record { arg = a; param = parameter_for ps fs a.name }) ⊎ Memᴰ z (in_turn ps (left_behind fs a.name) xs)
        → (Memᴰ z (in_turn ps (left_behind fs a.name) xs) → z.arg.name ≡ none → z.param ≡ none → ⊥) → ⊥
    go (inl p) f = here a.name fs (ap (λ (y : WithParam). y.arg.name) (sym p) ∙ n) h (ap (λ (y : WithParam). y.param) (sym p) ∙ e)
    go (inr k) f = f k n e

-- where an overload fits in number, there are enough, or the last parameter is vararg
pub room : (o : Overload) (xs : List Arg) → NamesDiffer o.params → fits (length xs) o ≡ true
    → (last_vararg o.params ≡ true) ⊎ (unnamed_count xs ≤ length (free_params o.params xs))
unfolding fits
room o xs d f = go (last_vararg o.params) (leb (required o.params) (length xs)) (leb (length xs) (length o.params)) refl f
  where
    go : (v r b : Bool) → leb (length xs) (length o.params) ≡ b → (r && (v || b)) ≡ true
        → (v ≡ true) ⊎ (unnamed_count xs ≤ length (free_params o.params xs))
    go true r b i h = inl refl
    go false false b i h = absurd (true≢false (sym h))
    go false true false i h = absurd (true≢false (sym h))
    go false true true i h =
        let l : length xs ≤ length o.params = leb-true (length xs) (length o.params) i in
        let m : unnamed_count xs ≤ length (free_params o.params xs) = omega (arith, free_many o.params xs d) in
        inr m

-- an argument gets no parameter only by an unknown name, or as left over by a vararg
pub no_parameter : (o : Overload) (xs : List Arg) → NamesDiffer o.params → fits (length xs) o ≡ true → (z : WithParam) → Memᴰ z (with_params o.params xs)
    → z.param ≡ none → NoParameter o.params z.arg
no_parameter o xs d f z m e = go z.arg.name refl (room o xs d f)
  where
    go : (k : Option ℕ) → z.arg.name ≡ k → (last_vararg o.params ≡ true) ⊎ (unnamed_count xs ≤ length (free_params o.params xs)) → NoParameter o.params z.arg
    go (some id) n r = unknown_name id n (sym (by_name o.params (free_params o.params xs) xs z m id n) ∙ e)
    go none n (inl v) = left_over n v
    go none n (inr l) = absurd (enough o.params (free_params o.params xs) xs l z m n e)
