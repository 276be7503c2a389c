-- The first parameter without a mark, as before order 4, is the first that no argument names, where no two parameters have one name.
use Prim.Native.Nat.{ℕ, zero, suc, ◌+◌, ◌≤◌, ◌<◌}
use borrow.Author.Tests.{eqb-true, eqb-false, eq-eqb, ne_eqb}
use lib.Dec.{eqb}
use lib.ListN.{length, get_or, set, length-set, length-replicate, get_or-replicate}
use lib.Seq.{get_or-set_same, get_or-set_other}
use mathlib.Core.Bool.{Bool, true, false, ◌||◌}
use mathlib.Core.List.{List, [], ◌∷◌}
use mathlib.Core.Option.{Option, none, some}
use mathlib.Core.Path.{◌≡◌, refl, ap, sym, ◌∙◌}
use native.Mathlib.Nat.{not-suc-le-zero, le_of_suc-le-suc}
use native.Mathlib.Omega.{arith}
use Rattle.overload.specs.Inside.ScoreBefore.{mark_at, mark_one_before, marks_from_before, unmarked_from, free}
use Rattle.scoring.proofs.NoneAndNil.{some≢none}
use Rattle.scoring.specs.Arg.{Arg}
use Rattle.scoring.specs.Inside.Params.{place_named}
use Rattle.scoring.specs.Inside.Passes.{no_marks}
use Rattle.scoring.specs.WithParams.{param_named, is_name, some_arg_named, free_params, next_param, NamesDiffer}
use Rattle.symbol.specs.Symbols.{Param}
use Rattle.ty.specs.Choose.{choose}

-- the name of the parameter at a place
name_at : List Param → ℕ → ℕ
name_at [] i = 0
name_at (p ∷ ps) zero = p.name
name_at (p ∷ ps) (suc i) = name_at ps i

-- a place is at or behind the first one
place_past : (id k j : ℕ) (ps : List Param) → j < k → is_name (place_named id k ps) j ≡ false
unfolding place_named is_name choose
place_past id k j [] h = refl
place_past id k j (p ∷ ps) h = go (eqb p.name id) (place_past id (suc k) j ps (omega arith))
  where
    go : (b : Bool) → is_name (place_named id (suc k) ps) j ≡ false → is_name (choose b (some k) (place_named id (suc k) ps)) j ≡ false
    go true e = ne_eqb k j (omega arith)
    go false e = e

-- a name that no parameter has
absent_at : (id i : ℕ) (ps : List Param) → i < length ps → param_named id ps ≡ none → eqb (name_at ps i) id ≡ false
unfolding param_named name_at choose
absent_at id i [] h e = absurd (not-suc-le-zero h)
absent_at id zero (p ∷ ps) h e = go (eqb p.name id) e
  where
    go : (b : Bool) → choose b (some p) (param_named id ps) ≡ none → b ≡ false
    go true e' = absurd (some≢none e')
    go false e' = refl
absent_at id (suc i) (p ∷ ps) h e = go (eqb p.name id) e (absent_at id i ps (le_of_suc-le-suc h))
  where
    go : (b : Bool) → choose b (some p) (param_named id ps) ≡ none → (param_named id ps ≡ none → eqb (name_at ps i) id ≡ false) → eqb (name_at ps i) id ≡ false
    go true e' f = absurd (some≢none e')
    go false e' f = f e'

-- the place of a name is i exactly where the parameter at i has it
place_at : (id k i : ℕ) (ps : List Param) → NamesDiffer ps → i < length ps → is_name (place_named id k ps) (k + i) ≡ eqb (name_at ps i) id
unfolding place_named is_name name_at NamesDiffer choose
place_at id k i [] d h = absurd (not-suc-le-zero h)
place_at id k zero (p ∷ ps) d h = go (eqb p.name id)
  where
    go : (b : Bool) → is_name (choose b (some k) (place_named id (suc k) ps)) (k + 0) ≡ b
    go true = eq-eqb k (k + 0) (omega arith)
    go false = place_past id (suc k) (k + 0) ps (omega arith)
place_at id k (suc i) (p ∷ ps) d h = go (eqb p.name id) refl (place_at id (suc k) i ps d.1 (le_of_suc-le-suc h))
  where
    go : (b : Bool) → eqb p.name id ≡ b → is_name (place_named id (suc k) ps) (suc k + i) ≡ eqb (name_at ps i) id
        → is_name (choose b (some k) (place_named id (suc k) ps)) (k + suc i) ≡ eqb (name_at ps i) id
    go true e r =
        let q : p.name ≡ id = eqb-true p.name id e in
        let z : eqb k (k + suc i) ≡ false = ne_eqb k (k + suc i) (omega arith) in
        let w : eqb (name_at ps i) id ≡ false = absent_at id i ps (le_of_suc-le-suc h) (rw q at d.0) in
        z ∙ sym w
    go false e r = let q : k + suc i ≡ suc k + i = omega arith in rw q r

-- marks after one argument
mark_at_lem : (o : Option ℕ) (m : List Bool) (i : ℕ) → i < length m → get_or (mark_at o m) i false ≡ (is_name o i || get_or m i false)
unfolding mark_at is_name
mark_at_lem none m i h = refl
mark_at_lem (some j) m i h = go (eqb j i) refl
  where
    go : (b : Bool) → eqb j i ≡ b → get_or (set m j true) i false ≡ (b || get_or m i false)
    go true e = let q : j ≡ i = eqb-true j i e in rw q (get_or-set_same m i true false h)
    go false e = get_or-set_other m j i true false (λ p. eqb-false j i e (sym p))

mark_length : (ps : List Param) (n : Option ℕ) (m : List Bool) → length (mark_one_before ps n m) ≡ length m
unfolding mark_one_before mark_at
mark_length ps none m = refl
mark_length ps (some id) m = go (place_named id 0 ps)
  where
    go : (o : Option ℕ) → length (mark_at o m) ≡ length m
    go none = refl
    go (some j) = length-set m j true

one_at : (ps : List Param) (n : Option ℕ) (m : List Bool) (i : ℕ) → NamesDiffer ps → i < length ps → i < length m
    → get_or (mark_one_before ps n m) i false ≡ (is_name n (name_at ps i) || get_or m i false)
unfolding mark_one_before is_name
one_at ps none m i d h l = refl
one_at ps (some id) m i d h l =
    let q : is_name (place_named id 0 ps) (0 + i) ≡ eqb (name_at ps i) id = place_at id 0 i ps d h in
    let z : 0 + i ≡ i = omega arith in
    let r : is_name (place_named id 0 ps) i ≡ eqb id (name_at ps i) = rw z at q ∙ eqb_swap (name_at ps i) id in
    mark_at_lem (place_named id 0 ps) m i l ∙ ap (λ (b : Bool). b || get_or m i false) r
  where
    eqb_swap : (a b : ℕ) → eqb a b ≡ eqb b a
    eqb_swap a b = go (eqb b a) refl
      where
        go : (t : Bool) → eqb b a ≡ t → eqb a b ≡ t
        go true e = eq-eqb a b (sym (eqb-true b a e))
        go false e = ne_eqb a b (λ p. eqb-false b a e (sym p))

-- marks after all arguments: a parameter has a mark exactly where an argument names it
marks_at : (ps : List Param) (m : List Bool) (xs : List Arg) (i : ℕ) → NamesDiffer ps → i < length ps → i < length m
    → get_or (marks_from_before ps m xs) i false ≡ (some_arg_named xs (name_at ps i) || get_or m i false)
unfolding marks_from_before some_arg_named
marks_at ps m [] i d h l = refl
marks_at ps m (a ∷ xs) i d h l =
    let e : length (mark_one_before ps a.name m) ≡ length m = mark_length ps a.name m in
    marks_at ps (mark_one_before ps a.name m) xs i d h (omega arith)
    ∙ ap (λ (b : Bool). some_arg_named xs (name_at ps i) || b) (one_at ps a.name m i d h l)
    ∙ or_turn (some_arg_named xs (name_at ps i)) (is_name a.name (name_at ps i)) (get_or m i false)
  where
    or_turn : (p q r : Bool) → (p || (q || r)) ≡ ((q || p) || r)
    or_turn true true r = refl
    or_turn true false r = refl
    or_turn false true r = refl
    or_turn false false r = refl

-- the walk over the parameters from place k on
walk_at : (k : ℕ) (ps : List Param) (xs : List Arg) (m : List Bool) → ((i : ℕ) → i < length ps → get_or m (k + i) false ≡ some_arg_named xs (name_at ps i))
    → unmarked_from k ps m ≡ next_param (free_params ps xs)
unfolding unmarked_from next_param free_params name_at choose
walk_at k [] xs m h = refl
walk_at k (p ∷ ps) xs m h =
    let z : k + 0 ≡ k = omega arith in
    let e : get_or m k false ≡ some_arg_named xs p.name = rw z at (h 0 (omega arith)) in
    let r : unmarked_from (suc k) ps m ≡ next_param (free_params ps xs) =
    walk_at (suc k) ps xs m (λ i l. let q : suc k + i ≡ k + suc i = omega arith in rw q (h (suc i) (omega arith))) in
    rw (e, r) (go (some_arg_named xs p.name))
  where
    go : (b : Bool) → choose b (next_param (free_params ps xs)) (some p) ≡ next_param (choose b (free_params ps xs) (p ∷ free_params ps xs))
    go true = refl
    go false = refl

-- document 01: every unnamed argument is compared with the first parameter that no argument names
pub free_first : (ps : List Param) (xs : List Arg) → NamesDiffer ps → length ps ≤ 16 → free ps xs ≡ next_param (free_params ps xs)
free_first ps xs d h =
    walk_at 0 ps xs (marks_from_before ps no_marks xs)
    (λ i l.
    let z : 0 + i ≡ i = omega arith in
    let w : length no_marks ≡ 16 = length-replicate 16 false in
    let q : get_or no_marks i false ≡ false = get_or-replicate 16 i false false (omega arith) in
    rw (z, marks_at ps no_marks xs i d l (omega arith), q) (or_false (some_arg_named xs (name_at ps i))))
  where
    or_false : (b : Bool) → (b || false) ≡ b
    or_false true = refl
    or_false false = refl
