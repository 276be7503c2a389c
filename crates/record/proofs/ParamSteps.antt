-- The reading of a function's parameters: where it stands after each, and one turn of it.
use Prim.Native.Nat.{ℕ, zero, suc, ◌+◌, ◌-◌, ◌≤◌, ◌<◌, max}
use borrow.Author.Tests.{eqb-true, eqb-false, ltb-false, le-ltb}
use lib.Dec.{eqb, ltb}
use lib.ListN.{length, get_or, set, take, drop}
use mathlib.Core.Bool.{Bool, true, false, not, ◌||◌}
use mathlib.Core.List.{List}
use mathlib.Core.Path.{◌≡◌, refl, sym, ap, ◌∙◌}
use native.Mathlib.Numerals.{add-one}
use native.Mathlib.Omega.{arith}
use Rattle.ty.proofs.Choice.{by_choice, chosen, passed}
use Rattle.ty.specs.Bytes.{id_at}
use Rattle.ty.specs.Read.{read_type, longest_type}
use Rattle.ty.specs.declared.read.TypeFault.TheVariants.{Cut, Malformed, Endless}
use Rattle.ty.specs.declared.read.TypeFault.{TypeFault}
use Rattle.ty.specs.declared.read.TypeRead.{TypeRead}
use Rattle.std.specs.List.{list_any}
use Rattle.std.proofs.lemmas.List.Folds.{list_any_more}
use Rattle.record.proofs.RecordParts.{or_true}
use Rattle.record.proofs.Types.{ends_in}
use Rattle.record.specs.Inside.Front.{param_step, param_with, run_params, result_with, first_reading, or_none, stopped, params_read}
use Rattle.record.specs.Inside.Walk.{EndsIn}
use Rattle.record.specs.Inside.Front.{Front, Run, run_of, reading_of, reading_answer, answered_run, stepped, unread, name_passed, type_passed, typed_answer, among, broken_head, function_read, function_with, field_with, field_head}
use Rattle.record.specs.declared.params.Reading.{Reading}
use Rattle.record.specs.declared.params.ReadFault.{ReadFault}
use Rattle.std.proofs.Common.{Result, Ok, Err}
use Rattle.ty.specs.Choose.{choose}

-- ---- what the code answers for what was read
abbrev pub ended_in : Reading → ℕ → ReadFault
ended_in c n = record { read = c; state = n }

pub answer_whole : (c : Reading) → reading_answer (run_of c) ≡ Ok c
unfolding reading_answer choose
answer_whole c = refl

pub answer_stopped : (c : Run) → reading_answer (stopped c) ≡ Err (ended_in (reading_of c) 1)
unfolding reading_answer choose
answer_stopped c = refl

-- an answer tells what was read
pub answer_ok : (c : Run) (r : Reading) → reading_answer c ≡ Ok r → run_of r ≡ c
unfolding reading_answer choose
answer_ok c r = go (eqb c.state 0) refl
  where
    reading : Reading
    reading = reading_of c

    go : (t : Bool) → eqb c.state 0 ≡ t → choose t (Ok reading) (Err (ended_in reading c.state)) ≡ Ok r → run_of r ≡ c
    go true q e =
        let h : reading ≡ r = cc in
        let z = eqb-true c.state 0 q in
        ap run_of (sym h) ∙ (λ i. record { len = c.len; top = c.top; repeated = c.repeated; error = c.error; state = sym z i; count = c.count; names = c.names })
    go false q e = cc

pub answer_err : (c : Run) (f : ReadFault) → reading_answer c ≡ Err f → eqb c.state 0 ≡ false
unfolding reading_answer choose
answer_err c f = go (eqb c.state 0)
  where
    reading : Reading
    reading = reading_of c

    go : (t : Bool) → choose t (Ok reading) (Err (ended_in reading c.state)) ≡ Err f → t ≡ false
    go true e = cc
    go false e = refl

-- the whole reading is known from an answer to it
answer_known : (c : Run) → answered_run (reading_answer c) ≡ c
unfolding reading_answer choose
answer_known c = go (eqb c.state 0) refl
  where
    go : (t : Bool) → eqb c.state 0 ≡ t → answered_run (choose t (Ok (reading_of c)) (Err (ended_in (reading_of c) c.state))) ≡ c
    go true q =
        let z = eqb-true c.state 0 q in
        λ i. record { len = c.len; top = c.top; repeated = c.repeated; error = c.error; state = sym z i; count = c.count; names = c.names }
    go false q = refl

-- and so is one parameter's: an answer tells all that a step does to a reading, also to one that has ended
pub step_known : (s : List ℕ) (c : Run) → answered_run (stepped s (reading_answer c)) ≡ param_step s c
unfolding stepped reading_answer param_step choose
step_known s c = go (eqb c.state 0) refl
  where
    go : (t : Bool) → eqb c.state 0 ≡ t → answered_run (stepped s (choose t (Ok (reading_of c)) (Err (ended_in (reading_of c) c.state)))) ≡ param_step s c
    go true q =
        let z = eqb-true c.state 0 q in
        let whole : run_of (reading_of c) ≡ c
        = (λ i. record { len = c.len; top = c.top; repeated = c.repeated; error = c.error; state = sym z i; count = c.count; names = c.names }) in
        answer_known (param_step s (run_of (reading_of c))) ∙ ap (param_step s) whole
    go false q = chosen _ _ _ _ (ap not q) refl

-- a parameter's name and its type are the parameter; where the type is malformed or cut, what was read before stands
abbrev pub back_to : Reading → Result Reading ReadFault → Result Reading ReadFault
back_to c (Ok r) = Ok r
back_to c (Err f) = choose (eqb f.state 2) (Err f) (Err (ended_in c 1))

pub answer_param : (c : Run) (id : ℕ) (r : Result TypeRead TypeFault)
    → back_to (reading_of c) (reading_answer (type_passed (name_passed c id) (c.len + 3) r)) ≡ reading_answer (param_with c id r)
unfolding reading_answer choose
answer_param c id (Ok found) = refl
answer_param c id (Err Cut) = refl
answer_param c id (Err Malformed) = refl
answer_param c id (Err (Endless top e)) = ap (λ (b : Bool). Err (ended_in (ended b) 2)) (sym (or_true c.error))
  where
    ended : Bool → Reading
    ended b =
        record {
          len = c.len;
          top = max (max c.top id) top;
          repeated = c.repeated || among c.count c.names id;
          error = b;
          count = c.count + 1;
          names = set c.names c.count id;
        }

-- one parameter further, in the code's steps
pub answer_step : (s : List ℕ) (c n : Reading) (flag id : ℕ) (r : Result Reading ReadFault) → 3 ≤ length s - c.len → flag ≡ get_or s (c.len + 2) 0 → flag ≤ 3
    → id ≡ id_at s c.len → run_of n ≡ name_passed (run_of c) id
    → r ≡ reading_answer (type_passed (run_of n) (c.len + 3) (read_type (drop (c.len + 3) s) longest_type))
    → back_to c r ≡ reading_answer (param_step s (run_of c))
unfolding param_step choose
answer_step s c n flag id r l f h i e d =
    let t = read_type (drop (c.len + 3) s) longest_type in
    ap (back_to c) (d ∙ ap (λ (x : Run). reading_answer (type_passed x (c.len + 3) t)) (e ∙ ap (name_passed (run_of c)) i))
    ∙ answer_param (run_of c) (id_at s c.len) t
    ∙ ap reading_answer (passed _ _ _ _ (le-ltb _ _ l) (passed _ _ _ _ (sym (ap (ltb 3) f) ∙ le-ltb _ _ h) refl))

-- at byte 8, where the result type begins
abbrev pub at_result : Run → Run
at_result c = record { len = 8; top = c.top; repeated = c.repeated; error = c.error; state = c.state; count = c.count; names = c.names }

abbrev before : ℕ → Reading
before top = reading_of (at_result (unread top))

pub answer_result : (high : ℕ) (r : Result TypeRead TypeFault)
    → reading_answer (type_passed (at_result (unread high)) 8 r) ≡ reading_answer (result_with high r)
unfolding reading_answer choose
answer_result high (Ok found) = refl
answer_result high (Err Cut) = ap (λ (n : ℕ). Err (ended_in (before n) 1)) (omega arith)
answer_result high (Err Malformed) = ap (λ (n : ℕ). Err (ended_in (before n) 1)) (omega arith)
answer_result high (Err (Endless top e)) = refl

pub answer_first : (s : List ℕ) (c : Reading) (high : ℕ) → run_of c ≡ unread high → high ≡ max (or_none (id_at s 1)) (id_at s 3)
    → reading_answer (type_passed (at_result (run_of c)) 8 (read_type (drop 8 s) longest_type)) ≡ reading_answer (first_reading s)
answer_first s c high e h =
    ap (λ (x : Run). reading_answer (type_passed (at_result x) 8 (read_type (drop 8 s) longest_type))) (e ∙ ap unread h)
    ∙ answer_result (max (or_none (id_at s 1)) (id_at s 3)) (read_type (drop 8 s) longest_type)

-- a record with types by what the code answers for them
field_answer : (s : List ℕ) (r : Result TypeRead TypeFault)
    → typed_answer s 5 (reading_answer (type_passed (unread (max (id_at s 1) (id_at s 3))) 5 r)) ≡ field_with s (id_at s 1) (id_at s 3) r
unfolding reading_answer choose
field_answer s (Ok found) = refl
field_answer s (Err Cut) = refl
field_answer s (Err Malformed) = refl
field_answer s (Err (Endless top e)) = refl

pub answer_field : (s : List ℕ) → 5 ≤ length s
    → typed_answer s 5 (reading_answer (type_passed (unread (max (id_at s 1) (id_at s 3))) 5 (read_type (drop 5 s) longest_type))) ≡ field_head s
unfolding field_head
answer_field s h = passed (ltb (length s) 5) _ _ _ (le-ltb _ _ h) (field_answer s (read_type (drop 5 s) longest_type))

-- a type without end is an error
abbrev pub Endlessly : Run → Type 0
Endlessly c = c.state ≡ 2 → c.error ≡ true

answer_function : (s : List ℕ) (c : Run) → Endlessly c → typed_answer s 4 (reading_answer c) ≡ function_with s c
unfolding function_with reading_answer choose
answer_function s c h = go (eqb c.state 0)
  where
    reading : Reading
    reading = reading_of c

    read : ℕ → Front
    read len = function_read (id_at s 1) (id_at s 3) len c.top c.repeated c.error

    ended : Front
    ended = function_read (id_at s 1) (id_at s 3) (length s) c.top c.repeated true

    same : (u : Bool) → eqb c.state 2 ≡ u → choose u ended (broken_head s) ≡ choose u (read (length s)) (broken_head s)
    same true q = let e = h (eqb-true c.state 2 q) in rw e
    same false q = refl

    go : (t : Bool) → typed_answer s 4 (choose t (Ok reading) (Err (ended_in reading c.state)))
        ≡ choose t (read c.len) (choose (eqb c.state 2) (read (length s)) (broken_head s))
    go true = refl
    go false = same (eqb c.state 2) refl

first_endless : (s : List ℕ) → Endlessly (first_reading s)
first_endless s = go (max (or_none (id_at s 1)) (id_at s 3)) (read_type (drop 8 s) longest_type)
  where
    go : (high : ℕ) (r : Result TypeRead TypeFault) → Endlessly (result_with high r)
    go high (Ok found) q = absurd (omega arith)
    go high (Err Cut) q = absurd (omega arith)
    go high (Err Malformed) q = absurd (omega arith)
    go high (Err (Endless top e)) q = refl

step_endless : (s : List ℕ) (c : Run) → Endlessly c → Endlessly (param_step s c)
unfolding param_step
step_endless s c h =
    by_choice Endlessly (not (eqb c.state 0)) (λ _. h) λ _.
    by_choice Endlessly (ltb (length s - c.len) 3) (λ _ q. absurd (omega arith)) λ _.
    by_choice Endlessly (ltb 3 (get_or s (c.len + 2) 0)) (λ _ q. absurd (omega arith)) λ _.
    go (read_type (drop (c.len + 3) s) longest_type)
  where
    go : (r : Result TypeRead TypeFault) → Endlessly (param_with c (id_at s c.len) r)
    go (Ok found) q = absurd (omega arith)
    go (Err Cut) q = absurd (omega arith)
    go (Err Malformed) q = absurd (omega arith)
    go (Err (Endless top e)) q = or_true c.error

run_endless : (n : ℕ) (s : List ℕ) (c : Run) → Endlessly c → Endlessly (run_params n s c)
unfolding run_params
run_endless zero s c h = h
run_endless (suc n) s c h = run_endless n s (param_step s c) (step_endless s c h)

pub read_endless : (s : List ℕ) → Endlessly (params_read s)
unfolding params_read
read_endless s = run_endless (get_or s 7 0) s (first_reading s) (first_endless s)

pub answer_read : (s : List ℕ) → typed_answer s 4 (reading_answer (params_read s)) ≡ function_with s (params_read s)
answer_read s = answer_function s (params_read s) (read_endless s)

-- ---- the names met so far
or_turned : (a b : Bool) → a || b ≡ b || a
or_turned true true = refl
or_turned true false = refl
or_turned false true = refl
or_turned false false = refl

pub among_any : (n : ℕ) (names : List ℕ) (id : ℕ) → n ≤ length names → list_any (λ y. eqb y id) (take n names) ≡ among n names id
unfolding among
among_any zero names id h = refl
among_any (suc n) names id h =
    rw (← add-one n) (list_any_more (λ y. eqb y id) names n 0 h) ∙ ap (λ (t : Bool). t || eqb (get_or names n 0) id) (among_any n names id (omega arith))
    ∙ or_turned (among n names id) (eqb (get_or names n 0) id)

-- after one step from c the reading stands at or behind c, in s, with at most one parameter more
pub record Onward (s : List ℕ) (c r : Run) : Type 0 where
  pub low : c.len ≤ r.len
  pub high : r.len ≤ length s
  pub count : r.count ≤ c.count + 1

pub param_onward : (s : List ℕ) (c : Run) → c.len ≤ length s → Onward s c (param_step s c)
unfolding param_step
param_onward s c h =
    by_choice (Onward s c) (not (eqb c.state 0)) (λ _. record { low = omega arith; high = h; count = omega arith }) λ _.
    by_choice (Onward s c) (ltb (length s - c.len) 3) (λ _. stays) λ e.
    by_choice (Onward s c) (ltb 3 (get_or s (c.len + 2) 0)) (λ _. stays) λ _.
    let l : 3 ≤ length s - c.len = ltb-false (length s - c.len) 3 e in
    go (read_type (drop (c.len + 3) s) longest_type) (ends_in (c.len + 3) s (omega arith))
  where
    stays : Onward s c (stopped c)
    stays = record { low = omega arith; high = h; count = omega arith }

    go : (r : Result TypeRead TypeFault) → EndsIn (c.len + 3) s r → Onward s c (param_with c (id_at s c.len) r)
    go (Ok found) w = record { low = omega arith; high = w; count = omega arith }
    go (Err Cut) w = stays
    go (Err Malformed) w = stays
    go (Err (Endless top e)) w = record { low = omega arith; high = h; count = omega arith }

pub record First (s : List ℕ) (r : Run) : Type 0 where
  pub low : 8 ≤ r.len
  pub high : r.len ≤ length s
  pub count : r.count ≡ 0

pub first-inside : (s : List ℕ) → 8 ≤ length s → First s (first_reading s)
first-inside s h = go (read_type (drop 8 s) longest_type) (ends_in 8 s h) (max (or_none (id_at s 1)) (id_at s 3))
  where
    go : (r : Result TypeRead TypeFault) → EndsIn 8 s r → (high : ℕ) → First s (result_with high r)
    go (Ok found) w high = record { low = omega arith; high = w; count = refl }
    go (Err Cut) w high = record { low = omega arith; high = h; count = refl }
    go (Err Malformed) w high = record { low = omega arith; high = h; count = refl }
    go (Err (Endless top e)) w high = record { low = omega arith; high = h; count = refl }

pub run_step : (m n : ℕ) (s : List ℕ) (c : Run) → n < m → run_params (m - n) s c ≡ run_params (m - (n + 1)) s (param_step s c)
unfolding run_params
run_step m n s c h =
    let e : m - n ≡ suc (m - (n + 1)) = omega arith in
    ap (λ (k : ℕ). run_params k s c) e

pub run_last : (m n : ℕ) (s : List ℕ) (c : Run) → m ≤ n → run_params (m - n) s c ≡ c
unfolding run_params
run_last m n s c h =
    let e : m - n ≡ 0 = omega arith in
    ap (λ (k : ℕ). run_params k s c) e

-- after n parameters
pub run_inside : (n : ℕ) (s : List ℕ) (c : Run) → c.len ≤ length s → (c.len ≤ (run_params n s c).len) × ((run_params n s c).len ≤ length s)
unfolding run_params
run_inside zero s c h = (omega arith, h)
run_inside (suc n) s c h =
    let o = param_onward s c h in
    let r = run_inside n s (param_step s c) o.high in
    (omega arith, r.1)

pub read-inside : (s : List ℕ) → 8 ≤ length s → (8 ≤ (params_read s).len) × ((params_read s).len ≤ length s)
unfolding params_read
read-inside s h =
    let f = first-inside s h in
    let r = run_inside (get_or s 7 0) s (first_reading s) f.high in
    (omega arith, r.1)
