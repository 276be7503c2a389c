-- A function record by its fields is what its head says.
use Prim.Native.Nat.{ℕ, zero, suc, ◌+◌, ◌-◌, ◌≤◌, ◌<◌, max}
use borrow.Author.Tests.{eq-eqb, ltb-true, ltb-false, lt-ltb, le-ltb}
use lib.Dec.{eqb, ltb}
use lib.ListN.{length, get_or, drop, set, length-set}
use lib.Seq.{get_or-set_same, get_or-set_other}
use mathlib.Core.Bool.{Bool, true, false, not, true≢false, ◌||◌}
use mathlib.Core.List.{List, [], ◌∷◌, ◌++◌}
use mathlib.Core.Path.{◌≡◌, refl, sym, ap, ◌∙◌, subst}
use native.Mathlib.Numerals.{add-one}
use native.Mathlib.Omega.{arith}
use Rattle.std.proofs.Common.{Result, Ok, Err}
use Rattle.record.proofs.Own.{run_ended}
use Rattle.record.proofs.RecordParts.{Holds, Agrees, refused, taken, or_true, or_nil, or_none_lem}
use Rattle.record.specs.Inside.Front.{or_none, among, stopped, param_read, param_with, param_step, run_params, result_with, params_read, function_with, function_head}
use Rattle.record.specs.Layout.{id, id_or_none, param, byte, type, FieldAt, field_at, type_read, param_fields, fields_from, any_field, each_field, lengths}
use Rattle.record.specs.TableRefused.{occurs, repeats}
use Rattle.record.specs.Inside.Front.{Run}
use Rattle.ty.proofs.Ids.{highest_of, highest_append, TopIs, highest_read}
use Rattle.ty.proofs.Choice.{by_choice}
use Rattle.ty.specs.Bytes.{id_at}
use Rattle.ty.specs.Choose.{choose}
use Rattle.ty.specs.Ids.{ids_in}
use Rattle.ty.specs.Read.{whole_read, read_type, longest_type}
use Rattle.ty.specs.declared.read.TypeFault.TheVariants.{Cut, Malformed, Endless}
use Rattle.ty.specs.declared.read.TypeFault.{TypeFault}
use Rattle.ty.specs.declared.read.TypeRead.{TypeRead}

or_assoc : (a b c : Bool) → (a || b) || c ≡ a || (b || c)
or_assoc true b c = refl
or_assoc false b c = refl

first_bad : (a z : Bool) → a ≡ true → a || z ≡ true
first_bad a z e = rw e

next_bad : (a b z : Bool) → b ≡ true → a || (b || z) ≡ true
next_bad true b z e = refl
next_bad false b z e = rw e

fine : (a b z : Bool) → a ≡ false → b ≡ false → a || (b || z) ≡ z
fine a b z p q = rw (p, q)

-- ---- the names met so far
among-set : (n k : ℕ) (names : List ℕ) (x i : ℕ) → n ≤ k → among n (set names k x) i ≡ among n names i
unfolding among
among-set zero k names x i h = refl
among-set (suc n) k names x i h = rw (get_or-set_other names k n x 0 (λ e. omega arith), among-set n k names x i (omega arith))

among_more : (n : ℕ) (names : List ℕ) (x i : ℕ) → n < length names → among (n + 1) (set names n x) i ≡ (eqb x i || among n names i)
unfolding among
among_more n names x i h = rw (add-one n, get_or-set_same names n x 0 h, among-set n n names x i (omega arith))

-- a reading that is whole so far, of parameters with the names `before`
record Tracks (c : Run) (before : List ℕ) : Type 0 where
  state : c.state ≡ 0
  long : length c.names ≡ 16
  known : (i : ℕ) → among c.count c.names i ≡ occurs i before

tracks_more : (c : Run) (before : List ℕ) → Tracks c before → c.count < 16 → (x len top : ℕ) (e : Bool) → Tracks (param_read c x len top e 0) (x ∷ before)
unfolding occurs
tracks_more c before t h x len top e =
    let l = t.long in
    record {
      state = refl;
      long = length-set c.names c.count x ∙ t.long;
      known = λ i. among_more c.count c.names x i (omega arith) ∙ ap (λ (b : Bool). eqb x i || b) (t.known i);
    }

-- from c over the parts qs to r
record Went (s : List ℕ) (c : Run) (before : List ℕ) (qs : List FieldAt) (r : Run) : Type 0 where
  state : r.state ≡ choose (any_field (λ p. p.endless) qs) 2 0
  len : any_field (λ p. p.endless) qs ≡ false → r.len ≡ c.len + lengths qs
  top : r.top ≡ max c.top (highest_of (each_field (λ p. p.ids) qs))
  repeated : r.repeated ≡ (c.repeated || repeats before (each_field (λ p. p.names) qs))
  error : r.error ≡ (c.error || any_field (λ p. p.error) qs)

record Ran (s : List ℕ) (c : Run) (before : List ℕ) (qs : List FieldAt) (r : Run) : Type 0 where
  bad : any_field (λ p. p.malformed) qs ≡ true → r.state ≡ 1
  good : any_field (λ p. p.malformed) qs ≡ false → Went s c before qs r

-- one parameter at `at`, whose type was read so, and what follows it
abbrev pub one_param : List ℕ → ℕ → ℕ → List ℕ → Result TypeRead TypeFault → List FieldAt
one_param s n at is r =
    field_at param s at ∷ field_at (byte 3) s (at + 2) ∷ type_read (at + 3) is r
    ∷ choose (type_read (at + 3) is r).endless [] (fields_from (param_fields n) s (at + 3 + (type_read (at + 3) is r).len))

pub params_next : (s : List ℕ) (n at : ℕ) → fields_from (param_fields (suc n)) s at ≡ one_param s n at (ids_in (drop (at + 3) s) longest_type) (read_type (drop (at + 3) s) longest_type)
unfolding param_fields fields_from choose
params_next s n at =
    let e : at + 2 + 1 ≡ at + 3 = omega arith in
    λ i. field_at param s at ∷ field_at (byte 3) s (at + 2) ∷ type_read (e i) (ids_in (drop (e i) s) longest_type) (read_type (drop (e i) s) longest_type)
    ∷ choose (type_read (e i) (ids_in (drop (e i) s) longest_type) (read_type (drop (e i) s) longest_type)).endless [] (fields_from (param_fields n) s (e i + (type_read (e i) (ids_in (drop (e i) s) longest_type) (read_type (drop (e i) s) longest_type)).len))

-- the test of a parameter's name and flag
front : (s : List ℕ) (at : ℕ) (z : Bool)
    → (ltb (length s) (at + 2) || false) || ((ltb (length s) (at + 2 + 1) || ltb 3 (get_or s (at + 2) 0)) || z)
    ≡ (ltb (length s - at) 3 || (ltb 3 (get_or s (at + 2) 0) || z))
front s at z = go (ltb (length s - at) 3) refl
  where
    go : (t : Bool) → ltb (length s - at) 3 ≡ t
        → (ltb (length s) (at + 2) || false) || ((ltb (length s) (at + 2 + 1) || ltb 3 (get_or s (at + 2) 0)) || z) ≡ (t || (ltb 3 (get_or s (at + 2) 0) || z))
    go true e =
        let l = ltb-true (length s - at) 3 e in
        let q : ltb (length s) (at + 2 + 1) ≡ true = lt-ltb (length s) (at + 2 + 1) (omega arith) in
        rw q (or_true (ltb (length s) (at + 2) || false))
    go false e =
        let l = ltb-false (length s - at) 3 e in
        let q : ltb (length s) (at + 2 + 1) ≡ false = le-ltb (length s) (at + 2 + 1) (omega arith) in
        let p : ltb (length s) (at + 2) ≡ false = le-ltb (length s) (at + 2) (omega arith) in
        rw (q, p)

module _ (s : List ℕ) where
  param_malformed : (n at : ℕ) (is : List ℕ) (r : Result TypeRead TypeFault) → any_field (λ p. p.malformed) (one_param s n at is r)
      ≡ (ltb (length s - at) 3 || (ltb 3 (get_or s (at + 2) 0) || ((type_read (at + 3) is r).malformed
      || any_field (λ p. p.malformed) (choose (type_read (at + 3) is r).endless [] (fields_from (param_fields n) s (at + 3 + (type_read (at + 3) is r).len))))))
  unfolding any_field
  param_malformed n at is r = front s at _

  stays : (n : ℕ) (c r : Run) (before : List ℕ) (qs : List FieldAt) → r.state ≡ 1 → any_field (λ p. p.malformed) qs ≡ true → Ran s c before qs (run_params n s r)
  stays n c r before qs z e =
      record {
        bad = λ _. ap (λ (x : Run). x.state) (run_ended n s r (ap (λ (k : ℕ). eqb k 0) z)) ∙ z;
        good = λ q. absurd (true≢false (sym e ∙ q));
      }

  -- what the run over the next n parameters gives
  abbrev Runs : ℕ → Type 0
  Runs n = (c : Run) (before : List ℕ) → Tracks c before → c.count + n ≤ 16 → Ran s c before (fields_from (param_fields n) s c.len) (run_params n s c)

  module _ (n : ℕ) (c : Run) (before : List ℕ) (t : Tracks c before) (h : c.count + suc n ≤ 16) (ih : Runs n) where
    param_read_lem : (is : List ℕ) (r : Result TypeRead TypeFault) → TopIs (highest_of is) r → ltb (length s - c.len) 3 ≡ false → ltb 3 (get_or s (c.len + 2) 0) ≡ false
        → Ran s c before (one_param s n c.len is r) (run_params n s (param_with c (id_at s c.len) r))
    unfolding any_field each_field lengths highest_of repeats choose
    param_read_lem is (Ok found) tp a b =
        let x = id_at s c.len in
        let c₁ = param_read c x (c.len + 3 + found.len) found.top found.error 0 in
        let qs = fields_from (param_fields n) s (c.len + 3 + found.len) in
        let m : any_field (λ p. p.malformed) (one_param s n c.len is (Ok found)) ≡ any_field (λ p. p.malformed) qs
        = param_malformed n c.len is (Ok found) ∙ fine _ _ _ a b in
        let y = ih c₁ (x ∷ before) (tracks_more c before t (omega arith) x (c.len + 3 + found.len) found.top found.error) (omega arith) in
        record {
          bad = λ q. y.bad (sym m ∙ q);
          good = λ q.
              let w = y.good (sym m ∙ q) in
              record {
                state = w.state;
                len = λ z. let l = w.len z in omega arith;
                top = let u = w.top in let v = highest_append is (each_field (λ p. p.ids) qs) in omega arith;
                repeated = w.repeated ∙ or_assoc c.repeated (among c.count c.names x) _ ∙ ap (λ (g : Bool). c.repeated || (g || repeats (x ∷ before) (each_field (λ p. p.names) qs))) (t.known x);
                error = w.error ∙ or_assoc c.error found.error _;
              };
        }
    param_read_lem is (Err Cut) tp a b = stays n c (stopped c) before (one_param s n c.len is (Err Cut)) refl (param_malformed n c.len is (Err Cut) ∙ fine _ _ _ a b)
    param_read_lem is (Err Malformed) tp a b = stays n c (stopped c) before (one_param s n c.len is (Err Malformed)) refl (param_malformed n c.len is (Err Malformed) ∙ fine _ _ _ a b)
    param_read_lem is (Err (Endless top e)) tp a b =
        let x = id_at s c.len in
        let c₁ = param_read c x c.len top true 2 in
        let m : any_field (λ p. p.malformed) (one_param s n c.len is (Err (Endless top e))) ≡ false
        = param_malformed n c.len is (Err (Endless top e)) ∙ fine _ _ _ a b in
        subst (Ran s c before (one_param s n c.len is (Err (Endless top e)))) (sym (run_ended n s c₁ refl))
        (record {
          bad = λ q. absurd (true≢false (sym q ∙ m));
          good = λ _.
              record {
                state = refl;
                len = λ z. absurd (true≢false z);
                top = let v = highest_append is [] in omega arith;
                repeated = ap (λ (g : Bool). c.repeated || g) (t.known x ∙ sym (or_nil _));
                error = refl;
              };
        })

    param_ran : Ran s c before (one_param s n c.len (ids_in (drop (c.len + 3) s) longest_type) (read_type (drop (c.len + 3) s) longest_type)) (run_params n s (param_step s c))
    unfolding param_step
    param_ran =
        let r = read_type (drop (c.len + 3) s) longest_type in
        let is = ids_in (drop (c.len + 3) s) longest_type in
        let qs = one_param s n c.len is r in
        let m = param_malformed n c.len is r in
        by_choice (λ (x : Run). Ran s c before qs (run_params n s x)) (not (eqb c.state 0))
        (λ e. absurd (true≢false (sym e ∙ ap not (eq-eqb c.state 0 t.state)))) λ _.
        by_choice (λ (x : Run). Ran s c before qs (run_params n s x)) (ltb (length s - c.len) 3)
        (λ a. stays n c (stopped c) before qs refl (m ∙ first_bad (ltb (length s - c.len) 3) _ a)) λ a.
        by_choice (λ (x : Run). Ran s c before qs (run_params n s x)) (ltb 3 (get_or s (c.len + 2) 0))
        (λ b. stays n c (stopped c) before qs refl (m ∙ next_bad (ltb (length s - c.len) 3) (ltb 3 (get_or s (c.len + 2) 0)) _ b)) λ b.
        param_read_lem is r (highest_read (drop (c.len + 3) s) longest_type) a b

  run : (n : ℕ) → Runs n
  unfolding run_params
  run zero c before t h = unfold param_fields fields_from any_field each_field lengths highest_of repeats choose in
      record {
        bad = λ e. absurd (true≢false (sym e));
        good = λ _. record { state = t.state; len = λ _. omega arith; top = omega arith; repeated = sym (or_nil c.repeated); error = sym (or_nil c.error) };
      }
  run (suc n) c before t h =
      subst (λ (qs : List FieldAt). Ran s c before qs (run_params n s (param_step s c))) (sym (params_next s n c.len))
      (param_ran n c before t h (λ c₁ b₁ t₁ h₁. run n c₁ b₁ t₁ h₁))

-- ---- the whole record: owner, name, visibility, flag, count, the result, which was read so, and the parameters
module _ (s : List ℕ) where
  abbrev pub fixed_parts : List FieldAt
  fixed_parts = field_at id_or_none s 1 ∷ field_at id s 3 ∷ field_at (byte 3) s 5 ∷ field_at (byte 1) s 6 ∷ field_at (byte 16) s 7 ∷ []

  abbrev pub function_parts : List ℕ → Result TypeRead TypeFault → List FieldAt
  function_parts is r = fixed_parts ++ type_read 8 is r ∷ choose (type_read 8 is r).endless [] (fields_from (param_fields (get_or s 7 0)) s (8 + (type_read 8 is r).len))

  -- the tests of the first eight bytes
  first_eight : (b c d z : Bool) → (ltb (length s) 3 || false) || ((ltb (length s) 5 || false) || ((ltb (length s) 6 || b) || ((ltb (length s) 7 || c) || ((ltb (length s) 8 || d) || z))))
      ≡ (ltb (length s) 8 || (b || (c || (d || z))))
  first_eight b c d z = go (ltb (length s) 8) refl
    where
      over : (x y u w : Bool) → x || (y || (u || (w || true))) ≡ true
      over x y u w = ap (λ (t : Bool). x || (y || (u || t))) (or_true w) ∙ ap (λ (t : Bool). x || (y || t)) (or_true u) ∙ ap (λ (t : Bool). x || t) (or_true y) ∙ or_true x

      go : (t : Bool) → ltb (length s) 8 ≡ t → (ltb (length s) 3 || false) || ((ltb (length s) 5 || false) || ((ltb (length s) 6 || b) || ((ltb (length s) 7 || c) || ((t || d) || z)))) ≡ (t || (b || (c || (d || z))))
      go true e = over (ltb (length s) 3 || false) (ltb (length s) 5 || false) (ltb (length s) 6 || b) (ltb (length s) 7 || c)
      go false e =
          let l = ltb-false (length s) 8 e in
          let x : ltb (length s) 3 ≡ false = le-ltb (length s) 3 (omega arith) in
          let y : ltb (length s) 5 ≡ false = le-ltb (length s) 5 (omega arith) in
          let u : ltb (length s) 6 ≡ false = le-ltb (length s) 6 (omega arith) in
          let w : ltb (length s) 7 ≡ false = le-ltb (length s) 7 (omega arith) in
          rw (x, y, u, w)

  -- of the result and the parameters
  abbrev behind : List ℕ → Result TypeRead TypeFault → List FieldAt
  behind is r = type_read 8 is r ∷ choose (type_read 8 is r).endless [] (fields_from (param_fields (get_or s 7 0)) s (8 + (type_read 8 is r).len))

  function_malformed : (is : List ℕ) (r : Result TypeRead TypeFault) → any_field (λ p. p.malformed) (function_parts is r)
      ≡ (ltb (length s) 8 || (ltb 3 (get_or s 5 0) || (ltb 1 (get_or s 6 0) || (ltb 16 (get_or s 7 0) || any_field (λ p. p.malformed) (behind is r)))))
  unfolding any_field
  function_malformed is r = first_eight (ltb 3 (get_or s 5 0)) (ltb 1 (get_or s 6 0)) (ltb 16 (get_or s 7 0)) _

  -- before the result
  abbrev start : Run
  start = result_with (max (or_none (id_at s 1)) (id_at s 3)) (whole_read 0 0 false)

  result_read_lem : get_or s 7 0 ≤ 16 → (is : List ℕ) (r : Result TypeRead TypeFault) → TopIs (highest_of is) r → Ran s start [] (behind is r) (run_params (get_or s 7 0) s (result_with (max (or_none (id_at s 1)) (id_at s 3)) r))
  unfolding any_field each_field lengths highest_of repeats occurs among choose
  result_read_lem h is (Ok found) tp =
      let c = result_with (max (or_none (id_at s 1)) (id_at s 3)) (Ok found) in
      let y = run s (get_or s 7 0) c [] (record { state = refl; long = refl; known = λ i. refl }) (omega arith) in
      record {
        bad = λ q. y.bad q;
        good = λ q.
            let w = y.good q in
            let v = highest_append is (each_field (λ p. p.ids) (fields_from (param_fields (get_or s 7 0)) s (8 + found.len))) in
            record { state = w.state; len = λ z. let l = w.len z in omega arith; top = let u = w.top in omega arith; repeated = w.repeated; error = w.error };
      }
  result_read_lem h is (Err Cut) tp = stays s (get_or s 7 0) start (result_with (max (or_none (id_at s 1)) (id_at s 3)) (Err Cut)) [] (behind is (Err Cut)) refl refl
  result_read_lem h is (Err Malformed) tp = stays s (get_or s 7 0) start (result_with (max (or_none (id_at s 1)) (id_at s 3)) (Err Malformed)) [] (behind is (Err Malformed)) refl refl
  result_read_lem h is (Err (Endless top e)) tp =
      subst (Ran s start [] (behind is (Err (Endless top e)))) (sym (run_ended (get_or s 7 0) s (result_with (max (or_none (id_at s 1)) (id_at s 3)) (Err (Endless top e))) refl))
      (record {
        bad = λ q. absurd (true≢false (sym q));
        good = λ _. let v = highest_append is [] in record { state = refl; len = λ z. absurd (true≢false z); top = omega arith; repeated = refl; error = refl };
      })

  function_with_lem : (is : List ℕ) (r : Result TypeRead TypeFault) (c : Run) → any_field (λ p. p.malformed) (function_parts is r) ≡ any_field (λ p. p.malformed) (behind is r) → Ran s start [] (behind is r) c
      → Agrees s (function_parts is r) (function_with s c)
  unfolding function_with any_field each_field lengths highest_of choose
  function_with_lem is r c m y = go (any_field (λ p. p.malformed) (behind is r)) refl
    where
      fits : (e : Bool) → any_field (λ p. p.endless) (behind is r) ≡ e → Went s start [] (behind is r) c → Holds s (function_parts is r) (function_with s c)
      fits true q w =
          let z : c.state ≡ 2 = w.state ∙ ap (λ (t : Bool). choose t 2 0) q in
          let o = or_none_lem (id_at s 1) (id_at s 3 ∷ each_field (λ p. p.ids) (behind is r)) in
          let u = w.top in
          rw z (record { whole = refl; len = rw q; top = omega arith; repeated = w.repeated; error = w.error })
      fits false q w =
          let z : c.state ≡ 0 = w.state ∙ ap (λ (t : Bool). choose t 2 0) q in
          let o = or_none_lem (id_at s 1) (id_at s 3 ∷ each_field (λ p. p.ids) (behind is r)) in
          let u = w.top in
          let l = w.len q in
          rw z (record { whole = refl; len = rw q (omega arith); top = omega arith; repeated = w.repeated; error = w.error })

      go : (b : Bool) → any_field (λ p. p.malformed) (behind is r) ≡ b → Agrees s (function_parts is r) (function_with s c)
      go true e = let z = y.bad e in rw z (refused s (function_parts is r) (m ∙ e))
      go false e = taken s (function_parts is r) (function_with s c) (m ∙ e) (fits (any_field (λ p. p.endless) (behind is r)) refl (y.good e))

  pub function_parts_lem : fields_from (id_or_none ∷ id ∷ byte 3 ∷ byte 1 ∷ byte 16 ∷ type ∷ param_fields (get_or s 7 0)) s 1 ≡ function_parts (ids_in (drop 8 s) longest_type) (read_type (drop 8 s) longest_type)
  unfolding fields_from choose
  function_parts_lem = refl

  function_read_lem : Agrees s (function_parts (ids_in (drop 8 s) longest_type) (read_type (drop 8 s) longest_type)) (function_head s)
  unfolding function_head params_read
  function_read_lem =
      let r = read_type (drop 8 s) longest_type in
      let is = ids_in (drop 8 s) longest_type in
      let ps = function_parts is r in
      let m = function_malformed is r in
      by_choice (Agrees s ps) (ltb (length s) 8) (λ a. refused s ps (m ∙ first_bad (ltb (length s) 8) _ a)) λ a.
      by_choice (Agrees s ps) (ltb 3 (get_or s 5 0)) (λ b. refused s ps (m ∙ next_bad (ltb (length s) 8) (ltb 3 (get_or s 5 0)) _ b)) λ b.
      by_choice (Agrees s ps) (ltb 1 (get_or s 6 0)) (λ d. refused s ps (m ∙ fine (ltb (length s) 8) (ltb 3 (get_or s 5 0)) _ a b ∙ first_bad (ltb 1 (get_or s 6 0)) _ d)) λ d.
      by_choice (Agrees s ps) (ltb 16 (get_or s 7 0)) (λ e. refused s ps (m ∙ fine (ltb (length s) 8) (ltb 3 (get_or s 5 0)) _ a b ∙ next_bad (ltb 1 (get_or s 6 0)) (ltb 16 (get_or s 7 0)) _ e)) λ e.
      function_with_lem is r (params_read s) (m ∙ fine (ltb (length s) 8) (ltb 3 (get_or s 5 0)) _ a b ∙ fine (ltb 1 (get_or s 6 0)) (ltb 16 (get_or s 7 0)) _ d e) (result_read_lem (ltb-false 16 (get_or s 7 0) e) is r (highest_read (drop 8 s) longest_type))

  pub function_agrees : Agrees s (fields_from (id_or_none ∷ id ∷ byte 3 ∷ byte 1 ∷ byte 16 ∷ type ∷ param_fields (get_or s 7 0)) s 1) (function_head s)
  function_agrees = subst (λ (ps : List FieldAt). Agrees s ps (function_head s)) (sym function_parts_lem) function_read_lem
