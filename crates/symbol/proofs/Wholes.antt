-- A function record without Error that is not broken has whole types.
use Prim.Native.Nat.{ℕ, zero, suc, ◌+◌, ◌-◌, ◌≤◌, max}
use borrow.Author.Tests.{eq-eqb, eqb-true, ltb-false}
use lib.Dec.{eqb, ltb}
use lib.ListN.{length, get_or, drop, set, length-drop}
use lib.Seq.{drop-drop}
use mathlib.Core.Bool.{Bool, true, false, not, true≢false, ◌||◌}
use mathlib.Core.List.{List}
use mathlib.Core.Path.{◌≡◌, refl, sym, ap, ◌∙◌, subst}
use native.Mathlib.Omega.{arith}
use Rattle.ty.proofs.Choice.{by_choice}
use Rattle.ty.proofs.TypeSizes.{whole}
use Rattle.ty.specs.Bytes.{id_at}
use Rattle.ty.specs.Choose.{choose}
use Rattle.ty.specs.Read.{read_type, longest_type}
use Rattle.ty.specs.declared.read.TypeFault.TheVariants.{Cut, Malformed, Endless}
use Rattle.ty.specs.declared.read.TypeFault.{TypeFault}
use Rattle.ty.specs.Read.{whole_read}
use Rattle.std.specs.Prelude.{Result, Ok, Err}
use Rattle.ty.specs.declared.read.TypeRead.{TypeRead}
use Rattle.record.proofs.NoFault.{or_false}
use Rattle.record.proofs.Own.{whole_before}
use Rattle.record.proofs.RecordSizes.{head_by_lem}
use Rattle.record.proofs.ParamSteps.{param_onward, first-inside}
use Rattle.record.specs.Inside.Front.{or_none, among, param_with, param_step, run_params, result_with, first_reading, params_read, function_with, function_head, field_with, field_head, head_by, front_of}
use Rattle.record.specs.Inside.Keyed.{whole_length, type_length}
use Rattle.symbol.specs.Inside.ParamsRow.{TypeAt, ParamsAt}
use Rattle.record.specs.Inside.Front.{Front}
use Rattle.record.specs.Inside.Front.{Run}

or_true : (v : Bool) → v || true ≡ true
or_true true = refl
or_true false = refl

-- ---- a record of kind 4 is a function, one of kind 5 a field
head_function : (s : List ℕ) → (front_of s).kind ≡ 4 → front_of s ≡ function_head s
unfolding head_by choose
head_function s k = head_by_lem s 4 (omega arith) k

head_field : (s : List ℕ) → (front_of s).kind ≡ 5 → front_of s ≡ field_head s
unfolding head_by choose
head_field s k = head_by_lem s 5 (omega arith) k

-- ---- its first bytes
pub record Fields (s : List ℕ) (h : Front) : Type 0 where
  pub long : 8 ≤ length s
  pub visibility : get_or s 5 0 ≤ 3
  pub flag : get_or s 6 0 ≤ 1
  pub count : get_or s 7 0 ≤ 16
  pub is : h ≡ function_with s (params_read s)

fields : (s : List ℕ) (h : Front) → h ≡ function_head s → h.kind ≡ 4 → Fields s h
unfolding function_head
fields s h =
    by_choice (λ (x : Front). h ≡ x → h.kind ≡ 4 → Fields s h) (ltb (length s) 8) (λ _ e k. absurd (omega (arith, ap (λ (x : Front). x.kind) e))) λ a.
    by_choice (λ (x : Front). h ≡ x → h.kind ≡ 4 → Fields s h) (ltb 3 (get_or s 5 0)) (λ _ e k. absurd (omega (arith, ap (λ (x : Front). x.kind) e))) λ b.
    by_choice (λ (x : Front). h ≡ x → h.kind ≡ 4 → Fields s h) (ltb 1 (get_or s 6 0)) (λ _ e k. absurd (omega (arith, ap (λ (x : Front). x.kind) e))) λ c.
    by_choice (λ (x : Front). h ≡ x → h.kind ≡ 4 → Fields s h) (ltb 16 (get_or s 7 0)) (λ _ e k. absurd (omega (arith, ap (λ (x : Front). x.kind) e))) λ d e k.
    record {
      long = ltb-false (length s) 8 a;
      visibility = ltb-false 3 (get_or s 5 0) b;
      flag = ltb-false 1 (get_or s 6 0) c;
      count = ltb-false 16 (get_or s 7 0) d;
      is = e;
    }

-- ---- a type without end is an error
abbrev Endlessly : Run → Type 0
Endlessly c = c.state ≡ 2 → c.error ≡ true

first-endless : (s : List ℕ) → Endlessly (first_reading s)
first-endless s = go (max (or_none (id_at s 1)) (id_at s 3)) (read_type (drop 8 s) longest_type)
  where
    go : (high : ℕ) (r : Result TypeRead TypeFault) → Endlessly (result_with high r)
    go high (Ok t) q = absurd (omega arith)
    go high (Err Cut) q = absurd (omega arith)
    go high (Err Malformed) q = absurd (omega arith)
    go high (Err (Endless top e)) q = refl

step_endless : (s : List ℕ) (c : Run) → Endlessly c → Endlessly (param_step s c)
unfolding param_step
step_endless s c h =
    by_choice Endlessly (not (eqb c.state 0)) (λ _. h) λ _.
    by_choice Endlessly (ltb (length s - c.len) 3) (λ _ q. absurd (omega arith)) λ _.
    by_choice Endlessly (ltb 3 (get_or s (c.len + 2) 0)) (λ _ q. absurd (omega arith)) λ _.
    go (read_type (drop (c.len + 3) s) longest_type)
  where
    go : (r : Result TypeRead TypeFault) → Endlessly (param_with c (id_at s c.len) r)
    go (Ok t) q = absurd (omega arith)
    go (Err Cut) q = absurd (omega arith)
    go (Err Malformed) q = absurd (omega arith)
    go (Err (Endless top e)) q = or_true c.error

run_endless : (n : ℕ) (s : List ℕ) (c : Run) → Endlessly c → Endlessly (run_params n s c)
unfolding run_params
run_endless zero s c h = h
run_endless (suc n) s c h = run_endless n s (param_step s c) (step_endless s c h)

read-endless : (s : List ℕ) → Endlessly (params_read s)
unfolding params_read
read-endless s = run_endless (get_or s 7 0) s (first_reading s) (first-endless s)

-- ---- where no error is at the end, there was none before
step_error : (s : List ℕ) (c : Run) → (param_step s c).error ≡ false → c.error ≡ false
unfolding param_step
step_error s c =
    by_choice (λ (r : Run). r.error ≡ false → c.error ≡ false) (not (eqb c.state 0)) (λ _ q. q) λ _.
    by_choice (λ (r : Run). r.error ≡ false → c.error ≡ false) (ltb (length s - c.len) 3) (λ _ q. q) λ _.
    by_choice (λ (r : Run). r.error ≡ false → c.error ≡ false) (ltb 3 (get_or s (c.len + 2) 0)) (λ _ q. q) λ _.
    go (read_type (drop (c.len + 3) s) longest_type)
  where
    go : (r : Result TypeRead TypeFault) → (param_with c (id_at s c.len) r).error ≡ false → c.error ≡ false
    go (Ok t) q = (or_false c.error t.error q).0
    go (Err Cut) q = q
    go (Err Malformed) q = q
    go (Err (Endless top e)) q = (or_false c.error true q).0

error-before : (n : ℕ) (s : List ℕ) (c : Run) → (run_params n s c).error ≡ false → c.error ≡ false
unfolding run_params
error-before zero s c e = e
error-before (suc n) s c e = step_error s c (error-before n s (param_step s c) e)

-- ---- one whole type
type_at : (s : List ℕ) (k : ℕ) → k ≤ length s → (n top : ℕ) → read_type (drop k s) longest_type ≡ whole_read n top false
    → TypeAt s k × (type_length (drop k s) ≡ n)
unfolding type_length
type_at s k h n top q =
    let l : whole_length (read_type (drop k s) longest_type) ≡ n = ap whole_length q in
    let b = whole (drop k s) longest_type n top false q in
    (record { top = top; whole = rw l q; inside = omega (arith, length-drop k s) }, l)

first-whole : (s : List ℕ) → 8 ≤ length s → (first_reading s).state ≡ 0 → (first_reading s).error ≡ false
    → TypeAt s 8 × ((first_reading s).len ≡ 8 + type_length (drop 8 s))
first-whole s h = go (read_type (drop 8 s) longest_type) refl (max (or_none (id_at s 1)) (id_at s 3))
  where
    go : (r : Result TypeRead TypeFault) → read_type (drop 8 s) longest_type ≡ r → (high : ℕ) → (result_with high r).state ≡ 0 → (result_with high r).error ≡ false
        → TypeAt s 8 × ((result_with high r).len ≡ 8 + type_length (drop 8 s))
    go (Ok t) q high v e = let w = type_at s 8 h t.len t.top (q ∙ (λ i. whole_read t.len t.top (e i))) in (w.0, ap (λ (k : ℕ). 8 + k) (sym w.1))
    go (Err Cut) q high v e = absurd (omega arith)
    go (Err Malformed) q high v e = absurd (omega arith)
    go (Err (Endless top b)) q high v e = absurd (omega arith)

-- one parameter: from c to r
pub record ParamTo (s : List ℕ) (c r : Run) : Type 0 where
  pub ty : TypeAt (drop c.len s) 3
  pub len : r.len ≡ c.len + (3 + type_length (drop 3 (drop c.len s)))
  pub count : r.count ≡ c.count + 1
  pub names : r.names ≡ set c.names c.count (id_at s c.len)
  pub repeated : r.repeated ≡ (c.repeated || among c.count c.names (id_at s c.len))

-- where the reading is whole
record Onto (s : List ℕ) (c r : Run) : Type 0 where
  is : r.state ≡ 0 → r.error ≡ false → ParamTo s c r

param-whole : (s : List ℕ) (c : Run) → c.len ≤ length s → c.state ≡ 0 → Onto s c (param_step s c)
unfolding param_step
param-whole s c h z =
    by_choice (Onto s c) (not (eqb c.state 0)) (λ e. record { is = λ v _. absurd (true≢false (sym e ∙ ap not (eq-eqb c.state 0 v))) }) λ _.
    by_choice (Onto s c) (ltb (length s - c.len) 3) (λ _. record { is = λ v _. absurd (omega arith) }) λ a.
    by_choice (Onto s c) (ltb 3 (get_or s (c.len + 2) 0)) (λ _. record { is = λ v _. absurd (omega arith) }) λ _.
    go (ltb-false (length s - c.len) 3 a) (read_type (drop (c.len + 3) s) longest_type) refl
  where
    go : 3 ≤ length s - c.len → (r : Result TypeRead TypeFault) → read_type (drop (c.len + 3) s) longest_type ≡ r → Onto s c (param_with c (id_at s c.len) r)
    go l (Ok t) q =
        let d : drop 3 (drop c.len s) ≡ drop (c.len + 3) s = drop-drop 3 c.len s in
        let w : t.error ≡ false → TypeAt (drop c.len s) 3 × (type_length (drop 3 (drop c.len s)) ≡ t.len)
        = λ e.
        type_at (drop c.len s) 3 (omega (arith, length-drop c.len s)) t.len t.top
        (ap (λ (x : List ℕ). read_type x longest_type) d ∙ q ∙ (λ i. whole_read t.len t.top (e i))) in
        record {
          is = λ v e.
              let y = w (or_false c.error t.error e).1 in
              record { ty = y.0; len = omega (arith, y.1); count = refl; names = refl; repeated = refl };
        }
    go l (Err Cut) q = record { is = λ v e. absurd (omega arith) }
    go l (Err Malformed) q = record { is = λ v e. absurd (omega arith) }
    go l (Err (Endless top b)) q = record { is = λ v e. absurd (omega arith) }

-- ---- all of them
-- one parameter of a whole reading of n more
pub step_to : (n : ℕ) (s : List ℕ) (c : Run) → c.len ≤ length s → (run_params (suc n) s c).state ≡ 0 → (run_params (suc n) s c).error ≡ false
    → ParamTo s c (param_step s c)
unfolding run_params
step_to n s c h v e =
    let v₁ = whole_before n s (param_step s c) v in
    let e₁ = error-before n s (param_step s c) e in
    (param-whole s c h (whole_before 1 s c v₁)).is v₁ e₁

-- the bytes behind it
pub step_behind : (s : List ℕ) (c : Run) → ParamTo s c (param_step s c)
    → drop (param_step s c).len s ≡ drop (3 + type_length (drop 3 (drop c.len s))) (drop c.len s)
step_behind s c w = ap (λ (k : ℕ). drop k s) w.len ∙ sym (drop-drop (3 + type_length (drop 3 (drop c.len s))) c.len s)

row_whole : (n : ℕ) (s : List ℕ) (c : Run) → c.len ≤ length s → (run_params n s c).state ≡ 0 → (run_params n s c).error ≡ false
    → ParamsAt n (drop c.len s)
unfolding run_params
row_whole zero s c h v e = tt
row_whole (suc n) s c h v e =
    let w = step_to n s c h v e in
    (w.ty, subst (λ (x : List ℕ). ParamsAt n x) (step_behind s c w) (row_whole n s (param_step s c) (param_onward s c h).high v e))

-- A FUNCTION RECORD of an accepted table
pub record FunctionWhole (s : List ℕ) : Type 0 where
  pub fields : Fields s (front_of s)
  pub state : (params_read s).state ≡ 0
  pub repeated : (front_of s).repeated ≡ (params_read s).repeated
  pub error : (params_read s).error ≡ false
  pub result : TypeAt s 8
  pub start : (first_reading s).len ≡ 8 + type_length (drop 8 s)
  pub row : ParamsAt (get_or s 7 0) (drop (8 + type_length (drop 8 s)) s)

with_whole : (s : List ℕ) (c : Run) → Endlessly c → (function_with s c).kind ≡ 4 → (function_with s c).error ≡ false
    → (c.state ≡ 0) × (c.error ≡ false) × ((function_with s c).repeated ≡ c.repeated)
unfolding function_with
with_whole s c h =
    by_choice (λ (x : Front). x.kind ≡ 4 → x.error ≡ false → (c.state ≡ 0) × (c.error ≡ false) × (x.repeated ≡ c.repeated)) (eqb c.state 0)
    (λ z k e. (eqb-true c.state 0 z, e, refl)) λ _.
    by_choice (λ (x : Front). x.kind ≡ 4 → x.error ≡ false → (c.state ≡ 0) × (c.error ≡ false) × (x.repeated ≡ c.repeated)) (eqb c.state 2)
    (λ z k e. absurd (true≢false (sym (h (eqb-true c.state 2 z)) ∙ e)))
    (λ _ k e. absurd (omega arith))

pub function-whole : (s : List ℕ) → (front_of s).kind ≡ 4 → (front_of s).error ≡ false → FunctionWhole s
unfolding params_read
function-whole s k e =
    let f = fields s (front_of s) (head_function s k) k in
    let w = with_whole s (params_read s) (read-endless s) (ap (λ (x : Front). x.kind) (sym f.is) ∙ k) (ap (λ (x : Front). x.error) (sym f.is) ∙ e) in
    rest s f w.0 w.1 (ap (λ (x : Front). x.repeated) f.is ∙ w.2)
  where
    rest : (s : List ℕ) → Fields s (front_of s) → (params_read s).state ≡ 0 → (params_read s).error ≡ false → (front_of s).repeated ≡ (params_read s).repeated
        → FunctionWhole s
    rest s f v e r =
        let i = first-inside s f.long in
        let v₀ = whole_before (get_or s 7 0) s (first_reading s) (read_run s v) in
        let e₀ = error-before (get_or s 7 0) s (first_reading s) (read-error s e) in
        let w = first-whole s f.long v₀ e₀ in
        record {
          fields = f;
          state = v;
          repeated = r;
          error = e;
          result = w.0;
          start = w.1;
          row =
              subst (λ (k : ℕ). ParamsAt (get_or s 7 0) (drop k s)) w.1
              (row_whole (get_or s 7 0) s (first_reading s) i.high (read_run s v) (read-error s e));
        }
      where
        read_run : (s : List ℕ) → (params_read s).state ≡ 0 → (run_params (get_or s 7 0) s (first_reading s)).state ≡ 0
        read_run s v = v

        read-error : (s : List ℕ) → (params_read s).error ≡ false → (run_params (get_or s 7 0) s (first_reading s)).error ≡ false
        read-error s e = e

-- A FIELD RECORD of an accepted table
pub record FieldWhole (s : List ℕ) : Type 0 where
  pub ty : TypeAt s 5
  pub len : (front_of s).len ≡ 5 + type_length (drop 5 s)

record FieldOf (s : List ℕ) (h : Front) : Type 0 where
  is : h.kind ≡ 5 → h.error ≡ false → TypeAt s 5 × (h.len ≡ 5 + type_length (drop 5 s))

field_is : (s : List ℕ) → FieldOf s (field_head s)
unfolding field_head
field_is s =
    by_choice (FieldOf s) (ltb (length s) 5) (λ _. record { is = λ k e. absurd (omega arith) }) λ a.
    go (ltb-false (length s) 5 a) (read_type (drop 5 s) longest_type) refl
  where
    go : 5 ≤ length s → (r : Result TypeRead TypeFault) → read_type (drop 5 s) longest_type ≡ r → FieldOf s (field_with s (id_at s 1) (id_at s 3) r)
    go l (Ok t) q =
        record {
          is = λ k e.
              let w = type_at s 5 l t.len t.top (q ∙ (λ i. whole_read t.len t.top (e i))) in
              (w.0, omega (arith, w.1));
        }
    go l (Err Cut) q = record { is = λ k e. absurd (omega arith) }
    go l (Err Malformed) q = record { is = λ k e. absurd (omega arith) }
    go l (Err (Endless top b)) q = record { is = λ k e. absurd (true≢false e) }

pub field_whole : (s : List ℕ) → (front_of s).kind ≡ 5 → (front_of s).error ≡ false → FieldWhole s
field_whole s k e =
    let h = head_field s k in
    let w = (field_is s).is (ap (λ (x : Front). x.kind) (sym h) ∙ k) (ap (λ (x : Front). x.error) (sym h) ∙ e) in
    record { ty = w.0; len = ap (λ (x : Front). x.len) h ∙ w.1 }
