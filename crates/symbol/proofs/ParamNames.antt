-- The parameters' names of a function that repeats none are distinct.
use Prim.Native.Nat.{ℕ, zero, suc, ◌+◌, ◌≤◌, ◌<◌, max}
use borrow.Author.Tests.{eq-eqb}
use lib.Dec.{eqb}
use lib.ListN.{length, get_or, drop, set, length-set}
use lib.Seq.{get_or-drop, get_or-set_same, get_or-set_other}
use mathlib.Core.Bool.{false, true≢false, ◌||◌}
use mathlib.Core.List.{List, [], ◌∷◌}
use mathlib.Core.Path.{◌≡◌, refl, sym, ap, ◌∙◌, subst}
use native.Mathlib.Omega.{arith}
use native.Mathlib.Numerals.{add-one}
use Rattle.ty.specs.Bytes.{id_at}
use Rattle.ty.specs.Read.{read_type, longest_type}
use Rattle.ty.specs.declared.read.TypeFault.TheVariants.{Cut, Malformed, Endless}
use Rattle.ty.specs.declared.read.TypeFault.{TypeFault}
use Rattle.std.specs.Prelude.{Result, Ok, Err}
use Rattle.ty.specs.declared.read.TypeRead.{TypeRead}
use Rattle.record.proofs.NoFault.{or_false}
use Rattle.record.proofs.ParamSteps.{param_onward, first-inside}
use Rattle.symbol.proofs.Wholes.{FunctionWhole, ParamTo, step_to, step_behind}
use Rattle.record.specs.Inside.Front.{among, param_step, run_params, result_with, first_reading, params_read, or_none, front_of}
use Rattle.record.specs.Inside.Keyed.{type_length}
use Rattle.symbol.specs.Inside.FoundSymbols.{params_from}
use Rattle.symbol.specs.Symbols.{Param}
use Rattle.record.specs.Inside.Front.{Run}

-- no parameter has the name id
abbrev pub Absent : ℕ → List Param → Type 0
Absent id [] = Unit
Absent id (p ∷ ps) = (p.name ≡ id → ⊥) × Absent id ps

-- no two have one name
abbrev pub Distinct : List Param → Type 0
Distinct [] = Unit
Distinct (p ∷ ps) = Absent p.name ps × Distinct ps

-- none has one of the first n names
abbrev Unmet : ℕ → List ℕ → List Param → Type 0
Unmet n names [] = Unit
Unmet n names (p ∷ ps) = (among n names p.name ≡ false) × Unmet n names ps

among-set : (n k : ℕ) (names : List ℕ) (x id : ℕ) → n ≤ k → among n (set names k x) id ≡ among n names id
unfolding among
among-set zero k names x id h = refl
among-set (suc n) k names x id h =
    rw (get_or-set_other names k n x 0 (λ e. omega arith), among-set n k names x id (omega arith))

-- with one name more
among_more : (n : ℕ) (names : List ℕ) (x id : ℕ) → n < length names → among (suc n) (set names n x) id ≡ (eqb x id || among n names id)
unfolding among
among_more n names x id h = rw (get_or-set_same names n x 0 h, among-set n n names x id (omega arith))

unmet_split : (n : ℕ) (names : List ℕ) (x : ℕ) → n < length names → (ps : List Param) → Unmet (suc n) (set names n x) ps → Absent x ps × Unmet n names ps
unmet_split n names x h [] u = (tt, tt)
unmet_split n names x h (p ∷ ps) u =
    let o = or_false (eqb x p.name) (among n names p.name) (sym (among_more n names x p.name h) ∙ u.0) in
    let r = unmet_split n names x h ps u.1 in
    ((λ e. true≢false (sym (eq-eqb x p.name (sym e)) ∙ o.0), r.0), (o.1, r.1))

-- where no name is repeated at the end, none was before
step_once : (s : List ℕ) (c : Run) (r : Run) → ParamTo s c r → r.repeated ≡ false → (c.repeated ≡ false) × (among c.count c.names (id_at s c.len) ≡ false)
step_once s c r w e = or_false c.repeated (among c.count c.names (id_at s c.len)) (sym w.repeated ∙ e)

once_before : (n : ℕ) (s : List ℕ) (c : Run) → c.len ≤ length s → (run_params n s c).state ≡ 0 → (run_params n s c).error ≡ false
    → (run_params n s c).repeated ≡ false → c.repeated ≡ false
unfolding run_params
once_before zero s c h v e d = d
once_before (suc n) s c h v e d =
    (step_once s c (param_step s c) (step_to n s c h v e) (once_before n s (param_step s c) (param_onward s c h).high v e d)).0

names_run : (n : ℕ) (s : List ℕ) (c : Run) → c.len ≤ length s → length c.names ≡ 16 → c.count + n ≤ 16 → (run_params n s c).state ≡ 0
    → (run_params n s c).error ≡ false → (run_params n s c).repeated ≡ false
    → Unmet c.count c.names (params_from n (drop c.len s)) × Distinct (params_from n (drop c.len s))
unfolding run_params params_from
names_run zero s c h l k v e d = (tt, tt)
names_run (suc n) s c h l k v e d =
    let w = step_to n s c h v e in
    let d₁ = once_before n s (param_step s c) (param_onward s c h).high v e d in
    let o = step_once s c (param_step s c) w d₁ in
    let l₁ : length (param_step s c).names ≡ 16 = ap length w.names ∙ length-set c.names c.count (id_at s c.len) ∙ l in
    let ih = names_run n s (param_step s c) (param_onward s c h).high l₁ (omega (arith, w.count)) v e d in
    let b = step_behind s c w in
    let u : Unmet (suc c.count) (set c.names c.count (id_at s c.len)) (params_from n (drop (3 + type_length (drop 3 (drop c.len s))) (drop c.len s)))
    = rw (← b, ← add-one c.count, ← w.count, ← w.names) ih.0 in
    let x = unmet_split c.count c.names (id_at s c.len) (omega arith) (params_from n (drop (3 + type_length (drop 3 (drop c.len s))) (drop c.len s))) u in
    let i : id_at (drop c.len s) 0 ≡ id_at s c.len = id_drop c.len s in (
      (rw i o.1, x.1),
      (rw i x.0, rw (← b) ih.1),
    )
  where
    id_drop : (k : ℕ) (s : List ℕ) → id_at (drop k s) 0 ≡ id_at s k
    id_drop k s =
        let z : k + 0 ≡ k = omega arith in
        rw (get_or-drop k s 0 0, get_or-drop k s (0 + 1) 0, z)

first-names : (s : List ℕ) → length (first_reading s).names ≡ 16
first-names s = go (read_type (drop 8 s) longest_type) (max (or_none (id_at s 1)) (id_at s 3))
  where
    go : (r : Result TypeRead TypeFault) (high : ℕ) → length (result_with high r).names ≡ 16
    go (Ok t) high = refl
    go (Err Cut) high = refl
    go (Err Malformed) high = refl
    go (Err (Endless top e)) high = refl

-- PARAMETER NAMES within one function are distinct
pub names_distinct : (s : List ℕ) → FunctionWhole s → (front_of s).repeated ≡ false → Distinct (params_from (get_or s 7 0) (drop (8 + type_length (drop 8 s)) s))
unfolding params_read
names_distinct s f d =
    let i = first-inside s f.fields.long in
    subst (λ (k : ℕ). Distinct (params_from (get_or s 7 0) (drop k s))) f.start
    (names_run (get_or s 7 0) s (first_reading s) i.high (first-names s) (omega (arith, i.count, f.fields.count)) f.state f.error (sym f.repeated ∙ d)).1
