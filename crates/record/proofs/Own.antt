-- A record is read from its own bytes: what stands behind its end is not looked at.
use Prim.Native.Nat.{ℕ, zero, suc, ◌+◌, ◌-◌, ◌≤◌, ◌<◌, max}
use borrow.Author.Tests.{eq-eqb, eqb-true, ltb-true, ltb-false, le-ltb}
use lib.Dec.{eqb, ltb}
use lib.ListN.{length, get_or, take, drop, length-take}
use lib.Seq.{get_or-take, take_all}
use mathlib.Core.Bool.{Bool, true, false, not, true≢false}
use mathlib.Core.List.{List, [], ◌∷◌}
use mathlib.Core.Path.{◌≡◌, refl, sym, ap, ◌∙◌}
use native.Mathlib.Omega.{arith}
use Rattle.std.proofs.Common.{Result, Ok, Err}
use Rattle.ty.proofs.Choice.{by_choice, chosen, passed, chain}
use Rattle.ty.proofs.Moved.{reads_taken}
use Rattle.ty.specs.Bytes.{id_at}
use Rattle.ty.specs.Read.{whole_read, read_type, longest_type}
use Rattle.ty.specs.declared.read.TypeFault.TheVariants.{Cut, Malformed, Endless}
use Rattle.ty.specs.declared.read.TypeFault.{TypeFault}
use Rattle.ty.specs.declared.read.TypeRead.{TypeRead}
use Rattle.record.proofs.Bounds.{head_bounded}
use Rattle.record.proofs.ParamSteps.{param_onward, first-inside, run_inside, read-inside}
use Rattle.record.specs.Inside.Front.{plain_head, or_none, good_bytes, name_head, class_head, operators_head, param_with, param_step, run_params, result_with, first_reading, params_read, function_with, function_head, field_with, field_head, visibility_head, suspend_head, variant_head, head_by, front_of}
use Rattle.record.specs.Inside.Front.{Front}
use Rattle.record.specs.Inside.Front.{Run}

pub drop-take : (k m : ℕ) (l : List ℕ) → drop k (take m l) ≡ take (m - k) (drop k l)
drop-take zero m l = let e : m - 0 ≡ m = omega arith in rw e
drop-take (suc k) zero l = let e : zero - suc k ≡ 0 = omega arith in rw e
drop-take (suc k) (suc m) [] = let e : (j : ℕ) → take j [] ≡ [] = nil in sym (e (suc m - suc k))
  where
    nil : (j : ℕ) → ◌≡◌ {A = List ℕ} (take j []) []
    nil zero = refl
    nil (suc j) = refl
drop-take (suc k) (suc m) (x ∷ l) = let e : suc m - suc k ≡ m - k = omega arith in rw e (drop-take k m l)

-- reading that has ended stays as it is
pub step_ended : (s : List ℕ) (c : Run) → eqb c.state 0 ≡ false → param_step s c ≡ c
unfolding param_step
step_ended s c h = sym (chosen (not (eqb c.state 0)) c c _ (ap not h) refl)

pub run_ended : (n : ℕ) (s : List ℕ) (c : Run) → eqb c.state 0 ≡ false → run_params n s c ≡ c
unfolding run_params
run_ended zero s c h = refl
run_ended (suc n) s c h = ap (run_params n s) (step_ended s c h) ∙ run_ended n s c h

-- where it is whole at the end, it was whole before
pub whole_before : (n : ℕ) (s : List ℕ) (c : Run) → (run_params n s c).state ≡ 0 → c.state ≡ 0
whole_before n s c e = go (eqb c.state 0) refl
  where
    go : (t : Bool) → eqb c.state 0 ≡ t → c.state ≡ 0
    go true q = eqb-true c.state 0 q
    go false q = sym (ap (λ (r : Run). r.state) (run_ended n s c q)) ∙ e

-- s up to byte m, which cuts something off
module _ (s : List ℕ) (m : ℕ) (short : m < length s) where
  abbrev own : List ℕ
  own = take m s

  own-length : length own ≡ m
  own-length = let e = length-take m s in omega arith

  own_byte : (i : ℕ) → i < m → get_or own i 0 ≡ get_or s i 0
  own_byte i h = get_or-take m s i 0 h

  own_id : (i : ℕ) → i + 2 ≤ m → id_at own i ≡ id_at s i
  own_id i h = rw (own_byte i (omega arith), own_byte (i + 1) (omega arith))

  own_type : (k n top : ℕ) (e : Bool) → k + n ≤ m → read_type (drop k s) longest_type ≡ whole_read n top e → read_type (drop k own) longest_type ≡ whole_read n top e
  own_type k n top e h q = rw (drop-take k m s) (reads_taken (drop k s) longest_type (m - k) n top e (omega arith) q)

  -- a record with no type in it
  plain : (n : ℕ) (bad bad' : Bool) (kind one one' two two' top top' : ℕ) → (n ≤ m → (bad' ≡ bad) × (one' ≡ one) × (two' ≡ two) × (top' ≡ top))
      → (plain_head s n bad kind one two top).len ≤ m → plain_head own n bad' kind one' two' top' ≡ plain_head s n bad kind one two top
  unfolding plain_head
  plain n bad bad' kind one one' two two' top top' same =
      by_choice (λ h. h.len ≤ m → plain_head own n bad' kind one' two' top' ≡ h) (ltb (length s) n) (λ _ l. absurd (omega arith)) λ e.
      by_choice (λ h. h.len ≤ m → plain_head own n bad' kind one' two' top' ≡ h) bad (λ _ l. absurd (omega arith)) λ b l.
      let w = same l in
      sym (passed (ltb (length own) n) _ _ _ (le-ltb (length own) n (omega (arith, own-length))) (passed bad' _ _ _ (w.0 ∙ b) (rw (w.1, w.2, w.3))))

  good_bytes_lem : (k n : ℕ) → k + 2 ≤ m → good_bytes k own n ≡ good_bytes k s n
  unfolding good_bytes
  good_bytes_lem zero n h = refl
  good_bytes_lem (suc k) n h = rw (own_byte (k + 2) (omega arith), good_bytes_lem k n (omega arith))

  name : (name_head s).len ≤ m → name_head own ≡ name_head s
  unfolding name_head
  name = plain 26 _ _ 1 0 0 0 0 0 0 (λ h. (rw (own_byte 1 (omega arith), good_bytes_lem 24 (get_or s 1 0) h), refl, refl, refl))

  class : (class_head s).len ≤ m → class_head own ≡ class_head s
  unfolding class_head
  class =
      plain 12 _ _ 2 _ _ _ _ _ _
      (λ h. (
        rw (own_byte 11 (omega arith)),
        own_id 1 (omega arith),
        own_id 3 (omega arith),
        rw (own_id 1 (omega arith), own_id 3 (omega arith), own_id 5 (omega arith), own_id 7 (omega arith), own_id 9 (omega arith)),
      ))

  operators : (operators_head s).len ≤ m → operators_head own ≡ operators_head s
  unfolding operators_head
  operators = plain 5 _ _ 3 _ _ _ _ _ _ (λ h. (rw (own_id 3 (omega arith)), own_id 1 (omega arith), own_id 3 (omega arith), own_id 1 (omega arith)))

  visibility : (visibility_head s).len ≤ m → visibility_head own ≡ visibility_head s
  unfolding visibility_head
  visibility =
      plain 6 _ _ 6 _ _ _ _ _ _
      (λ h. (rw (own_byte 5 (omega arith)), own_id 1 (omega arith), own_id 3 (omega arith), rw (own_id 1 (omega arith), own_id 3 (omega arith))))

  suspend : (suspend_head s).len ≤ m → suspend_head own ≡ suspend_head s
  unfolding suspend_head
  suspend =
      plain 5 _ _ 7 _ _ _ _ _ _
      (λ h. (refl, own_id 1 (omega arith), own_id 3 (omega arith), rw (own_id 1 (omega arith), own_id 3 (omega arith))))

  variant : (variant_head s).len ≤ m → variant_head own ≡ variant_head s
  unfolding variant_head
  variant =
      plain 5 _ _ 8 _ _ _ _ _ _
      (λ h. (refl, own_id 1 (omega arith), own_id 3 (omega arith), rw (own_id 1 (omega arith), own_id 3 (omega arith))))

  field_with_lem : (r : Result TypeRead TypeFault) → read_type (drop 5 s) longest_type ≡ r → (field_with s (id_at s 1) (id_at s 3) r).len ≤ m
      → field_head own ≡ field_with s (id_at s 1) (id_at s 3) r
  unfolding field_head
  field_with_lem (Ok found) q l =
      sym (passed (ltb (length own) 5) _ _ _ (le-ltb (length own) 5 (omega (arith, own-length)))
      (rw (own_type 5 found.len found.top found.error l q, own_id 1 (omega arith), own_id 3 (omega arith))))
  field_with_lem (Err Cut) q l = absurd (omega arith)
  field_with_lem (Err Malformed) q l = absurd (omega arith)
  field_with_lem (Err (Endless top e)) q l = absurd (omega arith)

  field : (field_head s).len ≤ m → field_head own ≡ field_head s
  unfolding field_head
  field =
      by_choice (λ h. h.len ≤ m → field_head own ≡ h) (ltb (length s) 5) (λ _ l. absurd (omega arith)) λ e l.
      field_with_lem (read_type (drop 5 s) longest_type) refl l

  -- one parameter
  param_with_lem : (c : Run) → c.state ≡ 0 → (r : Result TypeRead TypeFault) → read_type (drop (c.len + 3) s) longest_type ≡ r
      → ltb 3 (get_or s (c.len + 2) 0) ≡ false → (param_with c (id_at s c.len) r).state ≡ 0 → (param_with c (id_at s c.len) r).len ≤ m
      → param_step own c ≡ param_with c (id_at s c.len) r
  unfolding param_step
  param_with_lem c z (Ok found) q b v l =
      sym (passed (not (eqb c.state 0)) _ _ _ (ap not (eq-eqb c.state 0 z))
      (passed (ltb (length own - c.len) 3) _ _ _ (le-ltb (length own - c.len) 3 (omega (arith, own-length)))
      (passed (ltb 3 (get_or own (c.len + 2) 0)) _ _ _ (rw (own_byte (c.len + 2) (omega arith)) b)
      (rw (own_type (c.len + 3) found.len found.top found.error l q, own_id c.len (omega arith))))))
  param_with_lem c z (Err Cut) q b v l = absurd (omega arith)
  param_with_lem c z (Err Malformed) q b v l = absurd (omega arith)
  param_with_lem c z (Err (Endless top e)) q b v l = absurd (omega arith)

  param : (c : Run) → c.state ≡ 0 → (param_step s c).state ≡ 0 → (param_step s c).len ≤ m → param_step own c ≡ param_step s c
  unfolding param_step
  param c z =
      by_choice (λ r. r.state ≡ 0 → r.len ≤ m → param_step own c ≡ r) (not (eqb c.state 0))
      (λ e v l. absurd (true≢false (sym e ∙ ap not (eq-eqb c.state 0 v)))) λ _.
      by_choice (λ r. r.state ≡ 0 → r.len ≤ m → param_step own c ≡ r) (ltb (length s - c.len) 3) (λ _ v l. absurd (omega arith)) λ _.
      by_choice (λ r. r.state ≡ 0 → r.len ≤ m → param_step own c ≡ r) (ltb 3 (get_or s (c.len + 2) 0)) (λ _ v l. absurd (omega arith)) λ b v l.
      param_with_lem c z (read_type (drop (c.len + 3) s) longest_type) refl b v l

  params : (n : ℕ) (c : Run) → c.len ≤ length s → (run_params n s c).state ≡ 0 → (run_params n s c).len ≤ m → run_params n own c ≡ run_params n s c
  unfolding run_params
  params zero c h v l = refl
  params (suc n) c h v l =
      let o = param_onward s c h in
      let w = whole_before n s (param_step s c) v in
      let i = run_inside n s (param_step s c) o.high in
      let z = whole_before 1 s c w in
      rw (param c z w (omega arith)) (params n (param_step s c) o.high v l)

  first_with_lem : (r : Result TypeRead TypeFault) → read_type (drop 8 s) longest_type ≡ r → (high : ℕ) → (result_with high r).state ≡ 0 → (result_with high r).len ≤ m
      → result_with high (read_type (drop 8 own) longest_type) ≡ result_with high r
  first_with_lem (Ok found) q high v l = rw (own_type 8 found.len found.top found.error l q)
  first_with_lem (Err Cut) q high v l = absurd (omega arith)
  first_with_lem (Err Malformed) q high v l = absurd (omega arith)
  first_with_lem (Err (Endless top e)) q high v l = absurd (omega arith)

  first : 8 ≤ m → (first_reading s).state ≡ 0 → (first_reading s).len ≤ m → first_reading own ≡ first_reading s
  first h v l =
      rw (own_id 1 (omega arith), own_id 3 (omega arith)) (first_with_lem (read_type (drop 8 s) longest_type) refl (max (or_none (id_at s 1)) (id_at s 3)) v l)

  params_read_lem : 8 ≤ m → (params_read s).state ≡ 0 → (params_read s).len ≤ m → params_read own ≡ params_read s
  unfolding params_read
  params_read_lem h v l =
      let f = first-inside s (omega arith) in
      let i = run_inside (get_or s 7 0) s (first_reading s) f.high in
      let w = whole_before (get_or s 7 0) s (first_reading s) v in
      rw (own_byte 7 (omega arith), first h w (omega arith)) (params (get_or s 7 0) (first_reading s) f.high v l)

  function_with_lem : 8 ≤ m → (function_with s (params_read s)).len ≤ m → function_with own (params_read own) ≡ function_with s (params_read s)
  unfolding function_with
  function_with_lem h =
      by_choice (λ r. r.len ≤ m → function_with own (params_read own) ≡ r) (eqb (params_read s).state 0)
      (λ e l.
      let v : (params_read s).state ≡ 0 = eqb-true (params_read s).state 0 e in
      rw (params_read_lem h v l) (sym (chosen (eqb (params_read s).state 0) _ _ _ e (rw (own_id 1 (omega arith), own_id 3 (omega arith)))))) λ _.
      by_choice (λ r. r.len ≤ m → function_with own (params_read own) ≡ r) (eqb (params_read s).state 2) (λ _ l. absurd (omega arith)) (λ _ l. absurd (omega arith))

  function-long : 8 ≤ length s → (function_with s (params_read s)).len ≤ m → 8 ≤ m
  unfolding function_with
  function-long h =
      let r = read-inside s h in
      by_choice (λ (h : Front). h.len ≤ m → 8 ≤ m) (eqb (params_read s).state 0) (λ _ l. let k : (params_read s).len ≤ m = l in omega arith) λ _.
      by_choice (λ (h : Front). h.len ≤ m → 8 ≤ m) (eqb (params_read s).state 2) (λ _ l. let k : length s ≤ m = l in absurd (omega arith))
      (λ _ l. let k : length s ≤ m = l in absurd (omega arith))

  function : (function_head s).len ≤ m → function_head own ≡ function_head s
  unfolding function_head
  function =
      by_choice (λ r. r.len ≤ m → function_head own ≡ r) (ltb (length s) 8) (λ _ l. absurd (omega arith)) λ e.
      by_choice (λ r. r.len ≤ m → function_head own ≡ r) (ltb 3 (get_or s 5 0)) (λ _ l. absurd (omega arith)) λ e₅.
      by_choice (λ r. r.len ≤ m → function_head own ≡ r) (ltb 1 (get_or s 6 0)) (λ _ l. absurd (omega arith)) λ e₆.
      by_choice (λ r. r.len ≤ m → function_head own ≡ r) (ltb 16 (get_or s 7 0)) (λ _ l. absurd (omega arith)) λ e₇ l.
      let h = function-long (ltb-false (length s) 8 e) l in
      sym (passed (ltb (length own) 8) _ _ _ (le-ltb (length own) 8 (omega (arith, own-length)))
      (passed (ltb 3 (get_or own 5 0)) _ _ _ (rw (own_byte 5 (omega arith)) e₅)
      (passed (ltb 1 (get_or own 6 0)) _ _ _ (rw (own_byte 6 (omega arith)) e₆)
      (passed (ltb 16 (get_or own 7 0)) _ _ _ (rw (own_byte 7 (omega arith)) e₇) (sym (function_with_lem h l))))))

  kind_kept : (kind : ℕ) → (head_by kind s).len ≤ m → head_by kind own ≡ head_by kind s
  unfolding head_by
  kind_kept kind =
      by_choice (λ (h : Front). h.len ≤ m → head_by kind own ≡ h) (eqb kind 1) (λ e l. let k : name_head s ≡ name_head own = sym (name l) in sym (search chain depth 14)) λ e₁.
      by_choice (λ (h : Front). h.len ≤ m → head_by kind own ≡ h) (eqb kind 2) (λ e l. let k : class_head s ≡ class_head own = sym (class l) in sym (search chain depth 14)) λ e₂.
      by_choice (λ (h : Front). h.len ≤ m → head_by kind own ≡ h) (eqb kind 3) (λ e l. let k : operators_head s ≡ operators_head own = sym (operators l) in sym (search chain depth 14)) λ e₃.
      by_choice (λ (h : Front). h.len ≤ m → head_by kind own ≡ h) (eqb kind 4) (λ e l. let k : function_head s ≡ function_head own = sym (function l) in sym (search chain depth 14)) λ e₄.
      by_choice (λ (h : Front). h.len ≤ m → head_by kind own ≡ h) (eqb kind 5) (λ e l. let k : field_head s ≡ field_head own = sym (field l) in sym (search chain depth 14)) λ e₅.
      by_choice (λ (h : Front). h.len ≤ m → head_by kind own ≡ h) (eqb kind 6) (λ e l. let k : visibility_head s ≡ visibility_head own = sym (visibility l) in sym (search chain depth 14)) λ e₆.
      by_choice (λ (h : Front). h.len ≤ m → head_by kind own ≡ h) (eqb kind 7) (λ e l. let k : suspend_head s ≡ suspend_head own = sym (suspend l) in sym (search chain depth 14)) λ e₇.
      by_choice (λ (h : Front). h.len ≤ m → head_by kind own ≡ h) (eqb kind 8) (λ e l. let k : variant_head s ≡ variant_head own = sym (variant l) in sym (search chain depth 14)) λ e₈ l.
      absurd (omega arith)

  head_kept : 1 ≤ m → (front_of s).len ≤ m → front_of own ≡ front_of s
  unfolding front_of
  head_kept some l = rw (own_byte 0 some) (kind_kept (get_or s 0 0) l)

-- A RECORD IS ITS OWN BYTES: what is read from a record's own bytes is what is read from all that begins with them
pub head_own : (s : List ℕ) → 0 < length s → front_of (take (front_of s).len s) ≡ front_of s
head_own s h = go (ltb (front_of s).len (length s)) refl
  where
    go : (t : Bool) → ltb (front_of s).len (length s) ≡ t → front_of (take (front_of s).len s) ≡ front_of s
    go true q = let b = head_bounded s h in head_kept s (front_of s).len (ltb-true (front_of s).len (length s) q) b.low (omega arith)
    go false q = ap front_of (take_all (front_of s).len s (ltb-false (front_of s).len (length s) q))
