-- The numbers of a table by its records' fields are those of the heads.
use Prim.Native.Nat.{ℕ, ◌+◌, ◌≤◌}
use borrow.Author.Tests.{eqb-true, eqb-false, ne_eqb, ltb-true, ltb-false}
use lib.Dec.{eqb, ltb}
use lib.ListN.{length, get_or, take, drop}
use mathlib.Core.Bool.{Bool, true, false, not, true≢false, ◌&&◌, ◌||◌}
use mathlib.Core.List.{List, [], ◌∷◌}
use mathlib.Core.Path.{◌≡◌, refl, sym, ap, ◌∙◌}
use native.Mathlib.Omega.{arith}
use Rattle.record.proofs.Agree.{head_agrees, same_malformed, same_top, same_repeated, same_error}
use Rattle.record.proofs.RecordParts.{or_true}
use Rattle.record.proofs.RecordSizes.{head_kind, head_known, head_ids}
use Rattle.record.specs.Inside.Front.{front_of}
use Rattle.record.specs.Inside.Keyed.{is_of}
use Rattle.record.specs.Inside.HeadFault.{name_bytes, same_key, has_key, is_builtin_name, has_class, first_interface_at, second_interface_at, some_parent, id_late, parent_late, last_kind, head_fault, found_from}
use Rattle.record.specs.Inside.FrontRecord.{count_of}
use Rattle.record.specs.Layout.{Field, any_field, fields_of, fields_from, is_malformed, ids_used, record_kind, nth_field, value_in}
use Rattle.record.specs.TableRefused.{key_repeated, is_late, has_late_parent, kind_before, record_fault, first_fault}
use Rattle.record.specs.Spelling.{builtin_names, spelled}
use Rattle.record.specs.Table.{Record, of_kind, key_of, keyed, non_empty}
use Rattle.record.specs.Inside.Front.{Front}
use Rattle.ty.proofs.Ids.{highest_of, all_highest}
use Rattle.ty.proofs.Choice.{by_choice}
use Rattle.ty.specs.Bytes.{id_at, same_bytes}
use Rattle.ty.specs.Choose.{choose}
use Rattle.ty.specs.Name.{no_id, id_defined, all_defined}

-- ---- the first two numbers of a record, from kind 2 on
record TwoIds (s : List ℕ) (fs : List Field) : Type 0 where
  is : any_field (λ p. p.malformed) (fields_from fs s 1) ≡ false → ((nth_field (fields_from fs s 1) 0).value ≡ id_at s 1) × ((nth_field (fields_from fs s 1) 1).value ≡ id_at s 3)

two-ids : (kind : ℕ) (s : List ℕ) → 2 ≤ kind → TwoIds s (fields_of kind (get_or s 7 0))
unfolding fields_of fields_from any_field choose
two-ids kind s l =
    by_choice (TwoIds s) (eqb kind 1) (λ e. absurd (omega (arith, eqb-true kind 1 e))) λ _.
    by_choice (TwoIds s) (eqb kind 2) (λ _. record { is = λ _. (refl, refl) }) λ _.
    by_choice (TwoIds s) (eqb kind 3) (λ _. record { is = λ _. (refl, refl) }) λ _.
    by_choice (TwoIds s) (eqb kind 4) (λ _. record { is = λ _. (refl, refl) }) λ _.
    by_choice (TwoIds s) (eqb kind 5) (λ _. record { is = λ _. (refl, refl) }) λ _.
    by_choice (TwoIds s) (eqb kind 6) (λ _. record { is = λ _. (refl, refl) }) λ _.
    by_choice (TwoIds s) (eqb kind 7) (λ _. record { is = λ _. (refl, refl) }) λ _.
    by_choice (TwoIds s) (eqb kind 8) (λ _. record { is = λ _. (refl, refl) })
    (λ _. record { is = λ z. absurd (true≢false (sym (ap (λ (t : Bool). t || false) (or_true (ltb (length s) (1 + 0)))) ∙ z)) })

module _ (s : List ℕ) where
  pub same_kind : (front_of s).kind ≡ record_kind s
  unfolding record_kind choose
  same_kind = go (is_malformed s) refl
    where
      go : (b : Bool) → is_malformed s ≡ b → (front_of s).kind ≡ choose b 0 (get_or s 0 0)
      go true e = ap (λ (h : Front). h.kind) ((head_agrees s).bad e)
      go false e = head_kind s (same_malformed s ∙ e)

  -- a record that has a kind is not malformed, and its first byte is the kind
  pub kind_byte : 1 ≤ record_kind s → (is_malformed s ≡ false) × (get_or s 0 0 ≡ record_kind s)
  unfolding record_kind choose
  kind_byte = go (is_malformed s)
    where
      go : (b : Bool) → 1 ≤ choose b 0 (get_or s 0 0) → (b ≡ false) × (get_or s 0 0 ≡ choose b 0 (get_or s 0 0))
      go true l = absurd (omega arith)
      go false l = (refl, refl)

  values : 2 ≤ record_kind s → (value_in 0 s ≡ id_at s 1) × (value_in 1 s ≡ id_at s 3)
  unfolding value_in
  values h =
      let b = kind_byte (omega arith) in
      (two-ids (get_or s 0 0) s (omega (arith, b.1))).is b.0

  pub same_one : 2 ≤ record_kind s → (front_of s).one ≡ value_in 0 s
  same_one h = let k = same_kind in (head_ids s (omega arith)).0 ∙ sym (values h).0

  pub same_two : 2 ≤ record_kind s → (front_of s).two ≡ value_in 1 s
  same_two h = let k = same_kind in (head_ids s (omega arith)).1 ∙ sym (values h).1

-- a function's key
pub function_key : (r : List ℕ) → (front_of r).kind ≡ 4 → key_of r ≡ (front_of r).one ∷ (front_of r).two ∷ []
unfolding key_of choose
function_key r k =
    let q : record_kind r ≡ 4 = sym (same_kind r) ∙ k in
    rw q (λ i. sym (same_one r (omega arith)) i ∷ sym (same_two r (omega arith)) i ∷ [])

-- ---- number 4
pub highest_defined : (n : ℕ) (ids : List ℕ) → id_defined (highest_of ids) n ≡ all_defined ids n
highest_defined n ids = sym (all_highest ids n)

-- how many of a kind
pub same_count : (k : ℕ) (rs : List Record) → count_of k rs ≡ length (of_kind k rs)
unfolding count_of of_kind choose
same_count k [] = refl
same_count k (r ∷ rs) = (λ i. choose (eqb (same_kind r i) k) 1 0 + same_count k rs i) ∙ go (eqb (record_kind r) k)
  where
    go : (t : Bool) → choose t 1 0 + length (of_kind k rs) ≡ length (choose t (r ∷ of_kind k rs) (of_kind k rs))
    go true = omega arith
    go false = omega arith

-- ---- number 5
and_false : (a : Bool) → a && false ≡ false
and_false true = refl
and_false false = refl

and_true : (a : Bool) → a && true ≡ a
and_true true = refl
and_true false = refl

and_or : (a b c : Bool) → a && (b || c) ≡ (a && b) || (a && c)
and_or true b c = refl
and_or false b c = refl

-- two records of one kind that has a key
key_ids : (k : ℕ) (x r : Record) → record_kind x ≡ k → record_kind r ≡ k → 1 ≤ k
    → choose (eqb k 1) (same_bytes (name_bytes x) (name_bytes r))
    (choose (ltb k 4) (eqb (front_of x).one (front_of r).one) (choose (eqb k 4) false (eqb (front_of x).one (front_of r).one && eqb (front_of x).two (front_of r).two)))
    ≡ (not (eqb k 4) && same_bytes (choose (eqb k 1) (name_bytes x) (choose (ltb k 4) (value_in 0 x ∷ []) (value_in 0 x ∷ value_in 1 x ∷ [])))
    (choose (eqb k 1) (name_bytes r) (choose (ltb k 4) (value_in 0 r ∷ []) (value_in 0 r ∷ value_in 1 r ∷ []))))
unfolding choose same_bytes
key_ids k x r p q l = go (eqb k 1) (ltb k 4) (eqb k 4) refl refl refl
  where
    go : (a b c : Bool) → eqb k 1 ≡ a → ltb k 4 ≡ b → eqb k 4 ≡ c
        → choose a (same_bytes (name_bytes x) (name_bytes r))
        (choose b (eqb (front_of x).one (front_of r).one) (choose c false (eqb (front_of x).one (front_of r).one && eqb (front_of x).two (front_of r).two)))
        ≡ (not c && same_bytes (choose a (name_bytes x) (choose b (value_in 0 x ∷ []) (value_in 0 x ∷ value_in 1 x ∷ [])))
        (choose a (name_bytes r) (choose b (value_in 0 r ∷ []) (value_in 0 r ∷ value_in 1 r ∷ []))))
    go true b true e f g = absurd (omega (arith, eqb-true k 1 e, eqb-true k 4 g))
    go true b false e f g = refl
    go false true true e f g = absurd (omega (arith, ltb-true k 4 f, eqb-true k 4 g))
    go false true false e f g =
        let n = eqb-false k 1 e in
        let h : 2 ≤ k = omega arith in
        (λ i. eqb (same_one x (omega arith) i) (same_one r (omega arith) i)) ∙ sym (and_true (eqb (value_in 0 x) (value_in 0 r)))
    go false false true e f g = refl
    go false false false e f g =
        let h = ltb-false k 4 f in
        (λ i. eqb (same_one x (omega arith) i) (same_one r (omega arith) i) && eqb (same_two x (omega arith) i) (same_two r (omega arith) i))
        ∙ ap (λ (t : Bool). eqb (value_in 0 x) (value_in 0 r) && t) (sym (and_true (eqb (value_in 1 x) (value_in 1 r))))

same_key_lem : (x r : Record) → is_malformed r ≡ false
    → same_key x r ≡ (not (eqb (record_kind r) 4) && (eqb (record_kind x) (record_kind r) && same_bytes (key_of x) (key_of r)))
unfolding same_key key_of choose
same_key_lem x r m =
    (λ i. choose (eqb (same_kind x i) (same_kind r i))
    (choose (eqb (same_kind x i) 1) (same_bytes (name_bytes x) (name_bytes r)) (choose (ltb (same_kind x i) 4) (eqb (front_of x).one (front_of r).one)
    (choose (eqb (same_kind x i) 4) false (eqb (front_of x).one (front_of r).one && eqb (front_of x).two (front_of r).two)))) false)
    ∙ go (eqb (record_kind x) (record_kind r)) refl
  where
    go : (t : Bool) → eqb (record_kind x) (record_kind r) ≡ t
        → choose t
        (choose (eqb (record_kind x) 1) (same_bytes (name_bytes x) (name_bytes r)) (choose (ltb (record_kind x) 4) (eqb (front_of x).one (front_of r).one)
        (choose (eqb (record_kind x) 4) false (eqb (front_of x).one (front_of r).one && eqb (front_of x).two (front_of r).two)))) false
        ≡ (not (eqb (record_kind r) 4) && (t && same_bytes (key_of x) (key_of r)))
    go false e = sym (and_false (not (eqb (record_kind r) 4)))
    go true e =
        let k = eqb-true (record_kind x) (record_kind r) e in
        let l = head_known r (same_malformed r ∙ m) in
        let q = same_kind r in
        rw k (key_ids (record_kind r) x r k refl (omega arith))

pub some_more : (t : Bool) (r : Record) (rs : List Record) → non_empty (choose t (r ∷ rs) rs) ≡ (t || non_empty rs)
unfolding choose
some_more true r rs = refl
some_more false r rs = refl

keys_among : (r : Record) → is_malformed r ≡ false → (rs : List Record) → has_key r rs ≡ (not (eqb (record_kind r) 4) && non_empty (keyed (record_kind r) (key_of r) rs))
unfolding has_key keyed
keys_among r m [] = sym (and_false (not (eqb (record_kind r) 4)))
keys_among r m (x ∷ rs) =
    (λ i. same_key_lem x r m i || keys_among r m rs i)
    ∙ sym (and_or (not (eqb (record_kind r) 4)) (eqb (record_kind x) (record_kind r) && same_bytes (key_of x) (key_of r)) (non_empty (keyed (record_kind r) (key_of r) rs)))
    ∙ ap (λ (t : Bool). not (eqb (record_kind r) 4) && t) (sym (some_more (eqb (record_kind x) (record_kind r) && same_bytes (key_of x) (key_of r)) x (keyed (record_kind r) (key_of r) rs)))

same_builtin : (r : Record) → is_builtin_name r ≡ (eqb (record_kind r) 1 && spelled (key_of r) builtin_names)
unfolding key_of choose
same_builtin r = (λ i. eqb (same_kind r i) 1 && spelled (name_bytes r) builtin_names) ∙ go (eqb (record_kind r) 1) _
  where
    go : (t : Bool) (y : List ℕ) → t && spelled (name_bytes r) builtin_names ≡ (t && spelled (choose t (name_bytes r) y) builtin_names)
    go true y = refl
    go false y = refl

-- ---- a record of kind k, from 2 on, with the key a, b
pub key_test : (k a b : ℕ) → 2 ≤ k → (r : Record)
    → is_of k a b (front_of r) ≡ (eqb (record_kind r) k && same_bytes (key_of r) (choose (ltb k 4) (a ∷ []) (a ∷ b ∷ [])))
unfolding key_of choose same_bytes
key_test k a b l r =
    (λ i. eqb (same_kind r i) k && (eqb (front_of r).one a && (ltb k 4 || eqb (front_of r).two b))) ∙ go (eqb (record_kind r) k) refl
  where
    ids : (t u : Bool) → t ≡ false → 2 ≤ record_kind r → eqb (front_of r).one a && (u || eqb (front_of r).two b)
        ≡ same_bytes (choose t (take 24 (drop 2 r)) (choose u (value_in 0 r ∷ []) (value_in 0 r ∷ value_in 1 r ∷ []))) (choose u (a ∷ []) (a ∷ b ∷ []))
    ids true u e h = absurd (true≢false e)
    ids false true e h = λ i. eqb (same_one r h i) a && true
    ids false false e h =
        (λ i. eqb (same_one r h i) a && eqb (same_two r h i) b) ∙ ap (λ (t : Bool). eqb (value_in 0 r) a && t) (sym (and_true (eqb (value_in 1 r) b)))

    go : (t : Bool) → eqb (record_kind r) k ≡ t → t && (eqb (front_of r).one a && (ltb k 4 || eqb (front_of r).two b))
        ≡ (t && same_bytes (choose (eqb (record_kind r) 1) (take 24 (drop 2 r)) (choose (ltb (record_kind r) 4) (value_in 0 r ∷ []) (value_in 0 r ∷ value_in 1 r ∷ [])))
        (choose (ltb k 4) (a ∷ []) (a ∷ b ∷ [])))
    go false e = refl
    go true e =
        let q = eqb-true (record_kind r) k e in
        let n : eqb (record_kind r) 1 ≡ false = ne_eqb (record_kind r) 1 (λ z. omega arith) in
        rw (← q) (ids (eqb (record_kind r) 1) (ltb (record_kind r) 4) n (omega arith))

-- ---- number 6
same_class : (class : ℕ) (rs : List Record) → has_class class rs ≡ non_empty (keyed 2 (class ∷ []) rs)
unfolding has_class keyed choose
same_class class [] = refl
same_class class (r ∷ rs) =
    (λ i. (ap (λ (t : Bool). eqb (front_of r).kind 2 && t) (sym (and_true (eqb (front_of r).one class))) ∙ key_test 2 class 0 (omega arith) r) i || same_class class rs i)
    ∙ sym (some_more (eqb (record_kind r) 2 && same_bytes (key_of r) (class ∷ [])) r (keyed 2 (class ∷ []) rs))

-- the interfaces of a class stand behind its superclass
pub class_value : (s : List ℕ) → record_kind s ≡ 2 → (i : ℕ) → value_in i s ≡ (nth_field (fields_from (fields_of 2 (get_or s 7 0)) s 1) i).value
unfolding value_in
class_value s e i =
    let b = kind_byte s (omega arith) in
    ap (λ (k : ℕ). (nth_field (fields_from (fields_of k (get_or s 7 0)) s 1) i).value) (b.1 ∙ e)

pub same_first_interface : (s : List ℕ) → record_kind s ≡ 2 → first_interface_at s ≡ value_in 2 s
same_first_interface s e = sym (class_value s e 2 ∙ here)
  where
    here : (nth_field (fields_from (fields_of 2 (get_or s 7 0)) s 1) 2).value ≡ id_at s 5
    here = unfold fields_of fields_from choose in refl

pub same_second_interface : (s : List ℕ) → record_kind s ≡ 2 → second_interface_at s ≡ value_in 3 s
same_second_interface s e = sym (class_value s e 3 ∙ here)
  where
    here : (nth_field (fields_from (fields_of 2 (get_or s 7 0)) s 1) 3).value ≡ id_at s 7
    here = unfold fields_of fields_from choose in refl

module _ (earlier rest : List Record) where
  late_one : (id : ℕ) → id_late earlier rest id ≡ is_late id earlier rest
  unfolding is_late
  late_one id =
      (λ i. (not (eqb id no_id) && not (same_class id earlier i)) && same_class id rest i)
      ∙ and_shift (not (eqb id no_id)) (not (non_empty (keyed 2 (id ∷ []) earlier))) (non_empty (keyed 2 (id ∷ []) rest))
    where
      and_shift : (a b c : Bool) → (a && b) && c ≡ a && (b && c)
      and_shift true b c = refl
      and_shift false b c = refl

  pub same_late : (r : Record) → parent_late earlier r rest ≡ (eqb (record_kind r) 2 && has_late_parent earlier r rest)
  unfolding parent_late
  same_late r = (λ i. eqb (same_kind r i) 2 && some_parent (id_late earlier rest) r) ∙ go (eqb (record_kind r) 2) refl
    where
      go : (t : Bool) → eqb (record_kind r) 2 ≡ t → t && some_parent (id_late earlier rest) r ≡ (t && has_late_parent earlier r rest)
      go true e =
          let k = eqb-true (record_kind r) 2 e in
          λ i. late_one (same_two r (omega arith) i) i || (late_one (same_first_interface r k i) i || late_one (same_second_interface r k i) i)
      go false e = refl

same_before : (rs : List Record) → last_kind rs ≡ kind_before rs
same_before [] = refl
same_before (r ∷ rs) = same_kind r

-- ---- RECORD BY RECORD
pub same_number : (earlier : List Record) (r : Record) (rest : List Record) → head_fault earlier r rest ≡ record_fault earlier r rest
unfolding head_fault record_fault key_repeated
same_number earlier r rest = go (is_malformed r) refl
  where
    go : (b : Bool) → is_malformed r ≡ b → head_fault earlier r rest ≡ record_fault earlier r rest
    go true e = unfold choose in rw (same_malformed r, e)
    go false e =
        let d : id_defined (front_of r).top (count_of 1 earlier) ≡ all_defined (ids_used r) (length (of_kind 1 earlier))
        = (λ i. id_defined (same_top r e i) (same_count 1 earlier i)) ∙ highest_defined (length (of_kind 1 earlier)) (ids_used r) in
        λ i. choose (same_malformed r i) 2
        (choose (ltb (same_kind r i) (same_before earlier i)) 3
        (choose (not (d i)) 4
        (choose (same_repeated r e i || (same_builtin r i || keys_among r e earlier i)) 5
        (choose (same_late earlier rest r i) 6
        (choose (same_error r e i) 7 0)))))

pub same_first : (earlier rs : List Record) → found_from earlier rs ≡ first_fault earlier rs
unfolding found_from first_fault
same_first earlier [] = refl
same_first earlier (r ∷ rs) = λ i. choose (eqb (same_number earlier r (r ∷ rs) i) 0) (same_first (r ∷ earlier) rs i) (same_number earlier r (r ∷ rs) i)
