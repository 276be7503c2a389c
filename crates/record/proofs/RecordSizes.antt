-- How long a record is, by its kind.
use Prim.Native.Nat.{ℕ, ◌+◌, ◌-◌, ◌*◌, ◌/◌, ◌≤◌, ◌<◌}
use borrow.Author.Tests.{eqb-true, ne_eqb, ltb-false}
use lib.Dec.{eqb, ltb}
use lib.ListN.{length, get_or, take, drop, length-drop}
use lib.Seq.{take-take}
use mathlib.Core.Bool.{Bool, true, false, true≢false}
use mathlib.Core.List.{List}
use mathlib.Core.Path.{◌≡◌, refl, sym, ap, ◌∙◌, subst}
use native.Mathlib.Omega.{arith}
use Rattle.std.proofs.Common.{Result, Ok, Err}
use Rattle.ty.proofs.Choice.{by_choice}
use Rattle.ty.specs.Bytes.{id_at}
use Rattle.ty.specs.Choose.{choose}
use Rattle.ty.specs.Read.{read_type, longest_type}
use Rattle.ty.specs.declared.read.TypeFault.TheVariants.{Cut, Malformed, Endless}
use Rattle.ty.specs.declared.read.TypeFault.{TypeFault}
use Rattle.ty.specs.declared.read.TypeRead.{TypeRead}
use Rattle.record.proofs.Bounds.{head_bounded}
use Rattle.record.proofs.Records.{record_own, record_part}
use Rattle.record.proofs.ParamSteps.{read-inside}
use Rattle.record.specs.Inside.Front.{broken_head, plain_head, name_head, class_head, operators_head, params_read, function_with, function_head, field_with, field_head, visibility_head, suspend_head, variant_head, head_by, front_of}
use Rattle.record.specs.Inside.Front.{front_of_head}
use Rattle.record.specs.Inside.HeadFault.{name_bytes}
use Rattle.record.specs.RecordKind.{record_kind_number}
use Rattle.record.specs.declared.front.Head.{Head}
use Rattle.record.specs.declared.front.RecordKind.{RecordKind}
use Rattle.record.specs.declared.front.RecordKind.TheVariants.{Name, Class, Operators, Function, Field, Visibility, Suspend, Variant}
use Rattle.record.specs.Inside.Walk.{ways_of, Stands, record_at}
use Rattle.record.specs.Inside.Front.{Front}
use Rattle.record.specs.declared.walk.Cursor.{Cursor}

-- the length n goes with the kind k
pub record Fits (k n : ℕ) : Type 0 where
  pub name : k ≡ 1 → n ≡ 26
  pub class : k ≡ 2 → n ≡ 12
  pub operators : k ≡ 3 → n ≡ 5
  pub function : k ≡ 4 → 8 ≤ n
  pub field : k ≡ 5 → 5 ≤ n
  pub visibility : k ≡ 6 → n ≡ 6

-- what a record's first byte says of what is read: a malformed record has no kind, any other that one, a length that goes with it, and, from kind 2 on, two ids
record Shape (kind : ℕ) (s : List ℕ) (h : Front) : Type 0 where
  fits : Fits h.kind h.len
  same : 1 ≤ h.kind → kind ≡ h.kind
  known : h.malformed ≡ false → 1 ≤ h.kind
  ids : 2 ≤ h.kind → (h.one ≡ id_at s 1) × (h.two ≡ id_at s 3)
  five : 1 ≤ h.kind → 5 ≤ h.len

-- a length that goes with no kind in particular
fits-any : (k n : ℕ) → (1 ≤ k → 6 < k) → Fits k n
fits-any k n h =
    record {
      name = λ e. let l = h (omega arith) in omega arith;
      class = λ e. let l = h (omega arith) in omega arith;
      operators = λ e. let l = h (omega arith) in omega arith;
      function = λ e. let l = h (omega arith) in omega arith;
      field = λ e. let l = h (omega arith) in omega arith;
      visibility = λ e. let l = h (omega arith) in omega arith;
    }

fits_1 : Fits 1 26
fits_1 = record { name = λ _. refl; class = λ e. omega arith; operators = λ e. omega arith; function = λ e. omega arith; field = λ e. omega arith; visibility = λ e. omega arith }

fits_2 : Fits 2 12
fits_2 = record { name = λ e. omega arith; class = λ _. refl; operators = λ e. omega arith; function = λ e. omega arith; field = λ e. omega arith; visibility = λ e. omega arith }

fits_3 : Fits 3 5
fits_3 = record { name = λ e. omega arith; class = λ e. omega arith; operators = λ _. refl; function = λ e. omega arith; field = λ e. omega arith; visibility = λ e. omega arith }

fits_4 : (n : ℕ) → 8 ≤ n → Fits 4 n
fits_4 n h = record { name = λ e. omega arith; class = λ e. omega arith; operators = λ e. omega arith; function = λ _. h; field = λ e. omega arith; visibility = λ e. omega arith }

fits_5 : (n : ℕ) → 5 ≤ n → Fits 5 n
fits_5 n h = record { name = λ e. omega arith; class = λ e. omega arith; operators = λ e. omega arith; function = λ e. omega arith; field = λ _. h; visibility = λ e. omega arith }

fits_6 : Fits 6 6
fits_6 = record { name = λ e. omega arith; class = λ e. omega arith; operators = λ e. omega arith; function = λ e. omega arith; field = λ e. omega arith; visibility = λ _. refl }

module _ (kind : ℕ) (s : List ℕ) where
  broken : Shape kind s (broken_head s)
  broken = record { fits = fits-any 0 (length s) (λ l. absurd (omega arith)); same = λ l. absurd (omega arith); known = λ e. absurd (true≢false e); ids = λ l. absurd (omega arith); five = λ l. absurd (omega arith) }

  -- a head that has that kind
  whole : (h : Front) → Fits h.kind h.len → eqb kind h.kind ≡ true → 1 ≤ h.kind → (2 ≤ h.kind → (h.one ≡ id_at s 1) × (h.two ≡ id_at s 3)) → 5 ≤ h.len
      → Shape kind s h
  whole h f e l i w = record { fits = f; same = λ _. eqb-true kind h.kind e; known = λ _. l; ids = i; five = λ _. w }

  plain : (n : ℕ) (bad : Bool) (k one two top : ℕ) → Fits k n → eqb kind k ≡ true → 1 ≤ k → (2 ≤ k → (one ≡ id_at s 1) × (two ≡ id_at s 3)) → 5 ≤ n
      → Shape kind s (plain_head s n bad k one two top)
  unfolding plain_head
  plain n bad k one two top f e l i w =
      by_choice (Shape kind s) (ltb (length s) n) (λ _. broken) λ _.
      by_choice (Shape kind s) bad (λ _. broken) (λ _. whole _ f e l i w)

  function : eqb kind 4 ≡ true → Shape kind s (function_head s)
  unfolding function_head function_with
  function k =
      by_choice (Shape kind s) (ltb (length s) 8) (λ _. broken) λ e.
      by_choice (Shape kind s) (ltb 3 (get_or s 5 0)) (λ _. broken) λ _.
      by_choice (Shape kind s) (ltb 1 (get_or s 6 0)) (λ _. broken) λ _.
      by_choice (Shape kind s) (ltb 16 (get_or s 7 0)) (λ _. broken) λ _.
      let l = ltb-false (length s) 8 e in
      by_choice (Shape kind s) (eqb (params_read s).state 0) (λ _. whole _ (fits_4 (params_read s).len (read-inside s l).0) k (omega arith) (λ _. (refl, refl)) (omega (arith, (read-inside s l).0))) λ _.
      by_choice (Shape kind s) (eqb (params_read s).state 2) (λ _. whole _ (fits_4 (length s) l) k (omega arith) (λ _. (refl, refl)) (omega arith)) (λ _. broken)

  field_with_lem : eqb kind 5 ≡ true → 5 ≤ length s → (r : Result TypeRead TypeFault) → Shape kind s (field_with s (id_at s 1) (id_at s 3) r)
  field_with_lem k l (Ok found) = whole _ (fits_5 (5 + found.len) (omega arith)) k (omega arith) (λ _. (refl, refl)) (omega arith)
  field_with_lem k l (Err Cut) = broken
  field_with_lem k l (Err Malformed) = broken
  field_with_lem k l (Err (Endless top e)) = whole _ (fits_5 (length s) l) k (omega arith) (λ _. (refl, refl)) l

  field : eqb kind 5 ≡ true → Shape kind s (field_head s)
  unfolding field_head
  field k =
      by_choice (Shape kind s) (ltb (length s) 5) (λ _. broken) λ e.
      field_with_lem k (ltb-false (length s) 5 e) (read_type (drop 5 s) longest_type)

  name : eqb kind 1 ≡ true → Shape kind s (name_head s)
  unfolding name_head
  name k = plain 26 _ 1 0 0 0 fits_1 k (omega arith) (λ l. absurd (omega arith)) (omega arith)

  class : eqb kind 2 ≡ true → Shape kind s (class_head s)
  unfolding class_head
  class k = plain 12 _ 2 _ _ _ fits_2 k (omega arith) (λ _. (refl, refl)) (omega arith)

  operators : eqb kind 3 ≡ true → Shape kind s (operators_head s)
  unfolding operators_head
  operators k = plain 5 _ 3 _ _ _ fits_3 k (omega arith) (λ _. (refl, refl)) (omega arith)

  visibility : eqb kind 6 ≡ true → Shape kind s (visibility_head s)
  unfolding visibility_head
  visibility k = plain 6 _ 6 _ _ _ fits_6 k (omega arith) (λ _. (refl, refl)) (omega arith)

  suspend : eqb kind 7 ≡ true → Shape kind s (suspend_head s)
  unfolding suspend_head
  suspend k = plain 5 _ 7 _ _ _ (fits-any 7 5 (λ _. omega arith)) k (omega arith) (λ _. (refl, refl)) (omega arith)

  variant : eqb kind 8 ≡ true → Shape kind s (variant_head s)
  unfolding variant_head
  variant k = plain 5 _ 8 _ _ _ (fits-any 8 5 (λ _. omega arith)) k (omega arith) (λ _. (refl, refl)) (omega arith)

  shape : Shape kind s (head_by kind s)
  unfolding head_by
  shape =
      by_choice (Shape kind s) (eqb kind 1) name λ _.
      by_choice (Shape kind s) (eqb kind 2) class λ _.
      by_choice (Shape kind s) (eqb kind 3) operators λ _.
      by_choice (Shape kind s) (eqb kind 4) function λ _.
      by_choice (Shape kind s) (eqb kind 5) field λ _.
      by_choice (Shape kind s) (eqb kind 6) visibility λ _.
      by_choice (Shape kind s) (eqb kind 7) suspend λ _.
      by_choice (Shape kind s) (eqb kind 8) variant (λ _. broken)

-- a byte that is no kind's begins a malformed record
pub no_kind : (byte : ℕ) (s : List ℕ) → ((kind : RecordKind) → record_kind_number kind ≡ byte → ⊥) → head_by byte s ≡ broken_head s
unfolding head_by choose
no_kind byte s h = rw (ne Name, ne Class, ne Operators, ne Function, ne Field, ne Visibility, ne Suspend, ne Variant)
  where
    ne : (kind : RecordKind) → eqb byte (record_kind_number kind) ≡ false
    ne kind = ne_eqb _ _ (λ e. h kind (sym e))

module _ (s : List ℕ) where
  head_shape : Shape (get_or s 0 0) s (front_of s)
  unfolding front_of
  head_shape = shape (get_or s 0 0) s

  pub head_fits : Fits (front_of s).kind (front_of s).len
  head_fits = head_shape.fits

  -- a record that is not malformed has a kind
  pub head_known : (front_of s).malformed ≡ false → 1 ≤ (front_of s).kind
  head_known e = head_shape.known e

  -- and at least 5 bytes
  pub head_long : (front_of s).malformed ≡ false → 5 ≤ (front_of s).len
  head_long e = head_shape.five (head_known e)

  -- and so many entries of its own as there are ways behind it
  pub head_ways : (front_of s).malformed ≡ false → ways_of (front_of s).kind ≤ 2 * ((front_of s).len / 5)
  unfolding ways_of
  head_ways e =
      by_choice (λ (w : ℕ). w ≤ 2 * ((front_of s).len / 5)) (eqb (front_of s).kind 1) (λ k. omega (arith, head_fits.name (eqb-true _ _ k)))
      (λ _. omega (arith, head_long e))

  -- its kind is its first byte
  pub head_kind : (front_of s).malformed ≡ false → (front_of s).kind ≡ get_or s 0 0
  head_kind e = sym (head_shape.same (head_known e))

  -- and from kind 2 on its ids are its next bytes
  pub head_ids : 2 ≤ (front_of s).kind → ((front_of s).one ≡ id_at s 1) × ((front_of s).two ≡ id_at s 3)
  head_ids = head_shape.ids

  -- and it was read as a record of its kind
  pub head_by_lem : (k : ℕ) → 1 ≤ k → (front_of s).kind ≡ k → front_of s ≡ head_by k s
  unfolding front_of
  head_by_lem k l e =
      let q : get_or s 0 0 ≡ k = (shape (get_or s 0 0) s).same (omega arith) ∙ e in
      ap (λ (x : ℕ). head_by x s) q

-- of a record that stands at a cursor
module _ (t : List ℕ) (c : Cursor) (h : Head) (st : Stands t c h) where
  pub stands_own : front_of_head h ≡ front_of (record_at t c)
  stands_own = st.head ∙ sym (record_own t c st.some)

  pub stands_fits : Fits (record_kind_number h.kind) h.len
  stands_fits = subst (λ (x : Front). Fits x.kind x.len) (sym st.head) (head_fits (drop c.at t))

  pub stands_inside : c.at + h.len ≤ length t
  stands_inside =
      let b = head_bounded (drop c.at t) (omega (arith, length-drop c.at t, st.some)) in
      let e : h.len ≡ (front_of (drop c.at t)).len = ap (λ (x : Front). x.len) st.head in
      omega (arith, length-drop c.at t, st.some, b.high)

  pub name_room : record_kind_number h.kind ≡ 1 → c.at + 26 ≤ length t
  name_room e = let n = stands_fits.name e in omega (arith, stands_inside)

  pub name_bytes_lem : record_kind_number h.kind ≡ 1 → take 24 (drop (c.at + 2) t) ≡ name_bytes (record_at t c)
  name_bytes_lem e =
      let n : (front_of (drop c.at t)).len - 2 ≡ 24 = omega (arith, stands_fits.name e, ap (λ (x : Front). x.len) st.head) in
      sym (ap (λ (z : List ℕ). take 24 z) (record_part t c 2 ∙ ap (λ (k : ℕ). take k (drop (c.at + 2) t)) n) ∙ take-take 24 24 (drop (c.at + 2) t) (omega arith))
