-- Order 5's claims of an Array's bytes (specs/Order5), once for both widths.
use Prim.Native.Nat.{ℕ, zero, suc, ◌+◌, ◌*◌, ◌-◌, ◌≤◌, ◌<◌, min}
use borrow.Author.Tests.{eqb-true, eqb-false, eq-eqb, ne_eqb, leb-true, leb-false, lt-leb, le-ltb, lt-ltb}
use lib.Dec.{eqb, leb}
use lib.ListN.{length, get_or, drop, length-drop}
use mathlib.Core.Bool.{Bool, true, false, false≢true, ◌&&◌, ◌||◌}
use mathlib.Core.List.{List}
use mathlib.Core.Path.{◌≡◌, refl, sym, ap, ◌∙◌}
use native.Mathlib.Omega.{arith}
use Rattle.std.proofs.lemmas.List.{ext_get_or, get_or-drop}
use Rattle.std.specs.Prelude.{Option, None, Some, Err}
use Rattle.ty.proofs.Bodies.{apart, array_body}
use Rattle.ty.proofs.Choice.{choose_yes, choose_no, and_left, and_right, or_cases, or_right, or_false, and_true}
use Rattle.ty.proofs.Held.{some_bytes, held, inner_reads, one_child, no_id_lem}
use Rattle.ty.proofs.Laws.{head_any}
use Rattle.ty.proofs.Moved.{reads_behind}
use Rattle.ty.proofs.TypeSizes.{whole, never_whole, ends_behind}
use Rattle.ty.specs.Bytes.{Ty, kind_of, id_at, is_array_kind, is_array, size_width, inner_of}
use Rattle.ty.specs.Choose.{choose}
use Rattle.ty.specs.Kind.{array_kind, large_array_kind, function_kind, error_kind, no_kind}
use Rattle.ty.specs.Order5.{front_length, well_formed, array_size, kind_for, AllBytes, IsType, array_at, four_zeros, array_before, BothWidths}
use Rattle.ty.specs.Read.{holds_one, body_length, good_array, good_body, number_at, large_size, item_of, size_at, item_at, item_read, no_end, read_from, read_type, whole_read}
use Rattle.ty.specs.declared.read.ItemFault.TheVariants.{Broken, Out}
use Rattle.ty.specs.declared.read.TypeFault.TheVariants.{Malformed}

-- ---- the item of an Array
good_is : (k c n : ℕ) → is_array_kind k ≡ true → good_body k c n ≡ good_array k c n
good_is k c n a = rw (a, apart is_array_kind k function_kind a refl) (and_true (good_array k c n))

module _ (s : List ℕ) (end at : ℕ) (some : at < end) (a : is_array_kind (get_or s at 0) ≡ true) where
  abbrev k : ℕ
  k = get_or s at 0

  known : k ≤ large_array_kind
  known = or_cases (eqb k array_kind) _ a (λ e. let q = eqb-true k array_kind e in omega arith) (λ e. let q = eqb-true k large_array_kind e in omega arith)

  one : holds_one k ≡ true
  one = or_right _ (is_array_kind k) a

  inside : item_at s end at ≡ array_at s end at
  unfolding item_at item_of array_at choose
  inside =
      rw (
        lt-leb end at some,
        le-ltb large_array_kind k known,
        array_body k a,
        good_is k (get_or s (at + 1) 0) (size_at s at) a,
        one_child k (get_or s (at + 1) 0) one,
        no_id_lem k (id_at s (at + 1)) one,
        apart is_array_kind k error_kind a refl,
      )

-- ---- document 01's Array
-- a sum of low and high bytes is 0 where both are
sum_zero : (a b : ℕ) → eqb (a + 256 * b) 0 ≡ eqb a 0 && eqb b 0
sum_zero a b = go (eqb a 0) refl (eqb b 0) refl
  where
    go : (p : Bool) → eqb a 0 ≡ p → (q : Bool) → eqb b 0 ≡ q → eqb (a + 256 * b) 0 ≡ p && q
    go true i true j = let x = eqb-true a 0 i in let y = eqb-true b 0 j in eq-eqb (a + 256 * b) 0 (omega arith)
    go true i false j = let y = eqb-false b 0 j in ne_eqb (a + 256 * b) 0 (λ e. y (omega arith))
    go false i q j = let x = eqb-false a 0 i in ne_eqb (a + 256 * b) 0 (λ e. x (omega arith))

zeros : (s : List ℕ) (at : ℕ) → eqb (number_at 4 s at) 0 ≡ four_zeros s at
unfolding number_at
zeros s at =
    let two : at + 1 + 1 ≡ at + 2 = omega arith in
    let three : at + 2 + 1 ≡ at + 3 = omega arith in
    rw (
      sum_zero (get_or s at 0) (get_or s (at + 1) 0 + 256 * (get_or s (at + 1 + 1) 0 + 256 * (get_or s (at + 1 + 1 + 1) 0 + 256 * 0))),
      sum_zero (get_or s (at + 1) 0) (get_or s (at + 1 + 1) 0 + 256 * (get_or s (at + 1 + 1 + 1) 0 + 256 * 0)),
      sum_zero (get_or s (at + 1 + 1) 0) (get_or s (at + 1 + 1 + 1) 0 + 256 * 0),
      two,
      three,
      sum_zero (get_or s (at + 3) 0) 0,
      and_true (eqb (get_or s (at + 3) 0) 0),
    )

as_before : (s : List ℕ) (end at : ℕ) → at < end → get_or s at 0 ≡ array_kind → item_at s end at ≡ array_before s end at
unfolding array_at array_before size_width choose
as_before s end at h e =
    let six : at + 1 + (1 + 4) ≡ at + 6 = omega arith in
    inside s end at h (rw e refl) ∙ rw (e, zeros s (at + 2), six)

-- ---- an Array as a whole
module _ (s : Ty) (limit : ℕ) (a : is_array s ≡ true) where
  inner : inner_of s ≡ drop (front_length s) s
  unfolding inner_of
  inner = choose_yes (is_array s) _ _ a

  filled : 0 < length s
  filled = some_bytes s (λ q. false≢true (rw q at a))

  first : kind_of s ≡ get_or s 0 0
  first = head_any s 0 no_kind 0 filled

  holder : holds_one (kind_of s) ≡ true
  holder = or_right _ (is_array_kind (kind_of s)) a

  body : 1 + body_length (kind_of s) ≡ front_length s
  body = let q = array_body (kind_of s) a in omega arith

  -- within an end that is not before the element
  item : (end : ℕ) → front_length s ≤ end → item_at s end 0 ≡ choose (well_formed s) (item_read (front_length s) 1 0 false) (Err Broken)
  unfolding array_at
  item end h =
      let l : 0 < end = omega arith in
      let n : 0 + 1 + (1 + size_width (kind_of s)) ≡ front_length s = omega arith in
      inside s end 0 l (rw first at a)
      ∙ rw (← first, le-ltb (end - (0 + 1)) (1 + size_width (kind_of s)) (omega arith), n) (choose_no false _ _ refl)

  malformed : well_formed s ≡ false → front_length s ≤ min (length s) limit → read_type s limit ≡ Err Malformed
  unfolding read_type read_from choose
  malformed w h = rw (item (min (length s) limit) h, w)

  none_examined : (end : ℕ) → leb end 0 ≡ true → item_at s end 0 ≡ Err Out
  unfolding item_at choose
  none_examined end l = rw l refl

  behind_front : (end : ℕ) → end < front_length s → item_at s end 0 ≡ Err Out
  unfolding array_at
  behind_front end h = go (leb end 0) refl
    where
      go : (t : Bool) → leb end 0 ≡ t → item_at s end 0 ≡ Err Out
      go true l = none_examined end l
      go false l =
          inside s end 0 (leb-false end 0 l) (rw first at a)
          ∙ rw (← first, lt-ltb (end - (0 + 1)) (1 + size_width (kind_of s)) (omega arith)) (choose_yes true _ _ refl)

  outside : min (length s) limit < front_length s → read_type s limit ≡ Err (no_end (length s) limit 0 false)
  unfolding read_type read_from choose
  outside h = rw (behind_front (min (length s) limit) h)

  module _ (n top : ℕ) (e : Bool) where
    reads : well_formed s ≡ true → read_type (inner_of s) limit ≡ whole_read n top e → front_length s + n ≤ limit
        → read_type s limit ≡ whole_read (front_length s + n) top e
    unfolding read_type read_from choose
    reads w r h =
        let b = whole (inner_of s) limit n top e r in
        let d : front_length s + n ≤ length s = omega (arith, ap length inner, length-drop (front_length s) s) in
        rw (item (min (length s) limit) (omega arith), w)
        (reads_behind s limit (min (length s) limit) (front_length s) n top e h (omega arith) (rw inner at r))

    front : read_type s limit ≡ whole_read n top e → front_length s ≤ min (length s) limit
    front r = rw (← body) (held s limit top e holder n r).0

    no_other : read_type s limit ≡ whole_read n top e
        → (well_formed s ≡ true) × (front_length s ≤ n) × (read_type (inner_of s) limit ≡ whole_read (n - front_length s) top e)
    no_other r =
        let h = held s limit top e holder n r in
        let b = ends_behind s limit (min (length s) limit) (1 + body_length (kind_of s)) 1 0 n top false e h.0 h.1 in
        (go (well_formed s) refl, rw (← body) b.0, rw (← body) (inner_reads s limit top e holder n r))
      where
        go : (t : Bool) → well_formed s ≡ t → t ≡ true
        go true w = refl
        go false w = absurd (never_whole Malformed n top e (sym (malformed w (front r)) ∙ r))

-- ---- one spelling
-- numbers of as many bytes are the same where the bytes are
module _ (s t : List ℕ) (low : AllBytes s) (low' : AllBytes t) where
  digits : (width at : ℕ) → number_at width s at ≡ number_at width t at → (m : ℕ) → m < width → get_or s (at + m) 0 ≡ get_or t (at + m) 0
  unfolding number_at
  digits zero at e m h = absurd (omega arith)
  digits (suc width) at e zero h =
      let x = low at in
      let y = low' at in
      let z : get_or s at 0 ≡ get_or t at 0 = omega arith in
      let q : at + 0 ≡ at = omega arith in
      rw q z
  digits (suc width) at e (suc m) h =
      let x = low at in
      let y = low' at in
      let z : number_at width s (at + 1) ≡ number_at width t (at + 1) = omega arith in
      let q : at + suc m ≡ at + 1 + m = omega arith in
      rw q (digits width (at + 1) z m (omega arith))

four_small : (s : List ℕ) (at : ℕ) → AllBytes s → number_at 4 s at < large_size
unfolding number_at
four_small s at low = omega (arith, low at, low (at + 1), low (at + 1 + 1), low (at + 1 + 1 + 1))

-- by an Array's size: its kind, its flag and the number that stands there
unfoldable flag_for : Option ℕ → ℕ
flag_for None = 0
flag_for (Some n) = 1

unfoldable number_for : Option ℕ → ℕ
number_for None = 0
number_for (Some n) = n

record Spelled (k c n : ℕ) (size : Option ℕ) : Type 0 where
  kind : k ≡ kind_for size
  flag : c ≡ flag_for size
  number : n ≡ number_for size

spelled : (k c n : ℕ) → is_array_kind k ≡ true → good_array k c n ≡ true → (k ≡ array_kind → n < large_size) → Spelled k c n (choose (eqb c 1) (Some n) None)
unfolding kind_for flag_for number_for choose
spelled k c n a w low = go (eqb k large_array_kind) refl (eqb c 1) refl w
  where
    go : (l : Bool) → eqb k large_array_kind ≡ l → (f : Bool) → eqb c 1 ≡ f → choose l (f && leb large_size n) (f || (eqb c 0 && eqb n 0)) ≡ true
        → Spelled k c n (choose f (Some n) None)
    go true e true i v = record { kind = rw v (eqb-true k large_array_kind e); flag = eqb-true c 1 i; number = refl }
    go true e false i v = absurd (false≢true v)
    go false e true i v =
        let q = eqb-true k array_kind (sym (or_false _ _ e) ∙ a) in
        record { kind = rw (lt-leb large_size n (low q)) q; flag = eqb-true c 1 i; number = refl }
    go false e false i v =
        let q = eqb-true k array_kind (sym (or_false _ _ e) ∙ a) in
        record { kind = q; flag = eqb-true c 0 (and_left _ _ v); number = eqb-true n 0 (and_right (eqb c 0) _ v) }

-- the same of an Array's bytes
module _ (s : Ty) (limit : ℕ) (low : AllBytes s) (a : is_array s ≡ true) (i : IsType s limit) where
  well : well_formed s ≡ true
  well = (no_other s limit a (length s) i.0 i.1 i.2).0

  behind : front_length s < length s
  behind =
      let r = (no_other s limit a (length s) i.0 i.1 i.2).2 in
      let b = whole (inner_of s) limit (length s - front_length s) i.0 i.1 r in
      omega (arith, b.0)

  spells : Spelled (kind_of s) (get_or s 1 0) (size_at s 0) (array_size s)
  unfolding array_size size_width choose
  spells = spelled (kind_of s) (get_or s 1 0) (size_at s 0) a well (λ q. rw (← first s limit a, q) (four_small s 2 low))

by_size : (s : Ty) (limit : ℕ) → AllBytes s → is_array s ≡ true → IsType s limit → kind_of s ≡ kind_for (array_size s)
by_size s limit low a i = (spells s limit low a i).kind

one_spelling : (s t : Ty) (limit : ℕ) → AllBytes s → AllBytes t → is_array s ≡ true → is_array t ≡ true
    → IsType s limit → IsType t limit → array_size s ≡ array_size t → inner_of s ≡ inner_of t → s ≡ t
one_spelling s t limit low low' a b i j e same = ext_get_or 0 s t lengths bytes
  where
    x : Spelled (kind_of s) (get_or s 1 0) (size_at s 0) (array_size s)
    x = spells s limit low a i

    y : Spelled (kind_of t) (get_or t 1 0) (size_at t 0) (array_size t)
    y = spells t limit low' b j

    kinds : kind_of s ≡ kind_of t
    kinds = x.kind ∙ ap kind_for e ∙ sym y.kind

    fronts : front_length s ≡ front_length t
    fronts = ap (λ (k : ℕ). 2 + size_width k) kinds

    parts : drop (front_length s) s ≡ drop (front_length s) t
    parts = sym (inner s limit a) ∙ same ∙ inner t limit b ∙ ap (λ (n : ℕ). drop n t) (sym fronts)

    lengths : length s ≡ length t
    lengths =
        let l = behind s limit low a i in
        let m = behind t limit low' b j in
        let q = sym (length-drop (front_length s) s) ∙ ap length parts ∙ length-drop (front_length s) t in
        omega arith

    sizes : number_at (size_width (kind_of s)) s 2 ≡ number_at (size_width (kind_of s)) t 2
    sizes =
        ap (λ (k : ℕ). number_at (size_width k) s 2) (first s limit a) ∙ x.number ∙ ap number_for e ∙ sym y.number
        ∙ ap (λ (k : ℕ). number_at (size_width k) t 2) (sym (first t limit b) ∙ sym kinds)

    byte : (n : ℕ) → (p : Bool) → leb (front_length s) n ≡ p → get_or s n 0 ≡ get_or t n 0
    byte n true p =
        let h = leb-true (front_length s) n p in
        let q : n ≡ front_length s + (n - front_length s) = omega arith in
        rw q (sym (get_or-drop (front_length s) s (n - front_length s) 0) ∙ ap (λ (l : List ℕ). get_or l (n - front_length s) 0) parts
        ∙ get_or-drop (front_length s) t (n - front_length s) 0)
    byte zero false p = sym (first s limit a) ∙ kinds ∙ first t limit b
    byte (suc zero) false p = x.flag ∙ ap flag_for e ∙ sym y.flag
    byte (suc (suc n)) false p =
        let h = leb-false (front_length s) (suc (suc n)) p in
        let q : suc (suc n) ≡ 2 + n = omega arith in
        rw q (digits s t low low' (size_width (kind_of s)) 2 sizes n (omega arith))

    bytes : (n : ℕ) → n < length s → get_or s n 0 ≡ get_or t n 0
    bytes n h = byte n (leb (front_length s) n) refl

-- ---- each width
four : (s : Ty) → kind_of s ≡ array_kind → (front_length s ≡ 6) × (inner_of s ≡ drop 6 s)
unfolding inner_of size_width choose
four s e = (rw e refl, rw e refl)

eight : (s : Ty) → kind_of s ≡ large_array_kind → (front_length s ≡ 10) × (inner_of s ≡ drop 10 s)
unfolding inner_of size_width choose
eight s e = (rw e refl, rw e refl)

module _ (s : Ty) (limit n top : ℕ) (e : Bool) where
  reads_four : kind_of s ≡ array_kind → well_formed s ≡ true → read_type (drop 6 s) limit ≡ whole_read n top e → 6 + n ≤ limit → read_type s limit ≡ whole_read (6 + n) top e
  reads_four k w r h = let f = four s k in rw f.0 at (reads s limit (rw k refl) n top e w (rw f.1 r) (rw f.0 h))

  reads_eight : kind_of s ≡ large_array_kind → well_formed s ≡ true → read_type (drop 10 s) limit ≡ whole_read n top e → 10 + n ≤ limit
      → read_type s limit ≡ whole_read (10 + n) top e
  reads_eight k w r h = let f = eight s k in rw f.0 at (reads s limit (rw k refl) n top e w (rw f.1 r) (rw f.0 h))

-- ---- all of it
pub both_widths : BothWidths
both_widths =
    record {
      array = λ s limit a. record { reads = reads s limit a; no_other = no_other s limit a; malformed = malformed s limit a; outside = outside s limit a; inner = inner s limit a };
      inside = inside;
      as_before = as_before;
      one_spelling = one_spelling;
      by_size = by_size;
      four = four;
      eight = eight;
      reads_four = reads_four;
      reads_eight = reads_eight;
    }
