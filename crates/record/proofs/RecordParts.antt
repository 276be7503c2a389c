-- A record by its fields is what its head says: names, and the kinds without parameters.
use Prim.Native.Nat.{ℕ, zero, suc, ◌+◌, ◌≤◌, max}
use borrow.Author.Tests.{ltb-true, ltb-false, lt-ltb, le-ltb}
use lib.Dec.{eqb, ltb, leb, leb-zero, leb-suc-suc}
use lib.ListN.{length, get_or, take, drop, length-take, length-drop}
use lib.Seq.{take-suc, get_or-drop}
use mathlib.Core.Bool.{Bool, true, false, not, true≢false, ◌&&◌, ◌||◌}
use mathlib.Core.List.{List, [], ◌∷◌, ◌++◌}
use mathlib.Core.Path.{◌≡◌, refl, sym, ap, ◌∙◌}
use native.Mathlib.Omega.{arith}
use Rattle.std.proofs.Common.{Result, Ok, Err}
use Rattle.record.specs.Inside.Front.{broken_head, plain_head, or_none, good_byte, good_bytes, name_head, class_head, operators_head, field_with, field_head, visibility_head, suspend_head, variant_head}
use Rattle.record.specs.Layout.{name, id, id_or_none, byte, mask, type, unknown, FieldAt, field_at, type_read, fields_from, any_field, each_field, lengths, good_name}
use Rattle.record.specs.TableRefused.{repeats}
use Rattle.record.specs.Inside.Front.{Front}
use Rattle.ty.proofs.Choice.{by_choice}
use Rattle.ty.proofs.Ids.{highest_of, highest_append, TopIs, highest_read}
use Rattle.ty.specs.Bytes.{id_at}
use Rattle.ty.specs.Choose.{choose}
use Rattle.ty.specs.Ids.{ids_in}
use Rattle.ty.specs.Read.{read_type, longest_type}
use Rattle.ty.specs.Name.{no_id}
use Rattle.ty.specs.declared.read.TypeFault.TheVariants.{Cut, Malformed, Endless}
use Rattle.ty.specs.declared.read.TypeFault.{TypeFault}
use Rattle.ty.specs.declared.read.TypeRead.{TypeRead}

-- what a head says of a record that is not malformed
pub record Holds (s : List ℕ) (ps : List FieldAt) (h : Front) : Type 0 where
  pub whole : h.malformed ≡ false
  pub len : h.len ≡ choose (any_field (λ p. p.endless) ps) (length s) (1 + lengths ps)
  pub top : h.top ≡ highest_of (each_field (λ p. p.ids) ps)
  pub repeated : h.repeated ≡ repeats [] (each_field (λ p. p.names) ps)
  pub error : h.error ≡ any_field (λ p. p.error) ps

pub record Agrees (s : List ℕ) (ps : List FieldAt) (h : Front) : Type 0 where
  pub bad : any_field (λ p. p.malformed) ps ≡ true → h ≡ broken_head s
  pub good : any_field (λ p. p.malformed) ps ≡ false → Holds s ps h

pub refused : (s : List ℕ) (ps : List FieldAt) → any_field (λ p. p.malformed) ps ≡ true → Agrees s ps (broken_head s)
refused s ps e = record { bad = λ _. refl; good = λ q. absurd (true≢false (sym e ∙ q)) }

pub taken : (s : List ℕ) (ps : List FieldAt) (h : Front) → any_field (λ p. p.malformed) ps ≡ false → Holds s ps h → Agrees s ps h
taken s ps h e x = record { bad = λ q. absurd (true≢false (sym q ∙ e)); good = λ _. x }

-- ---- tests
pub or_true : (a : Bool) → a || true ≡ true
or_true true = refl
or_true false = refl

pub or_nil : (a : Bool) → a || false ≡ a
or_nil true = refl
or_nil false = refl

-- a longer part is cut where a shorter one is
absorb : (s : List ℕ) (m n : ℕ) (b z : Bool) → m ≤ n → (ltb (length s) m || false) || ((ltb (length s) n || b) || z) ≡ (ltb (length s) n || b) || z
absorb s m n b z h = go (ltb (length s) m) refl
  where
    go : (t : Bool) → ltb (length s) m ≡ t → (t || false) || ((ltb (length s) n || b) || z) ≡ (ltb (length s) n || b) || z
    go true e =
        let l = ltb-true (length s) m e in
        let q : ltb (length s) n ≡ true = lt-ltb (length s) n (omega arith) in
        sym (ap (λ (t : Bool). (t || b) || z) q)
    go false e = refl

-- a record of n bytes
plain_agrees : (s : List ℕ) (n : ℕ) (bad : Bool) (kind one two top : ℕ) (ps : List FieldAt) → any_field (λ p. p.malformed) ps ≡ (ltb (length s) n || bad)
    → Holds s ps (record { kind = kind; one = one; two = two; len = n; top = top; malformed = false; repeated = false; error = false })
    → Agrees s ps (plain_head s n bad kind one two top)
unfolding plain_head
plain_agrees s n bad kind one two top ps e x =
    by_choice (Agrees s ps) (ltb (length s) n) (λ a. refused s ps (e ∙ ap (λ (t : Bool). t || bad) a)) λ a.
    by_choice (Agrees s ps) bad (λ b. refused s ps (e ∙ ap (λ (t : Bool). ltb (length s) n || t) b ∙ or_true (ltb (length s) n))) λ b.
    taken s ps _ (e ∙ (λ i. a i || b i)) x

some_top : (t : Bool) (i : ℕ) (js : List ℕ) → highest_of (choose t [] (i ∷ []) ++ js) ≡ max (choose t 0 i) (highest_of js)
unfolding highest_of choose
some_top true i js = omega arith
some_top false i js = refl

-- what an id that may be none adds
pub or_none_lem : (i : ℕ) (js : List ℕ) → highest_of (choose (eqb i no_id) [] (i ∷ []) ++ js) ≡ max (or_none i) (highest_of js)
unfolding or_none
or_none_lem i js = some_top (eqb i no_id) i js

-- an id that may be none, before others
abbrev pub none_before : ℕ → List ℕ → List ℕ
none_before i js = choose (eqb i no_id) [] (i ∷ []) ++ js

class_top : (a b c d e : ℕ) → max a (max (or_none b) (max (max (or_none c) (or_none d)) (or_none e)))
    ≡ highest_of (a ∷ none_before b (none_before c (none_before d (none_before e []))))
unfolding highest_of
class_top a b c d e =
    let z : max (or_none e) (highest_of []) ≡ or_none e = omega arith in
    let m : max (max (or_none c) (or_none d)) (or_none e) ≡ max (or_none c) (max (or_none d) (or_none e)) = omega arith in
    ap (max a)
    (ap (max (or_none b)) (m ∙ sym (or_none_lem c _ ∙ ap (max (or_none c)) (or_none_lem d _ ∙ ap (max (or_none d)) (or_none_lem e [] ∙ z)))) ∙ sym (or_none_lem b _))

suspend_top : (a b : ℕ) → max (or_none a) b ≡ highest_of (choose (eqb a no_id) [] (a ∷ []) ++ (b ∷ []))
unfolding highest_of
suspend_top a b = let e = or_none_lem a (b ∷ []) in omega arith

two_top : (a b : ℕ) → max a b ≡ highest_of (a ∷ b ∷ [])
unfolding highest_of
two_top a b = omega arith

one_top : (a : ℕ) → a ≡ highest_of (a ∷ [])
unfolding highest_of
one_top a = omega arith

-- ---- the kinds of a fixed length
module _ (s : List ℕ) where
  pub class_agrees : Agrees s (fields_from (id ∷ id_or_none ∷ id_or_none ∷ id_or_none ∷ id_or_none ∷ byte 1 ∷ []) s 1) (class_head s)
  unfolding class_head fields_from any_field each_field lengths choose repeats
  class_agrees =
      plain_agrees s 12 (ltb 1 (get_or s 11 0)) 2 (id_at s 1) (id_at s 3) _
      (fields_from (id ∷ id_or_none ∷ id_or_none ∷ id_or_none ∷ id_or_none ∷ byte 1 ∷ []) s 1)
      (absorb s 3 5 false _ (omega arith) ∙ absorb s 5 7 false _ (omega arith) ∙ absorb s 7 9 false _ (omega arith) ∙ absorb s 9 11 false _ (omega arith)
      ∙ absorb s 11 12 (ltb 1 (get_or s 11 0)) false (omega arith) ∙ or_nil _)
      (record { whole = refl; len = refl; top = class_top (id_at s 1) (id_at s 3) (id_at s 5) (id_at s 7) (id_at s 9); repeated = refl; error = refl })

  pub operators_agrees : Agrees s (fields_from (id ∷ mask 2047 ∷ []) s 1) (operators_head s)
  unfolding operators_head fields_from any_field each_field lengths choose repeats
  operators_agrees =
      plain_agrees s 5 (ltb 2047 (id_at s 3)) 3 (id_at s 1) (id_at s 3) _ (fields_from (id ∷ mask 2047 ∷ []) s 1)
      (absorb s 3 5 (ltb 2047 (id_at s 3)) false (omega arith) ∙ or_nil _)
      (record { whole = refl; len = refl; top = one_top (id_at s 1); repeated = refl; error = refl })

  pub visibility_agrees : Agrees s (fields_from (id ∷ id ∷ byte 3 ∷ []) s 1) (visibility_head s)
  unfolding visibility_head fields_from any_field each_field lengths choose repeats
  visibility_agrees =
      plain_agrees s 6 (ltb 3 (get_or s 5 0)) 6 (id_at s 1) (id_at s 3) _ (fields_from (id ∷ id ∷ byte 3 ∷ []) s 1)
      (absorb s 3 5 false _ (omega arith) ∙ absorb s 5 6 (ltb 3 (get_or s 5 0)) false (omega arith) ∙ or_nil _)
      (record { whole = refl; len = refl; top = two_top (id_at s 1) (id_at s 3); repeated = refl; error = refl })

  pub suspend_agrees : Agrees s (fields_from (id_or_none ∷ id ∷ []) s 1) (suspend_head s)
  unfolding suspend_head fields_from any_field each_field lengths choose repeats
  suspend_agrees =
      plain_agrees s 5 false 7 (id_at s 1) (id_at s 3) _ (fields_from (id_or_none ∷ id ∷ []) s 1)
      (absorb s 3 5 false false (omega arith) ∙ or_nil _)
      (record { whole = refl; len = refl; top = suspend_top (id_at s 1) (id_at s 3); repeated = refl; error = refl })

  pub variant_agrees : Agrees s (fields_from (id ∷ id ∷ []) s 1) (variant_head s)
  unfolding variant_head fields_from any_field each_field lengths choose repeats
  variant_agrees =
      plain_agrees s 5 false 8 (id_at s 1) (id_at s 3) _ (fields_from (id ∷ id ∷ []) s 1)
      (absorb s 3 5 false false (omega arith) ∙ or_nil _)
      (record { whole = refl; len = refl; top = two_top (id_at s 1) (id_at s 3); repeated = refl; error = refl })

  pub unknown_agrees : Agrees s (fields_from (unknown ∷ []) s 1) (broken_head s)
  unfolding fields_from any_field choose
  unknown_agrees = refused s (fields_from (unknown ∷ []) s 1) (ap (λ (t : Bool). t || false) (or_true (ltb (length s) (1 + 0))))

-- ---- a field
module _ (s is : List ℕ) where
  abbrev field_parts : Result TypeRead TypeFault → List FieldAt
  field_parts r = field_at id s 1 ∷ field_at id s 3 ∷ type_read 5 is r ∷ choose (type_read 5 is r).endless [] []

  field_malformed : (r : Result TypeRead TypeFault) → any_field (λ p. p.malformed) (field_parts r) ≡ (ltb (length s) 5 || (type_read 5 is r).malformed)
  unfolding any_field choose
  field_malformed (Ok found) = absorb s 3 5 false _ (omega arith) ∙ ap (λ (t : Bool). t || false) (or_nil (ltb (length s) 5))
  field_malformed (Err Cut) = absorb s 3 5 false _ (omega arith) ∙ ap (λ (t : Bool). t || true) (or_nil (ltb (length s) 5))
  field_malformed (Err Malformed) = absorb s 3 5 false _ (omega arith) ∙ ap (λ (t : Bool). t || true) (or_nil (ltb (length s) 5))
  field_malformed (Err (Endless top e)) = absorb s 3 5 false _ (omega arith) ∙ ap (λ (t : Bool). t || false) (or_nil (ltb (length s) 5))

  field_read_lem : (r : Result TypeRead TypeFault) → TopIs (highest_of is) r → ltb (length s) 5 ≡ false → Agrees s (field_parts r) (field_with s (id_at s 1) (id_at s 3) r)
  unfolding any_field each_field lengths choose repeats highest_of
  field_read_lem (Ok found) t a =
      let b = highest_append is [] in
      taken s (field_parts (Ok found)) _ (field_malformed (Ok found) ∙ ap (λ (t : Bool). t || false) a)
      (record { whole = refl; len = omega arith; top = omega arith; repeated = refl; error = sym (or_nil found.error) })
  field_read_lem (Err Cut) t a = refused s (field_parts (Err Cut)) (field_malformed (Err Cut) ∙ or_true (ltb (length s) 5))
  field_read_lem (Err Malformed) t a = refused s (field_parts (Err Malformed)) (field_malformed (Err Malformed) ∙ or_true (ltb (length s) 5))
  field_read_lem (Err (Endless top e)) t a =
      let b = highest_append is [] in
      taken s (field_parts (Err (Endless top e))) _ (field_malformed (Err (Endless top e)) ∙ ap (λ (t : Bool). t || false) a)
      (record { whole = refl; len = refl; top = omega arith; repeated = refl; error = refl })

-- the ids of its type
module _ (s : List ℕ) where
  abbrev ids : List ℕ
  ids = ids_in (drop 5 s) longest_type

  pub field_agrees : Agrees s (fields_from (id ∷ id ∷ type ∷ []) s 1) (field_head s)
  unfolding field_head fields_from choose
  field_agrees =
      let r = read_type (drop 5 s) longest_type in
      by_choice (Agrees s (field_parts s ids r)) (ltb (length s) 5)
      (λ a. refused s (field_parts s ids r) (field_malformed s ids r ∙ ap (λ (t : Bool). t || (type_read 5 ids r).malformed) a))
      (λ a. field_read_lem s ids r (highest_read (drop 5 s) longest_type) a)

-- ---- a name
good_first : (n b : ℕ) → good_byte (suc n) 0 b ≡ (leb 33 b && (leb b 126 && not (eqb b 46)))
unfolding good_byte choose
good_first n b = rw (leb-suc-suc 0 n, leb-zero n)

good_next : (n i b : ℕ) → good_byte (suc n) (suc i) b ≡ good_byte n i b
unfolding good_byte
good_next n i b = rw (leb-suc-suc (suc i) n)

good_zero : (i b : ℕ) → good_byte 0 i b ≡ eqb b 0
unfolding good_byte choose
good_zero i b = let e : ltb i 0 ≡ false = le-ltb i 0 (omega arith) in rw e

and_assoc : (a b c : Bool) → a && (b && c) ≡ (a && b) && c
and_assoc true b c = refl
and_assoc false b c = refl

and_comm : (a b : Bool) → a && b ≡ b && a
and_comm true true = refl
and_comm true false = refl
and_comm false true = refl
and_comm false false = refl

-- one byte more
name_more : (n : ℕ) (bs : List ℕ) (b : ℕ) → good_name n (bs ++ (b ∷ [])) ≡ (good_name n bs && good_byte n (length bs) b)
unfolding good_name
name_more zero [] b = and_comm (eqb b 0) true ∙ sym (good_zero 0 b)
name_more (suc n) [] b = and_comm _ true ∙ sym (good_first n b)
name_more zero (x ∷ bs) b =
    ap (λ (t : Bool). eqb x 0 && t) (name_more zero bs b ∙ ap (λ (t : Bool). good_name zero bs && t) (good_zero (length bs) b ∙ sym (good_zero (suc (length bs)) b)))
    ∙ and_assoc (eqb x 0) (good_name zero bs) _
name_more (suc n) (x ∷ bs) b =
    ap (λ (t : Bool). (leb 33 x && (leb x 126 && not (eqb x 46))) && t) (name_more n bs b ∙ ap (λ (t : Bool). good_name n bs && t) (sym (good_next n (length bs) b)))
    ∙ and_assoc (leb 33 x && (leb x 126 && not (eqb x 46))) (good_name n bs) _

name_bytes_lem : (k : ℕ) (s : List ℕ) (n : ℕ) → k + 2 ≤ length s → good_bytes k s n ≡ good_name n (take k (drop 2 s))
unfolding good_bytes good_name
name_bytes_lem zero s n h = refl
name_bytes_lem (suc k) s n h =
    let d = length-drop 2 s in
    let t : take (suc k) (drop 2 s) ≡ take k (drop 2 s) ++ (get_or (drop 2 s) k 0 ∷ []) = take-suc (drop 2 s) k 0 (omega arith) in
    let l : length (take k (drop 2 s)) ≡ k = let e = length-take k (drop 2 s) in omega arith in
    let g : get_or (drop 2 s) k 0 ≡ get_or s (k + 2) 0 = get_or-drop 2 s k 0 ∙ (let z : 2 + k ≡ k + 2 = omega arith in ap (λ (j : ℕ). get_or s j 0) z) in
    let ih = name_bytes_lem k s n (omega arith) in
    and_comm (good_byte n k (get_or s (k + 2) 0)) (good_bytes k s n)
    ∙ (λ i. ih i && good_byte n (sym l i) (sym g i))
    ∙ sym (name_more n (take k (drop 2 s)) (get_or (drop 2 s) k 0))
    ∙ ap (good_name n) (sym t)

same_name : (s : List ℕ) (t : Bool) → ltb (length s) 26 ≡ t
    → ltb (length s) 26 || (ltb (get_or s 1 0) 1 || (ltb 24 (get_or s 1 0) || not (good_name (get_or s 1 0) (take 24 (drop 2 s)))))
    ≡ (ltb (length s) 26 || (ltb (get_or s 1 0) 1 || (ltb 24 (get_or s 1 0) || not (good_bytes 24 s (get_or s 1 0)))))
same_name s true e = rw e
same_name s false e =
    let l = ltb-false (length s) 26 e in
    let q = name_bytes_lem 24 s (get_or s 1 0) (omega arith) in
    λ i. ltb (length s) 26 || (ltb (get_or s 1 0) 1 || (ltb 24 (get_or s 1 0) || not (sym q i)))

pub name_agrees : (s : List ℕ) → Agrees s (fields_from (name ∷ []) s 1) (name_head s)
unfolding name_head fields_from any_field each_field lengths choose repeats highest_of
name_agrees s =
    plain_agrees s 26 _ 1 0 0 0 (fields_from (name ∷ []) s 1) (or_nil _ ∙ same_name s (ltb (length s) 26) refl)
    (record { whole = refl; len = refl; top = refl; repeated = refl; error = refl })
