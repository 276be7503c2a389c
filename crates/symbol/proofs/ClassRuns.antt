-- The class records of an accepted table stand behind the names, 12 bytes each.
use Prim.Native.Nat.{ℕ, zero, suc, ◌+◌, ◌-◌, ◌*◌, ◌/◌, ◌≤◌, ◌<◌}
use borrow.Author.Tests.{eqb-true, eqb-false, eq-eqb, ne_eqb, ltb-true, ltb-false}
use lib.Dec.{eqb, ltb}
use lib.ListN.{length, get_or, drop, length-drop, length-take}
use lib.Seq.{get_or-take, drop-drop}
use mathlib.Core.Bool.{Bool, true, false, not, ◌&&◌, ◌||◌, true≢false, false≢true}
use mathlib.Core.List.{List, [], ◌∷◌}
use mathlib.Core.Path.{◌≡◌, refl, sym, ap, ◌∙◌, subst}
use native.Mathlib.Omega.{arith, not-le}
use Rattle.index.proofs.ListSearch.{drop_id, first_yes, first_no}
use Rattle.index.specs.Inside.Found.{first_in, first_with, found_at, HereIs}
use Rattle.index.specs.declared.index.Place.{Place}
use Rattle.record.proofs.Accepts.{CleanFrom, accepted_clean}
use Rattle.record.proofs.Bounds.{head_bounded}
use Rattle.record.proofs.Laid.{same_count}
use Rattle.record.proofs.NoFault.{Clean}
use Rattle.record.proofs.Own.{head_own}
use Rattle.record.proofs.Records.{records-here, records-end}
use Rattle.record.proofs.RecordParts.{or_true}
use Rattle.record.proofs.RecordSizes.{Fits, head_fits, head_known, head_ids, head_by_lem}
use Rattle.record.specs.Inside.Front.{Front, front_of, head_by, class_head, or_none}
use Rattle.record.specs.Inside.FrontRecord.{front_record, count_of}
use Rattle.record.specs.Inside.HeadFault.{is_class, has_class, same_key, has_key, last_kind}
use Rattle.record.specs.Inside.Keyed.{is_of, records_with}
use Rattle.record.specs.Table.{Record, records_of, name_count, non_empty}
use Rattle.std.proofs.lemmas.Nat.{div-mul-add}
use Rattle.std.specs.Prelude.{None, Some, is_some}
use Rattle.record.specs.TableRefused.{table_fault}
use Rattle.symbol.proofs.LaidLookups.{classes_told, super_told, first_interface_told, second_interface_told}
use Rattle.symbol.proofs.NamesFit.{Examined, class_examined}
use Rattle.symbol.proofs.Ranks.{is_class_lem, no_record, here, there, with_here, with_there, rank_of_lem, rank_none, rank_low, few, super_lower, first_lower, second_lower, class_rank}
use Rattle.symbol.specs.Inside.ClassRun.{rank_in, rank_of, number_by, class_start, class_at, is_parent, ClassRun}
use Rattle.symbol.specs.Inside.FoundSymbols.{super_in, first_interface_in, second_interface_in}
use Rattle.symbol.specs.Lookup.{symbols_of}
use Rattle.ty.proofs.Choice.{choose_no}
use Rattle.ty.specs.Bytes.{id_at}
use Rattle.ty.specs.Choose.{choose}
use Rattle.ty.specs.Name.{no_id, id_defined, first_table_id}

-- ---- ranks, record by record
module _ (c : ℕ) (r : Record) (rs : List Record) where
  has_first : is_class c (front_of r) ≡ true → has_class c (r ∷ rs) ≡ true
  unfolding has_class
  has_first e = ap (λ (b : Bool). b || has_class c rs) e

  has_later : is_class c (front_of r) ≡ false → has_class c (r ∷ rs) ≡ has_class c rs
  unfolding has_class
  has_later e = ap (λ (b : Bool). b || has_class c rs) e

  is_kind : is_class c (front_of r) ≡ true → (front_of r).kind ≡ 2
  is_kind e = go (eqb (front_of r).kind 2) refl e
    where
      go : (b : Bool) → eqb (front_of r).kind 2 ≡ b → b && eqb (front_of r).one c ≡ true → (front_of r).kind ≡ 2
      go true q h = eqb-true _ _ q
      go false q h = absurd (false≢true h)

  not_class : ((front_of r).kind ≡ 2 → ⊥) → is_class c (front_of r) ≡ false
  not_class n = ap (λ (b : Bool). b && eqb (front_of r).one c) (ne_eqb _ _ n)

  count_yes : (k : ℕ) → (front_of r).kind ≡ k → count_of k (r ∷ rs) ≡ suc (count_of k rs)
  unfolding count_of choose
  count_yes k e = rw (eq-eqb _ _ e) (omega arith)

  count_no : (k : ℕ) → ((front_of r).kind ≡ k → ⊥) → count_of k (r ∷ rs) ≡ count_of k rs
  unfolding count_of choose
  count_no k n = rw (ne_eqb _ _ n) (omega arith)

  rank_first : is_class c (front_of r) ≡ true → rank_in (r ∷ rs) c ≡ 1
  rank_first e = rw (rank_of_lem (r ∷ rs) c (has_first e), here c r rs e, count_yes 2 (is_kind e)) (omega arith)

  rank_later : is_class c (front_of r) ≡ false → (front_of r).kind ≡ 2 → has_class c rs ≡ true → rank_in (r ∷ rs) c ≡ suc (rank_in rs c)
  rank_later e k h =
      rw (rank_of_lem (r ∷ rs) c (has_later e ∙ h), there c r rs e, count_yes 2 k, rank_of_lem rs c h) (omega (arith, few c rs))

  rank_skip : ((front_of r).kind ≡ 2 → ⊥) → rank_in (r ∷ rs) c ≡ rank_in rs c
  rank_skip n = go (has_class c rs) refl
    where
      e : is_class c (front_of r) ≡ false
      e = not_class n

      go : (b : Bool) → has_class c rs ≡ b → rank_in (r ∷ rs) c ≡ rank_in rs c
      go true h = rw (rank_of_lem (r ∷ rs) c (has_later e ∙ h), there c r rs e, count_no 2 n, rank_of_lem rs c h)
      go false h = rank_none (r ∷ rs) c (has_later e ∙ h) ∙ sym (rank_none rs c h)

rank_some : (c : ℕ) (rs : List Record) → has_class c rs ≡ true → 0 < rank_in rs c
rank_some c rs h = rw (rank_of_lem rs c h) (omega (arith, few c rs))

ranked-has : (c i : ℕ) (rs : List Record) → rank_in rs c ≡ suc i → has_class c rs ≡ true
ranked-has c i rs e = go (has_class c rs) refl
  where
    go : (b : Bool) → has_class c rs ≡ b → has_class c rs ≡ true
    go true h = h
    go false h = let z : suc i ≡ 0 = sym e ∙ rank_none rs c h in absurd (omega arith)

rankless : (c : ℕ) (rs : List Record) → rank_in rs c ≡ 0 → has_class c rs ≡ false
rankless c rs e = go (has_class c rs) refl
  where
    go : (b : Bool) → has_class c rs ≡ b → has_class c rs ≡ false
    go false h = h
    go true h = absurd (omega (arith, e, rank_some c rs h))

-- ---- a class has one record
class_one : (c : ℕ) (r : Record) → is_class c (front_of r) ≡ true → (front_of r).one ≡ c
class_one c r q = eqb-true _ _ (sym (ap (λ (b : Bool). b && eqb (front_of r).one c) (eq-eqb _ _ (is_kind c r [] q))) ∙ q)

same_class_key : (c : ℕ) (x r : Record) → is_class c (front_of x) ≡ true → is_class c (front_of r) ≡ true → same_key x r ≡ true
unfolding same_key choose
same_class_key c x r q e =
    let a = is_kind c x [] q in
    let b = is_kind c r [] e in
    rw (a, b, class_one c x q, class_one c r e, eq-eqb c c refl)

key_class : (c : ℕ) (r : Record) → is_class c (front_of r) ≡ true → (earlier : List Record) → has_class c earlier ≡ true → has_key r earlier ≡ true
unfolding has_class has_key
key_class c r e [] h = absurd (false≢true h)
key_class c r e (x ∷ xs) h = go (is_class c (front_of x)) refl h (key_class c r e xs)
  where
    go : (b : Bool) → is_class c (front_of x) ≡ b → b || has_class c xs ≡ true → (has_class c xs ≡ true → has_key r xs ≡ true) → same_key x r || has_key r xs ≡ true
    go true q z k = ap (λ (u : Bool). u || has_key r xs) (same_class_key c x r q e)
    go false q z k = ap (λ (u : Bool). same_key x r || u) (k z) ∙ or_true (same_key x r)

fresh_class : (c : ℕ) (earlier rs : List Record) → CleanFrom earlier rs → has_class c earlier ≡ true → has_class c rs ≡ false
unfolding has_class
fresh_class c earlier [] e h = refl
fresh_class c earlier (r ∷ rs) e h = go (is_class c (front_of r)) refl (fresh_class c (r ∷ earlier) rs e.1)
  where
    more : has_class c (r ∷ earlier) ≡ true
    more = ap (λ (b : Bool). is_class c (front_of r) || b) h ∙ or_true (is_class c (front_of r))

    go : (b : Bool) → is_class c (front_of r) ≡ b → (has_class c (r ∷ earlier) ≡ true → has_class c rs ≡ false) → b || has_class c rs ≡ false
    go true q k = absurd (true≢false (sym (key_class c r q earlier h) ∙ e.0.fresh))
    go false q k = k more

-- ---- a record of kind k, of n bytes, at the front
record FrontIs (s : List ℕ) (earlier : List Record) (k n : ℕ) : Type 0 where
  kind : (front_of (front_record s)).kind ≡ k
  own : front_of (front_record s) ≡ front_of s
  len : (front_of s).len ≡ n
  cons : records_of s ≡ front_record s ∷ records_of (drop n s)
  clean : Clean earlier (front_record s) (front_record s ∷ records_of (drop n s))
  on : CleanFrom (front_record s ∷ earlier) (records_of (drop n s))
  long : n ≤ length s

-- behind a higher kind there is none of kind k
count_gone : (k : ℕ) (earlier rs : List Record) → CleanFrom earlier rs → k < last_kind earlier → count_of k rs ≡ 0
unfolding count_of choose
count_gone k earlier [] c l = refl
count_gone k earlier (r ∷ rs) c l =
    let h = c.0.rises in
    rw (ne_eqb (front_of r).kind k (λ z. omega arith)) (omega (arith, count_gone k (r ∷ earlier) rs c.1 (omega arith)))

kind_front : (k n : ℕ) → ((f : Front) → Fits f.kind f.len → f.kind ≡ k → f.len ≡ n) → (s : List ℕ) (earlier : List Record) → CleanFrom earlier (records_of s)
    → ((j : ℕ) → 1 ≤ j → j < k → count_of j (records_of s) ≡ 0) → 0 < count_of k (records_of s) → FrontIs s earlier k n
kind_front k n fits s earlier c lower p =
    record {
      kind = kind;
      own = own;
      len = len;
      cons = cons;
      clean = clean.0;
      on = clean.1;
      long = omega (arith, (head_bounded s more).high, len);
    }
  where
    more : 0 < length s
    more = not-le (length s) 0 (λ l. let z : count_of k (records_of s) ≡ 0 = ap (count_of k) (records-end s 0 l) ∙ none in absurd (omega arith))
      where
        none : count_of k [] ≡ 0
        none = unfold count_of in refl

    own : front_of (front_record s) ≡ front_of s
    own = head_own s more

    first : records_of s ≡ front_record s ∷ records_of (drop (front_of s).len s)
    first = records-here s more

    whole : CleanFrom earlier (front_record s ∷ records_of (drop (front_of s).len s))
    whole = subst (λ (x : List Record). CleanFrom earlier x) first c

    known : 1 ≤ (front_of (front_record s)).kind
    known = head_known (front_record s) whole.0.whole

    kind : (front_of (front_record s)).kind ≡ k
    kind = go (eqb (front_of (front_record s)).kind k) refl
      where
        go : (b : Bool) → eqb (front_of (front_record s)).kind k ≡ b → (front_of (front_record s)).kind ≡ k
        go true q = eqb-true _ _ q
        go false q = absurd (two (ltb (front_of (front_record s)).kind k) refl)
          where
            two : (b : Bool) → ltb (front_of (front_record s)).kind k ≡ b → ⊥
            two true l =
                let z : count_of (front_of (front_record s)).kind (records_of s) ≡ suc (count_of (front_of (front_record s)).kind (records_of (drop (front_of s).len s)))
                = ap (count_of (front_of (front_record s)).kind) first ∙ count_yes 0 (front_record s) _ _ refl in
                omega (arith, lower (front_of (front_record s)).kind known (ltb-true _ _ l))
            two false l =
                let z : count_of k (records_of s) ≡ count_of k (records_of (drop (front_of s).len s))
                = ap (count_of k) first ∙ count_no 0 (front_record s) _ k (eqb-false _ _ q) in
                let n = eqb-false _ _ q in
                let g = count_gone k (front_record s ∷ earlier) (records_of (drop (front_of s).len s)) whole.1 (omega (arith, n, ltb-false _ _ l)) in
                omega arith

    len : (front_of s).len ≡ n
    len = fits (front_of s) (head_fits s) (sym (ap (λ (x : Front). x.kind) own) ∙ kind)

    cons : records_of s ≡ front_record s ∷ records_of (drop n s)
    cons = first ∙ ap (λ (x : ℕ). front_record s ∷ records_of (drop x s)) len

    clean : CleanFrom earlier (front_record s ∷ records_of (drop n s))
    clean = subst (λ (x : ℕ). CleanFrom earlier (front_record s ∷ records_of (drop x s))) len whole

name_fits : (f : Front) → Fits f.kind f.len → f.kind ≡ 1 → f.len ≡ 26
name_fits f x e = x.name e

class_fits : (f : Front) → Fits f.kind f.len → f.kind ≡ 2 → f.len ≡ 12
class_fits f x e = x.class e

-- ---- the names passed, of which some bytes begin with n
record Past (s : List ℕ) (earlier : List Record) (n : ℕ) : Type 0 where
  before : List Record
  clean : CleanFrom before (records_of (drop (26 * n) s))
  names : count_of 1 before ≡ count_of 1 earlier + n
  none : count_of 1 (records_of (drop (26 * n) s)) ≡ 0
  classes : count_of 2 (records_of s) ≡ count_of 2 (records_of (drop (26 * n) s))
  ranks : (c : ℕ) → rank_in (records_of s) c ≡ rank_in (records_of (drop (26 * n) s)) c
  same : (c : ℕ) → records_with 2 c 0 (records_of s) ≡ records_with 2 c 0 (records_of (drop (26 * n) s))
  firsts : (c p : ℕ) → first_in 2 c 0 p (records_of s) ≡ first_in 2 c 0 (p + 26 * n) (records_of (drop (26 * n) s))
  long : 26 * n ≤ length s

not_is_of : (c : ℕ) (r : Record) → ((front_of r).kind ≡ 2 → ⊥) → is_of 2 c 0 (front_of r) ≡ false
not_is_of c r n = ap (λ (b : Bool). b && (eqb (front_of r).one c && true)) (ne_eqb _ _ n)

module _ (c : ℕ) where
  with_skip : (r : Record) (rs : List Record) → ((front_of r).kind ≡ 2 → ⊥) → records_with 2 c 0 (r ∷ rs) ≡ records_with 2 c 0 rs
  unfolding records_with choose
  with_skip r rs n = rw (not_is_of c r n)

  first_skip : (p : ℕ) (r : Record) (rs : List Record) → ((front_of r).kind ≡ 2 → ⊥) → first_in 2 c 0 p (r ∷ rs) ≡ first_in 2 c 0 (p + length r) rs
  unfolding first_in choose
  first_skip p r rs n = rw (not_is_of c r n)

module _ (n : ℕ) (s : List ℕ) (earlier : List Record) (f : FrontIs s earlier 1 26) where
  left : count_of 1 (records_of s) ≡ suc n → count_of 1 (records_of (drop 26 s)) ≡ n
  left e =
      let z : count_of 1 (records_of s) ≡ suc (count_of 1 (records_of (drop 26 s))) = ap (count_of 1) f.cons ∙ count_yes 0 (front_record s) _ 1 f.kind in
      omega arith

  past_on : Past (drop 26 s) (front_record s ∷ earlier) n → Past s earlier (suc n)
  past_on i =
      record {
        before = i.before;
        clean = subst (λ (x : List ℕ). CleanFrom i.before (records_of x)) d i.clean;
        names = omega (arith, i.names, count_yes 0 (front_record s) earlier 1 f.kind);
        none = ap (λ (x : List ℕ). count_of 1 (records_of x)) (sym d) ∙ i.none;
        classes = ap (count_of 2) f.cons ∙ count_no 0 (front_record s) _ 2 other ∙ i.classes ∙ ap (λ (x : List ℕ). count_of 2 (records_of x)) d;
        ranks = λ x. ap (λ (z : List Record). rank_in z x) f.cons ∙ rank_skip x (front_record s) _ other ∙ i.ranks x
            ∙ ap (λ (z : List ℕ). rank_in (records_of z) x) d;
        same = λ x. ap (records_with 2 x 0) f.cons ∙ with_skip x (front_record s) _ other ∙ i.same x
            ∙ ap (λ (z : List ℕ). records_with 2 x 0 (records_of z)) d;
        firsts = λ x p. ap (first_in 2 x 0 p) f.cons ∙ first_skip x p (front_record s) _ other
            ∙ ap (λ (z : ℕ). first_in 2 x 0 (p + z) (records_of (drop 26 s))) room ∙ i.firsts x (p + 26)
            ∙ (λ j. first_in 2 x 0 (places p j) (records_of (d j)));
        long = omega (arith, i.long, length-drop 26 s, f.long);
      }
    where
      other : (front_of (front_record s)).kind ≡ 2 → ⊥
      other z = let k = f.kind in absurd (omega arith)

      d : drop (26 * n) (drop 26 s) ≡ drop (26 * suc n) s
      d = drop-drop (26 * n) 26 s ∙ ap (λ (x : ℕ). drop x s) sum
        where
          sum : 26 + 26 * n ≡ 26 * suc n
          sum = omega arith

      room : length (front_record s) ≡ 26
      room = length-take (front_of s).len s ∙ omega (arith, f.len, f.long)

      places : (p : ℕ) → p + 26 + 26 * n ≡ p + 26 * suc n
      places p = omega arith

past : (n : ℕ) (s : List ℕ) (earlier : List Record) → CleanFrom earlier (records_of s) → count_of 1 (records_of s) ≡ n → Past s earlier n
past zero s earlier c e =
    record {
      before = earlier;
      clean = c;
      names = omega arith;
      none = e;
      classes = refl;
      ranks = λ x. refl;
      same = λ x. refl;
      firsts = λ x p. ap (λ (z : ℕ). first_in 2 x 0 z (records_of s)) (plus p);
      long = omega arith;
    }
  where
    plus : (p : ℕ) → p ≡ p + 26 * zero
    plus p = omega arith
past (suc n) s earlier c e =
    step (kind_front 1 26 name_fits s earlier c (λ j a b. absurd (omega arith)) (omega (arith, e))) (λ a b. past n (drop 26 s) (front_record s ∷ earlier) a b)
  where
    step : FrontIs s earlier 1 26
        → (CleanFrom (front_record s ∷ earlier) (records_of (drop 26 s)) → count_of 1 (records_of (drop 26 s)) ≡ n → Past (drop 26 s) (front_record s ∷ earlier) n)
        → Past s earlier (suc n)
    step f k = past_on n s earlier f (k f.on (left n s earlier f e))

-- ---- the classes, which some bytes begin with
module _ (s : List ℕ) (earlier : List Record) (f : FrontIs s earlier 2 12) where
  first_one : (front_of (front_record s)).one ≡ id_at s 1
  first_one = ap (λ (x : Front). x.one) f.own ∙ (head_ids s (omega (arith, sym (ap (λ (x : Front). x.kind) f.own) ∙ f.kind))).0

  first_class : is_class (id_at s 1) (front_of (front_record s)) ≡ true
  first_class = rw (f.kind, first_one, eq-eqb (id_at s 1) (id_at s 1) refl)

-- class i, whose record begins at byte 12 i; n names are before it
record ClassHere (s : List ℕ) (n i : ℕ) : Type 0 where
  more : List Record
  same : records_with 2 (id_at s (12 * i + 1)) 0 (records_of s) ≡ front_record (drop (12 * i) s) ∷ more
  rank : rank_in (records_of s) (id_at s (12 * i + 1)) ≡ suc i
  own : front_of (front_record (drop (12 * i) s)) ≡ front_of (drop (12 * i) s)
  kind : (front_of (drop (12 * i) s)).kind ≡ 2
  len : (front_of (drop (12 * i) s)).len ≡ 12
  defined : id_defined (front_of (drop (12 * i) s)).top n ≡ true
  long : 12 * suc i ≤ length s

none_lower : (s : List ℕ) → count_of 1 (records_of s) ≡ 0 → (j : ℕ) → 1 ≤ j → j < 2 → count_of j (records_of s) ≡ 0
none_lower s e j a b = let z : 1 ≡ j = omega arith in subst (λ (k : ℕ). count_of k (records_of s) ≡ 0) z e

module _ (s : List ℕ) (earlier : List Record) (f : FrontIs s earlier 2 12) where
  rest_none : count_of 1 (records_of s) ≡ 0 → count_of 1 (records_of (drop 12 s)) ≡ 0
  rest_none e = sym (ap (count_of 1) f.cons ∙ count_no 0 (front_record s) _ 1 (λ z. let k = f.kind in absurd (omega arith))) ∙ e

  rest_classes : count_of 2 (records_of s) ≡ suc (count_of 2 (records_of (drop 12 s)))
  rest_classes = ap (count_of 2) f.cons ∙ count_yes 0 (front_record s) _ 2 f.kind

  rest_names : count_of 1 (front_record s ∷ earlier) ≡ count_of 1 earlier
  rest_names = count_no 0 (front_record s) earlier 1 (λ z. let k = f.kind in absurd (omega arith))

  class_first : ClassHere s (count_of 1 earlier) 0
  class_first =
      record {
        more = records_with 2 (id_at s 1) 0 (records_of (drop 12 s));
        same = ap (records_with 2 (id_at s 1) 0) f.cons ∙ with_here (id_at s 1) (front_record s) _ (first_class s earlier f);
        rank = ap (λ (z : List Record). rank_in z (id_at s 1)) f.cons ∙ rank_first (id_at s 1) (front_record s) _ (first_class s earlier f);
        own = f.own;
        kind = sym (ap (λ (x : Front). x.kind) f.own) ∙ f.kind;
        len = f.len;
        defined = sym (ap (λ (x : Front). id_defined x.top (count_of 1 earlier)) f.own) ∙ f.clean.defined;
        long = f.long;
      }

  -- a class that has a later record has not this one
  later_class : (c : ℕ) → has_class c (records_of (drop 12 s)) ≡ true → is_class c (front_of (front_record s)) ≡ false
  later_class c h = go (is_class c (front_of (front_record s))) refl
    where
      go : (b : Bool) → is_class c (front_of (front_record s)) ≡ b → is_class c (front_of (front_record s)) ≡ false
      go false q = q
      go true q = absurd (true≢false (sym h ∙ fresh_class c (front_record s ∷ earlier) (records_of (drop 12 s)) f.on (has_first c (front_record s) earlier q)))

  class_later : (i : ℕ) → ClassHere (drop 12 s) (count_of 1 (front_record s ∷ earlier)) i → ClassHere s (count_of 1 earlier) (suc i)
  class_later i h =
      record {
        more = h.more;
        same =
            ap (λ (x : ℕ). records_with 2 x 0 (records_of s)) (sym x) ∙ ap (records_with 2 (id_at (drop 12 s) (12 * i + 1)) 0) f.cons
            ∙ with_there (id_at (drop 12 s) (12 * i + 1)) (front_record s) _ apart ∙ h.same ∙ ap (λ (z : List ℕ). front_record z ∷ h.more) d;
        rank =
            ap (λ (x : ℕ). rank_in (records_of s) x) (sym x) ∙ ap (λ (z : List Record). rank_in z (id_at (drop 12 s) (12 * i + 1))) f.cons
            ∙ rank_later (id_at (drop 12 s) (12 * i + 1)) (front_record s) _ apart f.kind has ∙ ap (λ (n : ℕ). suc n) h.rank;
        own = subst (λ (z : List ℕ). front_of (front_record z) ≡ front_of z) d h.own;
        kind = ap (λ (z : List ℕ). (front_of z).kind) (sym d) ∙ h.kind;
        len = ap (λ (z : List ℕ). (front_of z).len) (sym d) ∙ h.len;
        defined = sym (λ j. id_defined (front_of (d j)).top (rest_names j)) ∙ h.defined;
        long = omega (arith, h.long, length-drop 12 s, f.long);
      }
    where
      d : drop (12 * i) (drop 12 s) ≡ drop (12 * suc i) s
      d = drop-drop (12 * i) 12 s ∙ ap (λ (x : ℕ). drop x s) sum
        where
          sum : 12 + 12 * i ≡ 12 * suc i
          sum = omega arith

      x : id_at (drop 12 s) (12 * i + 1) ≡ id_at s (12 * suc i + 1)
      x = drop_id s 12 (12 * i + 1) ∙ ap (id_at s) sum
        where
          sum : 12 + (12 * i + 1) ≡ 12 * suc i + 1
          sum = omega arith

      has : has_class (id_at (drop 12 s) (12 * i + 1)) (records_of (drop 12 s)) ≡ true
      has = ranked-has _ i (records_of (drop 12 s)) h.rank

      apart : is_class (id_at (drop 12 s) (12 * i + 1)) (front_of (front_record s)) ≡ false
      apart = later_class _ has

class_here : (i : ℕ) (s : List ℕ) (earlier : List Record) → CleanFrom earlier (records_of s) → count_of 1 (records_of s) ≡ 0 → i < count_of 2 (records_of s)
    → ClassHere s (count_of 1 earlier) i
class_here zero s earlier c e l = class_first s earlier (kind_front 2 12 class_fits s earlier c (none_lower s e) l)
class_here (suc i) s earlier c e l = step (kind_front 2 12 class_fits s earlier c (none_lower s e) (omega arith)) (λ a b d. class_here i (drop 12 s) (front_record s ∷ earlier) a b d)
  where
    step : FrontIs s earlier 2 12
        → (CleanFrom (front_record s ∷ earlier) (records_of (drop 12 s)) → count_of 1 (records_of (drop 12 s)) ≡ 0 → i < count_of 2 (records_of (drop 12 s))
        → ClassHere (drop 12 s) (count_of 1 (front_record s ∷ earlier)) i)
        → ClassHere s (count_of 1 earlier) (suc i)
    step f k = class_later s earlier f i (k f.on (rest_none s earlier f e) (omega (arith, rest_classes s earlier f)))

-- a rank, by the first class
module _ (s : List ℕ) (earlier : List Record) (f : FrontIs s earlier 2 12) (c i : ℕ) (r : rank_in (records_of s) c ≡ suc i) {P : Type 0} where
  rank_cases : (i ≡ 0 → id_at s 1 ≡ c → P) → (0 < i → rank_in (records_of (drop 12 s)) c ≡ i → P) → P
  rank_cases at_first at_later = go (is_class c (front_of (front_record s))) refl
    where
      all : rank_in (front_record s ∷ records_of (drop 12 s)) c ≡ suc i
      all = sym (ap (λ (z : List Record). rank_in z c) f.cons) ∙ r

      go : (b : Bool) → is_class c (front_of (front_record s)) ≡ b → P
      go true q =
          let z = rank_first c (front_record s) (records_of (drop 12 s)) q in
          at_first (omega (arith, all)) (sym (first_one s earlier f) ∙ class_one c (front_record s) q)
      go false q =
          let h : has_class c (records_of (drop 12 s)) ≡ true = sym (has_later c (front_record s) (records_of (drop 12 s)) q) ∙ ranked-has c i _ all in
          let z = rank_later c (front_record s) (records_of (drop 12 s)) q f.kind h in
          let p = rank_some c (records_of (drop 12 s)) h in
          at_later (omega (arith, all)) (omega (arith, all))

-- the class of a rank, and where its record begins, where the bytes begin at byte p of a table
record Named (s : List ℕ) (c i : ℕ) : Type 0 where
  is : id_at s (12 * i + 1) ≡ c
  first : (p : ℕ) → first_in 2 c 0 p (records_of s) ≡ suc (p + 12 * i)

module _ (s : List ℕ) (earlier : List Record) (f : FrontIs s earlier 2 12) (c : ℕ) where
  named_first : id_at s 1 ≡ c → Named s c 0
  named_first e =
      record { is = e; first = λ p. ap (first_in 2 c 0 p) f.cons ∙ first_yes 2 c 0 p (front_record s) _ found ∙ ap (λ (z : ℕ). suc z) (plus p) }
    where
      plus : (p : ℕ) → p ≡ p + 12 * zero
      plus p = omega arith

      found : is_of 2 c 0 (front_of (front_record s)) ≡ true
      found = rw (f.kind, first_one s earlier f, e, eq-eqb c c refl)

  named_later : (i : ℕ) → rank_in (records_of (drop 12 s)) c ≡ suc i → Named (drop 12 s) c i → Named s c (suc i)
  named_later i r h =
      record {
        is = ap (id_at s) sum ∙ sym (drop_id s 12 (12 * i + 1)) ∙ h.is;
        first = λ p. ap (first_in 2 c 0 p) f.cons ∙ first_no 2 c 0 p (front_record s) _ apart
            ∙ ap (λ (z : ℕ). first_in 2 c 0 (p + z) (records_of (drop 12 s))) room ∙ h.first (p + 12) ∙ ap (λ (z : ℕ). suc z) (places p);
      }
    where
      sum : 12 * suc i + 1 ≡ 12 + (12 * i + 1)
      sum = omega arith

      places : (p : ℕ) → p + 12 + 12 * i ≡ p + 12 * suc i
      places p = omega arith

      room : length (front_record s) ≡ 12
      room = length-take (front_of s).len s ∙ omega (arith, f.len, f.long)

      apart : is_of 2 c 0 (front_of (front_record s)) ≡ false
      apart = is_class_lem c (front_record s) ∙ later_class s earlier f c (ranked-has c i _ r)

class_named : (i : ℕ) (s : List ℕ) (earlier : List Record) → CleanFrom earlier (records_of s) → count_of 1 (records_of s) ≡ 0 → (c : ℕ)
    → rank_in (records_of s) c ≡ suc i → Named s c i
class_named zero s earlier c e x r = step (kind_front 2 12 class_fits s earlier c (none_lower s e) (omega (arith, rank_low (records_of s) x, r)))
  where
    step : FrontIs s earlier 2 12 → Named s x 0
    step f = rank_cases s earlier f x 0 r {P = Named s x 0} (λ _ z. named_first s earlier f x z) (λ l _. absurd (omega arith))
class_named (suc i) s earlier c e x r =
    step (kind_front 2 12 class_fits s earlier c (none_lower s e) (omega (arith, rank_low (records_of s) x, r))) (λ a b d. class_named i (drop 12 s) (front_record s ∷ earlier) a b x d)
  where
    step : FrontIs s earlier 2 12
        → (CleanFrom (front_record s ∷ earlier) (records_of (drop 12 s)) → count_of 1 (records_of (drop 12 s)) ≡ 0 → rank_in (records_of (drop 12 s)) x ≡ suc i
        → Named (drop 12 s) x i)
        → Named s x (suc i)
    step f k =
        rank_cases s earlier f x (suc i) r {P = Named s x (suc i)} (λ z _. absurd (omega arith))
        (λ _ z. named_later s earlier f x i z (k f.on (rest_none s earlier f e) z))

-- ---- a record's ids, where it begins at byte p of a table
module _ (t : List ℕ) (p : ℕ) (own : front_of (front_record (drop p t)) ≡ front_of (drop p t)) (kind : (front_of (drop p t)).kind ≡ 2)
    (len : (front_of (drop p t)).len ≡ 12) where
  own_id : (i : ℕ) → i + 2 ≤ 12 → id_at (front_record (drop p t)) i ≡ id_at t (p + i)
  own_id i l =
      let b : get_or (front_record (drop p t)) i 0 ≡ get_or (drop p t) i 0 = get_or-take (front_of (drop p t)).len (drop p t) i 0 (omega (arith, len)) in
      let d : get_or (front_record (drop p t)) (i + 1) 0 ≡ get_or (drop p t) (i + 1) 0
      = get_or-take (front_of (drop p t)).len (drop p t) (i + 1) 0 (omega (arith, len)) in
      (λ j. b j + 256 * d j) ∙ drop_id t p i

  super_id : (front_of (front_record (drop p t))).two ≡ id_at t (p + 3)
  super_id = ap (λ (x : Front). x.two) own ∙ (head_ids (drop p t) (omega (arith, kind))).1 ∙ drop_id t p 3

  -- they are among those that are examined
  examined : Examined (drop p t) (front_of (drop p t))
  examined = subst (Examined (drop p t)) (sym by_class) (class_examined (drop p t))
    where
      by_class : front_of (drop p t) ≡ class_head (drop p t)
      by_class = head_by_lem (drop p t) 2 (omega arith) kind ∙ (unfold head_by choose in refl)

  module _ (n : ℕ) (d : id_defined (front_of (drop p t)).top n ≡ true) where
    defined_id : (id : ℕ) → (id ≡ no_id → ⊥) → or_none id ≤ (front_of (drop p t)).top → id < 40 + n
    defined_id id a l =
        let e : or_none id ≡ id = unfold or_none in choose_no (eqb id no_id) 0 id (ne_eqb _ _ a) in
        omega (arith, ltb-true (front_of (drop p t)).top (first_table_id + n) d)

    super_id_defined : (id_at t (p + 3) ≡ no_id → ⊥) → id_at t (p + 3) < 40 + n
    super_id_defined a = defined_id (id_at t (p + 3)) a (subst (λ (x : ℕ). or_none x ≤ (front_of (drop p t)).top) two (examined.two kind))
      where
        two : (front_of (drop p t)).two ≡ id_at t (p + 3)
        two = (head_ids (drop p t) (omega (arith, kind))).1 ∙ drop_id t p 3

    first_id_defined : (id_at t (p + 5) ≡ no_id → ⊥) → id_at t (p + 5) < 40 + n
    first_id_defined a =
        defined_id (id_at t (p + 5)) a (subst (λ (x : ℕ). or_none x ≤ (front_of (drop p t)).top) (drop_id t p 5) (examined.first_interface kind))

    second_id_defined : (id_at t (p + 7) ≡ no_id → ⊥) → id_at t (p + 7) < 40 + n
    second_id_defined a =
        defined_id (id_at t (p + 7)) a (subst (λ (x : ℕ). or_none x ≤ (front_of (drop p t)).top) (drop_id t p 7) (examined.second_interface kind))

-- ---- the classes of an accepted table
module _ (t : List ℕ) (e : table_fault t ≡ 0) where
  names_past : Past t [] (name_count (records_of t))
  names_past = past (name_count (records_of t)) t [] (accepted_clean t e) (same_count 1 (records_of t))

  names_before : count_of 1 names_past.before ≡ name_count (records_of t)
  names_before = let z : count_of 1 [] ≡ 0 = unfold count_of in refl in omega (arith, names_past.names)

  classes_behind : count_of 2 (records_of (drop (26 * name_count (records_of t)) t)) ≡ (symbols_of t).classes
  classes_behind = sym names_past.classes ∙ classes_told (records_of t)

  here-place : (i : ℕ) → drop (12 * i) (drop (26 * name_count (records_of t)) t) ≡ drop (class_start t i) t
  here-place i = drop-drop (12 * i) (26 * name_count (records_of t)) t

  here-class : (i : ℕ) → id_at (drop (26 * name_count (records_of t)) t) (12 * i + 1) ≡ class_at t i
  here-class i = drop_id t (26 * name_count (records_of t)) (12 * i + 1) ∙ ap (id_at t) sum
    where
      sum : 26 * name_count (records_of t) + (12 * i + 1) ≡ 26 * name_count (records_of t) + 12 * i + 1
      sum = omega arith

  module _ (i : ℕ) (l : i < (symbols_of t).classes) where
    behind : ClassHere (drop (26 * name_count (records_of t)) t) (count_of 1 names_past.before) i
    behind = class_here i (drop (26 * name_count (records_of t)) t) names_past.before names_past.clean names_past.none (omega (arith, classes_behind))

    class_own : front_of (front_record (drop (class_start t i) t)) ≡ front_of (drop (class_start t i) t)
    class_own = subst (λ (z : List ℕ). front_of (front_record z) ≡ front_of z) (here-place i) behind.own

    class_kind : (front_of (drop (class_start t i) t)).kind ≡ 2
    class_kind = ap (λ (z : List ℕ). (front_of z).kind) (sym (here-place i)) ∙ behind.kind

    class_len : (front_of (drop (class_start t i) t)).len ≡ 12
    class_len = ap (λ (z : List ℕ). (front_of z).len) (sym (here-place i)) ∙ behind.len

    class_defined : id_defined (front_of (drop (class_start t i) t)).top (name_count (records_of t)) ≡ true
    class_defined = sym (λ j. id_defined (front_of (here-place i j)).top (names_before j)) ∙ behind.defined

    class_ranked : rank_of t (class_at t i) ≡ suc i
    class_ranked =
        ap (λ (c : ℕ). rank_in (records_of t) c) (sym (here-class i)) ∙ names_past.ranks (id_at (drop (26 * name_count (records_of t)) t) (12 * i + 1)) ∙ behind.rank

    class_same : records_with 2 (class_at t i) 0 (records_of t) ≡ front_record (drop (class_start t i) t) ∷ behind.more
    class_same =
        ap (λ (c : ℕ). records_with 2 c 0 (records_of t)) (sym (here-class i)) ∙ names_past.same (id_at (drop (26 * name_count (records_of t)) t) (12 * i + 1))
        ∙ behind.same ∙ ap (λ (z : List ℕ). front_record z ∷ behind.more) (here-place i)

    class_super : (symbols_of t).super_of (class_at t i) ≡ id_at t (class_start t i + 3)
    class_super = sym (super_told (records_of t) (class_at t i)) ∙ ap super_in class_same ∙ super_id t (class_start t i) class_own class_kind class_len

    class_interface_1 : (symbols_of t).first_interface_of (class_at t i) ≡ id_at t (class_start t i + 5)
    class_interface_1 =
        sym (first_interface_told (records_of t) (class_at t i)) ∙ ap first_interface_in class_same
        ∙ own_id t (class_start t i) class_own class_kind class_len 5 (omega arith)

    class_interface_2 : (symbols_of t).second_interface_of (class_at t i) ≡ id_at t (class_start t i + 7)
    class_interface_2 =
        sym (second_interface_told (records_of t) (class_at t i)) ∙ ap second_interface_in class_same
        ∙ own_id t (class_start t i) class_own class_kind class_len 7 (omega arith)

  class_is : (c i : ℕ) → rank_of t c ≡ suc i → Named (drop (26 * name_count (records_of t)) t) c i
  class_is c i r =
      class_named i (drop (26 * name_count (records_of t)) t) names_past.before names_past.clean names_past.none c (sym (names_past.ranks c) ∙ r)

  pub class_found : (c i : ℕ) → rank_of t c ≡ suc i → class_at t i ≡ c
  class_found c i r = sym (here-class i) ∙ (class_is c i r).is

  -- a parent, by a lookup `find` that reads it at byte k of a class record
  module _ (find : ℕ → ℕ) (k : ℕ) (reads : (i : ℕ) → i < (symbols_of t).classes → find (class_at t i) ≡ id_at t (class_start t i + k))
      (lower : (c : ℕ) → (find c ≡ no_id → ⊥) → rank_of t (find c) < rank_of t c)
      (defined : (i : ℕ) → i < (symbols_of t).classes → (id_at t (class_start t i + k) ≡ no_id → ⊥)
      → id_at t (class_start t i + k) < 40 + name_count (records_of t)) where
    parent-defined : (c : ℕ) → (find c ≡ no_id → ⊥) → find c < 40 + name_count (records_of t)
    parent-defined c n = go (rank_of t c) refl
      where
        go : (r : ℕ) → rank_of t c ≡ r → find c < 40 + name_count (records_of t)
        go zero q = absurd (omega (arith, lower c n))
        go (suc i) q =
            let l : i < (symbols_of t).classes = omega (arith, class_rank t c) in
            let z : find c ≡ id_at t (class_start t i + k) = ap find (sym (class_found c i q)) ∙ reads i l in
            omega (arith, defined i l (λ y. n (z ∙ y)))

  -- one of the three
  module _ (c p : ℕ) {P : Type 0} where
    by_parent : is_parent (symbols_of t) c p ≡ true
        → ((find : ℕ → ℕ) → find c ≡ p → (find c ≡ no_id → ⊥) → ((d : ℕ) → (find d ≡ no_id → ⊥) → rank_of t (find d) < rank_of t d)
        → ((d : ℕ) → (find d ≡ no_id → ⊥) → find d < 40 + name_count (records_of t)) → P)
        → P
    by_parent h k = go (eqb p no_id) refl (eqb ((symbols_of t).super_of c) p) refl (eqb ((symbols_of t).first_interface_of c) p) refl h
      where
        given : (find : ℕ → ℕ) → eqb (find c) p ≡ true → eqb p no_id ≡ false → find c ≡ no_id → ⊥
        given find q n z = eqb-false _ _ n (sym (eqb-true _ _ q) ∙ z)

        go : (z : Bool) → eqb p no_id ≡ z → (a : Bool) → eqb ((symbols_of t).super_of c) p ≡ a → (b : Bool) → eqb ((symbols_of t).first_interface_of c) p ≡ b
            → not z && (a || (b || eqb ((symbols_of t).second_interface_of c) p)) ≡ true → P
        go true n a x b y w = absurd (false≢true w)
        go false n true x b y w =
            k (symbols_of t).super_of (eqb-true _ _ x) (given (symbols_of t).super_of x n) (super_lower t e)
            (parent-defined (symbols_of t).super_of 3 class_super (super_lower t e)
            (λ i l. super_id_defined t (class_start t i) (class_own i l) (class_kind i l) (class_len i l) _ (class_defined i l)))
        go false n false x true y w =
            k (symbols_of t).first_interface_of (eqb-true _ _ y) (given (symbols_of t).first_interface_of y n) (first_lower t e)
            (parent-defined (symbols_of t).first_interface_of 5 class_interface_1 (first_lower t e)
            (λ i l. first_id_defined t (class_start t i) (class_own i l) (class_kind i l) (class_len i l) _ (class_defined i l)))
        go false n false x false y w =
            k (symbols_of t).second_interface_of (eqb-true _ _ w) (given (symbols_of t).second_interface_of w n) (second_lower t e)
            (parent-defined (symbols_of t).second_interface_of 7 class_interface_2 (second_lower t e)
            (λ i l. second_id_defined t (class_start t i) (class_own i l) (class_kind i l) (class_len i l) _ (class_defined i l)))

  -- ---- where its record begins
  class_place : (c i : ℕ) → rank_of t c ≡ suc i → first_with t 2 c 0 ≡ suc (class_start t i)
  class_place c i r = names_past.firsts c 0 ∙ (class_is c i r).first (0 + 26 * name_count (records_of t)) ∙ ap (λ (z : ℕ). suc (z + 12 * i)) plus
    where
      plus : 0 + 26 * name_count (records_of t) ≡ 26 * name_count (records_of t)
      plus = omega arith

  pub number_none : (c : ℕ) → None ≡ found_at (first_with t 2 c 0) → None ≡ number_by (rank_of t c)
  number_none c f = go (rank_of t c) refl
    where
      go : (r : ℕ) → rank_of t c ≡ r → None ≡ number_by r
      go zero q = refl
      go (suc i) q = absurd (false≢true (ap is_some (f ∙ ap found_at (class_place c i q))))

  module _ (c : ℕ) (p : Place) (f : Some p ≡ found_at (first_with t 2 c 0)) (h : HereIs t (records_with 2 c 0 (records_of t)) 2 c 0 p) where
    place : (x y : Place) → Some x ≡ Some y → x.at ≡ y.at
    place x y q = cc

    module _ {P : Type 0} where
      by_number : ((i : ℕ) → rank_of t c ≡ suc i → p.at ≡ class_start t i → P) → P
      by_number k = go (rank_of t c) refl
        where
          go : (r : ℕ) → rank_of t c ≡ r → P
          go zero q = absurd (false≢true (ap non_empty (sym (no_record c (records_of t) (rankless c (records_of t) q)) ∙ h.first)))
          go (suc i) q = k i q (place p (record { at = class_start t i }) (f ∙ ap found_at (class_place c i q)))

    pub number_place : 26 * name_count (records_of t) ≤ p.at
    number_place = by_number (λ i q a. omega (arith, a))

    pub number_some : Some ((p.at - 26 * name_count (records_of t)) / 12) ≡ number_by (rank_of t c)
    number_some = by_number (λ i q a. divided i a ∙ ap number_by (sym q))
      where
        divided : (i : ℕ) → p.at ≡ class_start t i → Some ((p.at - 26 * name_count (records_of t)) / 12) ≡ Some i
        divided i a =
            let d : p.at - 26 * name_count (records_of t) ≡ i * 12 + 0 = omega (arith, a) in
            ap (λ (z : ℕ). Some (z / 12)) d ∙ ap (λ (z : ℕ). Some z) (div-mul-add i 12 0 (omega arith))

pub class_run : (t : List ℕ) → table_fault t ≡ 0 → ClassRun t
class_run t e =
    record {
      long = long (symbols_of t).classes refl;
      named = class_found t e;
      ranked = class_ranked t e;
      super = class_super t e;
      first = class_interface_1 t e;
      second = class_interface_2 t e;
      lower = λ c p h. by_parent t e c p h (λ find q n lower defined. subst (λ (x : ℕ). rank_of t x < rank_of t c) q (lower c n));
      low = class_rank t;
      defined = λ c p h. by_parent t e c p h (λ find q n lower defined. subst (λ (x : ℕ). x < 40 + name_count (records_of t)) q (defined c n));
    }
  where
    long : (n : ℕ) → (symbols_of t).classes ≡ n → 26 * name_count (records_of t) + 12 * (symbols_of t).classes ≤ length t
    long zero q = omega (arith, (names_past t e).long)
    long (suc i) q =
        let b = behind t e i (omega (arith, q)) in
        omega (arith, b.long, (names_past t e).long, length-drop (26 * name_count (records_of t)) t, q)
