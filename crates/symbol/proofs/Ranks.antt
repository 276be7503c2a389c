-- In an accepted table superclasses and interfaces do not go round: each class has a rank of at most the number of classes, and its superclass and its
-- interfaces, if it has them, have lower ones.
use Prim.Native.Nat.{ℕ, suc, ◌+◌, ◌-◌, ◌≤◌, ◌<◌}
use borrow.Author.Tests.{eqb-false, ne_eqb}
use lib.Dec.{eqb}
use mathlib.Core.Bool.{Bool, true, false, not, ◌&&◌, ◌||◌, true≢false, false≢true}
use mathlib.Core.List.{List, [], ◌∷◌}
use mathlib.Core.Logic.{◌⊎◌, inl, inr, ⊎_elim}
use mathlib.Core.Path.{◌≡◌, refl, sym, ap, ◌∙◌, subst}
use native.Mathlib.Omega.{arith}
use Rattle.symbol.proofs.LaidLookups.{classes_told, super_told, first_interface_told, second_interface_told}
use Rattle.record.proofs.Accepts.{CleanFrom, accepted_clean}
use Rattle.record.specs.Inside.Front.{front_of}
use Rattle.record.specs.Inside.Keyed.{is_of, records_with}
use Rattle.symbol.specs.Inside.FoundSymbols.{super_in, first_interface_in, second_interface_in}
use Rattle.record.specs.Inside.HeadFault.{is_class, has_class, first_interface_at, second_interface_at, some_parent, id_late, parent_late}
use Rattle.record.specs.Inside.FrontRecord.{count_of}
use Rattle.symbol.specs.Inside.ClassRun.{classes_from, rank_in, rank_of}
use Rattle.symbol.specs.Lookup.{symbols_of}
use Rattle.record.specs.TableRefused.{table_fault}
use Rattle.record.specs.Table.{Record, records_of}
use Rattle.record.proofs.NoFault.{or_false}
use Rattle.ty.proofs.Choice.{and_left}
use Rattle.ty.specs.Choose.{choose}
use Rattle.ty.specs.Name.{no_id}

-- ---- small laws
pub here : (c : ℕ) (r : Record) (rs : List Record) → is_class c (front_of r) ≡ true → classes_from c (r ∷ rs) ≡ suc (count_of 2 rs)
unfolding classes_from choose
here c r rs e = rw e

pub there : (c : ℕ) (r : Record) (rs : List Record) → is_class c (front_of r) ≡ false → classes_from c (r ∷ rs) ≡ classes_from c rs
unfolding classes_from choose
there c r rs e = rw e

counted : (c : ℕ) (r : Record) (rs : List Record) → is_class c (front_of r) ≡ true → count_of 2 (r ∷ rs) ≡ suc (count_of 2 rs)
unfolding count_of choose
counted c r rs e = go (eqb (front_of r).kind 2) e
  where
    go : (b : Bool) → b && eqb (front_of r).one c ≡ true → choose b 1 0 + count_of 2 rs ≡ suc (count_of 2 rs)
    go true h = omega arith
    go false h = absurd (false≢true h)

pub more : (r : Record) (rs : List Record) → count_of 2 rs ≤ count_of 2 (r ∷ rs)
unfolding count_of
more r rs = omega arith

pub few : (c : ℕ) (rs : List Record) → classes_from c rs ≤ count_of 2 rs
unfolding classes_from count_of
few c [] = omega arith
few c (r ∷ rs) = go (is_class c (front_of r)) refl (few c rs)
  where
    go : (b : Bool) → is_class c (front_of r) ≡ b → classes_from c rs ≤ count_of 2 rs → classes_from c (r ∷ rs) ≤ count_of 2 (r ∷ rs)
    go true e h = rw (here c r rs e, counted c r rs e) (omega arith)
    go false e h = rw (there c r rs e) (omega (arith, more r rs))

pub some : (c : ℕ) (rs : List Record) → has_class c rs ≡ true → 0 < classes_from c rs
unfolding has_class
some c [] e = absurd (false≢true e)
some c (r ∷ rs) e = go (is_class c (front_of r)) refl e (some c rs)
  where
    go : (b : Bool) → is_class c (front_of r) ≡ b → b || has_class c rs ≡ true → (has_class c rs ≡ true → 0 < classes_from c rs) → 0 < classes_from c (r ∷ rs)
    go true i h k = rw (here c r rs i) (omega arith)
    go false i h k = rw (there c r rs i) (k h)

-- the record of a class is the first that a lookup finds
pub is_class_lem : (c : ℕ) (r : Record) → is_of 2 c 0 (front_of r) ≡ is_class c (front_of r)
is_class_lem c r = go (eqb (front_of r).kind 2) (eqb (front_of r).one c)
  where
    go : (a b : Bool) → a && (b && true) ≡ a && b
    go true true = refl
    go true false = refl
    go false b = refl

pub with_here : (c : ℕ) (r : Record) (rs : List Record) → is_class c (front_of r) ≡ true → records_with 2 c 0 (r ∷ rs) ≡ r ∷ records_with 2 c 0 rs
unfolding records_with choose
with_here c r rs e = rw (is_class_lem c r ∙ e)

pub with_there : (c : ℕ) (r : Record) (rs : List Record) → is_class c (front_of r) ≡ false → records_with 2 c 0 (r ∷ rs) ≡ records_with 2 c 0 rs
unfolding records_with choose
with_there c r rs e = rw (is_class_lem c r ∙ e)

pub no_record : (c : ℕ) (rs : List Record) → has_class c rs ≡ false → records_with 2 c 0 rs ≡ []
unfolding has_class records_with
no_record c [] e = refl
no_record c (r ∷ rs) e = go (is_class c (front_of r)) refl e (no_record c rs)
  where
    go : (b : Bool) → is_class c (front_of r) ≡ b → b || has_class c rs ≡ false → (has_class c rs ≡ false → records_with 2 c 0 rs ≡ []) → records_with 2 c 0 (r ∷ rs) ≡ []
    go true i h k = absurd (true≢false h)
    go false i h k = with_there c r rs i ∙ k h

-- ---- what an accepted record says of an id among its superclass and interfaces
earlier_or_none : (n a b : Bool) → n ≡ false → (not n && not a) && b ≡ false → (a ≡ true) ⊎ (b ≡ false)
earlier_or_none n true b m h = inl refl
earlier_or_none false false b m h = inr h
earlier_or_none true false b m h = absurd (true≢false m)

-- the parent s of the class c, of which the record stands in rest: it stands before rest, it does not stand in rest, or it stands before c
abbrev Stands : List Record → ℕ → ℕ → List Record → Type 0
Stands earlier c s rest = (has_class s earlier ≡ true) ⊎ ((has_class s rest ≡ false) ⊎ (classes_from c rest < classes_from s rest))

-- s stands at the front
at_front : (earlier : List Record) (c s : ℕ) (r : Record) (rs : List Record) → is_class c (front_of r) ≡ false → is_class s (front_of r) ≡ true → Stands earlier c s (r ∷ rs)
at_front earlier c s r rs i j = inr (inr (rw (here s r rs j, there c r rs i) (omega (arith, few c rs))))

-- one record further, which is not c's
back : (earlier : List Record) (c s : ℕ) (r : Record) (rs : List Record) → is_class c (front_of r) ≡ false → Stands (r ∷ earlier) c s rs → Stands earlier c s (r ∷ rs)
unfolding has_class
back earlier c s r rs i h = go (is_class s (front_of r)) refl
  where
    go : (b : Bool) → is_class s (front_of r) ≡ b → Stands earlier c s (r ∷ rs)
    go true j = at_front earlier c s r rs i j
    go false j =
        ⊎_elim (λ a. inl (sym (ap (λ (b : Bool). b || has_class s earlier) j) ∙ a))
        (⊎_elim (λ a. inr (inl (ap (λ (b : Bool). b || has_class s rs) j ∙ a))) (λ a. inr (inr (rw (there s r rs j, there c r rs i) a)))) h

-- a superclass or interface: what the first record of a class says, and what that is of a record; an accepted record's is not late
pub record ParentField (of : List Record → ℕ) (id : Record → ℕ) : Type 0 where
  pub empty : of [] ≡ no_id
  pub first : (r : Record) (rs : List Record) → of (r ∷ rs) ≡ id r
  pub timely : (earlier : List Record) (r : Record) (rest : List Record) → eqb (front_of r).kind 2 ≡ true → parent_late earlier r rest ≡ false
      → id_late earlier rest (id r) ≡ false

none_late : (earlier : List Record) (r : Record) (rest : List Record) → eqb (front_of r).kind 2 ≡ true → parent_late earlier r rest ≡ false
    → (id_late earlier rest (front_of r).two ≡ false)
    × ((id_late earlier rest (first_interface_at r) ≡ false) × (id_late earlier rest (second_interface_at r) ≡ false))
unfolding parent_late
none_late earlier r rest k e =
    let a = or_false _ _ (sym (ap (λ (b : Bool). b && some_parent (id_late earlier rest) r) k) ∙ e) in
    (a.0, or_false _ _ a.1)

superclass_parent : ParentField super_in (λ r. (front_of r).two)
superclass_parent = record { empty = refl; first = λ r rs. refl; timely = λ earlier r rest k e. (none_late earlier r rest k e).0 }

first_interface_parent : ParentField first_interface_in first_interface_at
first_interface_parent = record { empty = refl; first = λ r rs. refl; timely = λ earlier r rest k e. (none_late earlier r rest k e).1.0 }

second_interface_parent : ParentField second_interface_in second_interface_at
second_interface_parent = record { empty = refl; first = λ r rs. refl; timely = λ earlier r rest k e. (none_late earlier r rest k e).1.1 }

module _ (of : List Record → ℕ) (id : Record → ℕ) (field : ParentField of id) where
  stands : (earlier : List Record) (c : ℕ) (rest : List Record) → CleanFrom earlier rest → (of (records_with 2 c 0 rest) ≡ no_id → ⊥)
      → Stands earlier c (of (records_with 2 c 0 rest)) rest
  unfolding records_with
  stands earlier c [] e n = absurd (n field.empty)
  stands earlier c (r ∷ rs) e n = go (is_class c (front_of r)) refl (stands (r ∷ earlier) c rs e.1)
    where
      go : (b : Bool) → is_class c (front_of r) ≡ b
          → ((of (records_with 2 c 0 rs) ≡ no_id → ⊥) → Stands (r ∷ earlier) c (of (records_with 2 c 0 rs)) rs)
          → Stands earlier c (of (records_with 2 c 0 (r ∷ rs))) (r ∷ rs)
      go true i k =
          let q : of (records_with 2 c 0 (r ∷ rs)) ≡ id r = ap of (with_here c r rs i) ∙ field.first r (records_with 2 c 0 rs) in
          let l = field.timely earlier r (r ∷ rs) (and_left (eqb (front_of r).kind 2) (eqb (front_of r).one c) i) e.0.parent in
          subst (λ (s : ℕ). Stands earlier c s (r ∷ rs)) (sym q)
          (⊎_elim (λ a. inl a) (λ a. inr (inl a))
          (earlier_or_none (eqb (id r) no_id) (has_class (id r) earlier) (has_class (id r) (r ∷ rs)) (ne_eqb _ _ (λ z. n (q ∙ z))) l))
      go false i k = rw (with_there c r rs i) (back earlier c _ r rs i (k (rw (with_there c r rs i) at n)))

-- ---- the laws
module _ (rs : List Record) where
  pub rank_low : (c : ℕ) → rank_in rs c ≤ count_of 2 rs
  unfolding rank_in choose
  rank_low c = go (has_class c rs) refl
    where
      go : (b : Bool) → has_class c rs ≡ b → rank_in rs c ≤ count_of 2 rs
      go true e = rw e (omega (arith, some c rs e))
      go false e = rw e (omega arith)

  pub rank_of_lem : (c : ℕ) → has_class c rs ≡ true → rank_in rs c ≡ suc (count_of 2 rs) - classes_from c rs
  unfolding rank_in choose
  rank_of_lem c e = rw e

  pub rank_none : (c : ℕ) → has_class c rs ≡ false → rank_in rs c ≡ 0
  unfolding rank_in choose
  rank_none c e = rw e

  module _ (of : List Record → ℕ) (id : Record → ℕ) (field : ParentField of id) where
    has_record : (c : ℕ) → (of (records_with 2 c 0 rs) ≡ no_id → ⊥) → has_class c rs ≡ true
    has_record c n = go (has_class c rs) refl
      where
        go : (b : Bool) → has_class c rs ≡ b → has_class c rs ≡ true
        go true e = e
        go false e = absurd (n (ap of (no_record c rs e) ∙ field.empty))

    rank_falls : CleanFrom [] rs → (c : ℕ) → (of (records_with 2 c 0 rs) ≡ no_id → ⊥) → rank_in rs (of (records_with 2 c 0 rs)) < rank_in rs c
    unfolding has_class
    rank_falls e c n =
        ⊎_elim (λ a. absurd (false≢true a))
        (⊎_elim (λ a. rw (rank_none _ a, rank_of_lem c (has_record c n)) (omega (arith, few c rs))) (λ a. go _ (has_class (of (records_with 2 c 0 rs)) rs) refl a))
        (stands of id field [] c rs e n)
      where
        go : (s : ℕ) (b : Bool) → has_class s rs ≡ b → classes_from c rs < classes_from s rs → rank_in rs s < rank_in rs c
        go s true i a = rw (rank_of_lem s i, rank_of_lem c (has_record c n)) (omega (arith, few s rs, few c rs))
        go s false i a = rw (rank_none s i, rank_of_lem c (has_record c n)) (omega (arith, few c rs))

-- the same of an accepted table
module _ (t : List ℕ) (e : table_fault t ≡ 0) where
  -- of one of a class's superclass and interfaces, by a lookup `find` that finds it
  lower-by : (of : List Record → ℕ) (id : Record → ℕ) → ParentField of id → (find : ℕ → ℕ) → ((c : ℕ) → of (records_with 2 c 0 (records_of t)) ≡ find c)
      → (c : ℕ) → (find c ≡ no_id → ⊥) → rank_of t (find c) < rank_of t c
  lower-by of id field find told c n =
      rw (← told c) (rank_falls (records_of t) of id field (accepted_clean t e) c (λ z. n (sym (told c) ∙ z)))

  pub super_lower : (c : ℕ) → ((symbols_of t).super_of c ≡ no_id → ⊥) → rank_of t ((symbols_of t).super_of c) < rank_of t c
  super_lower = lower-by super_in _ superclass_parent (symbols_of t).super_of (super_told (records_of t))

  pub first_lower : (c : ℕ) → ((symbols_of t).first_interface_of c ≡ no_id → ⊥) → rank_of t ((symbols_of t).first_interface_of c) < rank_of t c
  first_lower = lower-by first_interface_in _ first_interface_parent (symbols_of t).first_interface_of (first_interface_told (records_of t))

  pub second_lower : (c : ℕ) → ((symbols_of t).second_interface_of c ≡ no_id → ⊥) → rank_of t ((symbols_of t).second_interface_of c) < rank_of t c
  second_lower = lower-by second_interface_in _ second_interface_parent (symbols_of t).second_interface_of (second_interface_told (records_of t))

pub class_rank : (t : List ℕ) (c : ℕ) → rank_of t c ≤ (symbols_of t).classes
class_rank t c = omega (arith, rank_low (records_of t) c, classes_told (records_of t))

-- how far one can still climb from class c
unfoldable pub height : List ℕ → ℕ → ℕ
height t c = choose (eqb c no_id) 0 (suc (rank_of t c))

pub super_below : (t : List ℕ) → table_fault t ≡ 0 → (c : ℕ) → (c ≡ no_id → ⊥) → height t ((symbols_of t).super_of c) < height t c
unfolding height choose
super_below t e c n = rw (ne_eqb c no_id n) (go (eqb ((symbols_of t).super_of c) no_id) refl)
  where
    go : (b : Bool) → eqb ((symbols_of t).super_of c) no_id ≡ b → choose b 0 (suc (rank_of t ((symbols_of t).super_of c))) < suc (rank_of t c)
    go true i = omega arith
    go false i = omega (arith, super_lower t e c (eqb-false _ _ i))

pub some_height : (t : List ℕ) (c : ℕ) → (c ≡ no_id → ⊥) → 0 < height t c
unfolding height choose
some_height t c n = rw (ne_eqb c no_id n) (omega arith)

pub height_low : (t : List ℕ) (c : ℕ) → height t c ≤ suc (symbols_of t).classes
unfolding height choose
height_low t c = go (eqb c no_id)
  where
    go : (b : Bool) → choose b 0 (suc (rank_of t c)) ≤ suc (symbols_of t).classes
    go true = omega arith
    go false = omega (arith, class_rank t c)
