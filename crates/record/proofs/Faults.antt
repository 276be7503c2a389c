-- The number of a table, record by record.
use Prim.Native.Nat.{ℕ, ◌≤◌, ◌<◌}
use borrow.Author.Tests.{eqb-true, eq-eqb, ne_eqb, lt-ltb, le-ltb}
use lib.Dec.{ltb, eqb}
use lib.ListN.{length}
use mathlib.Core.Bool.{Bool, true, false, not, ◌&&◌, ◌||◌, true≢false}
use mathlib.Core.List.{List, [], ◌∷◌}
use mathlib.Core.Path.{◌≡◌, refl, sym, ap, ◌∙◌}
use Rattle.ty.specs.Choose.{choose}
use Rattle.record.proofs.NoFault.{not_taken, not-false}
use Rattle.record.proofs.Laid.{same_first}
use Rattle.record.specs.Inside.HeadFault.{id_missing, some_parent, parent_missing, own_fault, key_fault, is_builtin_name, has_key, has_class, last_kind, parent_late, head_fault, found_from}
use Rattle.record.specs.Inside.Front.{front_of}
use Rattle.record.specs.Inside.FrontRecord.{count_of}
use Rattle.record.specs.TableRefused.{table_fault}
use Rattle.record.specs.Table.{Record, records_of}
use Rattle.ty.proofs.Choice.{and_left, and_right, choose_yes, choose_no}
use Rattle.ty.specs.Name.{no_id, id_defined}

module _ (earlier : List Record) (r : Record) (rs : List Record) where
  pub fault_stop : (head_fault earlier r (r ∷ rs) ≡ 0 → ⊥) → found_from earlier (r ∷ rs) ≡ head_fault earlier r (r ∷ rs)
  unfolding found_from choose
  fault_stop h = rw (ne_eqb _ _ h)

  pub fault_on : head_fault earlier r (r ∷ rs) ≡ 0 → found_from earlier (r ∷ rs) ≡ found_from (r ∷ earlier) rs
  unfolding found_from choose
  fault_on h = rw (eq-eqb _ _ h)

-- the number of a record in its two parts
module _ (earlier : List Record) (r : Record) (rest : List Record) where
  parts : (m k d p s e : Bool) (b h : Bool)
      → ◌≡◌ {A = ℕ} (choose m 2 (choose k 3 (choose d 4 (choose (p || (b || h)) 5 (choose s 6 (choose e 7 0))))))
      (choose (eqb (choose m 2 (choose k 3 (choose d 4 (choose (p || b) 5 0)))) 0) (choose h 5 (choose s 6 (choose e 7 0)))
      (choose m 2 (choose k 3 (choose d 4 (choose (p || b) 5 0)))))
  unfolding choose
  parts true k d p s e b h = refl
  parts false true d p s e b h = refl
  parts false false true p s e b h = refl
  parts false false false true s e b h = refl
  parts false false false false s e true h = refl
  parts false false false false s e false h = refl

  split : head_fault earlier r rest ≡ choose (eqb (own_fault earlier r) 0) (key_fault earlier r rest) (own_fault earlier r)
  unfolding head_fault own_fault key_fault
  split = parts (front_of r).malformed (ltb (front_of r).kind (last_kind earlier)) (not (id_defined (front_of r).top (count_of 1 earlier))) (front_of r).repeated
      (parent_late earlier r rest) (front_of r).error (is_builtin_name r) (has_key r earlier)

  pub own-number : (own_fault earlier r ≡ 0 → ⊥) → head_fault earlier r rest ≡ own_fault earlier r
  own-number h = split ∙ choose_no _ _ _ (ne_eqb _ _ h)

  pub key_number : own_fault earlier r ≡ 0 → head_fault earlier r rest ≡ key_fault earlier r rest
  key_number h = split ∙ choose_yes _ _ _ (eq-eqb _ _ h)

  -- what holds of a record that draws no number by itself
  pub own-clean : own_fault earlier r ≡ 0 → ((front_of r).malformed ≡ false) × (id_defined (front_of r).top (count_of 1 earlier) ≡ true)
  unfolding own_fault
  own-clean e =
      let a = not_taken (front_of r).malformed 1 _ e in
      let b = not_taken (ltb (front_of r).kind (last_kind earlier)) 2 _ a.1 in
      let c = not_taken (not (id_defined (front_of r).top (count_of 1 earlier))) 3 _ b.1 in
      (a.0, not-false (id_defined (front_of r).top (count_of 1 earlier)) c.0)

  pub own_rises : own_fault earlier r ≡ 0 → ltb (front_of r).kind (last_kind earlier) ≡ false
  unfolding own_fault
  own_rises e =
      let a = not_taken (front_of r).malformed 1 _ e in
      (not_taken (ltb (front_of r).kind (last_kind earlier)) 2 _ a.1).0

  pub key_clean : key_fault earlier r rest ≡ 0 → has_key r earlier ≡ false
  unfolding key_fault
  key_clean e = (not_taken (has_key r earlier) 4 _ e).0

  -- number 6: a missing parent has a later record
  pub late_split : parent_late earlier r rest ≡ (eqb (front_of r).kind 2 && some_parent (λ id. id_missing earlier id && has_class id rest) r)
  unfolding parent_late
  late_split = refl

-- a record with a missing parent is a class
pub missing_class : (earlier : List Record) (r : Record) → parent_missing earlier r ≡ true → ((front_of r).kind ≡ 2) × (some_parent (id_missing earlier) r ≡ true)
unfolding parent_missing
missing_class earlier r e =
    let k = and_left (eqb (front_of r).kind 2) (some_parent (id_missing earlier) r) e in
    (eqb-true _ _ k, and_right (eqb (front_of r).kind 2) (some_parent (id_missing earlier) r) e)

-- a missing id is given
pub missing_given : (earlier : List Record) (id : ℕ) → id_missing earlier id ≡ true → id ≡ no_id → ⊥
missing_given earlier id e z =
    true≢false (sym (and_left (not (eqb id no_id)) (not (has_class id earlier)) e) ∙ ap not (eq-eqb _ _ z))

pub short_fault : (t : List ℕ) → length t ≤ 60000 → table_fault t ≡ found_from [] (records_of t)
unfolding table_fault choose
short_fault t h = rw (le-ltb 60000 (length t) h) (sym (same_first [] (records_of t)))

pub long_fault : (t : List ℕ) → 60000 < length t → table_fault t ≡ 1
unfolding table_fault choose
long_fault t h = rw (lt-ltb 60000 (length t) h)
