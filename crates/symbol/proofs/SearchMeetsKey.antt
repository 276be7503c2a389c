-- A search in the index of the records before a byte tells whether one of them has a key.
use Prim.Native.Nat.{ℕ, ◌%◌, ◌<◌}
use borrow.Author.Tests.{eqb-true}
use lib.Dec.{eqb}
use lib.ListN.{length, drop}
use mathlib.Core.Bool.{Bool, true, false, ◌&&◌}
use mathlib.Core.List.{List}
use mathlib.Core.Path.{◌≡◌, refl, sym, ap, ◌∙◌}
use native.Mathlib.Omega.{arith}
use Rattle.ty.proofs.Choice.{and_left}
use Rattle.index.proofs.Buckets.{list-function}
use Rattle.index.proofs.Earlier.{any_of, any_key, any-class, passed_before, failed_before}
use Rattle.index.proofs.ListSearch.{sits-own}
use Rattle.index.proofs.Paths.{and_true, id_bucket, not-met, passes_key, own_key_in}
use Rattle.record.proofs.SameKeys.{same_kind, function_fresh}
use Rattle.index.proofs.TreeWalks.{search_spot}
use Rattle.index.specs.Inside.TreeWalk.{search_of}
use Rattle.index.proofs.StandingFront.{Standing, standing_own}
use Rattle.symbol.specs.Inside.Asked.{Planted}
use Rattle.record.specs.Inside.Front.{front_of}
use Rattle.record.specs.Inside.HeadFault.{same_key, has_key, is_class, has_class}
use Rattle.record.specs.Inside.FrontRecord.{front_record}
use Rattle.record.specs.Table.{Record, records_of, before}
use Rattle.index.specs.Inside.Index.{list_count, list_in}
use Rattle.index.specs.Inside.Bucket.{key_bucket}
use Rattle.index.specs.Inside.SearchKey.{key_matches, KeyIn, key_at}
use Rattle.index.specs.Inside.Spot.{Open, TakenIs, FreeIs, SpotIs}
use Rattle.index.proofs.Counted.{counted, counted_found}
use Rattle.index.specs.Inside.Found.{Found, found_at}
use Rattle.std.specs.Prelude.{Result, Ok, Err, is_ok, Some, None, is_some}
use Rattle.index.specs.Inside.SearchTree.{TreeMember}
use Rattle.record.specs.Inside.Walk.{CursorAt, Sits, record_at}
use Rattle.record.specs.Inside.Front.{Front}
use Rattle.index.specs.declared.index.Place.{Place}
use Rattle.index.specs.declared.tree.Key.{Key}
use Rattle.index.specs.declared.tree.Key.TheVariants.{Ids}
use Rattle.record.specs.declared.walk.Cursor.{Cursor}

-- an empty entry gives no place
pub none_found : (n : ℕ) (f : Found) → f ≡ found_at n → is_some f ≡ false → n ≡ 0
none_found n f e h = sym (counted_found n) ∙ ap counted (sym e) ∙ go f h
  where
    go : (g : Found) → is_some g ≡ false → counted g ≡ 0
    go None q = refl
    go (Some p) q = cc

module _ (t x : List ℕ) (c : Cursor) (a : CursorAt t c) (g : Planted t x c.at) where
  abbrev sits : Sits t c.at
  sits = record { index = c.index; at = a }

  pub planted_open : Open t x
  planted_open = record { short = g.short; end = c.at; inside = a.inside; tree = g.tree }

  -- a key and its test
  module _ (k : Key) (i : KeyIn t k) (f : Record → Bool) (same : (r : Record) → key_matches t k r ≡ f r) (other : (r : Record) → f r ≡ true → (front_of r).kind ≡ 4 → ⊥) where
    taken-before : (p : Place) → TakenIs t c.at k p → any_of f (before c.index (records_of t)) ≡ true
    taken-before p h = passed_before t f c.at sits p.at h.node.begun.sits h.node.low (sym (same (front_record (drop p.at t))) ∙ h.has)

    free-before : (s : ℕ) → FreeIs t x k s → any_of f (before c.index (records_of t)) ≡ false
    free-before s free = failed_before t f c.at sits none
      where
        none : (q : ℕ) → Sits t q → q < c.at → f (front_record (drop q t)) ≡ false
        none q v l = go (f (front_record (drop q t))) refl
          where
            some : q < length t
            some = omega (arith, l, a.inside)

            node : f (front_record (drop q t)) ≡ true → TreeMember t c.at q
            node z =
                record {
                  begun = record { sits = v; some = some; whole = g.entered.whole q v l };
                  low = l;
                  other = λ d. other (front_record (drop q t)) z (ap (λ (h : Front). h.kind) (sits-own t q v some) ∙ d);
                }

            go : (u : Bool) → f (front_record (drop q t)) ≡ u → f (front_record (drop q t)) ≡ false
            go false z = z
            go true z = absurd (not-met t x c.at g.tree k i s free q (node z) (same (front_record (drop q t)) ∙ z))

  -- ---- a class
  module _ (id : ℕ) where
    class_same : (r : Record) → key_matches t (Ids 2 id 0) r ≡ is_class id (front_of r)
    class_same r = ap (λ (v : Bool). eqb (front_of r).kind 2 && v) (and_true (eqb (front_of r).one id))

    class_other : (r : Record) → is_class id (front_of r) ≡ true → (front_of r).kind ≡ 4 → ⊥
    class_other r e d = omega (arith, eqb-true (front_of r).kind 2 (and_left (eqb (front_of r).kind 2) (eqb (front_of r).one id) e), d)

    pub class-taken : (p : Place) → TakenIs t c.at (Ids 2 id 0) p → true ≡ has_class id (before c.index (records_of t))
    class-taken p h = sym (taken-before (Ids 2 id 0) (omega arith) (λ r. is_class id (front_of r)) class_same class_other p h) ∙ any-class id (before c.index (records_of t))

    pub class-free : (s : ℕ) → FreeIs t x (Ids 2 id 0) s → false ≡ has_class id (before c.index (records_of t))
    class-free s h = sym (free-before (Ids 2 id 0) (omega arith) (λ r. is_class id (front_of r)) class_same class_other s h) ∙ any-class id (before c.index (records_of t))

    pub class_met : (r : Result Place ℕ) → SpotIs t x c.at (Ids 2 id 0) r → is_ok r ≡ has_class id (before c.index (records_of t))
    class_met (Ok q) h = class-taken q h
    class_met (Err s) h = class-free s h

    pub class_searched : (r : Result Place ℕ) (k : ℕ) → r ≡ search_of t x (Ids k id 0) → k ≡ 2 → is_ok r ≡ has_class id (before c.index (records_of t))
    class_searched r k e n =
        class_met r
        (search_spot t x (Ids 2 id 0) planted_open r (e ∙ ap (λ (i : ℕ). search_of t x (Ids i id 0)) n) c.at g.tree)

-- ---- the key of a record
module _ (t x : List ℕ) (c : Cursor) (f : Front) (stands : Standing t c f) (whole : f.malformed ≡ false) (planted : Planted t x c.at) where
  own : f ≡ front_of (record_at t c)
  own = standing_own t c f stands

  pub own_in : KeyIn t (key_at c f)
  own_in = own_key_in t c f stands whole

  pub own_open : Open t x
  own_open = planted_open t x c stands.at planted

  -- a function
  module _ (k : f.kind ≡ 4) where
    is_function : (front_of (record_at t c)).kind ≡ 4
    is_function = sym (ap (λ (z : Front). z.kind) own) ∙ k

    pub list_fresh : false ≡ has_key (record_at t c) (before c.index (records_of t))
    list_fresh = sym (function_fresh (record_at t c) (before c.index (records_of t)) is_function)

    pub list-bucket : key_bucket 4 f.one f.two % list_count (length t) ≡ list_in (length t) (record_at t c)
    list-bucket =
        ap (λ (z : Front). key_bucket 4 z.one z.two % list_count (length t)) own
        ∙ ap (λ (z : ℕ). z % list_count (length t)) (sym (ap (λ (z : ℕ). key_bucket z (front_of (record_at t c)).one (front_of (record_at t c)).two) is_function) ∙ sym (id_bucket (record_at t c) (λ z. omega (arith, is_function, z))))
        ∙ sym (list-function (length t) (record_at t c) is_function)

  -- another record
  module _ (k : f.kind ≡ 4 → ⊥) where
    not-function : (r : Record) → same_key r (record_at t c) ≡ true → (front_of r).kind ≡ 4 → ⊥
    not-function r e d = k (ap (λ (z : Front). z.kind) own ∙ sym (same_kind r (record_at t c) e) ∙ d)

    pub key_taken : (q : Place) → TakenIs t c.at (key_at c f) q → true ≡ has_key (record_at t c) (before c.index (records_of t))
    key_taken q e =
        sym (taken-before t x c stands.at planted (key_at c f) own_in (λ r. same_key r (record_at t c)) (passes_key t c f stands k) not-function q e)
        ∙ any_key (record_at t c) (before c.index (records_of t))

    pub key_free : (s : ℕ) → FreeIs t x (key_at c f) s → false ≡ has_key (record_at t c) (before c.index (records_of t))
    key_free s e =
        sym (free-before t x c stands.at planted (key_at c f) own_in (λ r. same_key r (record_at t c)) (passes_key t c f stands k) not-function s e)
        ∙ any_key (record_at t c) (before c.index (records_of t))
