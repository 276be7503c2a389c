-- What a record with a key of its own does in the index: it fills an empty entry, or an earlier record has its key.
use Prim.Native.Nat.{ℕ, ◌+◌, ◌%◌, ◌<◌}
use borrow.Author.Tests.{ne_eqb}
use lib.ListN.{length}
use mathlib.Core.Bool.{false}
use mathlib.Core.List.{List}
use mathlib.Core.Path.{◌≡◌, refl, sym, ap, ◌∙◌, subst}
use native.Mathlib.Omega.{arith}
use Rattle.index.proofs.Searches.{root_free}
use Rattle.index.proofs.StandingFront.{Standing, standing}
use Rattle.index.proofs.TreeWalks.{search_spot}
use Rattle.index.specs.Inside.Bucket.{key_bucket}
use Rattle.index.specs.Inside.Found.{Found, place_at}
use Rattle.index.specs.Inside.Index.{bucket_count, list_count}
use Rattle.index.specs.Inside.SearchKey.{tree_for, KeyIn, key_at}
use Rattle.index.specs.Inside.Spot.{Open, TakenIs, FreeIs, SpotIs}
use Rattle.index.specs.Inside.TreeWalk.{search_of}
use Rattle.index.specs.declared.index.Place.{Place}
use Rattle.index.specs.declared.tree.Key.{Key}
use Rattle.index.specs.declared.tree.Key.TheVariants.{Name, Ids}
use Rattle.record.proofs.NameRecords.{name_some}
use Rattle.record.specs.Inside.Front.{Front, front_of_head, name_front}
use Rattle.record.specs.RecordKind.{record_kind_number}
use Rattle.record.specs.declared.front.Head.{Head}
use Rattle.record.specs.declared.walk.Cursor.{Cursor}
use Rattle.ty.proofs.Choice.{choose_no}
use Rattle.ty.specs.Choose.{choose}
use Rattle.std.specs.Prelude.{Option, Some, None, is_some, Result, Ok, Err}
use Rattle.std.specs.Result.{result_err}
use Rattle.symbol.proofs.SearchMeetsKey.{none_found, own_in, own_open, list_fresh, list-bucket, key_taken, key_free}
use Rattle.symbol.specs.Inside.Asked.{Planted, Prepared, NameEntryAsked}
use Rattle.symbol.specs.Inside.Join.{EntryIs, tree_entry, NameEntryIs}
use Rattle.symbol.specs.declared.checks.Entry.TheVariants as entry

-- ---- a record of any kind with a key, by its front
module _ (t x : List ℕ) (c : Cursor) (f : Front) (st : Standing t c f) (whole : f.malformed ≡ false) (p : Planted t x c.at) (other : f.kind ≡ 4 → ⊥)
    (k : Key) (own : k ≡ key_at c f) where
  ends : (a : ℕ) → FreeIs t x (key_at c f) a → EntryIs t x c (Some (entry.Tree a))
  ends a e =
      record {
        key = key_free t x c f st whole p other a e;
        place =
            record {
              other = λ z. other (ap (λ (y : Front). y.kind) st.head ∙ z);
              free = subst (λ (z : Front). FreeIs t x (key_at c z) a) st.head e;
            };
      }

  meets : (q : Place) → TakenIs t c.at (key_at c f) q → EntryIs t x c None
  meets q e = record { key = key_taken t x c f st whole p other q e; place = tt }

  -- its tree has no record
  pub root_entry : (b : ℕ) → b ≡ tree_for t k → (r : Found) → r ≡ place_at x (1 + b) → is_some r ≡ false → EntryIs t x c (Some (entry.Tree (1 + b)))
  root_entry b e r y n = ends (1 + b) (root_free t x (key_at c f) b _ (e ∙ ap (tree_for t) own) refl (none_found _ r y n))

  -- what a search for the key asks
  pub search_open : Open t x × KeyIn t k
  search_open = (own_open t x c f st whole p, subst (KeyIn t) (sym own) (own_in t x c f st whole p))

  pub spot_entry : (r : Result Place ℕ) → r ≡ search_of t x k → EntryIs t x c (tree_entry (result_err r))
  spot_entry r e =
      go r (search_spot t x (key_at c f) (own_open t x c f st whole p) r (e ∙ ap (search_of t x) own) c.at p.tree)
    where
      go : (s : Result Place ℕ) → SpotIs t x c.at (key_at c f) s → EntryIs t x c (tree_entry (result_err s))
      go (Ok q) h = meets q h
      go (Err a) h = ends a h

-- ---- a record that is no name, and no function
module _ (t x : List ℕ) (c : Cursor) (h : Head) (p : Prepared t x c h) (n : ℕ) (e : n ≡ record_kind_number h.kind) (named : record_kind_number h.kind ≡ 1 → ⊥)
    (other : record_kind_number h.kind ≡ 4 → ⊥) where
  abbrev ids : Key
  ids = Ids n h.one h.two

  own_ids : ids ≡ key_at c (front_of_head h)
  unfolding key_at
  own_ids = ap (λ (k : ℕ). Ids k h.one h.two) e ∙ sym (choose_no _ _ _ (ne_eqb _ _ named))

  pub ids_root : (b : ℕ) → b ≡ tree_for t ids → (r : Found) → r ≡ place_at x (1 + b) → is_some r ≡ false → EntryIs t x c (Some (entry.Tree (1 + b)))
  ids_root = root_entry t x c (front_of_head h) (standing t c h p.stands) refl p.planted other ids own_ids

  pub ids_open : Open t x × KeyIn t ids
  ids_open = search_open t x c (front_of_head h) (standing t c h p.stands) refl p.planted other ids own_ids

  pub ids_met : (r : Result Place ℕ) → r ≡ search_of t x ids → EntryIs t x c (tree_entry (result_err r))
  ids_met = spot_entry t x c (front_of_head h) (standing t c h p.stands) refl p.planted other ids own_ids

-- ---- a function
module _ (t x : List ℕ) (c : Cursor) (h : Head) (p : Prepared t x c h) (f : record_kind_number h.kind ≡ 4) where
  pub list_entry : (b : ℕ) → b ≡ key_bucket 4 h.one h.two % list_count (length t) → b < list_count (length t) → EntryIs t x c (Some (entry.List b))
  list_entry b e l =
      record {
        key = list_fresh t x c (front_of_head h) (standing t c h p.stands) refl p.planted f;
        place =
            record {
              function = ap (λ (z : Front). z.kind) (sym p.stands.head) ∙ f;
              bucket = e ∙ list-bucket t x c (front_of_head h) (standing t c h p.stands) refl p.planted f;
              low = l;
            };
      }

-- ---- a name
module _ (t x : List ℕ) (c : Cursor) (n : ℕ) (a : NameEntryAsked t x c n) where
  name_stands : Standing t c name_front
  name_stands =
      record {
        at = a.name.at;
        some = name_some t c a.name.byte;
        head = sym a.front;
      }

  abbrev name : Key
  name = Name (record { at = c.at })

  own_name : name ≡ key_at c name_front
  unfolding key_at choose
  own_name = refl

  not-function : name_front.kind ≡ 4 → ⊥
  not-function z = omega (arith, z)

  module _ (b : ℕ) (e : b ≡ n % bucket_count (length t)) where
    name_tree : b ≡ tree_for t name
    name_tree = e ∙ ap (λ (z : ℕ). z % bucket_count (length t)) a.hash

    pub name_root : (r : Found) → r ≡ place_at x (1 + b) → is_some r ≡ false → NameEntryIs t x c (Some (1 + b))
    name_root = root_entry t x c name_front name_stands refl a.name.planted not-function name own_name b name_tree

    pub name_asked : Open t x × KeyIn t name × (b ≡ tree_for t name)
    name_asked = let o = search_open t x c name_front name_stands refl a.name.planted not-function name own_name in (o.0, o.1, name_tree)

  pub name_met : (r : Result Place ℕ) → r ≡ search_of t x name → (s : Option ℕ) → s ≡ result_err r → NameEntryIs t x c s
  name_met r e s y =
      subst (NameEntryIs t x c) (sym y) (spot_entry t x c name_front name_stands refl a.name.planted not-function name own_name r e)
