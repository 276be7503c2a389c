-- A record that draws no number comes into the index.
use Prim.Native.Nat.{ℕ, zero, suc, ◌*◌, ◌≤◌, ◌<◌}
use lib.ListN.{length, get_or, drop}
use mathlib.Core.Bool.{Bool, not, true, false, true≢false}
use mathlib.Core.List.{List}
use mathlib.Core.Logic.{◌⊎◌, ⊎_elim}
use mathlib.Core.Path.{◌≡◌, refl, sym, ap, ◌∙◌, subst}
use native.Mathlib.Omega.{arith}
use Rattle.index.proofs.Buckets.{tree_low}
use Rattle.index.proofs.Chains.{apart_of, entered_next, lasts_next, entered_past, lasts_past, entered-kept}
use Rattle.index.proofs.Paths.{own_path}
use Rattle.index.proofs.SearchTrees.{Below, tree-function, tree-joined, spot, front, inside}
use Rattle.index.specs.Inside.Bucket.{digit_of}
use Rattle.index.specs.Inside.Entered.{Entered, Lasts, entered}
use Rattle.record.specs.Inside.Front.{front_of}
use Rattle.record.specs.Inside.FrontRecord.{front_record}
use Rattle.index.specs.Inside.Index.{bucket_count, list_count, tree_in, list_in, root_at, first_at, last_at, child_at, next_at, ways_in}
use Rattle.symbol.specs.Inside.Join.{taken_of, EntryTreeIs, EntryListIs, PlaceIs, JoinAsked, index_joined}
use Rattle.index.specs.Inside.SearchKey.{tree_for, digit_for, key_at}
use Rattle.index.specs.Inside.SearchTree.{place_of, Led, TreeMember, ways_at, Tree}
use Rattle.record.specs.Inside.Walk.{Sits, Stands, record_at, behind}
use Rattle.std.specs.Prelude.{Option, Some, None, is_some}
use Rattle.symbol.specs.declared.checks.Entry.{Entry}
use Rattle.symbol.specs.declared.checks.Entry.TheVariants as entry
use Rattle.record.specs.Inside.Front.{Front}
use Rattle.record.specs.declared.front.Head.{Head}
use Rattle.record.specs.declared.walk.Cursor.{Cursor}

-- none is for a key that an earlier record has
pub none_taken : (e : Option Entry) (r : Bool) → is_some e ≡ not r → taken_of e ≡ r
none_taken None true q = refl
none_taken None false q = sym q
none_taken (Some (entry.Tree a)) true q = sym q
none_taken (Some (entry.Tree a)) false q = refl
none_taken (Some (entry.List b)) true q = sym q
none_taken (Some (entry.List b)) false q = refl

-- what is asked, and what comes of it
pub record Joining (t x : List ℕ) (p : ℕ) (e : Option Entry) : Type 0 where
  pub asked : length t ≤ 60000 → JoinAsked x (length t) p e
  pub entered : Entered t (index_joined (length t) p e x) (behind t p)
  pub lasts : Lasts t (index_joined (length t) p e x) (behind t p)
  pub tree : Tree t (index_joined (length t) p e x) (behind t p)

module _ (t x : List ℕ) (c : Cursor) (h : Head) (st : Stands t c h) (g : Entered t x c.at) (l : Lasts t x c.at) (r : Tree t x c.at) where
  whole : (front_of (drop c.at t)).malformed ≡ false
  whole = sym (ap (λ (z : Front). z.malformed) st.head)

  abbrev p : ℕ
  p = c.at

  some : p < length t
  some = st.some

  -- ---- a function
  module _ (b : ℕ) (i : EntryListIs t c b) where
    last_low : get_or x (last_at (length t) b) 0 ≤ length t
    last_low = go (get_or x (last_at (length t) b) 0) refl
      where
        go : (v : ℕ) → get_or x (last_at (length t) b) 0 ≡ v → v ≤ length t
        go zero z = omega arith
        go (suc q) z = omega (arith, (l.here b q i.low z).0, some)

    same : index_joined (length t) p (Some (entry.List b)) x ≡ entered (length t) (list_in (length t) (front_record (drop p t))) p x
    same = ap (λ (z : ℕ). entered (length t) z p x) i.bucket

    roots : (k : ℕ) → k < 2 * bucket_count (length t) → get_or (entered (length t) (list_in (length t) (front_record (drop p t))) p x) (root_at k) 0 ≡ get_or x (root_at k) 0
    roots k low = entered-kept t x p g l some whole i.function (root_at k) (λ d. omega (arith, low)) (λ d. omega (arith, low)) (λ q v f k₂ d. omega (arith, low))

    entries : (q : ℕ) → TreeMember t p q → (k : ℕ) → k < ways_at t q
        → get_or (entered (length t) (list_in (length t) (front_record (drop p t))) p x) (child_at (length t) q k) 0 ≡ get_or x (child_at (length t) q k) 0
    entries q n k low =
        entered-kept t x p g l some whole i.function (child_at (length t) q k) (λ d. omega (arith, list_low)) (λ d. omega (arith, list_low)) far
      where
        list_low : list_in (length t) (front_record (drop p t)) < list_count (length t)
        list_low = subst (λ (z : ℕ). z < list_count (length t)) i.bucket i.low

        far : (s : ℕ) → Sits t s → s < p → (front_of (drop s t)).kind ≡ 4 → child_at (length t) q k ≡ next_at (length t) s → ⊥
        far s v f k₂ d = apart_of t s q (g.whole s v f) v n.begun.whole n.begun.sits (λ z. n.other (subst (λ (j : ℕ). (front_of (drop j t)).kind ≡ 4) z k₂)) k low (sym d)

    list_joins : Joining t x p (Some (entry.List b))
    list_joins =
        record {
          asked = λ m. record { long = l.long; short = m; bucket = i.low; place = some; last = last_low };
          entered = rw same (entered_next t x p g l some whole i.function);
          lasts = rw same (lasts_next t x p g l some whole i.function);
          tree = rw same (tree-function t x p r g.end some (entered (length t) (list_in (length t) (front_record (drop p t))) p x) i.function roots entries);
        }

  -- ---- another record
  module _ (a : ℕ) (i : EntryTreeIs t x c a) where
    path : (tree_for t (key_at c (front_of (drop p t))) ≡ tree_in (length t) (record_at t c)) × (digit_for t (key_at c (front_of (drop p t))) ≡ digit_of (record_at t c))
    path = own_path t c (front_of (drop p t)) (record { at = st.at; some = some; head = refl })

    -- the search's path is that of the record
    record OwnFree : Type 0 where
      depth : ℕ
      led : Led x (length t) (tree_in (length t) (front_record (drop p t))) (digit_of (front_record (drop p t))) depth
      place : a ≡ place_of x (length t) (tree_in (length t) (front_record (drop p t))) (digit_of (front_record (drop p t))) depth

    own-free : OwnFree
    own-free =
        moved (tree_for t (key_at c (front_of (drop p t)))) (digit_for t (key_at c (front_of (drop p t)))) i.free.depth i.free.led i.free.place
        path.0 path.1
      where
        moved : (b : ℕ) (f : ℕ → ℕ) (d : ℕ) → Led x (length t) b f d → a ≡ place_of x (length t) b f d → b ≡ tree_in (length t) (front_record (drop p t))
            → f ≡ digit_of (front_record (drop p t)) → OwnFree
        moved b f d led place y z =
            record {
              depth = d;
              led = subst (λ (h : ℕ → ℕ). Led x (length t) (tree_in (length t) (front_record (drop p t))) h d) z (subst (λ (k : ℕ). Led x (length t) k f d) y led);
              place =
                  place ∙ ap (λ (k : ℕ). place_of x (length t) k f d) y
                  ∙ ap (λ (h : ℕ → ℕ). place_of x (length t) (tree_in (length t) (front_record (drop p t))) h d) z;
            }

    at_spot : (a ≡ root_at (tree_in (length t) (front_record (drop p t)))) ⊎ Below t p (ways_in (length t) (tree_in (length t) (front_record (drop p t)))) a
    at_spot = spot t x p r g.end some whole i.other a own-free.depth own-free.led own-free.place i.free.empty l.blank l.long

    root_low : tree_in (length t) (front_record (drop p t)) < 2 * bucket_count (length t)
    root_low = tree_low (length t) (front_record (drop p t))

    far : (b : ℕ) → b < list_count (length t) → (first_at (length t) b ≡ a → ⊥) × (last_at (length t) b ≡ a → ⊥)
    far b low =
        ⊎_elim (λ z. ((λ d. omega (arith, z, root_low, d)), (λ d. omega (arith, z, root_low, d))))
        (λ z. ((λ d. omega (arith, z.is, low, d)), (λ d. omega (arith, z.is, low, d)))) at_spot

    away : (q : ℕ) → Sits t q → q < p → (front_of (drop q t)).kind ≡ 4 → next_at (length t) q ≡ a → ⊥
    away q v f k d =
        ⊎_elim (λ z. omega (arith, z, root_low, d))
        (λ z.
        apart_of t q z.owner (g.whole q v f) v z.node.begun.whole z.node.begun.sits
        (λ e. z.node.other (subst (λ (j : ℕ). (front_of (drop j t)).kind ≡ 4) e k)) z.which z.low (d ∙ z.is)) at_spot

    before : a < child_at (length t) p 0
    before = front t x p r g.end some whole i.other a own-free.depth own-free.led own-free.place i.free.empty l.blank l.long

    ahead : a < next_at (length t) (behind t p)
    ahead = omega (arith, before)

    tree_joins : Joining t x p (Some (entry.Tree a))
    tree_joins =
        record {
          asked = λ m.
              record {
                inside = inside t x p r g.end some whole i.other a own-free.depth own-free.led own-free.place i.free.empty l.blank l.long;
                place = omega (arith, some, m);
              };
          entered = entered_past t x p g l some whole i.other a far away ahead;
          lasts = lasts_past t x p g l some whole i.other a far away ahead;
          tree = tree-joined t x p r g.end some whole i.other a own-free.depth own-free.led own-free.place i.free.empty l.blank l.long;
        }

  pub joining : (e : Option Entry) → taken_of e ≡ false → PlaceIs t x c e → Joining t x p e
  joining None k i = absurd (true≢false k)
  joining (Some (entry.Tree a)) k i = tree_joins a i
  joining (Some (entry.List b)) k i = list_joins b i
