-- The cursor along the functions of a bucket, step by step.
use Prim.Native.Nat.{ℕ, ◌+◌, ◌≤◌, ◌<◌}
use lib.ListN.{length}
use mathlib.Core.Bool.{true, false}
use mathlib.Core.List.{List}
use mathlib.Core.Path.{◌≡◌, refl, sym, ap, ◌∙◌, subst}
use native.Mathlib.Omega.{arith}
use Rattle.index.proofs.Buckets.{list-below}
use Rattle.index.proofs.Counted.{counted}
use Rattle.index.proofs.ListSearch.{left_of, searched_at, searched_first, searched_on, searched_less, searched_same, list-first, first_of_list, next_first, next_of_list}
use Rattle.index.specs.Inside.Bucket.{key_bucket}
use Rattle.index.specs.Inside.Found.{Found, FunctionAt, first_from}
use Rattle.index.specs.Inside.IndexedTable.{IndexedTable}
use Rattle.index.specs.Inside.ListWalk.{list_start, here_has_key, list_at, list_step, list_followed, list_first, list_behind, list_next, AtListed}
use Rattle.index.specs.Inside.Searched.{Searched}
use Rattle.index.specs.declared.index.Place.{Place}
use Rattle.index.specs.declared.list.ListCursor.{ListCursor}
use Rattle.std.specs.Prelude.{None, Some}
use Rattle.ty.specs.Bytes.{id_at}
use Rattle.record.proofs.Accepts.{accepted_short}

-- the cursor is at the first function of its bucket from some byte on
abbrev pub ListAt : List ℕ → ListCursor → Type 0
ListAt t c = Searched t c.here c.owner c.name

-- at the list's end it stays
pub stays_end : (t : List ℕ) (c : ListCursor) → c.here ≡ None → c ≡ list_followed t c
unfolding list_followed
stays_end t c z = ap (list_at c) (z ∙ ap (first_from t 4 c.owner c.name) (sym z))

module _ (t x : List ℕ) (ok : IndexedTable t x) (c : ListCursor) (s : ListAt t c) (p : Place) (z : c.here ≡ Some p) where
  pub list_low : p.at ≤ 60000
  list_low = omega (arith, (searched_at t x ok c.owner c.name c.here s p z).some, accepted_short t ok.clean)

  -- at a function with the owner and the name it stays
  pub stays_here : here_has_key t c p ≡ true → c ≡ list_followed t c
  unfolding list_followed here_has_key
  stays_here h = ap (list_at c) (sym (searched_first t x ok c.owner c.name c.here s p z h))

  -- a step goes on
  step_at : ListAt t (list_step (length t) x c p)
  unfolding list_step
  step_at = searched_on t x ok c.owner c.name c.here s p z _ refl

  pub step_less : left_of (length t) (counted (list_step (length t) x c p).here) < left_of (length t) (counted c.here)
  unfolding list_step
  step_less = searched_less t x ok c.owner c.name c.here s p z _ refl

  step_same : here_has_key t c p ≡ false → list_followed t (list_step (length t) x c p) ≡ list_followed t c
  unfolding list_followed here_has_key list_step
  step_same h = ap (list_at c) (searched_same t x ok c.owner c.name c.here s p z _ refl h)

-- ---- the loop: what is followed from here on is what was to be followed
pub record Following (t : List ℕ) (c₀ c : ListCursor) : Type 0 where
  pub at : ListAt t c
  pub same : list_followed t c ≡ list_followed t c₀

module _ (t x : List ℕ) (ok : IndexedTable t x) (c₀ c : ListCursor) (f : Following t c₀ c) (p : Place) (z : c.here ≡ Some p) where
  pub following_next : here_has_key t c p ≡ false → (n : ListCursor) → n ≡ list_step (length t) x c p → Following t c₀ n
  following_next h n e =
      subst (Following t c₀) (sym e) (record { at = step_at t x ok c f.at p z; same = step_same t x ok c f.at p z h ∙ f.same })

-- ---- the cursor at the first function of a bucket, and the functions from there on
module _ (t x : List ℕ) (ok : IndexedTable t x) (a b : ℕ) where
  pub start_at : ListAt t (list_start (length t) x a b)
  unfolding list_start
  start_at = list-first t x ok a b _ refl (list-below (key_bucket 4 a b) (length t)) _ refl

  -- the first of them with the owner and the name is the table's first
  pub start_first : list_followed t (list_start (length t) x a b) ≡ list_first t a b
  unfolding list_start list_followed list_first
  start_first =
      ap (λ (f : Found). record { owner = a; name = b; here = f })
      (first_of_list t x ok a b _ refl (list-below (key_bucket 4 a b) (length t)) _ refl)

-- ---- the cursor behind a function with its owner and name
module _ (t x : List ℕ) (ok : IndexedTable t x) (c : ListCursor) (h : AtListed t c) (p : Place) (z : c.here ≡ Some p) where
  same_place : h.place ≡ p
  same_place = cc

  function : FunctionAt t p
  function = subst (FunctionAt t) same_place h.function

  owner : c.owner ≡ id_at t (p.at + 1)
  owner = rw (← same_place) h.owner

  name : c.name ≡ id_at t (p.at + 3)
  name = rw (← same_place) h.name

  pub next_at : ListAt t (list_step (length t) x c p)
  unfolding list_step
  next_at = next_first t x ok p function c.owner c.name owner name _ refl

  pub next_list : list_followed t (list_step (length t) x c p) ≡ list_next t c
  unfolding list_step list_followed list_next
  next_list =
      ap (list_at c) (next_of_list t x ok p function c.owner c.name owner name _ refl) ∙ sym (ap (list_behind t c) z)
