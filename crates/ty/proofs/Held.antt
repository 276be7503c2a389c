-- Laws of what a Nullable, a Pointer, a List or an Array holds: it is shorter, and of a whole type it is a whole type.
use Prim.Native.Nat.{ℕ, ◌+◌, ◌-◌, ◌≤◌, ◌<◌, min, max}
use borrow.Author.Tests.{eqb-true}
use lib.Dec.{eqb}
use lib.ListN.{length, get_or, drop, length-drop}
use mathlib.Core.Bool.{Bool, true, false, false≢true, ◌||◌}
use mathlib.Core.List.{List, [], ◌∷◌}
use mathlib.Core.Path.{◌≡◌, refl}
use native.Mathlib.Omega.{arith}
use Rattle.std.specs.Prelude.{Result, Ok, Err}
use Rattle.ty.proofs.Bodies.{apart, array_body, no_body}
use Rattle.ty.proofs.Choice.{by_choice}
use Rattle.ty.proofs.Laws.{head_any}
use Rattle.ty.proofs.Moved.{reads_dropped}
use Rattle.ty.proofs.Reading.{Within, within}
use Rattle.ty.proofs.TypeSizes.{never_whole}
use Rattle.ty.specs.Bytes.{kind_of, is_array, size_width, inner_of, non_null}
use Rattle.ty.specs.Choose.{choose}
use Rattle.ty.specs.Kind.{nullable_kind, named_kind, function_kind, map_kind, module_kind, error_kind, no_kind}
use Rattle.ty.specs.Read.{holds_one, body_length, child_count, id_in, item_of, item_at, no_end, after, read_from, read_type, whole_read, item_read}
use Rattle.ty.specs.declared.read.Item.{Item}
use Rattle.ty.specs.declared.read.ItemFault.{ItemFault}
use Rattle.ty.specs.declared.read.ItemFault.TheVariants.{Broken, Out}
use Rattle.ty.specs.declared.read.TypeFault.TheVariants.{Malformed}

-- bytes with a kind are not empty
pub some_bytes : (s : List ℕ) → (kind_of s ≡ no_kind → ⊥) → 0 < length s
some_bytes [] h = absurd (h refl)
some_bytes (x ∷ s) h = omega arith

-- what a type holds is shorter
pub inner_shorter : (s : List ℕ) → 0 < length s → length (inner_of s) < length s
unfolding inner_of
inner_shorter s h =
    by_choice (λ x. length x < length s) (is_array s) {x = drop (2 + size_width (kind_of s)) s} {y = drop 1 s} (λ _. simp length-drop (omega arith)) (λ _. simp length-drop (omega arith))

pub inner_length : (s : List ℕ) → length (inner_of s) ≤ length s
unfolding inner_of
inner_length s =
    by_choice (λ x. length x ≤ length s) (is_array s) {x = drop (2 + size_width (kind_of s)) s} {y = drop 1 s} (λ _. simp length-drop (omega arith)) (λ _. simp length-drop (omega arith))

-- the same where the kind is known, and where it was tested
pub inner_shorter_of : (s : List ℕ) (k : ℕ) → kind_of s ≡ k → k < no_kind → length (inner_of s) < length s
inner_shorter_of s k e h = inner_shorter s (some_bytes s (λ q. omega arith))

pub inner_shorter_if : (s : List ℕ) (k : ℕ) → eqb (kind_of s) k ≡ true → k < no_kind → length (inner_of s) < length s
inner_shorter_if s k e h = inner_shorter_of s k (eqb-true (kind_of s) k e) h

-- one Nullable less is no longer
pub non_null-length : (s : List ℕ) → length (non_null s) ≤ length s
unfolding non_null
non_null-length s =
    by_choice (λ x. length x ≤ length s) (eqb (kind_of s) nullable_kind) {x = inner_of s} {y = s}
    (λ e. let h = inner_shorter_if s nullable_kind e (omega arith) in omega arith)
    (λ _. omega arith)

-- where it stands
inner_drop : (s : List ℕ) → holds_one (kind_of s) ≡ true → drop (1 + body_length (kind_of s)) s ≡ inner_of s
unfolding inner_of
inner_drop s h =
    by_choice (λ x. drop (1 + body_length (kind_of s)) s ≡ x) (is_array s)
    (λ e. let q : 1 + (1 + size_width (kind_of s)) ≡ 2 + size_width (kind_of s) = omega arith in rw (array_body (kind_of s) e, q))
    (λ e. rw (no_body (kind_of s) h e))

-- an item of one of those kinds ends where what it holds begins, holds one type, and has no id and no Error
unfoldable Holds : ℕ → Result Item ItemFault → Type 0
Holds k (Ok r) = (r.next ≡ 1 + body_length k) × (r.children ≡ 1) × (r.id ≡ 0) × (r.error ≡ false)
Holds k (Err fault) = Unit

holds_part : (k next c i : ℕ) (e : Bool) → next ≡ 1 + body_length k → c ≡ 1 → i ≡ 0 → e ≡ false → Holds k (item_read next c i e)
unfolding Holds
holds_part k next c i e p q r t = (p, q, r, t)

holds_fault : (k : ℕ) (fault : ItemFault) → Holds k (Err fault)
unfolding Holds
holds_fault k fault = tt

pub one_child : (k c : ℕ) → holds_one k ≡ true → child_count k c ≡ 1
unfolding child_count choose
one_child k c h = rw (apart holds_one k function_kind h refl, apart holds_one k map_kind h refl, h)

pub no_id_lem : (k i : ℕ) → holds_one k ≡ true → id_in k i ≡ 0
unfolding id_in choose
no_id_lem k i h = rw (apart holds_one k named_kind h refl, apart holds_one k module_kind h refl)

holds : (s : List ℕ) (end k : ℕ) → k ≡ get_or s 0 0 → holds_one k ≡ true → Holds k (item_at s end 0)
unfolding item_at item_of
holds s end k q h =
    rw (← q)
    (by_choice (Holds k) _ (λ _. holds_fault k Out) λ _.
    by_choice (Holds k) _ (λ _. holds_fault k Broken) λ _.
    by_choice (Holds k) _ (λ _. holds_fault k Out) λ _.
    by_choice (Holds k) _
    (λ _. holds_part k _ _ _ _ (omega arith) (one_child k _ h) (no_id_lem k _ h) (apart holds_one k error_kind h refl))
    (λ _. holds_fault k Broken))

held_from : (f : ℕ) (s : List ℕ) (limit n top k : ℕ) (e : Bool) (r : Result Item ItemFault) → Holds k r → Within 0 (min (length s) limit) r
    → after r (no_end (length s) limit 0 false) (λ next c i e₁. read_from f s limit next (1 - 1 + c) (max 0 i) (false || e₁)) ≡ whole_read n top e
    → (1 + body_length k ≤ min (length s) limit) × (read_from f s limit (1 + body_length k) 1 0 false ≡ whole_read n top e)
unfolding Holds Within
held_from f s limit n top k e (Ok x) h w r = (omega arith, rw (h.0, h.1, h.2, h.3) at r)
held_from f s limit n top k e (Err Broken) h w r = absurd (never_whole Malformed n top e r)
held_from f s limit n top k e (Err Out) h w r = absurd (never_whole (no_end (length s) limit 0 false) n top e r)

module _ (s : List ℕ) (limit top : ℕ) (e : Bool) (one : holds_one (kind_of s) ≡ true) where
  pub held : (n : ℕ) → read_type s limit ≡ whole_read n top e
      → (1 + body_length (kind_of s) ≤ min (length s) limit) × (read_from (min (length s) limit) s limit (1 + body_length (kind_of s)) 1 0 false ≡ whole_read n top e)
  unfolding read_type read_from choose
  held n r =
      let b : 0 < length s = some_bytes s (λ q. false≢true (rw q at one)) in
      held_from (min (length s) limit) s limit n top (kind_of s) e (item_at s (min (length s) limit) 0)
      (holds s (min (length s) limit) (kind_of s) (head_any s 0 no_kind 0 b) one)
      (within s (min (length s) limit) 0) r

  -- what a whole type holds is a whole type, with the same highest id, and an Error in the one is in the other
  pub inner_reads : (n : ℕ) → read_type s limit ≡ whole_read n top e → read_type (inner_of s) limit ≡ whole_read (n - (1 + body_length (kind_of s))) top e
  inner_reads n r =
      let h = held n r in
      rw (← inner_drop s one) (reads_dropped s limit (min (length s) limit) (1 + body_length (kind_of s)) n top e h.0 h.1)

  -- and as long as what it holds where the type is all of the bytes
  pub inner_whole : read_type s limit ≡ whole_read (length s) top e → read_type (inner_of s) limit ≡ whole_read (length (inner_of s)) top e
  inner_whole r =
      let l : length s - (1 + body_length (kind_of s)) ≡ length (inner_of s) = rw (← inner_drop s one) (simp length-drop) in
      rw l at (inner_reads (length s) r)

-- and so is a whole type with one Nullable taken off
pub non_null-whole : (s : List ℕ) (limit top : ℕ) (e : Bool) → read_type s limit ≡ whole_read (length s) top e
    → read_type (non_null s) limit ≡ whole_read (length (non_null s)) top e
unfolding non_null
non_null-whole s limit top e r =
    by_choice (λ x. read_type x limit ≡ whole_read (length x) top e) (eqb (kind_of s) nullable_kind) {x = inner_of s} {y = s}
    (λ t. let k : kind_of s ≡ nullable_kind = eqb-true (kind_of s) nullable_kind t in inner_whole s limit top e (rw k refl) r)
    (λ _. r)
