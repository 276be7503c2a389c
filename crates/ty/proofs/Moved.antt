-- Reading looks at nothing behind the type's end, nor before its start: a whole type is read alike wherever its bytes stand.
use Prim.Native.Nat.{ℕ, zero, suc, ◌+◌, ◌-◌, ◌≤◌, ◌<◌, min, max}
use borrow.Author.Tests.{lt-leb, le-ltb}
use lib.Dec.{eqb, leb, ltb}
use lib.ListN.{length, get_or, take, drop, length-take, length-drop}
use lib.Seq.{get_or-take, get_or-drop, take-take, take-append-le}
use mathlib.Core.Bool.{Bool, false, ◌||◌}
use mathlib.Core.List.{List, ◌++◌}
use mathlib.Core.Path.{◌≡◌, refl, sym, ap, ◌∙◌}
use native.Mathlib.Omega.{arith}
use Rattle.std.specs.Prelude.{Result, Ok, Err}
use Rattle.ty.proofs.Bodies.{same_item, width_least, array_body, function_body, id_body}
use Rattle.ty.proofs.Choice.{by_choice, chosen, passed}
use Rattle.ty.proofs.Reading.{Within, within, whole_parts}
use Rattle.ty.proofs.TypeSizes.{ends_behind, never_whole, whole}
use Rattle.ty.specs.Bytes.{id_at, size_width}
use Rattle.ty.specs.Kind.{error_kind, large_array_kind}
use Rattle.ty.specs.Read.{body_length, child_count, good_body, id_in, item_of, number_at, size_at, item_at, no_end, after, read_from, read_type, whole_read, item_read}
use Rattle.ty.specs.declared.read.Item.{Item}
use Rattle.ty.specs.declared.read.ItemFault.{ItemFault}
use Rattle.ty.specs.declared.read.ItemFault.TheVariants.{Broken, Out}
use Rattle.ty.specs.declared.read.TypeFault.TheVariants.{Malformed}

-- s from d on and s' from d' on have the same bytes, up to the byte n of s and n' of s'
module _ (s s' : List ℕ) (n n' d d' : ℕ) (q : n + d ≡ n' + d') (same : (i j : ℕ) → i + d ≡ j + d' → i < n → get_or s i 0 ≡ get_or s' j 0) where
  same_id : (i j : ℕ) → i + d ≡ j + d' → i + 2 ≤ n → id_at s i ≡ id_at s' j
  same_id i j p h = rw (same i j p (omega arith), same (i + 1) (j + 1) (omega arith) (omega arith))

  same_number : (w i j : ℕ) → i + d ≡ j + d' → i + w ≤ n → number_at w s i ≡ number_at w s' j
  unfolding number_at
  same_number zero i j p h = refl
  same_number (suc w) i j p h = rw (same i j p (omega arith), same_number w (i + 1) (j + 1) (omega arith) (omega arith))

  -- the item at the same place
  same_part : (end' at at' : ℕ) → n' ≤ end' → at + d ≡ at' + d' → at + 1 + body_length (get_or s at 0) ≤ n → ltb large_array_kind (get_or s at 0) ≡ false
      → item_of (get_or s at 0) (get_or s (at + 1) 0) (size_at s at) (id_at s (at + 1)) (at' + 1 + body_length (get_or s at 0)) ≡ item_at s' end' at'
  unfolding item_at
  same_part end' at at' w p h k =
      rw (← same at at' p (omega arith))
      (passed (leb end' at') _ (Err Out) _ (lt-leb end' at' (omega arith))
      (passed (ltb large_array_kind (get_or s at 0)) _ (Err Broken) _ k
      (passed (ltb (end' - (at' + 1)) (body_length (get_or s at 0))) _ (Err Out) _ (le-ltb (end' - (at' + 1)) (body_length (get_or s at 0)) (omega arith))
      (same_item (get_or s at 0) (get_or s (at + 1) 0) (get_or s' (at' + 1) 0) (size_at s at) (number_at (size_width (get_or s at 0)) s' (at' + 2)) (id_at s (at + 1)) (id_at s' (at' + 1))
      (at' + 1 + body_length (get_or s at 0))
      (λ e.
      let l = array_body (get_or s at 0) e in
      let b = width_least (get_or s at 0) in
      same (at + 1) (at' + 1) (omega arith) (omega (arith, l, b)))
      (λ e. let l = function_body (get_or s at 0) e in same (at + 1) (at' + 1) (omega arith) (omega arith))
      (λ e. let l = array_body (get_or s at 0) e in same_number (size_width (get_or s at 0)) (at + 2) (at' + 2) (omega arith) (omega (arith, l)))
      (λ e. let l = id_body (get_or s at 0) e in same_id (at + 1) (at' + 1) (omega arith) (omega arith))))))

  -- an item that lies before the end n is found in s' too
  unfoldable Moved : ℕ → ℕ → Result Item ItemFault → Type 0
  Moved end' at' (Ok r) = r.next ≤ n → item_read (r.next + d - d') r.children r.id r.error ≡ item_at s' end' at'
  Moved end' at' (Err fault) = Unit

  moved-part : (end' at' next c i : ℕ) (e : Bool) → (next ≤ n → item_read (next + d - d') c i e ≡ item_at s' end' at') → Moved end' at' (item_read next c i e)
  unfolding Moved
  moved-part end' at' next c i e h = h

  moved_fault : (end' at' : ℕ) (fault : ItemFault) → Moved end' at' (Err fault)
  unfolding Moved
  moved_fault end' at' fault = tt

  moved : (end end' at at' : ℕ) → n' ≤ end' → at + d ≡ at' + d' → Moved end' at' (item_at s end at)
  unfolding item_at item_of
  moved end end' at at' w p =
      by_choice (Moved end' at') _ (λ _. moved_fault end' at' Out) λ _.
      by_choice (Moved end' at') _ (λ _. moved_fault end' at' Broken) λ k.
      by_choice (Moved end' at') _ (λ _. moved_fault end' at' Out) λ _.
      by_choice (Moved end' at') _
      (λ g.
      moved-part end' at' (at + 1 + body_length (get_or s at 0)) (child_count (get_or s at 0) (get_or s (at + 1) 0)) (id_in (get_or s at 0) (id_at s (at + 1)))
      (eqb (get_or s at 0) error_kind)
      (λ h.
      let l : at + 1 + body_length (get_or s at 0) + d - d' ≡ at' + 1 + body_length (get_or s at 0) = omega arith in
      rw (l, ← same_part end' at at' w p h k) (chosen (good_body (get_or s at 0) (get_or s (at + 1) 0) (size_at s at)) _ _ (Err Broken) g refl)))
      (λ _. moved_fault end' at' Broken)

  module _ (limit limit' t : ℕ) (e' : Bool) (w : n' ≤ min (length s') limit') where
    -- that a reading which ends at n ends at n' in s', with the fuel f and f'
    abbrev Goes : ℕ → ℕ → Type 0
    Goes f f' =
        (at at' p top : ℕ) (e : Bool) → at ≤ min (length s) limit → at + d ≡ at' + d' → n' < at' + f' → read_from f s limit at p top e ≡ whole_read n t e'
        → read_from f' s' limit' at' p top e ≡ whole_read n' t e'

    onward : (f f' at at' p top : ℕ) (e : Bool) (r : Result Item ItemFault) → at + d ≡ at' + d' → n' < at' + suc f' → Within at (min (length s) limit) r
        → Moved (min (length s') limit') at' r
        → Goes f f'
        → after r (no_end (length s) limit top e) (λ next c i e₁. read_from f s limit next (p - 1 + c) (max top i) (e || e₁)) ≡ whole_read n t e'
        → after (item_at s' (min (length s') limit') at') (no_end (length s') limit' top e)
        (λ next c i e₁. read_from f' s' limit' next (p - 1 + c) (max top i) (e || e₁))
        ≡ whole_read n' t e'
    unfolding Within Moved
    onward f f' at at' p top e (Ok x) a l v m k r =
        let b = ends_behind s limit f x.next (p - 1 + x.children) (max top x.id) n t (e || x.error) e' v.1 r in
        rw (← m b.0) (k x.next (x.next + d - d') (p - 1 + x.children) (max top x.id) (e || x.error) v.1 (omega arith) (omega arith) r)
    onward f f' at at' p top e (Err Broken) a l v m k r = absurd (never_whole Malformed n t e' r)
    onward f f' at at' p top e (Err Out) a l v m k r = absurd (never_whole (no_end (length s) limit top e) n t e' r)

    go : (f f' : ℕ) → Goes f f'
    unfolding read_from
    go zero f' at at' p top e h a l r = absurd (never_whole Malformed n t e' r)
    go (suc f) zero at at' p top e h a l r = let b = ends_behind s limit (suc f) at p top n t e e' h r in absurd (omega arith)
    go (suc f) (suc f') at at' p top e h a l r =
        by_choice (λ x. x ≡ whole_read n t e' → read_from (suc f') s' limit' at' p top e ≡ whole_read n' t e') (eqb p 0)
        (λ z r.
        let u = whole_parts at n top t e e' r in
        let v : at' ≡ n' = omega arith in
        sym (chosen (eqb p 0) _ _ _ z (rw (v, u.1, u.2))))
        (λ z r.
        sym (passed (eqb p 0) _ _ _ z (sym
        (onward f f' at at' p top e (item_at s (min (length s) limit) at) a l (within s (min (length s) limit) at) (moved (min (length s) limit) (min (length s') limit') at at' w a)
        (λ at at' p top e h a l r. go f f' at at' p top e h a l r)
        r))))
        r

-- reading looks at nothing behind the type's end: bytes that begin alike, as far as the type goes, have the same type, under any limit that lets it in
pub reads_alike : (s s' : List ℕ) (limit limit' n top : ℕ) (e : Bool) → take n s' ≡ take n s → n ≤ limit' → read_type s limit ≡ whole_read n top e
    → read_type s' limit' ≡ whole_read n top e
unfolding read_type
reads_alike s s' limit limit' n top e q h r =
    let b = whole s limit n top e r in
    let l : min n (length s') ≡ min n (length s) = sym (length-take n s') ∙ ap length q ∙ length-take n s in
    go s s' n n 0 0 refl
    (λ i j p k.
    let m : i ≡ j = omega arith in
    rw (← m) (sym (get_or-take n s i 0 k) ∙ ap (λ (x : List ℕ). get_or x i 0) (sym q) ∙ get_or-take n s' i 0 k))
    limit limit' top e (omega arith) (suc (min (length s) limit)) (suc (min (length s') limit')) 0 0 1 0 false (omega arith) refl (omega arith) r

-- so of a part that has the whole type
pub reads_taken : (s : List ℕ) (limit m n top : ℕ) (e : Bool) → n ≤ m → read_type s limit ≡ whole_read n top e → read_type (take m s) limit ≡ whole_read n top e
reads_taken s limit m n top e h r = let b = whole s limit n top e r in reads_alike s (take m s) limit limit n top e (take-take n m s h) b.1 r

-- and with other bytes behind
pub reads_more : (s t : List ℕ) (limit n top : ℕ) (e : Bool) → read_type s limit ≡ whole_read n top e → read_type (s ++ t) limit ≡ whole_read n top e
reads_more s t limit n top e r =
    let b = whole s limit n top e r in
    reads_alike s (s ++ t) limit limit n top e (take-append-le n s t b.2) b.1 r

-- one type read from m on, with nothing found before, is the type of the bytes from m on
pub reads_dropped : (s : List ℕ) (limit f m n top : ℕ) (e : Bool) → m ≤ min (length s) limit → read_from f s limit m 1 0 false ≡ whole_read n top e
    → read_type (drop m s) limit ≡ whole_read (n - m) top e
unfolding read_type
reads_dropped s limit f m n top e h r =
    let b = ends_behind s limit f m 1 0 n top false e h r in
    let l : n - m ≤ min (length (drop m s)) limit = simp length-drop (omega arith) in
    go s (drop m s) n (n - m) 0 m (omega arith)
    (λ i j p k.
    let q : i ≡ m + j = omega arith in
    rw q (sym (get_or-drop m s j 0)))
    limit limit top e l f (suc (min (length (drop m s)) limit)) m 0 1 0 false h (omega arith) (omega arith) r

-- and the other way round: the type of the bytes from m on is what is read from m on, with fuel f for it
pub reads_behind : (s : List ℕ) (limit f m n top : ℕ) (e : Bool) → m + n ≤ limit → n < f → read_type (drop m s) limit ≡ whole_read n top e
    → read_from f s limit m 1 0 false ≡ whole_read (m + n) top e
unfolding read_type
reads_behind s limit f m n top e h l r =
    let b = whole (drop m s) limit n top e r in
    go (drop m s) s n (m + n) m 0 (omega arith)
    (λ i j p k.
    let q : j ≡ m + i = omega arith in
    rw q (get_or-drop m s i 0))
    limit limit top e (omega (arith, b.0, b.2, length-drop m s)) (suc (min (length (drop m s)) limit)) f 0 m 1 0 false (omega arith) (omega arith) (omega arith) r
