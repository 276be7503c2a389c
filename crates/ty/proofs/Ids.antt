-- An id is undefined in a type exactly where its highest id is: `top` of what reading finds is the highest of the ids examined.
use Prim.Native.Nat.{ℕ, zero, suc, ◌+◌, ◌-◌, min, max}
use borrow.Author.Tests.{lt-ltb, le-ltb, ltb-true, ltb-false}
use lib.Dec.{eqb, ltb}
use lib.ListN.{length, get_or}
use mathlib.Core.Bool.{Bool, true, false, ◌&&◌, ◌||◌}
use mathlib.Core.List.{List, [], ◌∷◌, ◌++◌}
use mathlib.Core.Path.{◌≡◌, refl, sym, ap, ◌∙◌}
use native.Mathlib.Omega.{arith}
use Rattle.std.specs.Prelude.{Result, Ok, Err}
use Rattle.ty.proofs.Choice.{by_choice}
use Rattle.ty.specs.Bytes.{id_at}
use Rattle.ty.specs.Choose.{choose}
use Rattle.ty.specs.Kind.{named_kind, module_kind}
use Rattle.ty.specs.Name.{first_table_id, id_defined, all_defined}
use Rattle.ty.specs.Read.{id_in, item_of, item_at, no_end, after, read_from, read_type, whole_read, item_read}
use Rattle.ty.specs.Ids.{own_ids, ids_behind, ids_from, ids_in}
use Rattle.ty.specs.declared.read.Item.{Item}
use Rattle.ty.specs.declared.read.ItemFault.{ItemFault}
use Rattle.ty.specs.declared.read.ItemFault.TheVariants.{Broken, Out}
use Rattle.ty.specs.declared.read.TypeFault.TheVariants.{Cut, Malformed, Endless}
use Rattle.ty.specs.declared.read.TypeFault.{TypeFault}
use Rattle.ty.specs.declared.read.TypeRead.{TypeRead}

-- ---- lists of ids

-- the highest id of a list, 0 for none
unfoldable pub highest_of : List ℕ → ℕ
highest_of [] = 0
highest_of (id ∷ ids) = max id (highest_of ids)

-- two ids are defined where the higher one is
pub max-defined : (a b names : ℕ) → id_defined (max a b) names ≡ id_defined a names && id_defined b names
max-defined a b names = by_tests (ltb a (first_table_id + names)) (ltb b (first_table_id + names)) refl refl
  where
    by_tests : (s t : Bool) → id_defined a names ≡ s → id_defined b names ≡ t → id_defined (max a b) names ≡ s && t
    by_tests true true p q =
        let h = ltb-true a (first_table_id + names) p in
        let k = ltb-true b (first_table_id + names) q in
        lt-ltb (max a b) (first_table_id + names) (omega arith)
    by_tests true false p q = let k = ltb-false b (first_table_id + names) q in le-ltb (max a b) (first_table_id + names) (omega arith)
    by_tests false t p q = let h = ltb-false a (first_table_id + names) p in le-ltb (max a b) (first_table_id + names) (omega arith)

-- all ids of a list are defined where its highest is
pub all_highest : (ids : List ℕ) (names : ℕ) → all_defined ids names ≡ id_defined (highest_of ids) names
unfolding all_defined highest_of
all_highest [] names = sym (lt-ltb 0 (first_table_id + names) (omega arith))
all_highest (id ∷ ids) names = rw (max-defined id (highest_of ids) names, all_highest ids names)

-- of two lists, one behind the other
pub highest_append : (xs ys : List ℕ) → highest_of (xs ++ ys) ≡ max (highest_of xs) (highest_of ys)
unfolding highest_of
highest_append [] ys = omega arith
highest_append (x ∷ xs) ys = let e = highest_append xs ys in omega arith

pub all_append : (xs ys : List ℕ) (names : ℕ) → all_defined (xs ++ ys) names ≡ all_defined xs names && all_defined ys names
all_append xs ys names =
    rw (all_highest (xs ++ ys) names, highest_append xs ys, max-defined (highest_of xs) (highest_of ys) names, all_highest xs names, all_highest ys names)

-- ---- the ids of a type

-- an item's id is the highest of its ids
unfoldable Own : List ℕ → Result Item ItemFault → Type 0
Own ids (Ok r) = r.id ≡ highest_of ids
Own ids (Err fault) = Unit

own-part : (ids : List ℕ) (next c i : ℕ) (e : Bool) → i ≡ highest_of ids → Own ids (item_read next c i e)
unfolding Own
own-part ids next c i e h = h

own_fault : (ids : List ℕ) (fault : ItemFault) → Own ids (Err fault)
unfolding Own
own_fault ids fault = tt

own_id : (t : Bool) (i : ℕ) → choose t i 0 ≡ highest_of (choose t (i ∷ []) [])
unfolding choose highest_of
own_id true i = omega arith
own_id false i = refl

own : (s : List ℕ) (end at : ℕ) → Own (own_ids s at) (item_at s end at)
unfolding item_at item_of id_in own_ids
own s end at =
    by_choice (Own (own_ids s at)) _ (λ _. own_fault (own_ids s at) Out) λ _.
    by_choice (Own (own_ids s at)) _ (λ _. own_fault (own_ids s at) Broken) λ _.
    by_choice (Own (own_ids s at)) _ (λ _. own_fault (own_ids s at) Out) λ _.
    by_choice (Own (own_ids s at)) _
    (λ _. own-part (own_ids s at) _ _ _ _ (own_id (eqb (get_or s at 0) named_kind || eqb (get_or s at 0) module_kind) (id_at s (at + 1))))
    (λ _. own_fault (own_ids s at) Broken)

-- the highest id of what is found is n
unfoldable Tops : ℕ → Result TypeRead TypeFault → Type 0
Tops n (Ok r) = r.top ≡ n
Tops n (Err Cut) = Unit
Tops n (Err Malformed) = Unit
Tops n (Err (Endless top e)) = top ≡ n

tops_whole : (n len top : ℕ) (e : Bool) → top ≡ n → Tops n (whole_read len top e)
unfolding Tops
tops_whole n len top e h = h

tops_malformed : (n : ℕ) → Tops n (Err Malformed)
unfolding Tops
tops_malformed n = tt

tops_cut : (n : ℕ) → Tops n (Err Cut)
unfolding Tops
tops_cut n = tt

tops_endless : (n top : ℕ) (e : Bool) → top ≡ n → Tops n (Err (Endless top e))
unfolding Tops
tops_endless n top e h = h

tops_stopped : (n len limit top : ℕ) (e : Bool) → top ≡ n → Tops n (Err (no_end len limit top e))
unfolding no_end
tops_stopped n len limit top e h = by_choice (λ (fault : TypeFault). Tops n (Err fault)) _ (λ _. tops_cut n) (λ _. tops_endless n top e h)

by_both : (t : Bool) (top : ℕ) (xs ys : List ℕ) (u v : Result TypeRead TypeFault) → Tops (max top (highest_of xs)) u → Tops (max top (highest_of ys)) v
    → Tops (max top (highest_of (choose t xs ys))) (choose t u v)
unfolding choose
by_both true top xs ys u v h k = h
by_both false top xs ys u v h k = k

module _ (s : List ℕ) (limit : ℕ) where
  onward : (f at p top : ℕ) (e : Bool) (r : Result Item ItemFault) → Own (own_ids s at) r
      → ((at p top : ℕ) (e : Bool) → Tops (max top (highest_of (ids_from f s limit at p))) (read_from f s limit at p top e))
      → Tops (max top (highest_of (ids_behind r (λ next c. own_ids s at ++ ids_from f s limit next (p - 1 + c)))))
      (after r (no_end (length s) limit top e) (λ next c i e₁. read_from f s limit next (p - 1 + c) (max top i) (e || e₁)))
  unfolding Own
  onward f at p top e (Ok r) w g =
      let ids : List ℕ = ids_from f s limit r.next (p - 1 + r.children) in
      let h : max (max top r.id) (highest_of ids) ≡ max top (highest_of (own_ids s at ++ ids)) = omega (arith, highest_append (own_ids s at) ids) in
      rw h at (g r.next (p - 1 + r.children) (max top r.id) (e || r.error))
  onward f at p top e (Err Broken) w g = tops_malformed (max top (highest_of []))
  onward f at p top e (Err Out) w g = tops_stopped (max top (highest_of [])) (length s) limit top e (unfold highest_of in omega arith)

  tops_from : (f at p top : ℕ) (e : Bool) → Tops (max top (highest_of (ids_from f s limit at p))) (read_from f s limit at p top e)
  unfolding read_from ids_from
  tops_from zero at p top e = tops_malformed (max top (highest_of []))
  tops_from (suc f) at p top e =
      by_both (eqb p 0) top _ _ _ _ (tops_whole (max top (highest_of [])) at top e (unfold highest_of in omega arith))
      (onward f at p top e (item_at s (min (length s) limit) at) (own s (min (length s) limit) at) (λ at p top e. tops_from f at p top e))

  tops : Tops (highest_of (ids_in s limit)) (read_type s limit)
  unfolding read_type ids_in
  tops =
      let h : max 0 (highest_of (ids_in s limit)) ≡ highest_of (ids_in s limit) = omega arith in
      rw h at (tops_from (suc (min (length s) limit)) 0 1 0 false)

  -- the highest id of a whole type, and of one without end, is the highest of the ids examined
  pub whole_top : (n top : ℕ) (e : Bool) → read_type s limit ≡ whole_read n top e → top ≡ highest_of (ids_in s limit)
  unfolding Tops
  whole_top n top e q = rw q at tops

  pub endless_top : (top : ℕ) (e : Bool) → read_type s limit ≡ Err (Endless top e) → top ≡ highest_of (ids_in s limit)
  unfolding Tops
  endless_top top e q = rw q at tops

  -- so it is defined exactly where they all are
  pub whole-defined : (n top : ℕ) (e : Bool) (names : ℕ) → read_type s limit ≡ whole_read n top e → id_defined top names ≡ all_defined (ids_in s limit) names
  whole-defined n top e names q = ap (λ (id : ℕ). id_defined id names) (whole_top n top e q) ∙ sym (all_highest (ids_in s limit) names)

  pub endless-defined : (top : ℕ) (e : Bool) (names : ℕ) → read_type s limit ≡ Err (Endless top e) → id_defined top names ≡ all_defined (ids_in s limit) names
  endless-defined top e names q = ap (λ (id : ℕ). id_defined id names) (endless_top top e q) ∙ sym (all_highest (ids_in s limit) names)

-- what is found has the highest id n, where it has one
abbrev pub TopIs : ℕ → Result TypeRead TypeFault → Type 0
TopIs n (Ok r) = r.top ≡ n
TopIs n (Err Cut) = Unit
TopIs n (Err Malformed) = Unit
TopIs n (Err (Endless top e)) = top ≡ n

top_is : (n : ℕ) (r : Result TypeRead TypeFault) → Tops n r → TopIs n r
unfolding Tops
top_is n (Ok r) h = h
top_is n (Err Cut) h = tt
top_is n (Err Malformed) h = tt
top_is n (Err (Endless top e)) h = h

pub highest_read : (s : List ℕ) (limit : ℕ) → TopIs (highest_of (ids_in s limit)) (read_type s limit)
highest_read s limit = top_is (highest_of (ids_in s limit)) (read_type s limit) (tops s limit)
