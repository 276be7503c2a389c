-- Laws of reading a type: an item lies within the end and has few children, and what one turn of the reading does.
use Prim.Native.Nat.{ℕ, zero, suc, ◌+◌, ◌-◌, ◌≤◌, ◌<◌, min, max}
use borrow.Author.Tests.{leb-true, leb-false, ltb-false, ne_eqb, eq-eqb}
use lib.Dec.{eqb, leb}
use lib.ListN.{length, get_or}
use mathlib.Core.Bool.{Bool, true, false, ◌||◌, not}
use mathlib.Core.List.{List}
use mathlib.Core.Path.{◌≡◌, refl, ap, ◌∙◌}
use native.Mathlib.Omega.{arith}
use Rattle.std.specs.Prelude.{Result, Ok, Err}
use Rattle.ty.proofs.Choice.{by_choice, and_right, or_else}
use Rattle.ty.specs.Choose.{choose}
use Rattle.ty.specs.Bytes.{is_array_kind}
use Rattle.ty.specs.Kind.{function_kind}
use Rattle.ty.specs.Read.{body_length, child_count, good_array, good_body, item_of, size_at, item_at, no_end, after, read_from, read_type, whole_read, item_read}
use Rattle.ty.specs.declared.read.Item.{Item}
use Rattle.ty.specs.declared.read.ItemFault.{ItemFault}
use Rattle.ty.specs.declared.read.ItemFault.TheVariants.{Broken, Out}
use Rattle.ty.specs.declared.read.TypeFault.TheVariants.{Malformed}
use Rattle.ty.specs.declared.read.TypeFault.{TypeFault}
use Rattle.ty.specs.declared.read.TypeRead.{TypeRead}

-- whole types that are the same have the same length, the same highest id, and an Error in both or in none
unfoldable whole_len : Result TypeRead TypeFault → ℕ
whole_len (Ok r) = r.len
whole_len (Err fault) = 0

unfoldable whole_top_of : Result TypeRead TypeFault → ℕ
whole_top_of (Ok r) = r.top
whole_top_of (Err fault) = 0

unfoldable whole_error : Result TypeRead TypeFault → Bool
whole_error (Ok r) = r.error
whole_error (Err fault) = false

pub whole_parts : (n n' t t' : ℕ) (e e' : Bool) → whole_read n t e ≡ whole_read n' t' e' → (n ≡ n') × (t ≡ t') × (e ≡ e')
unfolding whole_len whole_top_of whole_error
whole_parts n n' t t' e e' q = (ap whole_len q, ap whole_top_of q, ap whole_error q)

-- an item lies behind `at` and within `end`, and has at most 17 children
unfoldable pub Within : ℕ → ℕ → Result Item ItemFault → Type 0
Within at end (Ok r) = (at < r.next) × (r.next ≤ end) × (r.children ≤ 17)
Within at end (Err fault) = Unit

few : (k c n : ℕ) → good_body k c n ≡ true → child_count k c ≤ 17
unfolding child_count
few k c n g =
    by_choice (λ m. m ≤ 17) (eqb k function_kind)
    (λ e.
    let h : c ≤ 16 = leb-true c 16 (or_else (eqb k function_kind) (leb c 16) (and_right (not (is_array_kind k) || good_array k c n) _ g) e) in
    omega arith)
    λ _.
    by_choice (λ m. m ≤ 17) _ (λ _. omega arith) λ _.
    by_choice (λ m. m ≤ 17) _ (λ _. omega arith) (λ _. omega arith)

part : (at end next c i : ℕ) (e : Bool) → at < next → next ≤ end → c ≤ 17 → Within at end (item_read next c i e)
unfolding Within
part at end next c i e f g h = (f, g, h)

broken : (at end : ℕ) → Within at end (Err Broken)
unfolding Within
broken at end = tt

out : (at end : ℕ) → Within at end (Err Out)
unfolding Within
out at end = tt

pub within : (s : List ℕ) (end at : ℕ) → Within at end (item_at s end at)
unfolding item_at item_of
within s end at =
    by_choice (Within at end) _ (λ _. out at end) λ e₁.
    by_choice (Within at end) _ (λ _. broken at end) λ _.
    by_choice (Within at end) _ (λ _. out at end) λ e₂.
    by_choice (Within at end) _
    (λ g.
    let h : at < end = leb-false end at e₁ in
    let k : body_length (get_or s at 0) ≤ end - (at + 1) = ltb-false (end - (at + 1)) (body_length (get_or s at 0)) e₂ in
    part at end _ _ _ _ (omega arith) (omega arith) (few (get_or s at 0) (get_or s (at + 1) 0) (size_at s at) g))
    (λ _. broken at end)

-- where the reading stands: what is to be found is what is found from here, and there is fuel for what is left
pub record Going (s : List ℕ) (limit end at pending top : ℕ) (e : Bool) : Type 0 where
  pub fuel : ℕ
  pub left : end < at + fuel
  pub same : read_type s limit ≡ read_from fuel s limit at pending top e

pub starts : (s : List ℕ) (limit end : ℕ) → end ≡ min (length s) limit → Going s limit end 0 1 0 false
unfolding read_type
starts s limit end q = record { fuel = suc (min (length s) limit); left = omega arith; same = refl }

-- what a turn finds, by the item that stands there
abbrev pub Turned : List ℕ → ℕ → ℕ → ℕ → ℕ → ℕ → Bool → Result Item ItemFault → Type 0
Turned s limit end at pending top e (Err Broken) = read_type s limit ≡ Err Malformed
Turned s limit end at pending top e (Err Out) = read_type s limit ≡ Err (no_end (length s) limit top e)
Turned s limit end at pending top e (Ok r) =
    (at < r.next) × (r.next ≤ end) × (r.children ≤ 17) × Going s limit end r.next (pending - 1 + r.children) (max top r.id) (e || r.error)

module _ (s : List ℕ) (limit end at pending top : ℕ) (e : Bool) (q : end ≡ min (length s) limit) (low : at ≤ end) where
  turned : (f : ℕ) → end < at + suc f
      → (r : Result Item ItemFault) → Within at end r
      → read_type s limit ≡ after r (no_end (length s) limit top e) (λ next c i e₁. read_from f s limit next (pending - 1 + c) (max top i) (e || e₁))
      → Turned s limit end at pending top e r
  unfolding Within
  turned f h (Ok r) w t = (w.0, w.1, w.2, record { fuel = f; left = omega arith; same = t })
  turned f h (Err Broken) w t = t
  turned f h (Err Out) w t = t

  turn_from : (f : ℕ) → end < at + f → (pending ≡ 0 → ⊥) → read_type s limit ≡ read_from f s limit at pending top e
      → (r : Result Item ItemFault) → r ≡ item_at s end at → Turned s limit end at pending top e r
  unfolding read_from choose
  turn_from zero h p t r i = absurd (omega arith)
  turn_from (suc f) h p t r i =
      let w : Within at end r = rw i (within s end at) in
      turned f h r w (t ∙ rw (ne_eqb pending 0 p, i, q))

  pub turn : Going s limit end at pending top e → (pending ≡ 0 → ⊥) → (r : Result Item ItemFault) → r ≡ item_at s end at → Turned s limit end at pending top e r
  turn g p r i = turn_from g.fuel g.left p g.same r i

  ends_from : (f : ℕ) → end < at + f → pending ≡ 0 → read_type s limit ≡ read_from f s limit at pending top e → read_type s limit ≡ whole_read at top e
  unfolding read_from choose
  ends_from zero h p t = absurd (omega arith)
  ends_from (suc f) h p t = t ∙ rw (eq-eqb pending 0 p)

  pub ends : Going s limit end at pending top e → pending ≡ 0 → read_type s limit ≡ whole_read at top e
  ends g p = ends_from g.fuel g.left p g.same
