-- A type that was read whole has at least a byte, and at most the limit and what there was.
use Prim.Native.Nat.{ℕ, zero, suc, ◌+◌, ◌-◌, ◌≤◌, min, max}
use lib.Dec.{eqb}
use lib.ListN.{length}
use mathlib.Core.Bool.{Bool, false, ◌||◌}
use mathlib.Core.List.{List}
use mathlib.Core.Path.{◌≡◌}
use native.Mathlib.Omega.{arith}
use Rattle.std.specs.Prelude.{Result, Ok, Err}
use Rattle.ty.proofs.Choice.{by_choice}
use Rattle.ty.proofs.Reading.{Within, within}
use Rattle.ty.specs.Choose.{choose}
use Rattle.ty.specs.Read.{item_at, no_end, after, read_from, read_type, whole_read}
use Rattle.ty.specs.declared.read.Item.{Item}
use Rattle.ty.specs.declared.read.ItemFault.{ItemFault}
use Rattle.ty.specs.declared.read.ItemFault.TheVariants.{Broken, Out}
use Rattle.ty.specs.declared.read.TypeFault.TheVariants.{Malformed}
use Rattle.ty.specs.declared.read.TypeFault.{TypeFault}
use Rattle.ty.specs.declared.read.TypeRead.{TypeRead}

-- where it is whole, it ends from lo to hi
unfoldable Ends : ℕ → ℕ → Result TypeRead TypeFault → Type 0
Ends lo hi (Ok r) = (lo ≤ r.len) × (r.len ≤ hi)
Ends lo hi (Err fault) = Unit

weaker : (lo lo₁ hi : ℕ) → lo ≤ lo₁ → (r : Result TypeRead TypeFault) → Ends lo₁ hi r → Ends lo hi r
unfolding Ends
weaker lo lo₁ hi h (Ok r) w = omega arith
weaker lo lo₁ hi h (Err fault) w = tt

at_whole : (at hi top : ℕ) (e : Bool) → at ≤ hi → Ends at hi (whole_read at top e)
unfolding Ends
at_whole at hi top e h = (omega arith, h)

at_fault : (lo hi : ℕ) (fault : TypeFault) → Ends lo hi (Err fault)
unfolding Ends
at_fault lo hi fault = tt

onward : (at hi : ℕ) (r : Result Item ItemFault) (o : TypeFault) (k : ℕ → ℕ → ℕ → Bool → Result TypeRead TypeFault) → Within at hi r
    → ((n c i : ℕ) (e : Bool) → n ≤ hi → Ends n hi (k n c i e)) → Ends (suc at) hi (after r o k)
unfolding Within
onward at hi (Ok r) o k w g = weaker (suc at) r.next hi w.0 (k r.next r.children r.id r.error) (g r.next r.children r.id r.error w.1)
onward at hi (Err Broken) o k w g = at_fault (suc at) hi Malformed
onward at hi (Err Out) o k w g = at_fault (suc at) hi o

-- a fault is not whole
pub never_whole : (fault : TypeFault) (n t : ℕ) (e : Bool) → Err fault ≡ whole_read n t e → ⊥
never_whole fault n t e r = cc

module _ (s : List ℕ) (limit : ℕ) where
  abbrev end : ℕ
  end = min (length s) limit

  ends_from : (f at p top : ℕ) (e : Bool) → at ≤ end → Ends at end (read_from f s limit at p top e)
  unfolding read_from
  ends_from zero at p top e h = at_fault at end Malformed
  ends_from (suc f) at p top e h =
      by_choice (Ends at end) (eqb p 0) (λ _. at_whole at end top e h)
      (λ _.
      weaker at (suc at) end (omega arith) _
      (onward at end (item_at s end at) (no_end (length s) limit top e)
      (λ n c i e₁. read_from f s limit n (p - 1 + c) (max top i) (e || e₁))
      (within s end at)
      (λ n c i e₁ l. ends_from f n (p - 1 + c) (max top i) (e || e₁) l)))

  sized : Ends 1 end (read_type s limit)
  unfolding read_type read_from choose
  sized =
      onward 0 end (item_at s end 0) (no_end (length s) limit 0 false)
      (λ n c i e₁. read_from end s limit n (1 - 1 + c) (max 0 i) (false || e₁))
      (within s end 0)
      (λ n c i e₁ l. ends_from end n (1 - 1 + c) (max 0 i) (false || e₁) l)

  -- a reading from `at` on that comes to an end does not end before `at`, nor behind what is examined
  pub ends_behind : (f at p top n t : ℕ) (e e₁ : Bool) → at ≤ min (length s) limit → read_from f s limit at p top e ≡ whole_read n t e₁
      → (at ≤ n) × (n ≤ min (length s) limit)
  unfolding Ends
  ends_behind f at p top n t e e₁ h q = rw q at (ends_from f at p top e h)

  -- the bounds of a whole type
  pub whole : (n top : ℕ) (e : Bool) → read_type s limit ≡ whole_read n top e → (1 ≤ n) × (n ≤ limit) × (n ≤ length s)
  unfolding Ends
  whole n top e q = let h = rw q at sized in omega arith
