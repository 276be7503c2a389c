-- What holds of a record that draws no number.
use Prim.Native.Nat.{ℕ, suc, ◌≤◌}
use borrow.Author.Tests.{ltb-false}
use lib.Dec.{ltb}
use mathlib.Core.Bool.{Bool, true, false, not, true≢false, ◌||◌}
use mathlib.Core.List.{List}
use mathlib.Core.Path.{◌≡◌, refl, sym}
use native.Mathlib.Omega.{arith}
use Rattle.ty.specs.Choose.{choose}
use Rattle.ty.specs.Name.{id_defined}
use Rattle.record.specs.Inside.Front.{front_of}
use Rattle.record.specs.Inside.HeadFault.{is_builtin_name, has_key, parent_late, last_kind, head_fault}
use Rattle.record.specs.Inside.FrontRecord.{count_of}
use Rattle.record.specs.Table.{Record}

-- a chain of tests that ends in 0 took no arm that is not 0
pub not_taken : (v : Bool) (n x : ℕ) → choose v (suc n) x ≡ 0 → (v ≡ false) × (x ≡ 0)
unfolding choose
not_taken true n x e = absurd (omega arith)
not_taken false n x e = (refl, e)

pub or_false : (a b : Bool) → a || b ≡ false → (a ≡ false) × (b ≡ false)
or_false true b e = absurd (true≢false e)
or_false false b e = (refl, e)

pub not-false : (a : Bool) → not a ≡ false → a ≡ true
not-false true e = refl
not-false false e = sym e

pub record Clean (earlier : List Record) (r : Record) (rest : List Record) : Type 0 where
  pub whole : (front_of r).malformed ≡ false
  pub rises : last_kind earlier ≤ (front_of r).kind
  pub defined : id_defined (front_of r).top (count_of 1 earlier) ≡ true
  pub distinct : (front_of r).repeated ≡ false
  pub own : is_builtin_name r ≡ false
  pub fresh : has_key r earlier ≡ false
  pub parent : parent_late earlier r rest ≡ false
  pub typed : (front_of r).error ≡ false

pub clean_record : (earlier : List Record) (r : Record) (rest : List Record) → head_fault earlier r rest ≡ 0 → Clean earlier r rest
unfolding head_fault
clean_record earlier r rest e =
    let a = not_taken (front_of r).malformed 1 _ e in
    let b = not_taken (ltb (front_of r).kind (last_kind earlier)) 2 _ a.1 in
    let c = not_taken (not (id_defined (front_of r).top (count_of 1 earlier))) 3 _ b.1 in
    let d = not_taken ((front_of r).repeated || (is_builtin_name r || has_key r earlier)) 4 _ c.1 in
    let f = not_taken (parent_late earlier r rest) 5 _ d.1 in
    let g = not_taken (front_of r).error 6 _ f.1 in
    let h = or_false (front_of r).repeated (is_builtin_name r || has_key r earlier) d.0 in
    let i = or_false (is_builtin_name r) (has_key r earlier) h.1 in
    record {
      whole = a.0;
      rises = ltb-false (front_of r).kind (last_kind earlier) b.0;
      defined = not-false (id_defined (front_of r).top (count_of 1 earlier)) c.0;
      distinct = h.0;
      own = i.0;
      fresh = i.1;
      parent = f.0;
      typed = g.0;
    }
