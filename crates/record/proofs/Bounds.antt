-- A record has at least a byte, and no more than there are.
use Prim.Native.Nat.{ℕ, ◌≤◌, ◌<◌}
use borrow.Author.Tests.{ltb-false, lt-ltb}
use lib.Dec.{eqb, ltb}
use lib.ListN.{length, get_or, drop}
use mathlib.Core.Bool.{Bool}
use mathlib.Core.List.{List}
use mathlib.Core.Path.{◌≡◌, refl}
use native.Mathlib.Omega.{arith}
use Rattle.std.proofs.Common.{Result, Ok, Err}
use Rattle.ty.proofs.Choice.{by_choice, choose_yes}
use Rattle.ty.specs.Bytes.{id_at}
use Rattle.ty.specs.Choose.{choose}
use Rattle.ty.specs.Read.{read_type, longest_type}
use Rattle.ty.specs.declared.read.TypeFault.TheVariants.{Cut, Malformed, Endless}
use Rattle.ty.specs.declared.read.TypeFault.{TypeFault}
use Rattle.ty.specs.declared.read.TypeRead.{TypeRead}
use Rattle.record.proofs.ParamSteps.{read-inside}
use Rattle.record.proofs.Types.{ends_in}
use Rattle.record.specs.Inside.Front.{broken_head, plain_head, name_head, class_head, operators_head, params_read, function_with, function_head, field_with, field_head, visibility_head, suspend_head, variant_head, head_by, front_of}
use Rattle.record.specs.Inside.Walk.{EndsIn}
use Rattle.record.specs.Inside.Front.{Front}
use Rattle.record.specs.Inside.Front.{Run}

pub record Bounded (s : List ℕ) (h : Front) : Type 0 where
  pub low : 1 ≤ h.len
  pub high : h.len ≤ length s

module _ (s : List ℕ) (some : 0 < length s) where
  broken : Bounded s (broken_head s)
  broken = record { low = some; high = omega arith }

  plain : (n : ℕ) (bad : Bool) (kind one two top : ℕ) → 1 ≤ n → Bounded s (plain_head s n bad kind one two top)
  unfolding plain_head
  plain n bad kind one two top h =
      by_choice (Bounded s) (ltb (length s) n) (λ _. broken) λ e.
      by_choice (Bounded s) bad (λ _. broken) (λ _. record { low = h; high = ltb-false (length s) n e })

  function_with_lem : (c : Run) → 8 ≤ c.len → c.len ≤ length s → Bounded s (function_with s c)
  unfolding function_with
  function_with_lem c l h =
      by_choice (Bounded s) (eqb c.state 0) (λ _. record { low = omega arith; high = h }) λ _.
      by_choice (Bounded s) (eqb c.state 2) (λ _. record { low = some; high = omega arith }) (λ _. broken)

  function : Bounded s (function_head s)
  unfolding function_head
  function =
      by_choice (Bounded s) (ltb (length s) 8) (λ _. broken) λ e.
      by_choice (Bounded s) (ltb 3 (get_or s 5 0)) (λ _. broken) λ _.
      by_choice (Bounded s) (ltb 1 (get_or s 6 0)) (λ _. broken) λ _.
      by_choice (Bounded s) (ltb 16 (get_or s 7 0)) (λ _. broken) λ _.
      let r = read-inside s (ltb-false (length s) 8 e) in
      function_with_lem (params_read s) r.0 r.1

  field_with_lem : (one two : ℕ) (r : Result TypeRead TypeFault) → EndsIn 5 s r → Bounded s (field_with s one two r)
  field_with_lem one two (Ok found) h = record { low = omega arith; high = h }
  field_with_lem one two (Err Cut) h = broken
  field_with_lem one two (Err Malformed) h = broken
  field_with_lem one two (Err (Endless top e)) h = record { low = some; high = omega arith }

  field : Bounded s (field_head s)
  unfolding field_head
  field =
      by_choice (Bounded s) (ltb (length s) 5) (λ _. broken) λ e.
      field_with_lem (id_at s 1) (id_at s 3) (read_type (drop 5 s) longest_type) (ends_in 5 s (ltb-false (length s) 5 e))

  name : Bounded s (name_head s)
  unfolding name_head
  name = plain 26 _ 1 0 0 0 (omega arith)

  class : Bounded s (class_head s)
  unfolding class_head
  class = plain 12 _ 2 _ _ _ (omega arith)

  operators : Bounded s (operators_head s)
  unfolding operators_head
  operators = plain 5 _ 3 _ _ _ (omega arith)

  visibility : Bounded s (visibility_head s)
  unfolding visibility_head
  visibility = plain 6 _ 6 _ _ _ (omega arith)

  suspend : Bounded s (suspend_head s)
  unfolding suspend_head
  suspend = plain 5 _ 7 _ _ _ (omega arith)

  variant : Bounded s (variant_head s)
  unfolding variant_head
  variant = plain 5 _ 8 _ _ _ (omega arith)

  pub head_bounded : Bounded s (front_of s)
  unfolding front_of head_by
  head_bounded =
      by_choice (Bounded s) (eqb (get_or s 0 0) 1) (λ _. name) λ _.
      by_choice (Bounded s) (eqb (get_or s 0 0) 2) (λ _. class) λ _.
      by_choice (Bounded s) (eqb (get_or s 0 0) 3) (λ _. operators) λ _.
      by_choice (Bounded s) (eqb (get_or s 0 0) 4) (λ _. function) λ _.
      by_choice (Bounded s) (eqb (get_or s 0 0) 5) (λ _. field) λ _.
      by_choice (Bounded s) (eqb (get_or s 0 0) 6) (λ _. visibility) λ _.
      by_choice (Bounded s) (eqb (get_or s 0 0) 7) (λ _. suspend) λ _.
      by_choice (Bounded s) (eqb (get_or s 0 0) 8) (λ _. variant) (λ _. broken)

-- and one of less than 5 bytes is malformed
pub short_head : (kind : ℕ) (s : List ℕ) → length s < 5 → head_by kind s ≡ broken_head s
unfolding head_by name_head class_head operators_head function_head field_head visibility_head suspend_head variant_head plain_head
short_head kind s h =
    by_choice Is (eqb kind 1) (λ _. cut 26 _ (omega arith)) λ _.
    by_choice Is (eqb kind 2) (λ _. cut 12 _ (omega arith)) λ _.
    by_choice Is (eqb kind 3) (λ _. cut 5 _ h) λ _.
    by_choice Is (eqb kind 4) (λ _. cut 8 _ (omega arith)) λ _.
    by_choice Is (eqb kind 5) (λ _. cut 5 _ h) λ _.
    by_choice Is (eqb kind 6) (λ _. cut 6 _ (omega arith)) λ _.
    by_choice Is (eqb kind 7) (λ _. cut 5 _ h) λ _.
    by_choice Is (eqb kind 8) (λ _. cut 5 _ h) (λ _. refl)
  where
    Is : Front → Type 0
    Is f = f ≡ broken_head s

    cut : (n : ℕ) (f : Front) → length s < n → choose (ltb (length s) n) (broken_head s) f ≡ broken_head s
    cut n f l = choose_yes _ _ _ (lt-ltb (length s) n l)
