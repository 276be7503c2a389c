-- A record whose first byte is a name's.
use Prim.Native.Nat.{ℕ, suc, ◌+◌, ◌<◌}
use lib.Dec.{ltb}
use lib.ListN.{length, get_or, drop, length-drop}
use lib.Seq.{get_or-drop}
use mathlib.Core.Bool.{Bool, true, false, true≢false}
use mathlib.Core.List.{List}
use mathlib.Core.Logic.{◌⊎◌, inl, inr}
use mathlib.Core.Path.{◌≡◌, refl, sym, ap, ◌∙◌}
use native.Mathlib.Omega.{arith, not-le}
use Rattle.std.proofs.lemmas.List.{get_or_past}
use Rattle.std.specs.Prelude.{Some, None}
use Rattle.record.proofs.Bounds.{head_bounded}
use Rattle.record.proofs.Records.{record_own}
use Rattle.ty.proofs.Choice.{choose_yes, choose_no}
use Rattle.record.specs.Inside.Front.{Front, broken_head, name_front, plain_head, name_head, head_by, front_of}
use Rattle.record.specs.Inside.Walk.{StepIs}
use Rattle.record.specs.declared.front.Head.{Head}
use Rattle.record.specs.declared.front.RecordKind.TheVariants.{Name}
use Rattle.record.specs.declared.walk.Cursor.{Cursor}
use Rattle.record.specs.declared.walk.Step.{Step}
use Rattle.ty.specs.Choose.{choose}

-- the front of every whole name
abbrev pub named : Head
named = record { kind = Name; one = 0; two = 0; len = 26; top = 0; repeated = false; error = false }

pub name_by : (s : List ℕ) → get_or s 0 0 ≡ 1 → front_of s ≡ name_head s
unfolding front_of head_by choose
name_by s e = ap (λ (k : ℕ). head_by k s) e

-- it is malformed, or a whole name
pub name_cases : (s : List ℕ) → (name_head s ≡ broken_head s) ⊎ (name_head s ≡ name_front)
unfolding name_head plain_head
name_cases s = go (ltb (length s) 26) _
  where
    go : (a b : Bool) → (choose a (broken_head s) (choose b (broken_head s) name_front) ≡ broken_head s)
        ⊎ (choose a (broken_head s) (choose b (broken_head s) name_front) ≡ name_front)
    go true b = inl (choose_yes _ _ _ refl)
    go false true = inl (choose_no _ _ _ refl ∙ choose_yes _ _ _ refl)
    go false false = inr (choose_no _ _ _ refl ∙ choose_no _ _ _ refl)

-- one that is not malformed is a whole name
pub whole_name : (s : List ℕ) → get_or s 0 0 ≡ 1 → (front_of s).malformed ≡ false → front_of s ≡ name_front
whole_name s e w = go (name_cases s)
  where
    go : (name_head s ≡ broken_head s) ⊎ (name_head s ≡ name_front) → front_of s ≡ name_front
    go (inl b) = absurd (true≢false (ap (λ (z : Front). z.malformed) (sym (name_by s e ∙ b)) ∙ w))
    go (inr n) = name_by s e ∙ n

-- a step over it
module _ (t : List ℕ) (c : Cursor) (e : get_or t c.at 0 ≡ 1) where
  pub name_some : c.at < length t
  name_some = not-le (length t) c.at (λ l. omega (arith, e, get_or_past t c.at 0 l))

  pub name_byte : get_or (drop c.at t) 0 0 ≡ 1
  name_byte =
      let z : c.at + 0 ≡ c.at = omega arith in
      get_or-drop c.at t 0 0 ∙ ap (λ (i : ℕ). get_or t i 0) z ∙ e

  abbrev pub named_step : Step
  named_step = record { head = Some named; next = record { at = c.at + 26; index = suc c.index } }

  pub name_step : front_of (drop c.at t) ≡ name_front → StepIs t c named_step
  name_step w =
      let l : 26 ≡ (front_of (drop c.at t)).len = ap (λ (z : Front). z.len) (sym w) in
      record {
        head = sym w;
        own = sym (record_own t c name_some ∙ w);
        next = ap (λ (n : ℕ). c.at + n) l;
        index = omega arith;
        low = omega arith;
        high = omega (arith, l, (head_bounded (drop c.at t) (omega (arith, length-drop c.at t, name_some))).high, length-drop c.at t, name_some);
      }

  abbrev pub broken_step : Step
  broken_step = record { head = None; next = record { at = c.at + (front_of (drop c.at t)).len; index = c.index + 1 } }

  pub broken_is : front_of (drop c.at t) ≡ broken_head (drop c.at t) → StepIs t c broken_step
  broken_is w =
      let b = head_bounded (drop c.at t) (omega (arith, length-drop c.at t, name_some)) in
      record {
        head = sym w;
        own = sym (record_own t c name_some ∙ w);
        next = refl;
        index = refl;
        low = omega (arith, b.low);
        high = omega (arith, b.high, length-drop c.at t, name_some);
      }
