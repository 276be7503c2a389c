-- A record at a cursor by its front, malformed or not.
use Prim.Native.Nat.{ℕ, ◌+◌, ◌-◌, ◌≤◌, ◌<◌}
use lib.ListN.{length, drop, take, length-drop}
use lib.Seq.{take-take}
use mathlib.Core.List.{List}
use mathlib.Core.Path.{◌≡◌, sym, ap, ◌∙◌, subst}
use native.Mathlib.Omega.{arith}
use Rattle.record.proofs.RecordSizes.{Fits, head_fits}
use Rattle.record.proofs.Bounds.{head_bounded}
use Rattle.record.proofs.Records.{record_own, record_part}
use Rattle.record.specs.Inside.Front.{Front, front_of, front_of_head}
use Rattle.record.specs.Inside.HeadFault.{name_bytes}
use Rattle.record.specs.Inside.Walk.{CursorAt, Stands, record_at}
use Rattle.record.specs.declared.front.Head.{Head}
use Rattle.record.specs.declared.walk.Cursor.{Cursor}

pub record Standing (t : List ℕ) (c : Cursor) (h : Front) : Type 0 where
  pub at : CursorAt t c
  pub some : c.at < length t
  pub head : h ≡ front_of (drop c.at t)

pub standing : (t : List ℕ) (c : Cursor) (h : Head) → Stands t c h → Standing t c (front_of_head h)
standing t c h s = record { at = s.at; some = s.some; head = s.head }

module _ (t : List ℕ) (c : Cursor) (h : Front) (st : Standing t c h) where
  pub standing_own : h ≡ front_of (record_at t c)
  standing_own = st.head ∙ sym (record_own t c st.some)

  fits : Fits h.kind h.len
  fits = subst (λ (x : Front). Fits x.kind x.len) (sym st.head) (head_fits (drop c.at t))

  pub standing_room : h.kind ≡ 1 → c.at + 26 ≤ length t
  standing_room e =
      let b = head_bounded (drop c.at t) (omega (arith, length-drop c.at t, st.some)) in
      let l : h.len ≡ (front_of (drop c.at t)).len = ap (λ (x : Front). x.len) st.head in
      omega (arith, fits.name e, length-drop c.at t, st.some, b.high)

  pub standing_bytes : h.kind ≡ 1 → take 24 (drop (c.at + 2) t) ≡ name_bytes (record_at t c)
  standing_bytes e =
      let n : (front_of (drop c.at t)).len - 2 ≡ 24 = omega (arith, fits.name e, ap (λ (x : Front). x.len) st.head) in
      sym (ap (λ (z : List ℕ). take 24 z) (record_part t c 2 ∙ ap (λ (k : ℕ). take k (drop (c.at + 2) t)) n) ∙ take-take 24 24 (drop (c.at + 2) t) (omega arith))
