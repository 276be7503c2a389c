-- Demand 1.
use Prim.Native.Nat.{ℕ, ◌*◌, ◌≤◌, ◌<◌}
use borrow.Author.Tests.{eq-eqb, ne_eqb, eqb-true, eqb-false, ltb-true, ltb-false, lt-ltb}
use lib.Dec.{eqb, ltb}
use lib.ListN.{length}
use mathlib.Core.Bool.{Bool, true, false}
use mathlib.Core.List.{List}
use mathlib.Core.Logic.{◌≢◌, ◌↔◌}
use mathlib.Core.Path.{◌≡◌, refl, ap, sym, ◌∙◌}
use native.Mathlib.Omega.{arith}
use Rattle.area.specs.Diagnostic.{record_length}
use Rattle.question.proofs.Accepted.{accepted, accepted_fits}
use Rattle.question.specs.QuestionRefused.{question_fault}
use Rattle.record.specs.TableRefused.{table_fault}
use Rattle.ty.specs.Choose.{choose}
use Rattle.typing.proofs.Answers.{no_fault, answer_judged}
use Rattle.typing.proofs.Numbers.{table_upto, question_upto}
use Rattle.typing.proofs.Promise.{fits}
use Rattle.typing.proofs.Tables.{symbols_fit}
use Rattle.typing.specs.Answer.{Answer, answer_bytes, zeros, names_of, fault_of, judgement_of, refused, given, answered, answer_of, buffer_of}
use Rattle.typing.specs.Demand1.{Demand1}
use Rattle.typing.specs.Judge.{Judged}

-- a refusal has zeros everywhere
record Bare (a : Answer) : Type 0 where
  pass : a.pass ≡ 0
  len : a.len ≡ 0
  count : a.count ≡ 0
  ty : a.ty ≡ zeros answer_bytes

bare : (n : ℕ) → Bare (refused n)
bare n = record { pass = refl; len = refl; count = refl; ty = refl }

answered_bare : (lent : ℕ) (j : Judged) → (answered lent j).number ≢ 0 → Bare (answered lent j)
unfolding answered choose
answered_bare lent j h = go (ltb answer_bytes (length j.ty)) (ltb lent (record_length * length j.diags)) h
  where
    go : (a b : Bool) → (choose a (refused 13) (choose b (refused 12) (given j))).number ≢ 0 → Bare (choose a (refused 13) (choose b (refused 12) (given j)))
    go true b n = bare 13
    go false true n = bare 12
    go false false n = absurd (n refl)

-- the numbers that a judgement leads to
record Drawn (lent : ℕ) (j : Judged) : Type 0 where
  zero : ((answered lent j).number ≡ 0) ↔ ((length j.ty ≤ answer_bytes) × (record_length * length j.diags ≤ lent))
  thirteen : ((answered lent j).number ≡ 13) ↔ (answer_bytes < length j.ty)
  twelve : ((answered lent j).number ≡ 12) ↔ ((length j.ty ≤ answer_bytes) × (lent < record_length * length j.diags))

drawn : (lent : ℕ) (j : Judged) → Drawn lent j
unfolding answered choose
drawn lent j = go (ltb answer_bytes (length j.ty)) refl (ltb lent (record_length * length j.diags)) refl
  where
    go : (a : Bool) → ltb answer_bytes (length j.ty) ≡ a → (b : Bool) → ltb lent (record_length * length j.diags) ≡ b → Drawn lent j
    go true e b f =
        let h : answer_bytes < length j.ty = ltb-true answer_bytes (length j.ty) e in
        let n : (answered lent j).number ≡ 13 = rw e in
        record {
          zero = (λ m. absurd (omega arith), λ (l, m). absurd (omega arith));
          thirteen = (λ _. h, λ _. n);
          twelve = (λ m. absurd (omega arith), λ (l, m). absurd (omega arith));
        }
    go false e true f =
        let h : length j.ty ≤ answer_bytes = ltb-false answer_bytes (length j.ty) e in
        let g : lent < record_length * length j.diags = ltb-true lent (record_length * length j.diags) f in
        let n : (answered lent j).number ≡ 12 = rw (e, f) in
        record {
          zero = (λ m. absurd (omega arith), λ (l, m). absurd (omega arith));
          thirteen = (λ m. absurd (omega arith), λ l. absurd (omega arith));
          twelve = (λ _. (h, g), λ _. n);
        }
    go false e false f =
        let h : length j.ty ≤ answer_bytes = ltb-false answer_bytes (length j.ty) e in
        let g : record_length * length j.diags ≤ lent = ltb-false lent (record_length * length j.diags) f in
        let n : (answered lent j).number ≡ 0 = rw (e, f) in
        record {
          zero = (λ _. (h, g), λ _. n);
          thirteen = (λ m. absurd (omega arith), λ l. absurd (omega arith));
          twelve = (λ m. absurd (omega arith), λ (l, m). absurd (omega arith));
        }

module _ (t q : List ℕ) (lent : ℕ) where
  fault_upto : fault_of t q ≤ 11
  unfolding fault_of choose
  fault_upto = go (eqb (table_fault t) 0)
    where
      go : (b : Bool) → choose b (question_fault (names_of t) q) (table_fault t) ≤ 11
      go true = question_upto (names_of t) q
      go false = omega (arith, table_upto t)

  fault_table : table_fault t ≢ 0 → fault_of t q ≡ table_fault t
  unfolding fault_of choose
  fault_table h = rw (ne_eqb (table_fault t) 0 h)

  fault_question : table_fault t ≡ 0 → fault_of t q ≡ question_fault (names_of t) q
  unfolding fault_of choose
  fault_question e = rw (eq-eqb (table_fault t) 0 e)

  -- no fault says that both are accepted
  both : fault_of t q ≡ 0 → (table_fault t ≡ 0) × (question_fault (names_of t) q ≡ 0)
  both e = go (eqb (table_fault t) 0) refl
    where
      go : (b : Bool) → eqb (table_fault t) 0 ≡ b → (table_fault t ≡ 0) × (question_fault (names_of t) q ≡ 0)
      go true f = let z : table_fault t ≡ 0 = eqb-true (table_fault t) 0 f in (z, sym (fault_question z) ∙ e)
      go false f = let z : table_fault t ≢ 0 = eqb-false (table_fault t) 0 f in absurd (z (sym (fault_table z) ∙ e))

  faulty : fault_of t q ≢ 0 → answer_of t q lent ≡ refused (fault_of t q)
  unfolding answer_of choose
  faulty h = rw (ne_eqb (fault_of t q) 0 h)

  answer_bare : (answer_of t q lent).number ≢ 0 → Bare (answer_of t q lent)
  answer_bare h = go (eqb (fault_of t q) 0) refl
    where
      go : (b : Bool) → eqb (fault_of t q) 0 ≡ b → Bare (answer_of t q lent)
      go true e =
          let s : answer_of t q lent ≡ answered lent (judgement_of t q) = answer_judged t q lent (eqb-true (fault_of t q) 0 e) in
          rw s (answered_bare lent (judgement_of t q) (rw s at h))
      go false e = rw (faulty (eqb-false (fault_of t q) 0 e)) (bare (fault_of t q))

  buffer_bare : (answer_of t q lent).number ≢ 0 → buffer_of t q lent ≡ zeros lent
  unfolding buffer_of choose
  buffer_bare h = rw (ne_eqb (answer_of t q lent).number 0 h)

  -- a number that no fault has is the judgement's
  judged : (n : ℕ) → (fault_of t q ≢ 0 → fault_of t q ≢ n) → (answer_of t q lent).number ≡ n → (fault_of t q ≡ 0) × ((answered lent (judgement_of t q)).number ≡ n)
  judged n h e = go (eqb (fault_of t q) 0) refl
    where
      go : (b : Bool) → eqb (fault_of t q) 0 ≡ b → (fault_of t q ≡ 0) × ((answered lent (judgement_of t q)).number ≡ n)
      go true f = let z : fault_of t q ≡ 0 = eqb-true (fault_of t q) 0 f in (z, rw (answer_judged t q lent z) at e)
      go false f =
          let z : fault_of t q ≢ 0 = eqb-false (fault_of t q) 0 f in
          let m : fault_of t q ≡ n = rw (faulty z) at e in
          absurd (h z m)

  over : (n : ℕ) → 11 < n → fault_of t q ≢ n
  over n h e = omega (arith, fault_upto)

  number_is : (n : ℕ) → table_fault t ≡ 0 → question_fault (names_of t) q ≡ 0 → (answered lent (judgement_of t q)).number ≡ n → (answer_of t q lent).number ≡ n
  number_is n e f g = rw (answer_judged t q lent (no_fault t q lent e f)) g

  -- the root type of what is accepted has a place in the answer
  root_fits : table_fault t ≡ 0 → question_fault (names_of t) q ≡ 0 → length (judgement_of t q).ty ≤ answer_bytes
  root_fits e f = fits t q lent (no_fault t q lent e f) (symbols_fit t e) (accepted_fits (names_of t) q f) (accepted (names_of t) q f).tree.few

  -- whatever the bytes and the buffer are
  pub demand1 : Demand1 t q lent (answer_of t q lent) (buffer_of t q lent)
  demand1 =
      let d : Drawn lent (judgement_of t q) = drawn lent (judgement_of t q) in
      record {
        table = λ h.
            let e : fault_of t q ≡ table_fault t = fault_table h in
            ap (λ (a : Answer). a.number) (faulty (λ z. h (sym e ∙ z))) ∙ e;
        question = λ e h.
            let f : fault_of t q ≡ question_fault (names_of t) q = fault_question e in
            ap (λ (a : Answer). a.number) (faulty (λ z. h (sym f ∙ z))) ∙ f;
        zero = (
          λ e. let (z, n) = judged 0 (λ h. h) e in let (x, y) = both z in let (l, m) = d.zero.0 n in (x, y, l, m),
          λ (x, y, l, m). number_is 0 x y (d.zero.1 (l, m)),
        );
        thirteen = (
          λ e. let (z, n) = judged 13 (λ _. over 13 (omega arith)) e in let (x, y) = both z in (x, y, d.thirteen.0 n),
          λ (x, y, l). number_is 13 x y (d.thirteen.1 l),
        );
        never = λ e.
            let (z, n) = judged 13 (λ _. over 13 (omega arith)) e in
            let (x, y) = both z in
            omega (arith, d.thirteen.0 n, root_fits x y);
        twelve = (
          λ e. let (z, n) = judged 12 (λ _. over 12 (omega arith)) e in let (x, y) = both z in let (l, m) = d.twelve.0 n in (x, y, l, m),
          λ (x, y, l, m). number_is 12 x y (d.twelve.1 (l, m)),
        );
        pass = λ h. (answer_bare h).pass;
        len = λ h. (answer_bare h).len;
        count = λ h. (answer_bare h).count;
        ty = λ h. (answer_bare h).ty;
        buffer = buffer_bare;
      }

-- a table over 60,000 bytes
pub longer : (t : List ℕ) → 60000 < length t → table_fault t ≡ 1
unfolding table_fault choose
longer t h = rw (lt-ltb 60000 (length t) h)
