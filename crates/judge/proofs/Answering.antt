-- Laws of the answer, on plain values: what each return leaves.
use Prim.Native.Nat.{ℕ, suc, ◌*◌, ◌≤◌}
use borrow.Author.Tests.{eq-eqb, ne_eqb, ltb-false}
use lib.Dec.{eqb, ltb}
use lib.ListN.{length, length-replicate}
use lib.Seq.{sets}
use mathlib.Core.Bool.{Bool, true, false}
use mathlib.Core.List.{List, [], ◌∷◌}
use mathlib.Core.Path.{◌≡◌, refl, sym, ap, ◌∙◌}
use native.Mathlib.Omega.{arith}
use Rattle.area.proofs.Diagnostics.{put_all-length, put_padded}
use Rattle.area.proofs.Reporting.{reported_bytes}
use Rattle.written.proofs.ListFacts.{sets-zeros}
use Rattle.area.specs.Diagnostic.{Diag, record_length, records, put_all}
use Rattle.cycle.proofs.Spaces.{tree_room}
use Rattle.std.proofs.Common.{Option, None, Some, Ok, Err}
use Rattle.judge.specs.Answered.{outcome_is, Answered, AcceptedDemand3}
use Rattle.judge.specs.Inside.Root.{passes_at, root_refusal, root_answer, root_buffer, RootIs}
use Rattle.judge.specs.declared.Judged.{Judged as Outcome}
use Rattle.judge.specs.declared.refusal.Refusal.{Refusal}
use Rattle.judge.specs.declared.refusal.Refusal.TheVariants.{Table, Question, TypeTooLong, ShortBuffer}
use Rattle.cycle.proofs.Holding.{space_behind, tree_held}
use Rattle.cycle.specs.Inside.Contract.{Space, NodeAsked, NodeIs}
use Rattle.area.specs.Reported.{reported}
use Rattle.area.specs.declared.reports.Reports.{Reports}
use Rattle.nodes.proofs.Reaching.{reached_count}
use Rattle.nodes.specs.Inside.SlotsFilled.{SlotsFilled}
use Rattle.written.specs.Padding.{padded_to}
use Rattle.area.specs.Inside.Slot.{Holds, type_at}
use Rattle.nodes.specs.declared.progress.State.{State}
use Rattle.question.proofs.Accepted.{accepted}
use Rattle.question.proofs.QuestionFaults.{some_number}
use Rattle.question.specs.FaultNumber.{question_fault_number}
use Rattle.question.specs.Header.{header_of}
use Rattle.question.specs.Parse.{tree_of}
use Rattle.question.specs.QuestionRefused.{question_fault}
use Rattle.question.specs.declared.Header.{Header}
use Rattle.question.specs.declared.QuestionFault.{QuestionFault}
use Rattle.symbol.proofs.Verdicts.{fault_some}
use Rattle.symbol.specs.TableFault.{table_fault_number}
use Rattle.symbol.specs.declared.checks.TableFault.{TableFault}
use Rattle.record.specs.TableRefused.{table_fault}
use Rattle.record.specs.Table.{records_of, name_count}
use Rattle.ty.proofs.Choice.{by_choice, choose_yes, choose_no}
use Rattle.ty.specs.Choose.{choose}
use Rattle.ty.specs.Bytes.{Ty}
use Rattle.typing.proofs.Answers.{no_fault, answer_judged}
use Rattle.typing.proofs.Demand1.{demand1}
use Rattle.typing.proofs.Demand3.{demand3}
use Rattle.typing.specs.Answer as of
use Rattle.typing.specs.Answer.{answer_bytes, zeros, names_of, fault_of, judgement_of, refused, given, answered, answer_of, buffer_of}
use Rattle.typing.specs.Demand1.{Demand1}
use Rattle.typing.specs.Judge.{Judged}
use Rattle.typing.specs.Mark.{no_diag, no_error, passes, mark_of}

-- ---- the root
-- no refusal: the type has at most 256 bytes
number_short : (len count lent : ℕ) → root_refusal len count lent ≡ None → len ≤ answer_bytes
unfolding root_refusal
number_short len count lent = by_choice (λ (o : Option Refusal). o ≡ None → len ≤ answer_bytes) _ (λ _ z. absurd (cc)) (λ e _. ltb-false answer_bytes len e)

module _ (s : State) (count : ℕ) (root : Ty) (b : List ℕ) (o : Option Refusal) (is : o ≡ root_refusal (length root) count (length b)) where
  pub root_no : (r : Refusal) → o ≡ Some r → (ty : List ℕ) → ty ≡ zeros answer_bytes → (b' : List ℕ) → b' ≡ zeros (length b) → RootIs s count root b b' (outcome_is (Err r) ty)
  unfolding root_answer root_buffer
  root_no r e ty f b' g = record { answer = rw (← is, e, f); buffer = rw (← is, e) g }

  pub root_yes : o ≡ None → (j : Outcome) → j.len ≡ length root → j.count ≡ count → j.pass ≡ passes_at s count → (ty : List ℕ) → ty ≡ padded_to answer_bytes root
      → RootIs s count root b b (outcome_is (Ok j) ty)
  unfolding root_answer root_buffer
  root_yes z j e f g ty h = record { answer = rw (← is, z, e, f, g, h); buffer = rw (← is, z) refl }

  pub root_short : o ≡ None → length root ≤ 256
  root_short z = number_short (length root) count (length b) (sym is ∙ z)

-- ---- a judgement's answer
no_diag_lem : (ds : List Diag) → no_diag ds ≡ eqb (length ds) 0
unfolding no_diag
no_diag_lem [] = refl
no_diag_lem (d ∷ ds) = sym (ne_eqb (suc (length ds)) 0 (λ z. omega arith))

-- the mark of the state behind the root is that of its judgement
passes_at_lem : (s : State) (count : ℕ) (j : Judged) → count ≡ length j.diags → s.fine ≡ no_error j.typed → passes_at s count ≡ passes j
unfolding passes_at passes
passes_at_lem s count j e f = rw (e, f, no_diag_lem j.diags)

module _ (lent : ℕ) (s : State) (count : ℕ) (j : Judged) (root : Ty) (b : List ℕ) (held : root ≡ j.ty) (cnt : count ≡ length j.diags) (fine : s.fine ≡ no_error j.typed)
    (is : b ≡ put_all (zeros lent) 0 j.diags) where
  buffer_long : length b ≡ lent
  buffer_long = ap (λ (w : List ℕ). length w) is ∙ put_all-length (zeros lent) 0 j.diags ∙ length-replicate lent 0

  abbrev refusal : Option Refusal
  refusal = root_refusal (length j.ty) (length j.diags) lent

  refusal_is : root_refusal (length root) count (length b) ≡ refusal
  refusal_is = rw (held, cnt, buffer_long)

  by_refusal : root_answer refusal s count j.ty ≡ answered lent j
  unfolding root_answer root_refusal answered choose
  by_refusal =
      let g : ◌≡◌ {A = of.Answer} (record { number = 0; pass = mark_of (passes_at s count); ty = padded_to answer_bytes j.ty; len = length j.ty; count = count }) (given j)
      = λ i. record { number = 0; pass = mark_of (passes_at_lem s count j cnt fine i); ty = padded_to answer_bytes j.ty; len = length j.ty; count = cnt i } in
      go g (ltb answer_bytes (length j.ty)) (ltb lent (record_length * length j.diags))
    where
      go : root_answer None s count j.ty ≡ given j → (y z : Bool) → root_answer (choose y (Some TypeTooLong) (choose z (Some ShortBuffer) None)) s count j.ty ≡ choose y (refused 13) (choose z (refused 12) (given j))
      go e true z = refl
      go e false true = refl
      go e false false = e

  pub root_is : root_answer (root_refusal (length root) count (length b)) s count root ≡ answered lent j
  root_is = rw (refusal_is, held) by_refusal

  by_buffer : root_buffer refusal b ≡ choose (eqb (answered lent j).number 0) (padded_to lent (records j.diags)) (zeros lent)
  unfolding root_buffer root_refusal answered choose
  by_buffer = go (ltb answer_bytes (length j.ty)) (ltb lent (record_length * length j.diags)) refl
    where
      go : (y z : Bool) → ltb lent (record_length * length j.diags) ≡ z
          → root_buffer (choose y (Some TypeTooLong) (choose z (Some ShortBuffer) None)) b
          ≡ choose (eqb (choose y (refused 13) (choose z (refused 12) (given j))).number 0) (padded_to lent (records j.diags)) (zeros lent)
      go true z e = ap zeros buffer_long
      go false true e = ap zeros buffer_long
      go false false e = is ∙ put_padded lent j.diags (ltb-false lent (record_length * length j.diags) e)

  pub buffer_is : root_buffer (root_refusal (length root) count (length b)) b ≡ choose (eqb (answered lent j).number 0) (padded_to lent (records j.diags)) (zeros lent)
  buffer_is = rw refusal_is by_buffer

-- ---- a refusal before anything is judged
module _ (t q : List ℕ) (lent : ℕ) where
  faulty : (fault_of t q ≡ 0 → ⊥) → (r : of.Answer) → r ≡ refused (fault_of t q) → (b : List ℕ) → b ≡ zeros lent → Answered t q lent r b
  unfolding answer_of buffer_of choose
  faulty h r e b f =
      let a : answer_of t q lent ≡ refused (fault_of t q) = rw (ne_eqb (fault_of t q) 0 h) in
      let n : (answer_of t q lent).number ≡ fault_of t q = ap (λ (z : of.Answer). z.number) a in
      let m : (answer_of t q lent).number ≡ 0 → ⊥ = λ z. h (sym n ∙ z) in
      record { answer = e ∙ sym a; buffer = f ∙ sym (choose_no _ _ _ (ne_eqb (answer_of t q lent).number 0 m)) }

  -- the table's
  pub ret_table : (f : TableFault) → table_fault_number f ≡ table_fault t → (ty : List ℕ) → ty ≡ zeros answer_bytes → (b : List ℕ) → b ≡ zeros lent
      → Answered t q lent (outcome_is (Err (Table f)) ty) b
  unfolding fault_of
  ret_table f e ty g b h =
      let k : fault_of t q ≡ table_fault_number f = choose_no _ _ _ (ne_eqb (table_fault t) 0 (λ z. fault_some f (e ∙ z))) ∙ sym e in
      faulty (λ z. fault_some f (sym k ∙ z)) (outcome_is (Err (Table f)) ty) (rw (k, g)) b h

  module _ (clean : table_fault t ≡ 0) {m : ℕ} (counted : m ≡ name_count (records_of t)) where
    names_are : question_fault (record { count = m }) q ≡ question_fault (names_of t) q
    names_are = ap (λ (k : ℕ). question_fault (record { count = k }) q) counted

    -- the question's
    pub ret_question : (f : QuestionFault) → question_fault_number f ≡ question_fault (record { count = m }) q → (ty : List ℕ) → ty ≡ zeros answer_bytes
        → (b : List ℕ) → b ≡ zeros lent → Answered t q lent (outcome_is (Err (Question f)) ty) b
    unfolding fault_of
    ret_question f e ty g b h =
        let k : fault_of t q ≡ question_fault_number f = choose_yes _ _ _ (eq-eqb (table_fault t) 0 clean) ∙ sym names_are ∙ sym e in
        faulty (λ z. some_number f (sym k ∙ z)) (outcome_is (Err (Question f)) ty) (rw (k, g)) b h

    pub question_ok : 0 ≡ question_fault (record { count = m }) q → question_fault (names_of t) q ≡ 0
    question_ok z = sym names_are ∙ sym z

  -- ---- the judgement
  module _ (clean : table_fault t ≡ 0) (fine : question_fault (names_of t) q ≡ 0) where
    pub root_asked : {b : Reports} → b.count ≡ 0 → NodeAsked q (record { at = 5; node = 0; fine = true }) b
    root_asked z =
        let w = accepted (names_of t) q fine in
        record {
          tree = tree_of q;
          names = names_of t;
          stands = w.tree.stands;
          legal = w.tree.legal;
          room = omega (arith, tree_room q (tree_of q) 5 w.tree.stands w.tree.ends w.tree.few);
          within = record { long = w.short; few = omega arith };
        }

    module _ {H : Header} (head : H ≡ header_of q) {ts ts' : List Ty} {b₀ b : Reports} {s : State} (clear : b₀.buf.now ≡ zeros lent) (none : b₀.count ≡ 0)
        (is : (x : NodeAsked q (record { at = 5; node = 0; fine = true }) b₀) → NodeIs t H (record { at = 5; node = 0; fine = true }) ts ts' b₀ b s x.tree) where
      root_node : NodeIs t (header_of q) (record { at = 5; node = 0; fine = true }) ts ts' b₀ b s (tree_of q)
      unfolding root_asked
      root_node = rw head at (is (root_asked none))

      pub root_filled : SlotsFilled ts ts' (judgement_of t q).typed
      root_filled = root_node.filled

      root_count : b.count ≡ length (judgement_of t q).diags
      root_count = omega (arith, reached_count root_node.reached)

      pub root_few : b.count ≤ 4294967296
      root_few = let w = accepted (names_of t) q fine in omega (arith, root_count, root_node.few, w.tree.few)

      root_bytes : b.buf.now ≡ put_all (zeros lent) 0 (judgement_of t q).diags
      root_bytes =
          ap (λ (x : Reports). x.buf.now) root_node.reached.reports ∙ reported_bytes b₀ (judgement_of t q).diags
          ∙ ap (λ (w : List ℕ). put_all w b₀.count (judgement_of t q).diags) clear ∙ ap (λ (n : ℕ). put_all (zeros lent) n (judgement_of t q).diags) none

      -- the reports are still in the buffer that was lent
      pub root_same : b₀.buf.ghost_name ≡ b.buf.ghost_name
      unfolding reported
      root_same = ap (λ (x : Reports). x.buf.ghost_name) (sym root_node.reached.reports)

      root_held : Space q ts → Holds ts' 0 (judgement_of t q).ty
      root_held room =
          let k = (accepted (names_of t) q fine).tree in
          tree_held (record { clean = clean }) (header_of q) q (tree_of q) 0 5 k.stands (omega (arith, tree_room q (tree_of q) 5 k.stands k.ends k.few)) root_filled (space_behind root_filled room)

      pub ret_judged : Space q ts → {b' b₁ : List ℕ} {r : of.Answer} → RootIs s b.count (type_at ts' 0) b.buf.now b₁ r → b' ≡ b₁ → Answered t q lent r b'
      unfolding buffer_of
      ret_judged room {b'} {r = r} w same =
          let top : type_at ts' 0 ≡ (judgement_of t q).ty = (root_held room).is in
          let j : Judged = judgement_of t q in
          let mark : s.fine ≡ no_error j.typed = ap (λ (z : State). z.fine) root_node.reached.result in
          let root = root_is lent s b.count j (type_at ts' 0) b.buf.now top root_count mark root_bytes in
          let ans : answer_of t q lent ≡ answered lent j = answer_judged t q lent (no_fault t q lent clean fine) in
          record {
            answer = w.answer ∙ root ∙ sym ans;
            buffer = same ∙ w.buffer ∙ buffer_is lent s b.count j (type_at ts' 0) b.buf.now top root_count mark root_bytes
                ∙ ap (λ (z : of.Answer). choose (eqb z.number 0) (padded_to lent (records j.diags)) (zeros lent)) (sym ans);
          }

-- ---- a type goes to the front of zeros
pub type_padded : (ty ty' u t : List ℕ) → ty ≡ zeros answer_bytes → ty' ≡ sets ty 0 u → u ≡ t → length t ≤ answer_bytes → ty' ≡ padded_to answer_bytes t
unfolding padded_to
type_padded ty ty' u t e f g h =
    f ∙ ap (λ (w : List ℕ). sets w 0 u) e ∙ ap (λ (w : List ℕ). sets (zeros answer_bytes) 0 w) g ∙ sets-zeros [] t answer_bytes h

-- ---- a buffer that is all zero
pub zeros-length : (b : List ℕ) (n : ℕ) → b ≡ zeros n → length b ≡ n
zeros-length b n e = ap (λ (w : List ℕ). length w) e ∙ length-replicate n 0

-- ---- demands 1 and 3 of this very answer
module _ {t q : List ℕ} {lent : ℕ} {r : of.Answer} {b : List ℕ} (w : Answered t q lent r b) where
  pub answer_1 : Demand1 t q lent r b
  answer_1 = rw (w.answer, w.buffer) (demand1 t q lent)

  pub answer_3 : AcceptedDemand3 t q lent r b
  answer_3 x = rw (w.answer, w.buffer) (demand3 t q lent x.table x.question)
