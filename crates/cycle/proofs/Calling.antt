-- The cycle's laws for calls and method calls, on plain values.
use Prim.Native.Nat.{ℕ, suc, ◌+◌, ◌-◌, ◌*◌, ◌≤◌, ◌<◌}
use lib.ListN.{length, length-append}
use Rattle.std.specs.Prelude as std
use Rattle.std.proofs.Common.{Some, None}
use mathlib.Core.List.{List, [], ◌++◌, append_assoc, append-nil}
use mathlib.Core.Bool.{Bool, true, false}
use mathlib.Core.Option.{Option}
use mathlib.Core.Path.{◌≡◌, refl, sym, ap, ◌∙◌}
use native.Mathlib.Numerals.{add-one}
use native.Mathlib.Omega.{arith}
use Rattle.area.specs.Diagnostic.{Diag, count_limit}
use Rattle.overload.proofs.ReportBounds.{resolve_few}
use Rattle.symbol.proofs.AcceptedTable.{functions_few}
use Rattle.nodes.proofs.Filling.{filled_none, filled_join}
use Rattle.cycle.proofs.Holding.{CleanTable, space_behind, tree_held}
use Rattle.area.proofs.Reporting.{reported_both}
use Rattle.nodes.proofs.Reaching.{state_path, reached_count, reached_here, reached_join, reached_inside, reached_as}
use Rattle.cycle.proofs.Rows.{row_args, row_count}
use Rattle.cycle.proofs.Spaces.{slots_few}
use Rattle.cycle.proofs.Steps.{slot_room, asked_inside, ChildIs, child, close}
use Rattle.nodes.proofs.Working.{at_length}
use Rattle.nodes.proofs.Beginning.{ListIs, unlisted_call, begun_none, call_begun, method_begun}
use Rattle.nodes.specs.Inside.Call.{method_owner, CallBegun, Begun, CallAsked}
use Rattle.cycle.specs.Inside.Contract.{most_at_node, slots_for, Space, NodeAsked, NodeIs, RowAsked, RowIs}
use Rattle.nodes.specs.Inside.SlotsFilled.{SlotsFilled}
use Rattle.area.specs.declared.reports.Reports.{Reports}
use Rattle.nodes.specs.Inside.Progress.{inside_of, passed_over, Reached, Finished}
use Rattle.scoring.specs.declared.args.Arg.{Arg as Handed}
use Rattle.nodes.specs.declared.calls.RowJudged.{RowJudged}
use Rattle.nodes.specs.declared.progress.State.{State}
use Rattle.area.specs.Inside.Slot.{Holds, slot_size, type_at}
use Rattle.scoring.specs.Arg.{Arg}
use Rattle.scoring.specs.Inside.Args.{args_in}
use Rattle.overload.specs.Resolve.{resolve}
use Rattle.overload.specs.Inside.Tally.{most_diagnostics}
use Rattle.question.proofs.Finds.{skips}
use Rattle.question.proofs.NodeReading.{room_of}
use Rattle.question.proofs.Standing.{is_call, is_method, at_ends}
use Rattle.question.proofs.Trees.{after_size, afters_sizes, some_size}
use Rattle.question.specs.Legal.{Legal, RowLegal}
use Rattle.question.specs.NodeRead.{node_at}
use Rattle.question.specs.Inside.Skip.{skip_at}
use Rattle.question.specs.Inside.Stands.{RowStands}
use Rattle.question.specs.Tree.{Node, Row, call, method, number_after, number_after_row, size, sizes, count, bytes, bytess}
use Rattle.question.specs.declared.Header.{Header}
use Rattle.question.specs.NodeRead.{Call, Method}
use Rattle.question.specs.declared.node.Skipped.{Skipped}
use Rattle.operators.specs.Diag.{reported_at as at_node}
use Rattle.operators.specs.Out.{error_ty, any_ty}
use Rattle.symbol.specs.Lookup.{symbols_of}
use Rattle.symbol.specs.Symbols.{Symbols}
use Rattle.ty.specs.Bytes.{Ty, plain_ty}
use Rattle.ty.specs.Kind.{any_kind, error_kind}
use Rattle.ty.specs.Name.{no_id}
use Rattle.typing.proofs.Short.{call_short, method_short}
use Rattle.typing.proofs.Tables.{symbols_fit}
use Rattle.typing.specs.Callee.{Callee, call_of, method_of}
use Rattle.typing.specs.Judge.{Given, Judged, RowJudged as Judgements, done, called, call_step, method_step, judge, judges}

-- ---- what a row is asked, behind what was judged since
pub asked_row : {q : List ℕ} {s : State} {b : Reports} (x : NodeAsked q s b) {r : State} {p n : ℕ} {g : List Given} {d : List Diag} {b₁ : Reports} → Reached s p n g d b b₁ r → (rs : Row) (many : ℕ)
    → RowStands q rs p → RowLegal x.names rs → count rs ≡ many → many ≤ 16 → n + sizes rs ≤ slots_for (length q) → b.count + length d ≤ most_at_node * n → RowAsked q r b₁ 0 many
asked_row {s = s} {b} x {r} {p} {n} {d = d} {b₁} w rs many st lg counted fits room few =
    let at : r.at ≡ p = ap (λ (z : State). z.at) w.result in
    let node : r.node ≡ n = ap (λ (z : State). z.node) w.result in
    let cnt : b₁.count ≡ b.count + length d = reached_count w in
    record {
      trees = rs;
      names = x.names;
      stands = rw at st;
      legal = lg;
      counted = counted;
      fits = omega arith;
      room = omega arith;
      within = record { long = x.within.long; few = omega arith };
    }

-- ---- a row that is judged, from where its call was
pub record LaterRow (t : List ℕ) (H : Header) (s : State) (p n : ℕ) (g : List Given) (d : List Diag) (ts ts₁ : List Ty) (b b₁ : Reports) (r : State) (rs : Row) : Type 0 where
  pub reached : Reached s (p + bytess rs) (number_after_row rs n) (g ++ (judges (symbols_of t) H rs n).typed) (d ++ (judges (symbols_of t) H rs n).diags) b b₁ r
  pub filled : SlotsFilled ts ts₁ (judges (symbols_of t) H rs n).typed
  pub few : length (judges (symbols_of t) H rs n).diags ≤ most_at_node * sizes rs

pub later_row : {t : List ℕ} {H : Header} {s r : State} {p n : ℕ} {g : List Given} {d : List Diag} {xs : List Handed} {ts ts₁ : List Ty} {b b₁ b₂ : Reports} {row : RowJudged} {rs : Row}
    → Reached s p n g d b b₁ r → RowIs t H r xs ts ts₁ b₁ b₂ row rs → LaterRow t H s p n g d ts ts₁ b b₂ row.state rs
later_row {t} {H} {r = r} {p = p} {n = n} {rs = rs} w z =
    let at : r.at ≡ p = ap (λ (z : State). z.at) w.result in
    let node : r.node ≡ n = ap (λ (z : State). z.node) w.result in
    record {
      reached = reached_join w
          (reached_as (ap (λ (k : ℕ). k + bytess rs) at) (ap (λ (k : ℕ). number_after_row rs k) node) (ap (λ (k : ℕ). (judges (symbols_of t) H rs k).typed) node)
          (ap (λ (k : ℕ). (judges (symbols_of t) H rs k).diags) node) z.reached);
      filled = rw node at z.filled;
      few = rw node at z.few;
    }

-- ---- arguments that stay unvisited
pub passed_over_lem : (q : List ℕ) {s e : State} {p n : ℕ} (many : ℕ) {g : List Given} {d : List Diag} {b b₁ : Reports} → Reached s p n g d b b₁ e → (rs : Row) → RowStands q rs p → sizes rs ≤ 64 → count rs ≡ many
    → Reached s (p + bytess rs) (number_after_row rs n) g d b b₁ (passed_over q e many)
passed_over_lem q {s} {e} {p} {n} many w rs st small counted =
    let at : e.at ≡ p = ap (λ (z : State). z.at) w.result in
    let node : e.node ≡ n = ap (λ (z : State). z.node) w.result in
    let sk : skip_at q e.at many ≡ record { at = p + bytess rs; nodes = sizes rs } = rw (at, ← counted) (skips q rs p st small) in
    let over : (skip_at q e.at many).nodes ≡ sizes rs = ap (λ (z : Skipped). z.nodes) sk in
    record {
      result = state_path _ _ (ap (λ (z : Skipped). z.at) sk) (omega (arith, afters_sizes rs n)) (ap (λ (z : State). z.fine) w.result);
      reports = w.reports;
    }

-- ---- a call that finds a list, behind what was judged since
module _ {t : List ℕ} (ok : CleanTable t) (H : Header) {q : List ℕ} {s : State} {b : Reports} (x : NodeAsked q s b) {e : State} {p n : ℕ} {g : List Given} {d : List Diag}
    {b₁ b₂ : Reports} (w : Reached s p n g d b b₁ e) (id : ℕ) (c : Callee) {owner of : ℕ} (list : ListIs (symbols_of t) owner id s.node c b₁ b₂ of) (rs : Row) (many : ℕ)
    (st : RowStands q rs p) (lg : RowLegal x.names rs) (counted : count rs ≡ many) (fits : many ≤ 16) (later : s.node < n) (room : n + sizes rs ≤ slots_for (length q)) (few : b.count + length d + 2 ≤ most_at_node * n) where
  before : Reached s p n g (d ++ at_node s.node c.before) b b₂ e
  before = record { result = w.result; reports = reported_both b d (at_node s.node c.before) w.reports list.reports }

  before_few : length (d ++ at_node s.node c.before) ≤ length d + 2
  before_few = omega (arith, length-append d (at_node s.node c.before), at_length s.node c.before, list.few)

  pub row_asked : RowAsked q e b₂ 0 many
  row_asked = asked_row x before rs many st lg counted fits room (omega (arith, before_few))

  pub row_falls : s.at + 4 ≤ p → p ≤ length q → 18 * (length q - e.at) + many + 2 < 18 * (length q - s.at)
  row_falls h k =
      let at : e.at ≡ p = ap (λ (z : State). z.at) before.result in
      omega arith

  module _ {ts ts₁ : List Ty} {b₃ : Reports} {row : RowJudged} (lent : Space q ts₁)
      (is : (y : RowAsked q e b₂ 0 many) → RowIs t H e [] ts ts₁ b₂ b₃ row y.trees)
      (short : (xs : List Arg) → length (resolve (symbols_of t) c.overloads s.node xs).ty ≤ 192)
      (most : (xs : List Arg) → length xs ≤ 16 → length (resolve (symbols_of t) c.overloads s.node xs).diags ≤ most_diagnostics) where
    row_is : RowIs t H e [] ts ts₁ b₂ b₃ row rs
    unfolding row_asked asked_row
    row_is = is row_asked

    args_is : args_in ts₁ row.args ≡ (judges (symbols_of t) H rs n).args
    unfolding row_asked asked_row
    args_is = row_args ok row_asked lent (is row_asked) ∙ ap (λ (k : ℕ). (judges (symbols_of t) H rs k).args) (ap (λ (z : State). z.node) before.result)

    args_few : length (args_in ts₁ row.args) ≤ 16
    args_few = omega (arith, ap (λ (xs : List Arg). length xs) args_is ∙ row_count (symbols_of t) H rs n)

    verdict_is : resolve (symbols_of t) ((symbols_of t).functions_of of id) s.node (args_in ts₁ row.args)
        ≡ resolve (symbols_of t) c.overloads s.node (judges (symbols_of t) H rs n).args
    verdict_is = rw (list.owned, list.list, args_is)

    row_later : LaterRow t H s p n g (d ++ at_node s.node c.before) ts ts₁ b b₃ row.state rs
    row_later = later_row before row_is

    pub call_ready : CallAsked slot_size ts₁ s.node b₃ (resolve (symbols_of t) ((symbols_of t).functions_of of id) s.node (args_in ts₁ row.args))
    call_ready =
        let J : Judgements = judges (symbols_of t) H rs n in
        let D : List Diag = d ++ at_node s.node c.before in
        let cnt : b₃.count ≡ b.count + length (D ++ J.diags) = reached_count row_later.reached in
        let v = args_in ts₁ row.args in
        record {
          room = slot_room x lent;
          few = omega (arith, length-append D J.diags, before_few, row_later.few, slots_few (length q));
          short = rw (list.owned, list.list) (omega (arith, short v));
          most = rw (list.owned, list.list) (most v args_few);
        }

    pub call_close : {ts₀ ts' : List Ty} {b' : Reports} {r : State} → SlotsFilled ts₀ ts g
        → judge (symbols_of t) H x.tree s.node
        ≡ called s.node c.before (resolve (symbols_of t) c.overloads s.node (judges (symbols_of t) H rs n).args) (g ++ (judges (symbols_of t) H rs n).typed) d (judges (symbols_of t) H rs n).diags
        → p + bytess rs ≡ s.at + bytes x.tree → number_after_row rs n ≡ number_after x.tree s.node → length d + most_at_node * suc (sizes rs) ≤ most_at_node * size x.tree
        → Finished row.state s.node (resolve (symbols_of t) ((symbols_of t).functions_of of id) s.node (args_in ts₁ row.args)).ty
        (resolve (symbols_of t) ((symbols_of t).functions_of of id) s.node (args_in ts₁ row.args)).diags ts₁ ts' b₃ b' r
        → NodeIs t H s ts₀ ts' b b' r x.tree
    call_close fill eq ep en size f =
        let J : Judgements = judges (symbols_of t) H rs n in
        let D : List Diag = d ++ at_node s.node c.before in
        close ok H x _ eq row_later.reached (filled_join fill row_later.filled) (rw verdict_is at f) refl (simp append_assoc) ep en (omega (arith, length-append D J.diags, before_few, row_later.few))

-- ---- the bound on what a call reports
pub record CallsFit (S : Symbols) : Type 0 where
  pub most : (owner id n : ℕ) (xs : List Arg) → length xs ≤ 16 → length (resolve S (S.functions_of owner id) n xs).diags ≤ most_diagnostics

pub calls_fit : (t : List ℕ) → CleanTable t → CallsFit (symbols_of t)
calls_fit t ok =
    record { most = λ owner id n xs h. omega (arith, resolve_few (symbols_of t) xs h ((symbols_of t).functions_of owner id) n, functions_few t ok.clean owner id) }

-- ---- calls
module _ {t : List ℕ} (ok : CleanTable t) (fit : CallsFit (symbols_of t)) (H : Header) {q : List ℕ} {s : State} {b : Reports} (x : NodeAsked q s b) (id many : ℕ) (h : node_at q s.at ≡ Call id many)
    {s₁ : State} (i : s₁ ≡ inside_of s 4) {b₁ : Reports} {begun : Bool} (is : CallBegun s.node (call_of (symbols_of t) H id) b b₁ begun) where
  inside-call : Reached s (s.at + 4) (suc s.node) [] [] b b s₁
  inside-call =
      reached_as (ap (λ (z : State). z.at) i) (ap (λ (z : State). z.node) i) refl refl (reached_inside 4 i (reached_here s₁ b))

  -- no list
  module _ (no : begun ≡ false) where
    over_call : let rs = (is_call q s.at x.tree id many x.stands h).0 in Reached s (s.at + 4 + bytess rs) (number_after_row rs (suc s.node)) [] [] b b (passed_over q s₁ many)
    unfolding size
    over_call =
        let (rs, e, counted, st) = is_call q s.at x.tree id many x.stands h in
        let sz : size x.tree ≡ suc (sizes rs) = ap size e in
        passed_over_lem q many inside-call rs st (omega (arith, x.room, slots_few (length q))) counted

    pub call_passed : (passed_over q s₁ many).node ≤ 64
    unfolding size
    call_passed =
        let (rs, e, counted, st) = is_call q s.at x.tree id many x.stands h in
        let sz : size x.tree ≡ suc (sizes rs) = ap size e in
        let node : (passed_over q s₁ many).node ≡ number_after_row rs (suc s.node) = ap (λ (z : State). z.node) over_call.result in
        omega (arith, afters_sizes rs (suc s.node), x.room, slots_few (length q))

    pub ret_call_none : {ts ts' : List Ty} {r : State} → ((z : Reports) → Finished (passed_over q s₁ many) s.node (plain_ty error_kind) [] ts ts' z z r)
        → NodeIs t H s ts ts' b b₁ r x.tree
    unfolding judge size bytes number_after call_step
    ret_call_none f =
        let (rs, e, counted, st) = is_call q s.at x.tree id many x.stands h in
        let (found, n) = unlisted_call _ is no in
        let by : bytes x.tree ≡ 4 + bytess rs = ap bytes e in
        let num : number_after x.tree s.node ≡ number_after_row rs (suc s.node) = ap (λ (z : Node). number_after z s.node) e in
        let sz : size x.tree ≡ suc (sizes rs) = ap size e in
        let j : judge (symbols_of t) H x.tree s.node ≡ done s.node error_ty [] [] = ap (λ (z : Node). judge (symbols_of t) H z s.node) e ∙ ap (λ (o : Option Callee). call_step (symbols_of t) s.node o (judges (symbols_of t) H rs (suc s.node))) found in
        rw n (close ok H x _ j over_call (filled_none _) (f b) refl refl (omega arith) (sym num) (omega arith))

  -- a list
  module _ (yes : begun ≡ true) where
    pub asked_args : RowAsked q s₁ b₁ 0 many
    unfolding size Legal
    asked_args =
        let (rs, e, counted, st) = is_call q s.at x.tree id many x.stands h in
        let (c, found, list) = call_begun (symbols_of t) H id is yes in
        let sz : size x.tree ≡ suc (sizes rs) = ap size e in
        let lg : Legal x.names (call id rs) = rw e at x.legal in
        row_asked ok H x inside-call id c list rs many st lg.1 counted (room_of q s.at _ h).1 (omega arith) (omega (arith, x.room)) (omega (arith, x.within.few))

    pub args_fall : 18 * (length q - s₁.at) + many + 2 < 18 * (length q - s.at)
    unfolding size Legal
    args_fall =
        let (rs, e, counted, st) = is_call q s.at x.tree id many x.stands h in
        let (c, found, list) = call_begun (symbols_of t) H id is yes in
        let sz : size x.tree ≡ suc (sizes rs) = ap size e in
        let lg : Legal x.names (call id rs) = rw e at x.legal in
        let room = room_of q s.at _ h in
        row_falls ok H x inside-call id c list rs many st lg.1 counted room.1 (omega arith) (omega (arith, x.room)) (omega (arith, x.within.few)) (omega arith) (omega (arith, room.0))

    module _ {ts ts₁ : List Ty} {b₂ : Reports} {row : RowJudged} (lent : Space q ts₁)
        (js : (y : RowAsked q s₁ b₁ 0 many) → RowIs t H s₁ [] ts ts₁ b₁ b₂ row y.trees) where
      pub args_ready : CallAsked slot_size ts₁ s.node b₂ (resolve (symbols_of t) ((symbols_of t).functions_of no_id id) s.node (args_in ts₁ row.args))
      unfolding size Legal
      args_ready =
          let (rs, e, counted, st) = is_call q s.at x.tree id many x.stands h in
          let (c, found, list) = call_begun (symbols_of t) H id is yes in
          let sz : size x.tree ≡ suc (sizes rs) = ap size e in
          let lg : Legal x.names (call id rs) = rw e at x.legal in
          call_ready ok H x inside-call id c list rs many st lg.1 counted (room_of q s.at _ h).1 (omega arith) (omega (arith, x.room)) (omega (arith, x.within.few)) lent js
          (λ xs. call_short (symbols_of t) (symbols_fit t ok.clean) H id c s.node xs found) (λ xs k. rw (list.owned, list.list) at (fit.most no_id id s.node xs k))

      pub ret_call : {ts' : List Ty} {b' : Reports} {r : State}
          → Finished row.state s.node (resolve (symbols_of t) ((symbols_of t).functions_of no_id id) s.node (args_in ts₁ row.args)).ty
          (resolve (symbols_of t) ((symbols_of t).functions_of no_id id) s.node (args_in ts₁ row.args)).diags ts₁ ts' b₂ b' r
          → NodeIs t H s ts ts' b b' r x.tree
      unfolding judge size Legal bytes number_after call_step
      ret_call f =
          let (rs, e, counted, st) = is_call q s.at x.tree id many x.stands h in
          let (c, found, list) = call_begun (symbols_of t) H id is yes in
          let by : bytes x.tree ≡ 4 + bytess rs = ap bytes e in
          let num : number_after x.tree s.node ≡ number_after_row rs (suc s.node) = ap (λ (z : Node). number_after z s.node) e in
          let sz : size x.tree ≡ suc (sizes rs) = ap size e in
          let lg : Legal x.names (call id rs) = rw e at x.legal in
          call_close ok H x inside-call id c list rs many st lg.1 counted (room_of q s.at _ h).1 (omega arith) (omega (arith, x.room)) (omega (arith, x.within.few)) lent js
          (λ xs. call_short (symbols_of t) (symbols_fit t ok.clean) H id c s.node xs found) (λ xs k. rw (list.owned, list.list) at (fit.most no_id id s.node xs k))
          (filled_none _) (ap (λ (z : Node). judge (symbols_of t) H z s.node) e ∙ ap (λ (o : Option Callee). call_step (symbols_of t) s.node o (judges (symbols_of t) H rs (suc s.node))) found) (omega arith) (sym num) (omega arith) f

-- ---- method calls
module _ {t : List ℕ} (ok : CleanTable t) (fit : CallsFit (symbols_of t)) (H : Header) {q : List ℕ} {s : State} {b₀ : Reports} (x : NodeAsked q s b₀) (id many : ℕ) (h : node_at q s.at ≡ Method id many)
    {s₁ : State} (i : s₁ ≡ inside_of s 4) where
  pub asked_object : NodeAsked q s₁ b₀
  unfolding size Legal
  asked_object =
      let (c, rs, e, counted, sc, st) = is_method q s.at x.tree id many x.stands h in
      let sz : size x.tree ≡ suc (size c + sizes rs) = ap size e in
      let lg : Legal x.names (method id c rs) = rw e at x.legal in
      asked_inside x 4 i c sc lg.1 (omega arith)

  module _ {ts₀ ts : List Ty} {b : Reports} {r₁ : State} (is : (y : NodeAsked q s₁ b₀) → NodeIs t H s₁ ts₀ ts b₀ b r₁ y.tree) where
    object_is : let c = (is_method q s.at x.tree id many x.stands h).0 in ChildIs t H s 4 ts₀ ts b₀ b r₁ c
    unfolding asked_object asked_inside
    object_is = child 4 i (is asked_object)

    pub object_few : b.count + 2 ≤ count_limit
    unfolding size
    object_few =
        let (c, rs, e, counted, sc, st) = is_method q s.at x.tree id many x.stands h in
        let sz : size x.tree ≡ suc (size c + sizes rs) = ap size e in
        let n : b.count ≡ b₀.count + length (judge (symbols_of t) H c (suc s.node)).diags = reached_count object_is.reached in
        omega (arith, object_is.few, x.within.few, x.room, slots_few (length q))

    module _ (lent₀ : Space q ts₀) {b₁ : Reports} {begun : std.Option ℕ} (bs : Begun (method_owner (type_at ts (s.node + 1))) s.node (method_of (symbols_of t) H id (type_at ts (s.node + 1))) b b₁ begun) where
      begun_is : let c = (is_method q s.at x.tree id many x.stands h).0 in
          Begun (method_owner (judge (symbols_of t) H c (suc s.node)).ty) s.node (method_of (symbols_of t) H id (judge (symbols_of t) H c (suc s.node)).ty) b b₁ begun
      unfolding size
      begun_is =
          let (c, rs, e, counted, sc, st) = is_method q s.at x.tree id many x.stands h in
          let sz : size x.tree ≡ suc (size c + sizes rs) = ap size e in
          let top : Holds ts (s.node + 1) (judge (symbols_of t) H c (suc s.node)).ty
          = rw add-one (tree_held ok H q c (suc s.node) (s.at + 4) sc (omega (arith, x.room)) object_is.filled (space_behind object_is.filled lent₀)) in
          rw top.is at bs

      -- no list
      module _ (no : begun ≡ None) where
        over_method : let (c, rs, e, counted, sc, st) = is_method q s.at x.tree id many x.stands h in
            Reached s (s.at + 4 + bytes c + bytess rs) (number_after_row rs (number_after c (suc s.node))) (judge (symbols_of t) H c (suc s.node)).typed (judge (symbols_of t) H c (suc s.node)).diags b₀ b (passed_over q r₁ many)
        unfolding size
        over_method =
            let (c, rs, e, counted, sc, st) = is_method q s.at x.tree id many x.stands h in
            let sz : size x.tree ≡ suc (size c + sizes rs) = ap size e in
            passed_over_lem q many object_is.reached rs st (omega (arith, x.room, slots_few (length q))) counted

        pub method_passed : (passed_over q r₁ many).node ≤ 64
        unfolding size
        method_passed =
            let (c, rs, e, counted, sc, st) = is_method q s.at x.tree id many x.stands h in
            let sz : size x.tree ≡ suc (size c + sizes rs) = ap size e in
            let node : (passed_over q r₁ many).node ≡ number_after_row rs (number_after c (suc s.node)) = ap (λ (z : State). z.node) over_method.result in
            omega (arith, afters_sizes rs (number_after c (suc s.node)), after_size c (suc s.node), x.room, slots_few (length q))

        pub ret_method_none : {ts' : List Ty} {r : State} → ((z : Reports) → Finished (passed_over q r₁ many) s.node (plain_ty any_kind) [] ts ts' z z r)
            → NodeIs t H s ts₀ ts' b₀ b₁ r x.tree
        unfolding judge size bytes number_after method_step
        ret_method_none f =
            let (c, rs, e, counted, sc, st) = is_method q s.at x.tree id many x.stands h in
            let (found, n) = begun_none _ begun_is no in
            let C : Judged = judge (symbols_of t) H c (suc s.node) in
            let by : bytes x.tree ≡ 4 + bytes c + bytess rs = ap bytes e in
            let num : number_after x.tree s.node ≡ number_after_row rs (number_after c (suc s.node)) = ap (λ (z : Node). number_after z s.node) e in
            let sz : size x.tree ≡ suc (size c + sizes rs) = ap size e in
            let j : judge (symbols_of t) H x.tree s.node ≡ done s.node any_ty C.typed C.diags = ap (λ (z : Node). judge (symbols_of t) H z s.node) e ∙ ap (λ (o : Option Callee). method_step (symbols_of t) s.node (judge (symbols_of t) H c (suc s.node)) o (judges (symbols_of t) H rs (number_after c (suc s.node)))) found in
            rw n (close ok H x _ j over_method object_is.filled (f b) refl (append-nil C.diags) (omega arith) (sym num) (omega (arith, object_is.few)))

      -- a list
      module _ {of : ℕ} (yes : begun ≡ Some of) where
        pub asked_method : RowAsked q r₁ b₁ 0 many
        unfolding size Legal
        asked_method =
            let (c, rs, e, counted, sc, st) = is_method q s.at x.tree id many x.stands h in
            let (f, found, list) = method_begun (symbols_of t) H id (judge (symbols_of t) H c (suc s.node)).ty begun_is yes in
            let sz : size x.tree ≡ suc (size c + sizes rs) = ap size e in
            let lg : Legal x.names (method id c rs) = rw e at x.legal in
            let num = after_size c (suc s.node) in
            row_asked ok H x object_is.reached id f list rs many st lg.2 counted (room_of q s.at _ h).1 (omega arith) (omega (arith, x.room)) (omega (arith, x.within.few, object_is.few, some_size c))

        pub method_fall : 18 * (length q - r₁.at) + many + 2 < 18 * (length q - s.at)
        unfolding size Legal
        method_fall =
            let (c, rs, e, counted, sc, st) = is_method q s.at x.tree id many x.stands h in
            let (f, found, list) = method_begun (symbols_of t) H id (judge (symbols_of t) H c (suc s.node)).ty begun_is yes in
            let sz : size x.tree ≡ suc (size c + sizes rs) = ap size e in
            let lg : Legal x.names (method id c rs) = rw e at x.legal in
            let num = after_size c (suc s.node) in
            row_falls ok H x object_is.reached id f list rs many st lg.2 counted (room_of q s.at _ h).1 (omega arith) (omega (arith, x.room)) (omega (arith, x.within.few, object_is.few, some_size c))
            (omega arith) (omega (arith, at_ends q c (s.at + 4) sc))

        module _ {ts₁ : List Ty} {b₂ : Reports} {row : RowJudged} (lent : Space q ts₁)
            (js : (y : RowAsked q r₁ b₁ 0 many) → RowIs t H r₁ [] ts ts₁ b₁ b₂ row y.trees) where
          pub method_ready : CallAsked slot_size ts₁ s.node b₂ (resolve (symbols_of t) ((symbols_of t).functions_of of id) s.node (args_in ts₁ row.args))
          unfolding size Legal
          method_ready =
              let (c, rs, e, counted, sc, st) = is_method q s.at x.tree id many x.stands h in
              let (f, found, list) = method_begun (symbols_of t) H id (judge (symbols_of t) H c (suc s.node)).ty begun_is yes in
              let sz : size x.tree ≡ suc (size c + sizes rs) = ap size e in
              let lg : Legal x.names (method id c rs) = rw e at x.legal in
              let num = after_size c (suc s.node) in
              call_ready ok H x object_is.reached id f list rs many st lg.2 counted (room_of q s.at _ h).1 (omega arith) (omega (arith, x.room)) (omega (arith, x.within.few, object_is.few, some_size c)) lent js
              (λ xs. method_short (symbols_of t) (symbols_fit t ok.clean) H id (judge (symbols_of t) H c (suc s.node)).ty f s.node xs found) (λ xs k. rw (list.owned, list.list) at (fit.most of id s.node xs k))

          pub ret_method : {ts' : List Ty} {b' : Reports} {r : State}
              → Finished row.state s.node (resolve (symbols_of t) ((symbols_of t).functions_of of id) s.node (args_in ts₁ row.args)).ty
              (resolve (symbols_of t) ((symbols_of t).functions_of of id) s.node (args_in ts₁ row.args)).diags ts₁ ts' b₂ b' r
              → NodeIs t H s ts₀ ts' b₀ b' r x.tree
          unfolding judge size Legal bytes number_after method_step
          ret_method w =
              let (c, rs, e, counted, sc, st) = is_method q s.at x.tree id many x.stands h in
              let (f, found, list) = method_begun (symbols_of t) H id (judge (symbols_of t) H c (suc s.node)).ty begun_is yes in
              let by : bytes x.tree ≡ 4 + bytes c + bytess rs = ap bytes e in
              let num : number_after x.tree s.node ≡ number_after_row rs (number_after c (suc s.node)) = ap (λ (z : Node). number_after z s.node) e in
              let sz : size x.tree ≡ suc (size c + sizes rs) = ap size e in
              let lg : Legal x.names (method id c rs) = rw e at x.legal in
              let k = after_size c (suc s.node) in
              call_close ok H x object_is.reached id f list rs many st lg.2 counted (room_of q s.at _ h).1 (omega arith) (omega (arith, x.room)) (omega (arith, x.within.few, object_is.few, some_size c)) lent js
              (λ xs. method_short (symbols_of t) (symbols_fit t ok.clean) H id (judge (symbols_of t) H c (suc s.node)).ty f s.node xs found) (λ xs k. rw (list.owned, list.list) at (fit.most of id s.node xs k))
              object_is.filled (ap (λ (z : Node). judge (symbols_of t) H z s.node) e ∙ ap (λ (o : Option Callee). method_step (symbols_of t) s.node (judge (symbols_of t) H c (suc s.node)) o (judges (symbols_of t) H rs (number_after c (suc s.node)))) found) (omega arith) (sym num) (omega (arith, object_is.few)) w
