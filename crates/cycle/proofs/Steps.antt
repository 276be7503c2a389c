-- The cycle's laws, on plain values: what the calls are asked, and what each return leaves.
use Prim.Native.Nat.{ℕ, suc, ◌+◌, ◌-◌, ◌*◌, ◌≤◌, ◌<◌}
use lib.ListN.{length, take, drop, length-append}
use mathlib.Core.List.{List, [], ◌∷◌, ◌++◌, append-nil}
use mathlib.Core.Path.{◌≡◌, refl, sym, ap, ◌∙◌}
use native.Mathlib.Numerals.{add-one}
use native.Mathlib.Omega.{arith}
use Rattle.area.proofs.SlotsHeld.{child_of}
use Rattle.area.specs.Diagnostic.{Diag, count_limit}
use Rattle.area.specs.Inside.Slot.{Child, Holds, slot_size, type_at}
use Rattle.nodes.proofs.Filling.{filled_none, filled-one, filled_join, filled_as}
use Rattle.cycle.proofs.Holding.{CleanTable, space_before, node_under, tree-fits, tree_held}
use Rattle.nodes.proofs.Reaching.{reached_here, reached_join, reached_count, reached_inside, reached_as}
use Rattle.cycle.proofs.Spaces.{slots_few}
use Rattle.cycle.specs.Inside.Contract.{most_at_node, slots_for, Space, NodeAsked, NodeIs}
use Rattle.nodes.specs.Inside.SlotsFilled.{SlotsFilled}
use Rattle.area.specs.declared.reports.Reports.{Reports}
use Rattle.nodes.specs.Inside.Progress.{inside_of, Reached, Finished}
use Rattle.nodes.specs.Inside.Rule.{LeafAsked, RuleAsked}
use Rattle.nodes.specs.declared.progress.State.{State}
use Rattle.question.proofs.NodeReading.{room_of}
use Rattle.question.proofs.Standing.{is_bad, is_endless_lem, is_leaf, is_binary, is_unary, is_named_lem, is_member, at_ends}
use Rattle.question.proofs.Trees.{after_size, some_size}
use Rattle.question.specs.Legal.{Legal}
use Rattle.question.specs.Node.{node_read, fault_read}
use Rattle.question.specs.Inside.Stands.{TreeStands}
use Rattle.question.specs.Tree.{Node, binary, unary, named, member, number_after, size, bytes}
use Rattle.question.specs.declared.Header.{Header}
use Rattle.question.specs.NodeRead.{node_at, Leaf, Binary, Unary, Named, Member}
use Rattle.question.specs.declared.node.Node.{Node as CodeNode}
use Rattle.question.specs.declared.node.NodeFault.{NodeFault}
use Rattle.question.specs.declared.node.NodeFault.TheVariants.{Bad as BadNode, Endless as EndlessNode}
use Rattle.operators.specs.Binary.{binary_out}
use Rattle.operators.specs.Diag.{reported_at as at_node}
use Rattle.rules.specs.Member.{member_out}
use Rattle.operators.specs.Out.{Out}
use Rattle.operators.specs.Unary.{unary_out}
use Rattle.symbol.specs.Lookup.{symbols_of}
use Rattle.ty.specs.Bytes.{Ty}
use Rattle.typing.specs.Judge.{Given, Judged, done, closed, judge}

-- ---- what stands at a position, by what is read there
pub read_as : (q : List ℕ) (at : ℕ) {x y : CodeNode} → node_read x ≡ node_at q at → x ≡ y → node_at q at ≡ node_read y
read_as q at e f = sym e ∙ ap node_read f

-- ---- what a call of the node judge is asked
module _ {q : List ℕ} {s : State} {b : Reports} (x : NodeAsked q s b) where
  pub node_room : s.node < 64
  node_room = omega (arith, x.room, some_size x.tree, slots_few (length q))

  pub slot_room : {ts : List Ty} → Space q ts → s.node < length ts
  slot_room w = omega (arith, x.room, some_size x.tree, w.enough)

  pub slot_still : {ts : List Ty} {n : ℕ} → Space q ts → n ≡ length ts → s.node < n
  slot_still w e = omega (arith, slot_room w)

  pub inside-fits : (own : ℕ) → s.at + own ≤ length q → (s.at + own ≤ 65536) × (s.node < 64)
  inside-fits own h = (omega (arith, x.within.long), node_room)

  -- the measure falls
  pub inside_falls : {s₁ : State} (own : ℕ) → s₁ ≡ inside_of s own → 1 ≤ own → s.at + own ≤ length q → 18 * (length q - s₁.at) < 18 * (length q - s.at)
  inside_falls {s₁} own e h k =
      let at : s₁.at ≡ s.at + own = ap (λ (z : State). z.at) e in
      omega arith

  pub leaf_asked : {ts : List Ty} → Space q ts → (len top : ℕ) → node_at q s.at ≡ Leaf len top → LeafAsked slot_size q ts len s
  leaf_asked lent len top h =
      let w = room_of q s.at _ h in
      record { room = slot_room lent; number = node_room; short = omega (arith, w.2); there = omega (arith, w.0); long = x.within.long }

  pub few_reported : b.count < count_limit
  few_reported = omega (arith, x.within.few, node_room)

  -- a child, behind so many bytes of the node's own
  unfoldable pub asked_inside : {s₁ : State} (own : ℕ) → s₁ ≡ inside_of s own → (c : Node) → TreeStands q c (s.at + own) → Legal x.names c → suc (size c) ≤ size x.tree
      → NodeAsked q s₁ b
  asked_inside {s₁} own e c st lg sz =
      let at : s₁.at ≡ s.at + own = ap (λ (z : State). z.at) e in
      let node : s₁.node ≡ suc s.node = ap (λ (z : State). z.node) e in
      record {
        tree = c;
        names = x.names;
        stands = rw at st;
        legal = lg;
        room = omega (arith, x.room);
        within = record { long = x.within.long; few = omega (arith, x.within.few) };
      }

  -- a tree behind what was judged since
  pub asked_later : {r : State} {p n : ℕ} {g : List Given} {d : List Diag} {b₁ : Reports} → Reached s p n g d b b₁ r → (c : Node) → TreeStands q c p → Legal x.names c
      → n + size c ≤ slots_for (length q) → b.count + length d ≤ most_at_node * n → NodeAsked q r b₁
  asked_later {r} {p} {n} {d = d} {b₁ = b₁} w c st lg room few =
      let at : r.at ≡ p = ap (λ (z : State). z.at) w.result in
      let node : r.node ≡ n = ap (λ (z : State). z.node) w.result in
      let count : b₁.count ≡ b.count + length d = reached_count w in
      record {
        tree = c;
        names = x.names;
        stands = rw at st;
        legal = lg;
        room = omega arith;
        within = record { long = x.within.long; few = omega arith };
      }

pub below : {m n t : ℕ} → n ≡ t → m < n → m < t
below e h = omega arith

-- ---- a child that is judged, from where its parent was
pub record ChildIs (t : List ℕ) (H : Header) (s : State) (own : ℕ) (ts ts₁ : List Ty) (b b₁ : Reports) (r : State) (c : Node) : Type 0 where
  pub reached : Reached s (s.at + own + bytes c) (number_after c (suc s.node)) (judge (symbols_of t) H c (suc s.node)).typed (judge (symbols_of t) H c (suc s.node)).diags b b₁ r
  pub filled : SlotsFilled ts ts₁ (judge (symbols_of t) H c (suc s.node)).typed
  pub few : length (judge (symbols_of t) H c (suc s.node)).diags ≤ most_at_node * size c

pub child : {t : List ℕ} {H : Header} {s s₁ : State} (own : ℕ) {ts ts₁ : List Ty} {b b₁ : Reports} {r : State} {c : Node} → s₁ ≡ inside_of s own
    → NodeIs t H s₁ ts ts₁ b b₁ r c → ChildIs t H s own ts ts₁ b b₁ r c
child {t} {H} {s} {s₁} own {ts} {ts₁} {b} {b₁} {r} {c} e z =
    let w : NodeIs t H (inside_of s own) ts ts₁ b b₁ r c = rw e at z in
    record {
      reached = record { result = w.reached.result; reports = w.reached.reports };
      filled = w.filled;
      few = w.few;
    }

-- the same of a tree behind what was judged since
pub record LaterIs (t : List ℕ) (H : Header) (s : State) (p n : ℕ) (g : List Given) (d : List Diag) (ts ts₁ : List Ty) (b b₁ : Reports) (r : State) (c : Node) : Type 0 where
  pub reached : Reached s (p + bytes c) (number_after c n) (g ++ (judge (symbols_of t) H c n).typed) (d ++ (judge (symbols_of t) H c n).diags) b b₁ r
  pub filled : SlotsFilled ts ts₁ (judge (symbols_of t) H c n).typed
  pub few : length (judge (symbols_of t) H c n).diags ≤ most_at_node * size c

pub later : {t : List ℕ} {H : Header} {s r : State} {p n : ℕ} {g : List Given} {d : List Diag} {ts ts₁ : List Ty} {b b₁ b₂ : Reports} {r₂ : State} {c : Node}
    → Reached s p n g d b b₁ r → NodeIs t H r ts ts₁ b₁ b₂ r₂ c → LaterIs t H s p n g d ts ts₁ b b₂ r₂ c
later {t} {H} {r = r} {p = p} {n = n} {c = c} w z =
    let at : r.at ≡ p = ap (λ (z : State). z.at) w.result in
    let node : r.node ≡ n = ap (λ (z : State). z.node) w.result in
    record {
      reached = reached_join w
          (reached_as (ap (λ (k : ℕ). k + bytes c) at) (ap (λ (k : ℕ). number_after c k) node) (ap (λ (k : ℕ). (judge (symbols_of t) H c k).typed) node)
          (ap (λ (k : ℕ). (judge (symbols_of t) H c k).diags) node) z.reached);
      filled = rw node at z.filled;
      few = rw node at z.few;
    }

-- ---- what a return leaves
module _ {t : List ℕ} (ok : CleanTable t) (H : Header) {q : List ℕ} {s : State} {b : Reports} (x : NodeAsked q s b) where
  pub type_fits : length (judge (symbols_of t) H x.tree s.node).ty ≤ 256
  type_fits = tree-fits ok H q x.tree s.node s.at x.stands (omega (arith, x.room))

  pub node_is : (j : Judged) → judge (symbols_of t) H x.tree s.node ≡ j → {at node : ℕ} {ts ts' : List Ty} {b' : Reports} {r : State}
      → Reached s at node j.typed j.diags b b' r → at ≡ s.at + bytes x.tree → node ≡ number_after x.tree s.node
      → SlotsFilled ts ts' j.typed → length j.diags ≤ most_at_node * size x.tree → NodeIs t H s ts ts' b b' r x.tree
  node_is j e re ea en fill few = record { reached = rw e (reached_as ea en refl refl re); filled = rw e fill; few = rw e few }

  -- there is a node
  pub ret_unread : {ts : List Ty} {r : State} (fault : NodeFault) → node_at q s.at ≡ fault_read fault → NodeIs t H s ts ts b b r x.tree
  ret_unread BadNode h = absurd (is_bad q s.at x.tree x.stands h)
  ret_unread (EndlessNode top) h = absurd (is_endless_lem q s.at x.tree top x.stands h)

  -- by the finished node behind its children, which reported at most so many
  pub close : (j : Judged) → judge (symbols_of t) H x.tree s.node ≡ j → {p m : ℕ} {g : List Given} {d ds : List Diag} {ts ts₁ ts' : List Ty} {b₁ b' : Reports} {r₁ r : State}
      → Reached s p m g d b b₁ r₁ → SlotsFilled ts ts₁ g → Finished r₁ s.node j.ty ds ts₁ ts' b₁ b' r → g ++ (record { node = s.node; ty = j.ty } ∷ []) ≡ j.typed → d ++ ds ≡ j.diags
      → p ≡ s.at + bytes x.tree → m ≡ number_after x.tree s.node
      → length d + most_at_node ≤ most_at_node * size x.tree + 2 → NodeIs t H s ts ts' b b' r x.tree
  close j e {p} {m} {d = d} {ds = ds} {r₁ = r₁} w fill f eg ed ep em few =
      let at : r₁.at ≡ p = ap (λ (z : State). z.at) w.result in
      let node : r₁.node ≡ m = ap (λ (z : State). z.node) w.result in
      let len : length j.diags ≡ length d + length ds = ap (λ (z : List Diag). length z) (sym ed) ∙ length-append d ds in
      node_is j e (reached_as at node eg ed (reached_join w f.reached)) ep em (filled_as eg (filled_join fill (filled-one f.stored))) (omega (arith, f.few))

  pub ret_leaf : (len top : ℕ) → node_at q s.at ≡ Leaf len top → {ts ts' : List Ty} {r : State}
      → ((b : Reports) → Finished (inside_of s (len + 1)) s.node (take len (drop (s.at + 1) q)) [] ts ts' b b r)
      → NodeIs t H s ts ts' b b r x.tree
  unfolding judge size bytes number_after
  ret_leaf len top h f =
      let (e, k) = is_leaf q s.at x.tree len top x.stands h in
      let by : bytes x.tree ≡ 1 + length (take len (drop (s.at + 1) q)) = ap bytes e in
      let num : number_after x.tree s.node ≡ suc s.node = ap (λ (z : Node). number_after z s.node) e in
      let sz : size x.tree ≡ 1 = ap size e in
      close (done s.node (take len (drop (s.at + 1) q)) [] []) (ap (λ (z : Node). judge (symbols_of t) H z s.node) e)
      (reached_inside (len + 1) refl (reached_here (inside_of s (len + 1)) b)) (filled_none _) (f b) refl refl (omega arith) (sym num) (omega arith)

  -- ---- one child
  module _ (own : ℕ) {s₁ : State} (i : s₁ ≡ inside_of s own) (c : Node) (st : TreeStands q c (s.at + own)) (lg : Legal x.names c) (sz : size x.tree ≡ suc (size c))
      {ts ts₁ : List Ty} {b₁ : Reports} {r₁ : State} (lent : Space q ts₁) (is : (y : NodeAsked q s₁ b) → NodeIs t H s₁ ts ts₁ b b₁ r₁ y.tree) where
    only_asked : NodeAsked q s₁ b
    only_asked = asked_inside x own i c st lg (omega arith)

    only_child : ChildIs t H s own ts ts₁ b b₁ r₁ c
    unfolding only_asked asked_inside
    only_child = child own i (is only_asked)

    only_top : Holds ts₁ (s.node + 1) (judge (symbols_of t) H c (suc s.node)).ty
    only_top = rw add-one (tree_held ok H q c (suc s.node) (s.at + own) st (omega (arith, x.room)) only_child.filled lent)

    pub only_slot : Child ts₁ s.node (s.node + 1)
    only_slot = child_of ts₁ s.node (s.node + 1) _ (omega arith) only_top

    pub only_short : Child ts₁ s.node (s.node + 1) × (length (type_at ts₁ (s.node + 1)) ≤ 256)
    only_short = (only_slot, rw only_top.is (tree-fits ok H q c (suc s.node) (s.at + own) st (omega (arith, x.room))))

    pub only_few : b₁.count + 2 ≤ count_limit
    only_few =
        let n : b₁.count ≡ b.count + length (judge (symbols_of t) H c (suc s.node)).diags = reached_count only_child.reached in
        omega (arith, only_child.few, x.within.few, x.room, slots_few (length q))

    pub only_rule : (o : Ty → Out) → ((judge (symbols_of t) H x.tree s.node).ty ≡ (o (judge (symbols_of t) H c (suc s.node)).ty).ty)
        → RuleAsked slot_size ts₁ s.node (s.node + 1) b₁ (o (type_at ts₁ (s.node + 1)))
    only_rule o e =
        let short : length (o (judge (symbols_of t) H c (suc s.node)).ty).ty ≤ 256 = rw e at type_fits in
        record { left = only_slot; right = only_slot; short = rw only_top.is short; few = only_few }

    pub only_ruled : (o : Ty → Out) → {ts' : List Ty} {b' : Reports} {r : State}
        → judge (symbols_of t) H x.tree s.node ≡ closed s.node (o (judge (symbols_of t) H c (suc s.node)).ty) (judge (symbols_of t) H c (suc s.node)).typed (judge (symbols_of t) H c (suc s.node)).diags
        → bytes x.tree ≡ own + bytes c → number_after x.tree s.node ≡ number_after c (suc s.node)
        → Finished r₁ s.node (o (type_at ts₁ (s.node + 1))).ty (at_node s.node (o (type_at ts₁ (s.node + 1))).reports) ts₁ ts' b₁ b' r
        → NodeIs t H s ts ts' b b' r x.tree
    only_ruled o e eb en f =
        close _ e only_child.reached only_child.filled (rw only_top.is at f) refl refl (omega arith) (sym en) (omega (arith, only_child.few))

    pub only_named : {ts' : List Ty} {r : State}
        → judge (symbols_of t) H x.tree s.node ≡ done s.node (judge (symbols_of t) H c (suc s.node)).ty (judge (symbols_of t) H c (suc s.node)).typed (judge (symbols_of t) H c (suc s.node)).diags
        → bytes x.tree ≡ own + bytes c → number_after x.tree s.node ≡ number_after c (suc s.node)
        → ((b : Reports) → Finished r₁ s.node (type_at ts₁ (s.node + 1)) [] ts₁ ts' b b r) → NodeIs t H s ts ts' b b₁ r x.tree
    only_named e eb en f =
        close _ e only_child.reached only_child.filled (rw only_top.is at (f b₁)) refl (append-nil (judge (symbols_of t) H c (suc s.node)).diags) (omega arith) (sym en) (omega (arith, only_child.few))

  -- ---- a unary operator, a named argument, a member: one child
  module _ (op : ℕ) (h : node_at q s.at ≡ Unary op) {s₁ : State} (i : s₁ ≡ inside_of s 2) where
    pub asked_unary : NodeAsked q s₁ b
    unfolding size Legal
    asked_unary =
        let (c, e, st) = is_unary q s.at x.tree op x.stands h in
        let sz : size x.tree ≡ suc (size c) = ap size e in
        let lg : Legal x.names (unary op c) = rw e at x.legal in
        asked_inside x 2 i c st lg.0 (omega arith)

    module _ {ts ts₁ : List Ty} {b₁ : Reports} {r₁ : State} (lent : Space q ts₁) (is : (y : NodeAsked q s₁ b) → NodeIs t H s₁ ts ts₁ b b₁ r₁ y.tree) where
      pub unary_ready : RuleAsked slot_size ts₁ s.node (s.node + 1) b₁ (unary_out op (type_at ts₁ (s.node + 1)))
      unfolding judge size Legal
      unary_ready =
          let (c, e, st) = is_unary q s.at x.tree op x.stands h in
          let lg : Legal x.names (unary op c) = rw e at x.legal in
          only_rule 2 i c st lg.0 (ap size e) lent is (λ (u : Ty). unary_out op u) (ap (λ (z : Node). (judge (symbols_of t) H z s.node).ty) e)

      pub ret_unary : {ts' : List Ty} {b' : Reports} {r : State}
          → Finished r₁ s.node (unary_out op (type_at ts₁ (s.node + 1))).ty (at_node s.node (unary_out op (type_at ts₁ (s.node + 1))).reports) ts₁ ts' b₁ b' r
          → NodeIs t H s ts ts' b b' r x.tree
      unfolding judge size Legal bytes number_after
      ret_unary f =
          let (c, e, st) = is_unary q s.at x.tree op x.stands h in
          let lg : Legal x.names (unary op c) = rw e at x.legal in
          only_ruled 2 i c st lg.0 (ap size e) lent is (λ (u : Ty). unary_out op u) (ap (λ (z : Node). judge (symbols_of t) H z s.node) e) (ap bytes e) (ap (λ (z : Node). number_after z s.node) e) f

  module _ (id : ℕ) (h : node_at q s.at ≡ Named id) {s₁ : State} (i : s₁ ≡ inside_of s 3) where
    pub asked_named : NodeAsked q s₁ b
    unfolding size Legal
    asked_named =
        let (c, e, st) = is_named_lem q s.at x.tree id x.stands h in
        let sz : size x.tree ≡ suc (size c) = ap size e in
        let lg : Legal x.names (named id c) = rw e at x.legal in
        asked_inside x 3 i c st lg.1 (omega arith)

    module _ {ts ts₁ : List Ty} {b₁ : Reports} {r₁ : State} (lent : Space q ts₁) (is : (y : NodeAsked q s₁ b) → NodeIs t H s₁ ts ts₁ b b₁ r₁ y.tree) where
      pub named_ready : Child ts₁ s.node (s.node + 1) × (length (type_at ts₁ (s.node + 1)) ≤ 256)
      unfolding size Legal
      named_ready =
          let (c, e, st) = is_named_lem q s.at x.tree id x.stands h in
          let lg : Legal x.names (named id c) = rw e at x.legal in
          only_short 3 i c st lg.1 (ap size e) lent is

      pub ret_named : {ts' : List Ty} {r : State} → ((b : Reports) → Finished r₁ s.node (type_at ts₁ (s.node + 1)) [] ts₁ ts' b b r)
          → NodeIs t H s ts ts' b b₁ r x.tree
      unfolding judge size Legal bytes number_after
      ret_named f =
          let (c, e, st) = is_named_lem q s.at x.tree id x.stands h in
          let lg : Legal x.names (named id c) = rw e at x.legal in
          only_named 3 i c st lg.1 (ap size e) lent is (ap (λ (z : Node). judge (symbols_of t) H z s.node) e) (ap bytes e) (ap (λ (z : Node). number_after z s.node) e) f

  module _ (id : ℕ) (h : node_at q s.at ≡ Member id) {s₁ : State} (i : s₁ ≡ inside_of s 3) where
    pub asked_member : NodeAsked q s₁ b
    unfolding size Legal
    asked_member =
        let (c, e, st) = is_member q s.at x.tree id x.stands h in
        let sz : size x.tree ≡ suc (size c) = ap size e in
        let lg : Legal x.names (member id c) = rw e at x.legal in
        asked_inside x 3 i c st lg.1 (omega arith)

    module _ {ts ts₁ : List Ty} {b₁ : Reports} {r₁ : State} (lent : Space q ts₁) (is : (y : NodeAsked q s₁ b) → NodeIs t H s₁ ts ts₁ b b₁ r₁ y.tree) where
      pub member_ready : RuleAsked slot_size ts₁ s.node (s.node + 1) b₁ (member_out (symbols_of t) H id (type_at ts₁ (s.node + 1)))
      unfolding judge size Legal
      member_ready =
          let (c, e, st) = is_member q s.at x.tree id x.stands h in
          let lg : Legal x.names (member id c) = rw e at x.legal in
          only_rule 3 i c st lg.1 (ap size e) lent is (λ (u : Ty). member_out (symbols_of t) H id u) (ap (λ (z : Node). (judge (symbols_of t) H z s.node).ty) e)

      pub ret_member : {ts' : List Ty} {b' : Reports} {r : State}
          → Finished r₁ s.node (member_out (symbols_of t) H id (type_at ts₁ (s.node + 1))).ty (at_node s.node (member_out (symbols_of t) H id (type_at ts₁ (s.node + 1))).reports) ts₁ ts' b₁ b' r
          → NodeIs t H s ts ts' b b' r x.tree
      unfolding judge size Legal bytes number_after
      ret_member f =
          let (c, e, st) = is_member q s.at x.tree id x.stands h in
          let lg : Legal x.names (member id c) = rw e at x.legal in
          only_ruled 3 i c st lg.1 (ap size e) lent is (λ (u : Ty). member_out (symbols_of t) H id u) (ap (λ (z : Node). judge (symbols_of t) H z s.node) e) (ap bytes e) (ap (λ (z : Node). number_after z s.node) e) f

  -- ---- a binary operator
  module _ (op : ℕ) (h : node_at q s.at ≡ Binary op) {s₁ : State} (i : s₁ ≡ inside_of s 2) where
    pub asked_left : NodeAsked q s₁ b
    unfolding size Legal
    asked_left =
        let (c, o, e, st, su) = is_binary q s.at x.tree op x.stands h in
        let sz : size x.tree ≡ suc (size c + size o) = ap size e in
        let lg : Legal x.names (binary op c o) = rw e at x.legal in
        asked_inside x 2 i c st lg.0 (omega arith)

    module _ {ts ts₁ : List Ty} {b₁ : Reports} {r₁ : State} (is : (y : NodeAsked q s₁ b) → NodeIs t H s₁ ts ts₁ b b₁ r₁ y.tree) where
      left_child : let c = (is_binary q s.at x.tree op x.stands h).0 in ChildIs t H s 2 ts ts₁ b b₁ r₁ c
      unfolding asked_left asked_inside
      left_child = child 2 i (is asked_left)

      pub asked_right : NodeAsked q r₁ b₁
      unfolding size Legal
      asked_right =
          let (c, o, e, st, su) = is_binary q s.at x.tree op x.stands h in
          let sz : size x.tree ≡ suc (size c + size o) = ap size e in
          let lg : Legal x.names (binary op c o) = rw e at x.legal in
          let k = after_size c (suc s.node) in
          asked_later x left_child.reached o su lg.1 (omega (arith, x.room)) (omega (arith, left_child.few, x.within.few))

      pub right_falls : 18 * (length q - r₁.at) < 18 * (length q - s.at)
      right_falls =
          let (c, o, e, st, su) = is_binary q s.at x.tree op x.stands h in
          let at : r₁.at ≡ s.at + 2 + bytes c = ap (λ (z : State). z.at) left_child.reached.result in
          omega (arith, at_ends q c (s.at + 2) st)

      module _ {ts₂ : List Ty} {b₂ : Reports} {r₂ : State} (lent : Space q ts₂) (js : (y : NodeAsked q r₁ b₁) → NodeIs t H r₁ ts₁ ts₂ b₁ b₂ r₂ y.tree) where
        right_child : let (c, o, e, st, su) = is_binary q s.at x.tree op x.stands h in
            LaterIs t H s (s.at + 2 + bytes c) (number_after c (suc s.node)) (judge (symbols_of t) H c (suc s.node)).typed (judge (symbols_of t) H c (suc s.node)).diags ts₁ ts₂ b b₂ r₂ o
        unfolding asked_right asked_later
        right_child = later left_child.reached (js asked_right)

        left_held : let c = (is_binary q s.at x.tree op x.stands h).0 in Holds ts₂ (s.node + 1) (judge (symbols_of t) H c (suc s.node)).ty
        unfolding size
        left_held =
            let (c, o, e, st, su) = is_binary q s.at x.tree op x.stands h in
            let sz : size x.tree ≡ suc (size c + size o) = ap size e in
            let top = tree_held ok H q c (suc s.node) (s.at + 2) st (omega (arith, x.room)) left_child.filled (space_before right_child.filled lent) in
            node_under t H o (number_after c (suc s.node)) right_child.filled (s.node + 1) _ (omega (arith, after_size c (suc s.node), some_size c)) (rw add-one top)

        right_held : let (c, o, e, st, su) = is_binary q s.at x.tree op x.stands h in Holds ts₂ r₁.node (judge (symbols_of t) H o (number_after c (suc s.node))).ty
        unfolding size
        right_held =
            let (c, o, e, st, su) = is_binary q s.at x.tree op x.stands h in
            let sz : size x.tree ≡ suc (size c + size o) = ap size e in
            let k = after_size c (suc s.node) in
            rw (ap (λ (z : State). z.node) left_child.reached.result)
            (tree_held ok H q o (number_after c (suc s.node)) (s.at + 2 + bytes c) su (omega (arith, x.room)) right_child.filled lent)

        pub binary_ready : RuleAsked slot_size ts₂ s.node r₁.node b₂ (binary_out (symbols_of t) op (type_at ts₂ (s.node + 1)) (type_at ts₂ r₁.node))
        unfolding judge size
        binary_ready =
            let (c, o, e, st, su) = is_binary q s.at x.tree op x.stands h in
            let n : ℕ = suc s.node in
            let sz : size x.tree ≡ suc (size c + size o) = ap size e in
            let node : r₁.node ≡ number_after c n = ap (λ (z : State). z.node) left_child.reached.result in
            let cnt : b₂.count ≡ b.count + length ((judge (symbols_of t) H c n).diags ++ (judge (symbols_of t) H o (number_after c n)).diags) = reached_count right_child.reached in
            let len = length-append (judge (symbols_of t) H c n).diags (judge (symbols_of t) H o (number_after c n)).diags in
            let ty : length (binary_out (symbols_of t) op (judge (symbols_of t) H c n).ty (judge (symbols_of t) H o (number_after c n)).ty).ty ≤ 256
            = rw (ap (λ (z : Node). (judge (symbols_of t) H z s.node).ty) e) at type_fits in
            record {
              left = child_of ts₂ s.node (s.node + 1) _ (omega arith) left_held;
              right = child_of ts₂ s.node r₁.node _ (omega (arith, after_size c n)) right_held;
              short = rw (left_held.is, right_held.is) ty;
              few = omega (arith, left_child.few, right_child.few, x.within.few, x.room, slots_few (length q));
            }

        pub ret_binary : {ts' : List Ty} {b' : Reports} {r : State}
            → Finished r₂ s.node (binary_out (symbols_of t) op (type_at ts₂ (s.node + 1)) (type_at ts₂ r₁.node)).ty (at_node s.node (binary_out (symbols_of t) op (type_at ts₂ (s.node + 1)) (type_at ts₂ r₁.node)).reports) ts₂ ts' b₂ b' r
            → NodeIs t H s ts ts' b b' r x.tree
        unfolding judge size bytes number_after
        ret_binary f =
            let (c, o, e, st, su) = is_binary q s.at x.tree op x.stands h in
            let n : ℕ = suc s.node in
            let sz : size x.tree ≡ suc (size c + size o) = ap size e in
            let by : bytes x.tree ≡ 2 + bytes c + bytes o = ap bytes e in
            let num : number_after x.tree s.node ≡ number_after o (number_after c n) = ap (λ (z : Node). number_after z s.node) e in
            let len = length-append (judge (symbols_of t) H c n).diags (judge (symbols_of t) H o (number_after c n)).diags in
            close _ (ap (λ (z : Node). judge (symbols_of t) H z s.node) e) right_child.reached (filled_join left_child.filled right_child.filled) (rw (left_held.is, right_held.is) at f) refl refl (omega arith) (sym num)
            (omega (arith, left_child.few, right_child.few))
