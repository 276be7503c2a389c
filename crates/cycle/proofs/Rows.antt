-- Laws of argument rows, on plain values: what is asked, a turn of the loop, and the arguments that are handed on.
use Prim.Native.Nat.{ℕ, suc, ◌+◌, ◌-◌, ◌*◌, ◌≤◌, ◌<◌}
use lib.ListN.{length, length-append}
use mathlib.Core.List.{List, [], ◌∷◌, ◌++◌, append_assoc, append-nil}
use mathlib.Core.Option.{Option, none, some}
use mathlib.Core.Path.{◌≡◌, refl, sym, ap, ◌∙◌}
use native.Mathlib.Nat.{add-zero}
use native.Mathlib.Omega.{arith}
use Rattle.std.specs.Prelude as std
use Rattle.area.specs.Inside.Slot.{AllHold, type_at}
use Rattle.area.specs.declared.reports.Reports.{Reports}
use Rattle.nodes.proofs.Filling.{filled_none, filled_join}
use Rattle.cycle.proofs.Holding.{CleanTable, space_before, row_held}
use Rattle.nodes.proofs.Reaching.{reached_count, reached_here, reached_join, reached_as}
use Rattle.cycle.specs.Inside.Contract.{most_at_node, Space, NodeAsked, NodeIs, RowAsked, RowIs}
use Rattle.scoring.specs.Inside.Args.{args_in}
use Rattle.symbol.specs.Inside.LookupAnswer.{optional}
use Rattle.nodes.specs.Inside.Row.{name_read, name_at, as_option, handed_on, nodes_of, tys_of}
use Rattle.scoring.specs.declared.args.Arg.{Arg as Handed}
use Rattle.nodes.specs.declared.calls.RowJudged.{RowJudged}
use Rattle.nodes.specs.declared.progress.State.{State}
use Rattle.scoring.specs.Arg.{Arg}
use Rattle.question.proofs.Standing.{is_nil, is_cons}
use Rattle.question.proofs.Trees.{after_size}
use Rattle.question.specs.Legal.{RowLegal}
use Rattle.question.specs.Inside.Stands.{TreeStands}
use Rattle.question.specs.Tree.{Node, Row, leaf, binary, unary, named, member, call, method, nil, cons, number_after, number_after_row, size, sizes, count, bytes, bytess, argument_name}
use Rattle.question.specs.declared.Header.{Header}
use Rattle.symbol.specs.Lookup.{symbols_of}
use Rattle.symbol.specs.Symbols.{Symbols}
use Rattle.ty.specs.Bytes.{Ty}
use Rattle.typing.specs.Judge.{RowJudged as Judgements, judge, judges}

-- ---- names
-- the name that the row judge reads is the one that the tree has
pub name_read_lem : (q : List ℕ) (x : Node) (at : ℕ) → TreeStands q x at → name_at q at ≡ as_option (argument_name x)
unfolding TreeStands name_read argument_name
name_read_lem q (leaf t) at s = rw s.read
name_read_lem q (binary op l r) at s = rw s.0
name_read_lem q (unary op x) at s = rw s.0
name_read_lem q (named id x) at s = rw s.0
name_read_lem q (member id x) at s = rw s.0
name_read_lem q (call id r) at s = rw s.0
name_read_lem q (method id x r) at s = rw s.0

pub row_count : (S : Symbols) (H : Header) (r : Row) (n : ℕ) → length (judges S H r n).args ≡ count r
unfolding judges count
row_count S H nil n = refl
row_count S H (cons x r) n = ap suc (row_count S H r (number_after x n))

-- ---- the arguments that are handed on
handed_name : (o : Option ℕ) → optional (as_option o) ≡ o
handed_name none = refl
handed_name (some id) = refl

args_are : (ts : List Ty) (lo : ℕ) (xs : List Arg) → AllHold ts lo (nodes_of xs) (tys_of xs) → args_in ts (handed_on xs) ≡ xs
unfolding args_in handed_on nodes_of tys_of AllHold
args_are ts lo [] h = refl
args_are ts lo (x ∷ xs) h =
    let ty : type_at ts x.node ≡ x.ty = h.1.is in
    let rest : args_in ts (handed_on xs) ≡ xs = args_are ts lo xs h.2 in
    λ k. record { name = handed_name x.name k; ty = ty k; node = x.node } ∷ rest k

handed_count : (xs : List Arg) → length (handed_on xs) ≡ length xs
unfolding handed_on
handed_count [] = refl
handed_count (x ∷ xs) = ap suc (handed_count xs)

module _ {t : List ℕ} (ok : CleanTable t) {H : Header} {q : List ℕ} {s : State} {b : Reports} {n : ℕ} (x : RowAsked q s b 0 n) {ts ts' : List Ty} {b' : Reports} {r : RowJudged}
    (lent : Space q ts') (is : RowIs t H s [] ts ts' b b' r x.trees) where
  pub row_args : args_in ts' r.args ≡ (judges (symbols_of t) H x.trees s.node).args
  row_args =
      ap (λ (ys : List Handed). args_in ts' ys) is.args
      ∙ args_are ts' s.node (judges (symbols_of t) H x.trees s.node).args (row_held ok H q x.trees s.node s.at x.stands x.room is.filled (space_before is.filled lent))

-- ---- what a turn of the loop is asked
module _ {q : List ℕ} {s : State} {b : Reports} {k left : ℕ} (x : RowAsked q s b k left) (ne : left ≡ 0 → ⊥) where
  pub asked_first : NodeAsked q s b
  unfolding sizes RowLegal
  asked_first =
      let (c, r, e, n, st, ss) = is_cons q s.at x.trees left x.stands x.counted ne in
      let sz : sizes x.trees ≡ size c + sizes r = ap sizes e in
      let lg : RowLegal x.names (cons c r) = rw e at x.legal in
      record { tree = c; names = x.names; stands = st; legal = lg.0; room = omega (arith, x.room); within = x.within }

  module _ {t : List ℕ} {H : Header} {ts ts₁ : List Ty} {b₁ : Reports} {e : State} (is : NodeIs t H s ts ts₁ b b₁ e asked_first.tree) where
    pub asked_rest : RowAsked q e b₁ (k + 1) (left - 1)
    unfolding sizes RowLegal asked_first
    asked_rest =
        let (c, r, eq, n, st, ss) = is_cons q s.at x.trees left x.stands x.counted ne in
        let sz : sizes x.trees ≡ size c + sizes r = ap sizes eq in
        let lg : RowLegal x.names (cons c r) = rw eq at x.legal in
        let at : e.at ≡ s.at + bytes c = ap (λ (z : State). z.at) is.reached.result in
        let node : e.node ≡ number_after c s.node = ap (λ (z : State). z.node) is.reached.result in
        let cnt : b₁.count ≡ b.count + length (judge (symbols_of t) H c s.node).diags = reached_count is.reached in
        let num = after_size c s.node in
        record {
          trees = r;
          names = x.names;
          stands = rw at ss;
          legal = lg.1;
          counted = n;
          fits = omega (arith, x.fits);
          room = omega (arith, x.room);
          within = record { long = x.within.long; few = omega (arith, x.within.few, is.few) };
        }

-- ---- what is left of a row
module _ {t : List ℕ} {H : Header} {q : List ℕ} {s : State} {b : Reports} {k left : ℕ} (x : RowAsked q s b k left) (xs : List Handed) (ts : List Ty) where
  pub ret_done : left ≡ 0 → RowIs t H s xs ts ts b b (record { args = xs; state = s }) x.trees
  unfolding judges bytess number_after_row sizes handed_on
  ret_done z =
      rw (is_nil x.trees (x.counted ∙ z))
      (record { reached = reached_as (sym (add-zero s.at)) refl refl refl (reached_here s b); filled = filled_none ts; args = sym (append-nil xs); few = omega arith })

  pub ret_also : (ne : left ≡ 0 → ⊥) {ts₁ ts₂ : List Ty} {b₁ b₂ : Reports} {e : State} {r : RowJudged} {name : std.Option ℕ} (is : NodeIs t H s ts ts₁ b b₁ e (asked_first x ne).tree) → name ≡ name_at q s.at
      → RowIs t H e (xs ++ (record { node = s.node; name = name } ∷ [])) ts₁ ts₂ b₁ b₂ r (asked_rest x ne is).trees
      → RowIs t H s xs ts ts₂ b b₂ r x.trees
  unfolding judges bytess number_after_row sizes handed_on asked_first asked_rest
  ret_also ne {e = e} {name = name} y i z =
      let (c, us, eq, m, st, ss) = is_cons q s.at x.trees left x.stands x.counted ne in
      let at : e.at ≡ s.at + bytes c = ap (λ (z : State). z.at) y.reached.result in
      let node : e.node ≡ number_after c s.node = ap (λ (z : State). z.node) y.reached.result in
      let called : name ≡ as_option (argument_name c) = i ∙ name_read_lem q c s.at st in
      let num = after_size c s.node in
      let J : ℕ → Judgements = λ (p : ℕ). judges (symbols_of t) H us p in
      let zf : length (J (number_after c s.node)).diags ≤ most_at_node * sizes us = rw node at z.few in
      rw eq
      (record {
        reached = reached_as (omega arith) refl refl refl
            (reached_join y.reached
            (reached_as (ap (λ (p : ℕ). p + bytess us) at) (ap (λ (p : ℕ). number_after_row us p) node) (ap (λ (p : ℕ). (J p).typed) node) (ap (λ (p : ℕ). (J p).diags) node) z.reached));
        filled = filled_join y.filled (rw node at z.filled);
        args = z.args ∙ rw (node, called) (append_assoc xs _ _);
        few = omega (arith, length-append (judge (symbols_of t) H c s.node).diags (J (number_after c s.node)).diags, y.few, zf);
      })

-- a turn of the row's loop: what is left, and that whatever finishes what is left finishes the whole
pub record Turn (t : List ℕ) (H : Header) (q : List ℕ) (s : State) (n : ℕ) (xs₀ : List Handed) (ts₀ : List Ty) (b₀ : Reports) (xs : List Handed) (ts : List Ty) (b : Reports) (k : ℕ) (e : State) (whole : Row)
    : Type 0 where
  pub left : ℕ
  pub some : k + left ≡ n
  pub later : s.at ≤ e.at
  pub rest : RowAsked q e b k left
  pub then : (r : RowJudged) (ts' : List Ty) (b' : Reports) → RowIs t H e xs ts ts' b b' r rest.trees → RowIs t H s xs₀ ts₀ ts' b₀ b' r whole

pub turn_first : {t : List ℕ} {H : Header} {q : List ℕ} {s : State} {b : Reports} {n : ℕ} (x : RowAsked q s b 0 n) {xs : List Handed} {ts : List Ty}
    → Turn t H q s n xs ts b xs ts b 0 s x.trees
turn_first {n = n} x = record { left = n; some = omega arith; later = omega arith; rest = x; then = λ r ts' b' is. is }

pub left_some : (k m n : ℕ) → k + m ≡ n → k < n → m ≡ 0 → ⊥
left_some k m n e h z = omega arith

module _ {t : List ℕ} {H : Header} {q : List ℕ} {s : State} {n : ℕ} {xs₀ xs : List Handed} {ts₀ ts : List Ty} {b₀ b : Reports} {k : ℕ} {e : State} {whole : Row}
    (w : Turn t H q s n xs₀ ts₀ b₀ xs ts b k e whole) where
  pub turn_asked : k < n → NodeAsked q e b
  turn_asked h = asked_first w.rest (left_some k w.left n w.some h)

  pub turn_falls : 18 * (length q - e.at) < 18 * (length q - s.at) + n + 1
  turn_falls = omega (arith, w.later)

  pub turn_next : k < n → {ts₁ : List Ty} {b₁ : Reports} {e₁ : State} {name : std.Option ℕ} → name ≡ name_at q e.at → ((x : NodeAsked q e b) → NodeIs t H e ts ts₁ b b₁ e₁ x.tree)
      → Turn t H q s n xs₀ ts₀ b₀ (xs ++ (record { node = e.node; name = name } ∷ [])) ts₁ b₁ (k + 1) e₁ whole
  turn_next h {e₁ = e₁} i is =
      let ne = left_some k w.left n w.some h in
      let y = is (asked_first w.rest ne) in
      let at : e₁.at ≡ e.at + bytes (asked_first w.rest ne).tree = ap (λ (z : State). z.at) y.reached.result in
      record {
        left = w.left - 1;
        some = omega (arith, w.some);
        later = omega (arith, w.later);
        rest = asked_rest w.rest ne y;
        then = λ r ts' b' z. w.then r ts' b' (ret_also w.rest xs ts ne y i z);
      }

  pub turn_last : n ≤ k → RowIs t H s xs₀ ts₀ ts b₀ b (record { args = xs; state = e }) whole
  turn_last h = w.then _ _ _ (ret_done w.rest xs ts (omega (arith, w.some)))

pub row_fits : {q : List ℕ} {s : State} {b : Reports} {n : ℕ} → RowAsked q s b 0 n → n ≤ 16
row_fits x = omega (arith, x.fits)
