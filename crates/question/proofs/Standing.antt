-- What stands at a position, by the node that is read there, and how far it reaches.
use Prim.Native.Nat.{ℕ, ◌+◌, ◌-◌, ◌≤◌}
use lib.ListN.{length, take, drop}
use mathlib.Core.List.{List}
use mathlib.Core.Path.{◌≡◌, refl, sym, ap, ◌∙◌}
use native.Mathlib.Omega.{arith}
use Rattle.question.proofs.NodeReading.{room_of}
use Rattle.question.specs.Inside.Stands.{TreeStands, RowStands}
use Rattle.question.specs.NodeRead.{node_at}
use Rattle.question.specs.Tree.{Node, Row, leaf, binary, unary, named, member, call, method, nil, cons, bytes, bytess, count, LeavesFit, RowFits}
use Rattle.question.specs.NodeRead.{Bad, Leaf, Endless, Binary, Unary, Named, Member, Call, Method}

clash : {A : Type 0} → ◌≡◌ {A = ℕ} 0 1 → A
clash z = absurd (omega arith)

module _ (q : List ℕ) (at : ℕ) where
  pub is_bad : (t : Node) → TreeStands q t at → node_at q at ≡ Bad → ⊥
  unfolding TreeStands
  is_bad (leaf u) s h = let e = s.read in clash (cc)
  is_bad (binary o l r) s h = let e = s.0 in clash (cc)
  is_bad (unary o x) s h = let e = s.0 in clash (cc)
  is_bad (named i x) s h = let e = s.0 in clash (cc)
  is_bad (member i x) s h = let e = s.0 in clash (cc)
  is_bad (call i r) s h = let e = s.0 in clash (cc)
  is_bad (method i x r) s h = let e = s.0 in clash (cc)

  pub is_endless_lem : (t : Node) (top : ℕ) → TreeStands q t at → node_at q at ≡ Endless top → ⊥
  unfolding TreeStands
  is_endless_lem (leaf u) top s h = let e = s.read in clash (cc)
  is_endless_lem (binary o l r) top s h = let e = s.0 in clash (cc)
  is_endless_lem (unary o x) top s h = let e = s.0 in clash (cc)
  is_endless_lem (named i x) top s h = let e = s.0 in clash (cc)
  is_endless_lem (member i x) top s h = let e = s.0 in clash (cc)
  is_endless_lem (call i r) top s h = let e = s.0 in clash (cc)
  is_endless_lem (method i x r) top s h = let e = s.0 in clash (cc)

  pub is_leaf : (t : Node) (len top : ℕ) → TreeStands q t at → node_at q at ≡ Leaf len top
      → (t ≡ leaf (take len (drop (at + 1) q))) × (len ≡ length (take len (drop (at + 1) q)))
  unfolding TreeStands
  is_leaf (leaf u) len top s h = let e = s.read in
      let f : length u ≡ len = cc in
      let g : u ≡ take len (drop (at + 1) q) = sym s.part ∙ ap (λ (m : ℕ). take m (drop (at + 1) q)) f in
      (ap leaf g, sym f ∙ ap (λ (w : List ℕ). length w) g)
  is_leaf (binary o l r) len top s h = let e = s.0 in clash (cc)
  is_leaf (unary o x) len top s h = let e = s.0 in clash (cc)
  is_leaf (named i x) len top s h = let e = s.0 in clash (cc)
  is_leaf (member i x) len top s h = let e = s.0 in clash (cc)
  is_leaf (call i r) len top s h = let e = s.0 in clash (cc)
  is_leaf (method i x r) len top s h = let e = s.0 in clash (cc)

  pub is_binary : (t : Node) (op : ℕ) → TreeStands q t at → node_at q at ≡ Binary op → (l : Node) × (r : Node) × (t ≡ binary op l r) × TreeStands q l (at + 2) × TreeStands q r (at + 2 + bytes l)
  unfolding TreeStands
  is_binary (leaf u) op s h = let e = s.read in clash (cc)
  is_binary (binary o l r) op s h = let e = s.0 in let f : o ≡ op = cc in (l, r, ap (λ (z : ℕ). binary z l r) f, s.1, s.2)
  is_binary (unary o x) op s h = let e = s.0 in clash (cc)
  is_binary (named i x) op s h = let e = s.0 in clash (cc)
  is_binary (member i x) op s h = let e = s.0 in clash (cc)
  is_binary (call i r) op s h = let e = s.0 in clash (cc)
  is_binary (method i x r) op s h = let e = s.0 in clash (cc)

  pub is_unary : (t : Node) (op : ℕ) → TreeStands q t at → node_at q at ≡ Unary op → (x : Node) × (t ≡ unary op x) × TreeStands q x (at + 2)
  unfolding TreeStands
  is_unary (leaf u) op s h = let e = s.read in clash (cc)
  is_unary (binary o l r) op s h = let e = s.0 in clash (cc)
  is_unary (unary z x) op s h = let e = s.0 in let f : z ≡ op = cc in (x, ap (λ (y : ℕ). unary y x) f, s.1)
  is_unary (named i x) op s h = let e = s.0 in clash (cc)
  is_unary (member i x) op s h = let e = s.0 in clash (cc)
  is_unary (call i r) op s h = let e = s.0 in clash (cc)
  is_unary (method i x r) op s h = let e = s.0 in clash (cc)

  pub is_named_lem : (t : Node) (id : ℕ) → TreeStands q t at → node_at q at ≡ Named id → (x : Node) × (t ≡ named id x) × TreeStands q x (at + 3)
  unfolding TreeStands
  is_named_lem (leaf u) id s h = let e = s.read in clash (cc)
  is_named_lem (binary o l r) id s h = let e = s.0 in clash (cc)
  is_named_lem (unary o x) id s h = let e = s.0 in clash (cc)
  is_named_lem (named z x) id s h = let e = s.0 in let f : z ≡ id = cc in (x, ap (λ (y : ℕ). named y x) f, s.1)
  is_named_lem (member i x) id s h = let e = s.0 in clash (cc)
  is_named_lem (call i r) id s h = let e = s.0 in clash (cc)
  is_named_lem (method i x r) id s h = let e = s.0 in clash (cc)

  pub is_member : (t : Node) (id : ℕ) → TreeStands q t at → node_at q at ≡ Member id → (x : Node) × (t ≡ member id x) × TreeStands q x (at + 3)
  unfolding TreeStands
  is_member (leaf u) id s h = let e = s.read in clash (cc)
  is_member (binary o l r) id s h = let e = s.0 in clash (cc)
  is_member (unary o x) id s h = let e = s.0 in clash (cc)
  is_member (named i x) id s h = let e = s.0 in clash (cc)
  is_member (member z x) id s h = let e = s.0 in let f : z ≡ id = cc in (x, ap (λ (y : ℕ). member y x) f, s.1)
  is_member (call i r) id s h = let e = s.0 in clash (cc)
  is_member (method i x r) id s h = let e = s.0 in clash (cc)

  pub is_call : (t : Node) (id n : ℕ) → TreeStands q t at → node_at q at ≡ Call id n → (r : Row) × (t ≡ call id r) × (count r ≡ n) × RowStands q r (at + 4)
  unfolding TreeStands
  is_call (leaf u) id n s h = let e = s.read in clash (cc)
  is_call (binary o l r) id n s h = let e = s.0 in clash (cc)
  is_call (unary o x) id n s h = let e = s.0 in clash (cc)
  is_call (named i x) id n s h = let e = s.0 in clash (cc)
  is_call (member i x) id n s h = let e = s.0 in clash (cc)
  is_call (call i r) id n s h = let e = s.0 in let f : i ≡ id = cc in let g : count r ≡ n = cc in (r, ap (λ (y : ℕ). call y r) f, g, s.1)
  is_call (method i x r) id n s h = let e = s.0 in clash (cc)

  pub is_method : (t : Node) (id n : ℕ) → TreeStands q t at → node_at q at ≡ Method id n
      → (x : Node) × (r : Row) × (t ≡ method id x r) × (count r ≡ n) × TreeStands q x (at + 4) × RowStands q r (at + 4 + bytes x)
  unfolding TreeStands
  is_method (leaf u) id n s h = let e = s.read in clash (cc)
  is_method (binary o l r) id n s h = let e = s.0 in clash (cc)
  is_method (unary o x) id n s h = let e = s.0 in clash (cc)
  is_method (named i x) id n s h = let e = s.0 in clash (cc)
  is_method (member i x) id n s h = let e = s.0 in clash (cc)
  is_method (call i r) id n s h = let e = s.0 in clash (cc)
  is_method (method i x r) id n s h = let e = s.0 in let f : i ≡ id = cc in let g : count r ≡ n = cc in (x, r, ap (λ (y : ℕ). method y x r) f, g, s.1, s.2)

  pub is_cons : (r : Row) (n : ℕ) → RowStands q r at → count r ≡ n → (n ≡ 0 → ⊥)
      → (x : Node) × (s : Row) × (r ≡ cons x s) × (count s ≡ n - 1) × TreeStands q x at × RowStands q s (at + bytes x)
  unfolding RowStands count
  is_cons nil n s h ne = absurd (ne (sym h))
  is_cons (cons x r) n s h ne = (x, r, refl, omega arith, s.0, s.1)

-- a row of no trees
pub is_nil : (r : Row) → count r ≡ 0 → r ≡ nil
unfolding count
is_nil nil h = refl
is_nil (cons x r) h = absurd (omega arith)

-- the bytes of a tree that stands are there
mutual
  unfolding TreeStands RowStands bytes bytess

  pub at_ends : (q : List ℕ) (t : Node) (at : ℕ) → TreeStands q t at → at + bytes t ≤ length q
  at_ends q (leaf t) at s = omega (arith, (room_of q at _ s.read).0)
  at_ends q (binary op l r) at s = omega (arith, at_ends q r (at + 2 + bytes l) s.2)
  at_ends q (unary op x) at s = omega (arith, at_ends q x (at + 2) s.1)
  at_ends q (named id x) at s = omega (arith, at_ends q x (at + 3) s.1)
  at_ends q (member id x) at s = omega (arith, at_ends q x (at + 3) s.1)
  at_ends q (call id r) at s = omega (arith, ats_end q r (at + 4) (room_of q at _ s.0).0 s.1)
  at_ends q (method id x r) at s = omega (arith, ats_end q r (at + 4 + bytes x) (at_ends q x (at + 4) s.1) s.2)

  pub ats_end : (q : List ℕ) (r : Row) (at : ℕ) → at ≤ length q → RowStands q r at → at + bytess r ≤ length q
  ats_end q nil at h s = omega arith
  ats_end q (cons x r) at h s = omega (arith, ats_end q r (at + bytes x) (at_ends q x at s.0) s.1)

-- every leaf of a tree that stands has at most 192 bytes
mutual
  unfolding TreeStands RowStands LeavesFit RowFits

  pub at_fits : (q : List ℕ) (t : Node) (at : ℕ) → TreeStands q t at → LeavesFit t
  at_fits q (leaf t) at s = (room_of q at _ s.read).2
  at_fits q (binary op l r) at s = (at_fits q l (at + 2) s.1, at_fits q r (at + 2 + bytes l) s.2)
  at_fits q (unary op x) at s = at_fits q x (at + 2) s.1
  at_fits q (named id x) at s = at_fits q x (at + 3) s.1
  at_fits q (member id x) at s = at_fits q x (at + 3) s.1
  at_fits q (call id r) at s = ats_fit q r (at + 4) s.1
  at_fits q (method id x r) at s = (at_fits q x (at + 4) s.1, ats_fit q r (at + 4 + bytes x) s.2)

  pub ats_fit : (q : List ℕ) (r : Row) (at : ℕ) → RowStands q r at → RowFits r
  ats_fit q nil at s = tt
  ats_fit q (cons x r) at s = (at_fits q x at s.0, ats_fit q r (at + bytes x) s.1)
