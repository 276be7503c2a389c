-- A tree's bytes are just those from its position to the next: where the same bytes stand, the same tree does.
use Prim.Native.Nat.{ℕ, zero, suc, ◌+◌, ◌≤◌, ◌<◌}
use borrow.Author.Tests.{le-leb}
use lib.ListN.{length, get_or, take, drop, length-take}
use lib.Seq.{get_or-take, drop-drop, take-take}
use mathlib.Core.List.{List, [], ◌∷◌}
use mathlib.Core.Path.{◌≡◌, refl, sym, ap, ◌∙◌}
use native.Mathlib.Omega.{arith}
use Rattle.question.proofs.NodeReading.{Front, front_at}
use Rattle.question.specs.Inside.Stands.{TreeStands, RowStands}
use Rattle.question.specs.NodeRead.{last_binary, last_unary, most_arguments, leaf_of, node_of, node_in, node_at, own_bytes}
use Rattle.question.specs.Tree.{Node, Row, leaf, binary, unary, named, member, call, method, nil, cons, bytes, bytess, count}
use Rattle.question.specs.NodeRead.{Bad, Leaf, Endless, Binary, Unary, Named, Member, Call, Method}
use Rattle.question.specs.NodeRead.{NodeRead}
use Rattle.ty.proofs.Moved.{reads_alike}
use Rattle.ty.proofs.TypeSizes.{whole}
use Rattle.ty.specs.Bytes.{id_at}
use Rattle.ty.specs.Choose.{choose}
use Rattle.ty.specs.Kind.{no_kind}
use Rattle.ty.specs.Read.{longest_type}

-- ---- lists that begin alike
inner : (k b n : ℕ) (l : List ℕ) → k + b ≤ n → take b (drop k (take n l)) ≡ take b (drop k l)
inner zero b n l h = take-take b n l (omega arith)
inner (suc k) b zero l h = absurd (omega arith)
inner (suc k) b (suc n) [] h = refl
inner (suc k) b (suc n) (x ∷ l) h = inner k b n l (omega arith)

module _ (s s' : List ℕ) (n : ℕ) (e : take n s' ≡ take n s) where
  same_part : (k b : ℕ) → k + b ≤ n → take b (drop k s') ≡ take b (drop k s)
  same_part k b h = sym (inner k b n s' h) ∙ ap (λ (l : List ℕ). take b (drop k l)) e ∙ inner k b n s h

  same_byte : (i d : ℕ) → i < n → get_or s' i d ≡ get_or s i d
  same_byte i d h = sym (get_or-take n s' i d h) ∙ ap (λ (l : List ℕ). get_or l i d) e ∙ get_or-take n s i d h

  same_id : (i : ℕ) → i + 2 ≤ n → id_at s' i ≡ id_at s i
  same_id i h = rw (same_byte i 0 (omega arith), same_byte (i + 1) 0 (omega arith))

  same_there : n ≤ length s → n ≤ length s'
  same_there h = omega (arith, ap (λ (l : List ℕ). length l) e, length-take n s, length-take n s')

-- ---- a node
front_moved : (s s' : List ℕ) (h : NodeRead) → take (own_bytes h) s' ≡ take (own_bytes h) s → Front s h → Front s' h
unfolding Front own_bytes
front_moved s s' Bad e w = tt
front_moved s s' (Leaf len top) e w =
    let (error, r, k) = w in
    let b = whole (drop 1 s) longest_type len top error r in (
      error,
      reads_alike (drop 1 s) (drop 1 s') longest_type longest_type len top error (same_part s s' (len + 1) e 1 len (omega arith)) b.1 r,
      same_byte s s' (len + 1) e 0 no_kind (omega arith) ∙ k,
    )
front_moved s s' (Endless top) e w = tt
front_moved s s' (Binary op) e w =
    (same_there s s' 2 e w.0, w.1, same_byte s s' 2 e 0 no_kind (omega arith) ∙ w.2, same_byte s s' 2 e 1 0 (omega arith) ∙ w.3)
front_moved s s' (Unary op) e w =
    (same_there s s' 2 e w.0, w.1, same_byte s s' 2 e 0 no_kind (omega arith) ∙ w.2, same_byte s s' 2 e 1 0 (omega arith) ∙ w.3)
front_moved s s' (Named id) e w = (same_there s s' 3 e w.0, same_byte s s' 3 e 0 no_kind (omega arith) ∙ w.1, same_id s s' 3 e 1 (omega arith) ∙ w.2)
front_moved s s' (Member id) e w = (same_there s s' 3 e w.0, same_byte s s' 3 e 0 no_kind (omega arith) ∙ w.1, same_id s s' 3 e 1 (omega arith) ∙ w.2)
front_moved s s' (Call id n) e w = (
  same_there s s' 4 e w.0,
  w.1,
  same_byte s s' 4 e 0 no_kind (omega arith) ∙ w.2,
  same_id s s' 4 e 1 (omega arith) ∙ w.3,
  same_byte s s' 4 e 3 0 (omega arith) ∙ w.4,
)
front_moved s s' (Method id n) e w = (
  same_there s s' 4 e w.0,
  w.1,
  same_byte s s' 4 e 0 no_kind (omega arith) ∙ w.2,
  same_id s s' 4 e 1 (omega arith) ∙ w.3,
  same_byte s s' 4 e 3 0 (omega arith) ∙ w.4,
)

-- a node with bytes of its own is what its bytes say
front_read : (s : List ℕ) (h : NodeRead) → 1 ≤ own_bytes h → Front s h → node_in s ≡ h
unfolding Front own_bytes node_in node_of leaf_of choose
front_read s Bad o w = absurd (omega arith)
front_read s (Leaf len top) o w = let (error, r, k) = w in rw (k, r)
front_read s (Endless top) o w = absurd (omega arith)
front_read s (Binary op) o w = rw (w.2, w.3, le-leb 2 (length s) w.0, le-leb op last_binary w.1)
front_read s (Unary op) o w = rw (w.2, w.3, le-leb 2 (length s) w.0, le-leb op last_unary w.1)
front_read s (Named id) o w = rw (w.1, w.2, le-leb 3 (length s) w.0)
front_read s (Member id) o w = rw (w.1, w.2, le-leb 3 (length s) w.0)
front_read s (Call id n) o w = rw (w.2, w.3, w.4, le-leb 4 (length s) w.0, le-leb n most_arguments w.1)
front_read s (Method id n) o w = rw (w.2, w.3, w.4, le-leb 4 (length s) w.0, le-leb n most_arguments w.1)

module _ (q q' : List ℕ) where
  -- the parts of a tree's bytes
  part_moved : (at at' n k b m m' : ℕ) → m ≡ at + k → m' ≡ at' + k → k + b ≤ n → take n (drop at' q') ≡ take n (drop at q) → take b (drop m' q') ≡ take b (drop m q)
  part_moved at at' n k b m m' p p' h e =
      rw (p, p', ← drop-drop k at q, ← drop-drop k at' q') (same_part (drop at q) (drop at' q') n e k b h)

  node_moved : (at at' n : ℕ) (h : NodeRead) → 1 ≤ own_bytes h → own_bytes h ≤ n → take n (drop at' q') ≡ take n (drop at q) → node_at q at ≡ h → node_at q' at' ≡ h
  unfolding node_at
  node_moved at at' n h o l e r =
      front_read (drop at' q') h o (front_moved (drop at q) (drop at' q') h (same_part (drop at q) (drop at' q') n e 0 (own_bytes h) (omega arith)) (front_at q at h r))

  mutual
    unfolding TreeStands RowStands bytes bytess own_bytes

    pub at_moved : (t : Node) (at at' : ℕ) → take (bytes t) (drop at' q') ≡ take (bytes t) (drop at q) → TreeStands q t at → TreeStands q' t at'
    at_moved (leaf t) at at' e s =
        record {
          top = s.top;
          read = node_moved at at' (1 + length t) (Leaf (length t) s.top) (omega arith) (omega arith) e s.read;
          part = part_moved at at' (1 + length t) 1 (length t) (at + 1) (at' + 1) refl refl (omega arith) e ∙ s.part;
        }
    at_moved (binary op l r) at at' e s = (
      node_moved at at' (2 + bytes l + bytes r) (Binary op) (omega arith) (omega arith) e s.0,
      at_moved l (at + 2) (at' + 2) (part_moved at at' (2 + bytes l + bytes r) 2 (bytes l) (at + 2) (at' + 2) refl refl (omega arith) e) s.1,
      at_moved r (at + 2 + bytes l) (at' + 2 + bytes l)
          (part_moved at at' (2 + bytes l + bytes r) (2 + bytes l) (bytes r) (at + 2 + bytes l) (at' + 2 + bytes l) (omega arith) (omega arith) (omega arith) e)
          s.2,
    )
    at_moved (unary op x) at at' e s = (
      node_moved at at' (2 + bytes x) (Unary op) (omega arith) (omega arith) e s.0,
      at_moved x (at + 2) (at' + 2) (part_moved at at' (2 + bytes x) 2 (bytes x) (at + 2) (at' + 2) refl refl (omega arith) e) s.1,
    )
    at_moved (named id x) at at' e s = (
      node_moved at at' (3 + bytes x) (Named id) (omega arith) (omega arith) e s.0,
      at_moved x (at + 3) (at' + 3) (part_moved at at' (3 + bytes x) 3 (bytes x) (at + 3) (at' + 3) refl refl (omega arith) e) s.1,
    )
    at_moved (member id x) at at' e s = (
      node_moved at at' (3 + bytes x) (Member id) (omega arith) (omega arith) e s.0,
      at_moved x (at + 3) (at' + 3) (part_moved at at' (3 + bytes x) 3 (bytes x) (at + 3) (at' + 3) refl refl (omega arith) e) s.1,
    )
    at_moved (call id r) at at' e s = (
      node_moved at at' (4 + bytess r) (Call id (count r)) (omega arith) (omega arith) e s.0,
      ats_moved r (at + 4) (at' + 4) (part_moved at at' (4 + bytess r) 4 (bytess r) (at + 4) (at' + 4) refl refl (omega arith) e) s.1,
    )
    at_moved (method id x r) at at' e s = (
      node_moved at at' (4 + bytes x + bytess r) (Method id (count r)) (omega arith) (omega arith) e s.0,
      at_moved x (at + 4) (at' + 4) (part_moved at at' (4 + bytes x + bytess r) 4 (bytes x) (at + 4) (at' + 4) refl refl (omega arith) e) s.1,
      ats_moved r (at + 4 + bytes x) (at' + 4 + bytes x)
          (part_moved at at' (4 + bytes x + bytess r) (4 + bytes x) (bytess r) (at + 4 + bytes x) (at' + 4 + bytes x) (omega arith) (omega arith) (omega arith) e)
          s.2,
    )

    pub ats_moved : (r : Row) (at at' : ℕ) → take (bytess r) (drop at' q') ≡ take (bytess r) (drop at q) → RowStands q r at → RowStands q' r at'
    ats_moved nil at at' e s = tt
    ats_moved (cons x r) at at' e s = (
      at_moved x at at' (part_moved at at' (bytes x + bytess r) 0 (bytes x) at at' (omega arith) (omega arith) (omega arith) e) s.0,
      ats_moved r (at + bytes x) (at' + bytes x) (part_moved at at' (bytes x + bytess r) (bytes x) (bytess r) (at + bytes x) (at' + bytes x) refl refl (omega arith) e)
          s.1,
    )
