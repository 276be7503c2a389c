-- What a node that was read says of the bytes at its position.
use Prim.Native.Nat.{ℕ, ◌+◌, ◌≤◌, max}
use borrow.Author.Tests.{leb-true, eqb-true}
use lib.Dec.{leb, eqb}
use lib.ListN.{length, get_or, take, drop, length-drop}
use lib.Seq.{drop-drop, length-take-le}
use mathlib.Core.Bool.{Bool, true, ◌&&◌}
use mathlib.Core.List.{List}
use mathlib.Core.Path.{◌≡◌, refl}
use native.Mathlib.Omega.{arith}
use Rattle.question.specs.NodeRead.{last_binary, last_unary, most_arguments, leaf_of, node_of, node_in, node_at, own_bytes, children}
use Rattle.question.specs.NodeRead.{Bad, Leaf, Endless, Binary, Unary, Named, Member, Call, Method}
use Rattle.question.specs.NodeRead.{NodeRead}
use Rattle.std.specs.Prelude.{Result, Ok, Err}
use Rattle.ty.proofs.Choice.{by_choice, and_left, and_right}
use Rattle.ty.proofs.Moved.{reads_taken}
use Rattle.ty.proofs.TypeSizes.{whole}
use Rattle.ty.specs.Bytes.{id_at}
use Rattle.ty.specs.Kind.{no_kind}
use Rattle.ty.specs.Read.{read_type, longest_type, whole_read}
use Rattle.ty.specs.declared.read.TypeFault.TheVariants.{Cut, Malformed, Endless as Unended}
use Rattle.ty.specs.declared.read.TypeFault.{TypeFault}
use Rattle.ty.specs.declared.read.TypeRead.{TypeRead}

-- the node's own bytes are there, its operator or count is in range, and its parts stand where they should; behind a leaf's kind stands a whole type
unfoldable pub Front : List ℕ → NodeRead → Type 0
Front s Bad = Unit {0}
Front s (Leaf len top) = (error : Bool) × (read_type (drop 1 s) longest_type ≡ whole_read len top error) × (get_or s 0 no_kind ≡ 0)
Front s (Endless top) = Unit {0}
Front s (Binary op) = (2 ≤ length s) × (op ≤ last_binary) × (get_or s 0 no_kind ≡ 1) × (get_or s 1 0 ≡ op)
Front s (Unary op) = (2 ≤ length s) × (op ≤ last_unary) × (get_or s 0 no_kind ≡ 2) × (get_or s 1 0 ≡ op)
Front s (Named id) = (3 ≤ length s) × (get_or s 0 no_kind ≡ 3) × (id_at s 1 ≡ id)
Front s (Member id) = (3 ≤ length s) × (get_or s 0 no_kind ≡ 4) × (id_at s 1 ≡ id)
Front s (Call id n) = (4 ≤ length s) × (n ≤ most_arguments) × (get_or s 0 no_kind ≡ 5) × (id_at s 1 ≡ id) × (get_or s 3 0 ≡ n)
Front s (Method id n) = (4 ≤ length s) × (n ≤ most_arguments) × (get_or s 0 no_kind ≡ 6) × (id_at s 1 ≡ id) × (get_or s 3 0 ≡ n)

-- the parts of a test: a kind, so many bytes, and a number in range
tests : (k i there n x m : ℕ) → eqb k i && (leb n there && leb x m) ≡ true → (n ≤ there) × (x ≤ m) × (k ≡ i)
tests k i there n x m e =
    let r = and_right (eqb k i) (leb n there && leb x m) e in
    (leb-true n there (and_left (leb n there) (leb x m) r), leb-true x m (and_right (leb n there) (leb x m) r), eqb-true k i (and_left (eqb k i) (leb n there && leb x m) e))

test : (k i there n : ℕ) → eqb k i && leb n there ≡ true → (n ≤ there) × (k ≡ i)
test k i there n e = (leb-true n there (and_right (eqb k i) (leb n there) e), eqb-true k i (and_left (eqb k i) (leb n there) e))

module _ (s : List ℕ) where
  at_bad : Front s Bad
  unfolding Front
  at_bad = tt

  at_binary : eqb (get_or s 0 no_kind) 1 && (leb 2 (length s) && leb (get_or s 1 0) last_binary) ≡ true → Front s (Binary (get_or s 1 0))
  unfolding Front
  at_binary e = let w = tests (get_or s 0 no_kind) 1 (length s) 2 (get_or s 1 0) last_binary e in (w.0, w.1, w.2, refl)

  at_unary : eqb (get_or s 0 no_kind) 2 && (leb 2 (length s) && leb (get_or s 1 0) last_unary) ≡ true → Front s (Unary (get_or s 1 0))
  unfolding Front
  at_unary e = let w = tests (get_or s 0 no_kind) 2 (length s) 2 (get_or s 1 0) last_unary e in (w.0, w.1, w.2, refl)

  at_named : eqb (get_or s 0 no_kind) 3 && leb 3 (length s) ≡ true → Front s (Named (id_at s 1))
  unfolding Front
  at_named e = let w = test (get_or s 0 no_kind) 3 (length s) 3 e in (w.0, w.1, refl)

  at_member : eqb (get_or s 0 no_kind) 4 && leb 3 (length s) ≡ true → Front s (Member (id_at s 1))
  unfolding Front
  at_member e = let w = test (get_or s 0 no_kind) 4 (length s) 3 e in (w.0, w.1, refl)

  at_call : eqb (get_or s 0 no_kind) 5 && (leb 4 (length s) && leb (get_or s 3 0) most_arguments) ≡ true → Front s (Call (id_at s 1) (get_or s 3 0))
  unfolding Front
  at_call e = let w = tests (get_or s 0 no_kind) 5 (length s) 4 (get_or s 3 0) most_arguments e in (w.0, w.1, w.2, refl, refl)

  at_method : eqb (get_or s 0 no_kind) 6 && (leb 4 (length s) && leb (get_or s 3 0) most_arguments) ≡ true → Front s (Method (id_at s 1) (get_or s 3 0))
  unfolding Front
  at_method e = let w = tests (get_or s 0 no_kind) 6 (length s) 4 (get_or s 3 0) most_arguments e in (w.0, w.1, w.2, refl, refl)

  at_leaf : get_or s 0 no_kind ≡ 0 → (r : Result TypeRead TypeFault) → read_type (drop 1 s) longest_type ≡ r → Front s (leaf_of r)
  unfolding Front leaf_of
  at_leaf k (Ok r) e = (r.error, e, k)
  at_leaf k (Err Cut) e = tt
  at_leaf k (Err Malformed) e = tt
  at_leaf k (Err (Unended top error)) e = tt

  front : Front s (node_in s)
  unfolding node_in node_of
  front =
      by_choice (Front s) _ (λ e. at_leaf (eqb-true (get_or s 0 no_kind) 0 e) (read_type (drop 1 s) longest_type) refl) λ _.
      by_choice (Front s) _ at_binary λ _.
      by_choice (Front s) _ at_unary λ _.
      by_choice (Front s) _ at_named λ _.
      by_choice (Front s) _ at_member λ _.
      by_choice (Front s) _ at_call λ _.
      by_choice (Front s) _ at_method λ _.
      at_bad

-- the same at a position of the question
abbrev pub Room : List ℕ → ℕ → NodeRead → Type 0
Room q at Bad = Unit {0}
Room q at (Leaf len top) = (at + 1 + len ≤ length q) × (1 ≤ len) × (len ≤ longest_type)
Room q at (Endless top) = Unit {0}
Room q at (Binary op) = (at + 2 ≤ length q) × (op ≤ last_binary)
Room q at (Unary op) = (at + 2 ≤ length q) × (op ≤ last_unary)
Room q at (Named id) = at + 3 ≤ length q
Room q at (Member id) = at + 3 ≤ length q
Room q at (Call id n) = (at + 4 ≤ length q) × (n ≤ most_arguments)
Room q at (Method id n) = (at + 4 ≤ length q) × (n ≤ most_arguments)

module _ (q : List ℕ) (at : ℕ) where
  pub front_at : (h : NodeRead) → node_at q at ≡ h → Front (drop at q) h
  unfolding node_at
  front_at h e = rw e at (front (drop at q))

  -- the type of a leaf, as it was read
  pub leaf-read : (len top : ℕ) → node_at q at ≡ Leaf len top → (error : Bool) × (read_type (drop (at + 1) q) longest_type ≡ whole_read len top error)
  unfolding Front
  leaf-read len top e = let (error, r, k) = front_at (Leaf len top) e in (error, rw drop-drop at r)

  pub room_of : (h : NodeRead) → node_at q at ≡ h → Room q at h
  unfolding Front
  room_of Bad e = tt
  room_of (Leaf len top) e =
      let (error, r) = leaf-read len top e in
      let w = whole (drop (at + 1) q) longest_type len top error r in
      (omega (arith, w, length-drop (at + 1) q), w.0, w.1)
  room_of (Endless top) e = tt
  room_of (Binary op) e = let w = front_at (Binary op) e in (omega (arith, w.0, length-drop at q), w.1)
  room_of (Unary op) e = let w = front_at (Unary op) e in (omega (arith, w.0, length-drop at q), w.1)
  room_of (Named id) e = let w = front_at (Named id) e in omega (arith, w.0, length-drop at q)
  room_of (Member id) e = let w = front_at (Member id) e in omega (arith, w.0, length-drop at q)
  room_of (Call id n) e = let w = front_at (Call id n) e in (omega (arith, w.0, length-drop at q), w.1)
  room_of (Method id n) e = let w = front_at (Method id n) e in (omega (arith, w.0, length-drop at q), w.1)

  -- a leaf's bytes are one whole type, and there are as many as were read
  pub leaf-length : (len top : ℕ) → node_at q at ≡ Leaf len top → length (take len (drop (at + 1) q)) ≡ len
  leaf-length len top e = length-take-le len (drop (at + 1) q) (omega (arith, length-drop (at + 1) q, (room_of (Leaf len top) e).0))

  pub leaf-whole : (len top : ℕ) → node_at q at ≡ Leaf len top → (error : Bool) × (read_type (take len (drop (at + 1) q)) longest_type ≡ whole_read len top error)
  leaf-whole len top e =
      let (error, r) = leaf-read len top e in
      (error, reads_taken (drop (at + 1) q) longest_type len len top error (omega arith) r)

-- a step goes no further than the end, and brings few children
small : (q : List ℕ) (at : ℕ) (h : NodeRead) → Room q at h → at + own_bytes h ≤ max at (length q)
unfolding own_bytes
small q at Bad r = omega arith
small q at (Leaf len top) r = omega arith
small q at (Endless top) r = omega arith
small q at (Binary op) r = omega arith
small q at (Unary op) r = omega arith
small q at (Named id) r = omega arith
small q at (Member id) r = omega arith
small q at (Call id n) r = omega arith
small q at (Method id n) r = omega arith

few : (q : List ℕ) (at : ℕ) (h : NodeRead) → Room q at h → children h ≤ 17
unfolding children
few q at Bad r = omega arith
few q at (Leaf len top) r = omega arith
few q at (Endless top) r = omega arith
few q at (Binary op) r = omega arith
few q at (Unary op) r = omega arith
few q at (Named id) r = omega arith
few q at (Member id) r = omega arith
few q at (Call id n) r = omega arith
few q at (Method id n) r = omega arith

pub step_small : (q : List ℕ) (at : ℕ) → at + own_bytes (node_at q at) ≤ max at (length q)
step_small q at = small q at (node_at q at) (room_of q at (node_at q at) refl)

pub step_few : (q : List ℕ) (at : ℕ) → children (node_at q at) ≤ 17
step_few q at = few q at (node_at q at) (room_of q at (node_at q at) refl)
