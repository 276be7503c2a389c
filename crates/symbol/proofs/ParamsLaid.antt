-- Parameters read one after the other.
use Prim.Native.Nat.{ℕ, zero, suc, ◌+◌, ◌-◌, ◌*◌, ◌≤◌, ◌<◌, ◌%◌}
use lib.Dec.{eqb, leb}
use lib.ListN.{length, get_or, drop, take, length-drop, length-take, length-append}
use lib.Seq.{drop-drop, get_or-drop, get_or-take, take-take}
use mathlib.Core.List.{List, [], ◌∷◌, ◌++◌, append_assoc}
use mathlib.Core.Path.{◌≡◌, refl, sym, ap, ◌∙◌, subst}
use native.Mathlib.Omega.{arith}
use native.Mathlib.Nat.{sub-zero}
use Rattle.std.proofs.lemmas.List.Elements.{All-nil, All-cons}
use Rattle.ty.specs.Bytes.{id_at}
use Rattle.record.proofs.Own.{drop-take}
use Rattle.symbol.specs.Inside.LookupAnswer.{param_seen, InTable}
use Rattle.record.specs.Inside.Keyed.{type_length}
use Rattle.symbol.specs.Inside.FoundSymbols.{param_of, params_from}
use Rattle.symbol.specs.Inside.FunctionFields.{param_laid, params_laid}
use Rattle.symbol.specs.Inside.ParamsRow.{part, ParamsAt, ParamsAre}
use Rattle.symbol.specs.Symbols.{Param}
use Rattle.symbol.specs.declared.functions.Param.{Param as Read}

-- ---- a part of a part
pub part-from : (t : List ℕ) (a e j : ℕ) → drop j (part t a e) ≡ part t (a + j) e
part-from t a e j =
    let n : e - a - j ≡ e - (a + j) = omega arith in
    drop-take j (e - a) (drop a t) ∙ ap (λ (x : List ℕ). take (e - a - j) x) (drop-drop j a t) ∙ ap (λ (k : ℕ). take k (drop (a + j) t)) n

pub part_length : (t : List ℕ) (a e : ℕ) → e ≤ length t → length (part t a e) ≡ e - a
part_length t a e h = let l = length-take (e - a) (drop a t) in omega (arith, length-drop a t)

pub part_byte : (t : List ℕ) (a e i : ℕ) → a + i < e → get_or (part t a e) i 0 ≡ get_or t (a + i) 0
part_byte t a e i h = get_or-take (e - a) (drop a t) i 0 (omega arith) ∙ get_or-drop a t i 0

pub part-take : (t : List ℕ) (a e n : ℕ) → a + n ≤ e → take n (part t a e) ≡ take n (drop a t)
part-take t a e n h = take-take n (e - a) (drop a t) (omega arith)

pub part_id : (t : List ℕ) (a e i : ℕ) → a + i + 2 ≤ e → id_at (part t a e) i ≡ id_at t (a + i)
part_id t a e i h =
    let q : a + (i + 1) ≡ a + i + 1 = omega arith in
    ap (λ (x : ℕ). x + 256 * get_or (part t a e) (i + 1) 0) (part_byte t a e i (omega arith))
    ∙ ap (λ (x : ℕ). get_or t (a + i) 0 + 256 * x) (part_byte t a e (i + 1) (omega arith) ∙ ap (λ (k : ℕ). get_or t k 0) q)

-- ---- one parameter, and n behind it
module _ (t : List ℕ) (end : ℕ) (high : end ≤ length t) (n at : ℕ) (inside : at ≤ end) (row : ParamsAt (suc n) (part t at end)) where
  -- the type's length, as the row has it
  long : type_length (drop 3 (part t at end)) ≡ type_length (part t (at + 3) end)
  long = ap type_length (part-from t at end 3)

  pub param_room : at + 3 + type_length (part t (at + 3) end) ≤ end
  param_room = omega (arith, row.0.inside, part_length t at end high, long, inside)

  here : param_of (part t at end) (type_length (drop 3 (part t at end))) ≡ param_seen t (param_laid t end at)
  here =
      let z : at + 0 ≡ at = omega arith in
      let a : id_at (part t at end) 0 ≡ id_at t at = part_id t at end 0 (omega (arith, param_room)) ∙ ap (λ (k : ℕ). id_at t k) z in
      let b : get_or (part t at end) 2 0 ≡ get_or t (at + 2) 0 = part_byte t at end 2 (omega (arith, param_room)) in
      let c : take (type_length (drop 3 (part t at end))) (drop 3 (part t at end)) ≡ take (type_length (part t (at + 3) end)) (drop (at + 3) t)
      = ap (λ (k : ℕ). take k (drop 3 (part t at end))) long
      ∙ ap (λ (x : List ℕ). take (type_length (part t (at + 3) end)) x) (part-from t at end 3)
      ∙ part-take t (at + 3) end (type_length (part t (at + 3) end)) param_room in
      λ i. record { name = a i; default = eqb (b i % 2) 1; vararg = leb 2 (b i); ty = c i }

  behind : drop (3 + type_length (drop 3 (part t at end))) (part t at end) ≡ part t (at + 3 + type_length (part t (at + 3) end)) end
  behind =
      let l = type_length (part t (at + 3) end) in
      let e : at + (3 + l) ≡ at + 3 + l = omega arith in
      ap (λ (k : ℕ). drop (3 + k) (part t at end)) long ∙ part-from t at end (3 + l) ∙ ap (λ (k : ℕ). part t k end) e

  pub row_behind : ParamsAt n (part t (at + 3 + type_length (part t (at + 3) end)) end)
  row_behind = subst (λ (x : List ℕ). ParamsAt n x) behind row.1

  pub one_laid : params_from (suc n) (part t at end)
      ≡ param_seen t (param_laid t end at) ∷ params_from n (part t (at + 3 + type_length (part t (at + 3) end)) end)
  unfolding params_from
  one_laid = λ i. here i ∷ params_from n (behind i)

-- THE PARAMETERS AS THEY ARE READ are those of the record
pub laid_are : (t : List ℕ) (end : ℕ) → end ≤ length t → (n at : ℕ) → at ≤ end → ParamsAt n (part t at end)
    → ParamsAre t (params_from n (part t at end)) n (params_laid t end n at)
unfolding params_from params_laid
laid_are t end high zero at inside row = record { count = refl; same = refl; types = All-nil (InTable t) }
laid_are t end high (suc n) at inside row =
    let room = param_room t end high n at inside row in
    let rest = laid_are t end high n (at + 3 + type_length (part t (at + 3) end)) room (row_behind t end high n at inside row) in
    record {
      count = ap suc rest.count;
      same = ap (λ (ps : List Param). param_seen t (param_laid t end at) ∷ ps) rest.same ∙ sym (one_laid t end high n at inside row);
      types = All-cons (InTable t) (param_laid t end at) _ (omega (arith, room)) rest.types;
    }

-- ---- the loop: before parameter number i, p are read, and the next begins at byte at
pub record Reading (t : List ℕ) (from end count at i : ℕ) (p : List Read) : Type 0 where
  pub inside : at ≤ end
  pub long : length p ≡ i
  pub row : ParamsAt (count - i) (part t at end)
  pub same : p ++ params_laid t end (count - i) at ≡ params_laid t end count from

module _ (t : List ℕ) (from end count : ℕ) (high : end ≤ length t) where
  pub reading_starts : (p : List Read) → p ≡ [] → from ≤ end → ParamsAt count (part t from end) → Reading t from end count from 0 p
  reading_starts p e h r =
      record {
        inside = h;
        long = ap length e;
        row = rw (sub-zero count) r;
        same = rw (sub-zero count) (ap (λ (x : List Read). x ++ params_laid t end count from) e);
      }

  module _ (at i : ℕ) (p : List Read) (g : Reading t from end count at i p) where
    pub reading_done : count ≤ i → p ≡ params_laid t end count from
    unfolding params_laid
    reading_done h = let z : count - i ≡ 0 = omega arith in sym (append_nil p) ∙ rw z at g.same
      where
        append_nil : (xs : List Read) → xs ++ [] ≡ xs
        append_nil [] = refl
        append_nil (x ∷ xs) = ap (λ (y : List Read). x ∷ y) (append_nil xs)

    module _ (more : i < count) where
      left : count - i ≡ suc (count - (i + 1))
      left = omega arith

      next : ParamsAt (suc (count - (i + 1))) (part t at end)
      next = subst (λ (n : ℕ). ParamsAt n (part t at end)) left g.row

      pub reading_room : at + 3 + type_length (part t (at + 3) end) ≤ end
      reading_room = param_room t end high (count - (i + 1)) at g.inside next

      pub reading_next : (len : ℕ) → len ≡ type_length (part t (at + 3) end) → (name flag : ℕ) → name ≡ id_at t at → flag ≡ get_or t (at + 2) 0
          → (r : List Read)
          → r ≡ p ++ record { name = name; default = eqb (flag % 2) 1; vararg = leb 2 flag; part = record { start = at + 3; len = len } } ∷ []
          → Reading t from end count (at + 3 + len) (i + 1) r
      reading_next len is name flag is_name is_flag r e =
          let q : r ≡ p ++ param_laid t end at ∷ []
          = e ∙ (λ k. p ++ record { name = is_name k; default = eqb (is_flag k % 2) 1; vararg = leb 2 (is_flag k); part = record { start = at + 3; len = is k } } ∷ []) in
          let l : length (p ++ param_laid t end at ∷ []) ≡ i + 1 = length-append p (param_laid t end at ∷ []) ∙ ap (λ (k : ℕ). k + 1) g.long in
          subst (λ (k : ℕ). Reading t from end count (at + 3 + k) (i + 1) r) (sym is)
          (record {
            inside = reading_room;
            long = ap length q ∙ l;
            row = row_behind t end high (count - (i + 1)) at g.inside next;
            same = ap (λ (x : List Read). x ++ params_laid t end (count - (i + 1)) (at + 3 + type_length (part t (at + 3) end))) q
                ∙ append_assoc p _ _ ∙ ap (λ (x : List Read). p ++ x) one ∙ ap (λ (k : ℕ). p ++ params_laid t end k at) (sym left) ∙ g.same;
          })
        where
          one : param_laid t end at ∷ params_laid t end (count - (i + 1)) (at + 3 + type_length (part t (at + 3) end)) ≡ params_laid t end (suc (count - (i + 1))) at
          one = unfold params_laid in refl
