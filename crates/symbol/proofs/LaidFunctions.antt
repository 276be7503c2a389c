-- A function by its fields is the one that the lookups give.
use Prim.Native.Nat.{ℕ, zero, suc, ◌+◌, ◌%◌}
use lib.Dec.{eqb, leb}
use lib.ListN.{get_or, take, drop}
use lib.Seq.{get_or-drop, drop-drop}
use mathlib.Core.Bool.{false, true≢false}
use mathlib.Core.List.{List, [], ◌∷◌}
use mathlib.Core.Path.{◌≡◌, refl, sym, ap, ◌∙◌}
use native.Mathlib.Omega.{arith}
use Rattle.record.proofs.NoFault.{or_false}
use Rattle.record.proofs.Runs.{one_param, params_next, function_parts, function_parts_lem}
use Rattle.record.specs.Inside.Keyed.{whole_length, type_length}
use Rattle.symbol.specs.Inside.FoundSymbols.{params_from, overload_found}
use Rattle.record.specs.Layout.{type_read, fields_of, param_fields, fields_from, fields_in, any_field, is_endless}
use Rattle.symbol.specs.Lookup.{params_by, overload_from, overload_of}
use Rattle.ty.proofs.Choice.{choose_no}
use Rattle.ty.specs.Bytes.{id_at}
use Rattle.ty.specs.Choose.{choose}
use Rattle.ty.specs.Ids.{ids_in}
use Rattle.ty.specs.Read.{read_type, longest_type}
use Rattle.ty.specs.declared.read.TypeFault.TheVariants.{Cut, Malformed, Endless}
use Rattle.ty.specs.declared.read.TypeFault.{TypeFault}
use Rattle.std.specs.Prelude.{Result, Ok, Err}
use Rattle.ty.specs.declared.read.TypeRead.{TypeRead}

-- a type's part has the type's length
pub type_length_lem : (at : ℕ) (is : List ℕ) (r : Result TypeRead TypeFault) → (type_read at is r).len ≡ whole_length r
type_length_lem at is (Ok t) = refl
type_length_lem at is (Err Cut) = refl
type_length_lem at is (Err Malformed) = refl
type_length_lem at is (Err (Endless top e)) = refl

pub type_place : (at : ℕ) (is : List ℕ) (r : Result TypeRead TypeFault) → (type_read at is r).at ≡ at
type_place at is (Ok t) = refl
type_place at is (Err Cut) = refl
type_place at is (Err Malformed) = refl
type_place at is (Err (Endless top e)) = refl

module _ (s : List ℕ) where
  id_drop : (k : ℕ) → id_at (drop k s) 0 ≡ id_at s k
  id_drop k = let z : k + 0 ≡ k = omega arith in rw (get_or-drop k s 0 0, get_or-drop k s (0 + 1) 0, z)

  -- one parameter, and n more
  param_same : (n at : ℕ) → ((k : ℕ) → any_field (λ p. p.endless) (fields_from (param_fields n) s k) ≡ false → params_from n (drop k s) ≡ params_by s (fields_from (param_fields n) s k))
      → any_field (λ p. p.endless) (one_param s n at (ids_in (drop (at + 3) s) longest_type) (read_type (drop (at + 3) s) longest_type)) ≡ false
      → params_from (suc n) (drop at s) ≡ params_by s (one_param s n at (ids_in (drop (at + 3) s) longest_type) (read_type (drop (at + 3) s) longest_type))
  unfolding params_from params_by any_field type_length
  param_same n at ih e =
      let r = read_type (drop (at + 3) s) longest_type in
      let is = ids_in (drop (at + 3) s) longest_type in
      let rest = fields_from (param_fields n) s (at + 3 + (type_read (at + 3) is r).len) in
      let o = or_false (type_read (at + 3) is r).endless (any_field (λ p. p.endless) (choose (type_read (at + 3) is r).endless [] rest)) e in
      let c : choose (type_read (at + 3) is r).endless [] rest ≡ rest = choose_no (type_read (at + 3) is r).endless [] rest o.0 in
      let g : get_or (drop at s) 2 0 ≡ get_or s (at + 2) 0 = get_or-drop at s 2 0 in
      let d : drop 3 (drop at s) ≡ drop (at + 3) s = drop-drop 3 at s in
      let l : type_length (drop 3 (drop at s)) ≡ (type_read (at + 3) is r).len = ap (λ (x : List ℕ). whole_length (read_type x longest_type)) d ∙ sym (type_length_lem (at + 3) is r) in
      let b : drop (3 + type_length (drop 3 (drop at s))) (drop at s) ≡ drop (at + 3 + (type_read (at + 3) is r).len) s
      = drop-drop (3 + type_length (drop 3 (drop at s))) at s ∙ (let z : at + (3 + type_length (drop 3 (drop at s))) ≡ at + 3 + (type_read (at + 3) is r).len = omega arith in ap (λ (k : ℕ). drop k s) z) in
      let y : drop 3 (drop at s) ≡ drop (type_read (at + 3) is r).at s = d ∙ ap (λ (k : ℕ). drop k s) (sym (type_place (at + 3) is r)) in
      let q = ap (params_from n) b ∙ ih (at + 3 + (type_read (at + 3) is r).len) (ap (any_field (λ p. p.endless)) (sym c) ∙ o.1) ∙ ap (params_by s) (sym c) in
      λ i. record { name = id_drop at i; default = eqb (g i % 2) 1; vararg = leb 2 (g i); ty = take (l i) (y i) } ∷ q i

  -- n parameters
  params_same : (n at : ℕ) → any_field (λ p. p.endless) (fields_from (param_fields n) s at) ≡ false → params_from n (drop at s) ≡ params_by s (fields_from (param_fields n) s at)
  params_same zero at e = unfold params_from param_fields fields_from params_by in refl
  params_same (suc n) at e =
      param_same n at (λ k q. params_same n k q) (ap (any_field (λ p. p.endless)) (sym (params_next s n at)) ∙ e) ∙ ap (params_by s) (sym (params_next s n at))

  -- behind a result that was read so
  function_same : (is : List ℕ) (r : Result TypeRead TypeFault) → read_type (drop 8 s) longest_type ≡ r → any_field (λ p. p.endless) (function_parts s is r) ≡ false
      → overload_found s ≡ overload_from s (function_parts s is r)
  unfolding overload_found overload_from type_length any_field choose
  function_same is (Ok t) q z =
      let c = params_same (get_or s 7 0) (8 + t.len) z in
      λ i. record {
        builtin = eqb (get_or s 6 0) 1;
        visibility = get_or s 5 0;
        params = (ap (λ (x : Result TypeRead TypeFault). params_from (get_or s 7 0) (drop (8 + whole_length x) s)) q ∙ c) i;
        result = take (whole_length (q i)) (drop 8 s);
      }
  function_same is (Err Cut) q z =
      let c = params_same (get_or s 7 0) 8 z in
      λ i. record {
        builtin = eqb (get_or s 6 0) 1;
        visibility = get_or s 5 0;
        params = (ap (λ (x : Result TypeRead TypeFault). params_from (get_or s 7 0) (drop (8 + whole_length x) s)) q ∙ c) i;
        result = take (whole_length (q i)) (drop 8 s);
      }
  function_same is (Err Malformed) q z =
      let c = params_same (get_or s 7 0) 8 z in
      λ i. record {
        builtin = eqb (get_or s 6 0) 1;
        visibility = get_or s 5 0;
        params = (ap (λ (x : Result TypeRead TypeFault). params_from (get_or s 7 0) (drop (8 + whole_length x) s)) q ∙ c) i;
        result = take (whole_length (q i)) (drop 8 s);
      }
  function_same is (Err (Endless top e)) q z = absurd (true≢false z)

-- A FUNCTION by its fields
pub same_function : (r : List ℕ) → get_or r 0 0 ≡ 4 → is_endless r ≡ false → overload_found r ≡ overload_of r
unfolding overload_of
same_function r k e =
    let p : fields_in r ≡ function_parts r (ids_in (drop 8 r) longest_type) (read_type (drop 8 r) longest_type) = ap (λ (n : ℕ). fields_from (fields_of n (get_or r 7 0)) r 1) k ∙ four r in
    function_same r (ids_in (drop 8 r) longest_type) (read_type (drop 8 r) longest_type) refl (ap (any_field (λ p. p.endless)) (sym p) ∙ e) ∙ ap (overload_from r) (sym p)
  where
    four : (r : List ℕ) → fields_from (fields_of 4 (get_or r 7 0)) r 1 ≡ function_parts r (ids_in (drop 8 r) longest_type) (read_type (drop 8 r) longest_type)
    four r = unfold fields_of choose in function_parts_lem r
