-- A function read at its place is the overload of its record.
use Prim.Native.Nat.{ℕ, ◌+◌, ◌-◌, ◌≤◌, ◌<◌}
use lib.Dec.{eqb}
use lib.ListN.{length, get_or, drop, take}
use mathlib.Core.List.{List}
use mathlib.Core.Path.{◌≡◌, refl, sym, ap, ◌∙◌, subst}
use native.Mathlib.Omega.{arith}
use Rattle.record.proofs.Agree.{same_size}
use Rattle.symbol.proofs.ParamsLaid.{part-from, part_length, part_byte, part-take, laid_are}
use Rattle.index.proofs.ListSearch.{sits-own, sits-inside, function_kind_lem, function-error}
use Rattle.symbol.proofs.LaidLookups.{function_same}
use Rattle.record.proofs.RecordSizes.{head_fits}
use Rattle.symbol.proofs.Wholes.{FunctionWhole, function-whole}
use Rattle.symbol.specs.Inside.LookupAnswer.{overload_at, FunctionRead, params_in}
use Rattle.index.specs.Inside.Found.{FunctionAt}
use Rattle.record.specs.Inside.Front.{front_of}
use Rattle.record.specs.Inside.Keyed.{type_length}
use Rattle.symbol.specs.Inside.FoundSymbols.{params_from, overload_found}
use Rattle.record.specs.Inside.FrontRecord.{front_record}
use Rattle.symbol.specs.Inside.FunctionFields.{params_laid, function_until, function_at}
use Rattle.symbol.specs.Inside.ParamsRow.{part, ParamsAt, ParamsAre}
use Rattle.symbol.specs.Lookup.{overload_of}
use Rattle.symbol.specs.Symbols.{Overload}
use Rattle.record.specs.Inside.Walk.{behind}
use Rattle.record.specs.Inside.Front.{Front}
use Rattle.symbol.specs.declared.functions.Function.{Function}
use Rattle.symbol.specs.declared.functions.Param.{Param}
use Rattle.index.specs.declared.index.Place.{Place}

module _ (t : List ℕ) (p : Place) (f : FunctionAt t p) (end : ℕ) (is-end : end ≡ behind t p.at) where
  abbrev r : List ℕ
  r = front_record (drop p.at t)

  pub function-long : p.at + 8 ≤ end
  function-long = omega (arith, (head_fits (drop p.at t)).function (function_kind_lem t p f), is-end)

  pub function-inside : end ≤ length t
  function-inside = omega (arith, sits-inside t p.at f.sits f.some, is-end)

  own : front_of (drop p.at t) ≡ front_of r
  own = sym (sits-own t p.at f.sits f.some)

  is_part : r ≡ part t p.at end
  is_part =
      let e : (front_of (drop p.at t)).len ≡ end - p.at = omega (arith, is-end) in
      ap (λ (n : ℕ). take n (drop p.at t)) e

  pub function_is : FunctionWhole r
  function_is = function-whole r (ap (λ (x : Front). x.kind) (sym own) ∙ function_kind_lem t p f) (ap (λ (x : Front). x.error) (sym own) ∙ function-error t p f)

  from : (k : ℕ) → part t (p.at + k) end ≡ drop k r
  from k = sym (ap (λ (x : List ℕ). drop k x) is_part ∙ part-from t p.at end k)

  byte : (i : ℕ) → i < 8 → get_or r i 0 ≡ get_or t (p.at + i) 0
  byte i h = ap (λ (x : List ℕ). get_or x i 0) is_part ∙ part_byte t p.at end i (omega (arith, function-long))

  told : overload_found r ≡ overload_at t p
  unfolding overload_at
  told = function_same r (ap (λ (x : Front). x.kind) (sym own) ∙ function_kind_lem t p f) (ap (λ (x : Front). x.error) (sym own) ∙ function-error t p f)
      ∙ ap (λ (n : ℕ). overload_of (take n (drop p.at t))) (same_size (drop p.at t))

  pub function_builtin : (b : ℕ) → b ≡ get_or t (p.at + 6) 0 → eqb b 1 ≡ (overload_at t p).builtin
  unfolding overload_found
  function_builtin b e = ap (λ (x : ℕ). eqb x 1) (e ∙ sym (byte 6 (omega arith))) ∙ ap (λ (o : Overload). o.builtin) told

  module _ (len : ℕ) (is : len ≡ type_length (part t (p.at + 8) end)) where
    long : type_length (drop 8 r) ≡ len
    long = sym (is ∙ ap type_length (from 8))

    pub function_room : p.at + 8 + len ≤ end
    function_room =
        let l : length r ≡ end - p.at = ap length is_part ∙ part_length t p.at end (function-inside) in
        omega (arith, function_is.result.inside, long, function-inside)

    rest : drop (8 + type_length (drop 8 r)) r ≡ part t (p.at + 8 + len) end
    rest =
        let e : p.at + (8 + len) ≡ p.at + 8 + len = omega arith in
        ap (λ (n : ℕ). drop (8 + n) r) long ∙ sym (from (8 + len)) ∙ ap (λ (n : ℕ). part t n end) e

    module _ (n : ℕ) (count : n ≡ get_or t (p.at + 7) 0) where
      many : get_or r 7 0 ≡ n
      many = byte 7 (omega arith) ∙ sym count

      pub function-count : n ≤ 16
      function-count = omega (arith, function_is.fields.count, many)

      pub function_row : ParamsAt n (part t (p.at + 8 + len) end)
      function_row = rw (← many, ← rest) function_is.row

      function_read_lem : (v b : ℕ) → v ≡ get_or t (p.at + 5) 0 → b ≡ get_or t (p.at + 6) 0 → (ps : List Param)
          → ParamsAre t (params_from n (part t (p.at + 8 + len) end)) n ps
          → FunctionRead t (overload_at t p)
          (record { builtin = eqb b 1; visibility = v; result = record { start = p.at + 8; len = len }; params = ps })
      unfolding overload_found
      function_read_lem v b ev eb ps h =
          let pv : v ≡ get_or r 5 0 = ev ∙ sym (byte 5 (omega arith)) in
          let pb : b ≡ get_or r 6 0 = eb ∙ sym (byte 6 (omega arith)) in
          let pp : params_in t ps ≡ params_from (get_or r 7 0) (drop (8 + type_length (drop 8 r)) r) = h.same ∙ rw (many, rest) in
          let pr : take len (drop (p.at + 8) t) ≡ take (type_length (drop 8 r)) (drop 8 r)
          = sym (part-take t (p.at + 8) end len function_room) ∙ ap (λ (x : List ℕ). take len x) (from 8) ∙ ap (λ (k : ℕ). take k (drop 8 r)) (sym long) in
          record {
            same = (λ i. record { builtin = eqb (pb i) 1; visibility = pv i; params = pp i; result = pr i }) ∙ told;
            result = omega (arith, function_room, function-inside);
            count = omega (arith, h.count, function-count);
            types = h.types;
          }

      pub function-fields : (v b : ℕ) → v ≡ get_or t (p.at + 5) 0 → b ≡ get_or t (p.at + 6) 0 → (ps : List Param)
          → ps ≡ params_laid t end n (p.at + 8 + len)
          → record { builtin = eqb b 1; visibility = v; result = record { start = p.at + 8; len = len }; params = ps } ≡ function_at t p
      unfolding function_at
      function-fields v b ev eb ps h =
          let q = h ∙ (λ i. params_laid t end (count i) (p.at + 8 + is i)) in
          let e = is-end ∙ ap (λ (k : ℕ). p.at + k) (same_size (drop p.at t)) in
          (λ i. record { builtin = eqb (eb i) 1; visibility = ev i; result = record { start = p.at + 8; len = is i }; params = q i })
          ∙ ap (function_until t p.at) e

-- A FUNCTION AS IT IS READ is the overload of its record
pub function_at-read : (t : List ℕ) (p : Place) → FunctionAt t p → FunctionRead t (overload_at t p) (function_at t p)
unfolding function_at
function_at-read t p f =
    let e = behind t p.at in
    let n = type_length (part t (p.at + 8) e) in
    let k = get_or t (p.at + 7) 0 in
    let rows = laid_are t e (function-inside t p f e refl) k (p.at + 8 + n) (function_room t p f e refl n refl) (function_row t p f e refl n refl k refl) in
    subst (λ (z : ℕ). FunctionRead t (overload_at t p) (function_until t p.at (p.at + z))) (same_size (drop p.at t))
    (function_read_lem t p f e refl n refl k refl _ _ refl refl (params_laid t e k (p.at + 8 + n)) rows)

pub read_is : (t : List ℕ) (p : Place) → FunctionAt t p → (f : Function) → f ≡ function_at t p → FunctionRead t (overload_at t p) f
read_is t p h f e = subst (λ (z : Function). FunctionRead t (overload_at t p) z) (sym e) (function_at-read t p h)
