-- THE LAWS of an accepted table, over `symbols_of`: its functions, fields and ids.
use Prim.Native.Nat.{ℕ, zero, suc, ◌+◌, ◌≤◌, ◌<◌, max}
use borrow.Author.Tests.{ltb-true, ltb-false, lt-ltb}
use lib.Dec.{eqb, ltb}
use lib.ListN.{length, get_or, take, drop, length-drop, length-map}
use lib.Seq.{length-take-le, take_all}
use mathlib.Core.Bool.{Bool, true, false, true≢false, ◌&&◌}
use mathlib.Core.List.{List, [], ◌∷◌, ◌++◌, map}
use mathlib.Core.Option.{none, some}
use mathlib.Core.Path.{◌≡◌, refl, sym, ap, ◌∙◌, subst}
use native.Mathlib.Nat.{not-suc-le-zero}
use native.Mathlib.Omega.{arith}
use Rattle.ty.proofs.Choice.{by_choice}
use Rattle.ty.proofs.Moved.{reads_alike, reads_taken}
use Rattle.ty.proofs.TypeSizes.{whole}
use Rattle.ty.specs.Bytes.{Ty, plain_ty, kind_of, id_at, same_bytes, size_width}
use Rattle.ty.specs.Choose.{choose}
use Rattle.ty.specs.Kind.{error_kind}
use Rattle.ty.specs.Name.{id_defined, first_table_id, all_defined}
use Rattle.ty.specs.Read.{body_length, child_count, number_at, id_in, item_of, item_at, no_end, read_from, read_type, longest_type}
use Rattle.ty.proofs.Reading.{whole_parts}
use Rattle.ty.specs.Read.{whole_read}
use Rattle.record.proofs.Accepts.{CleanFrom, accepted_clean, accepted_short}
use Rattle.record.proofs.Agree.{same_malformed, same_top}
use Rattle.record.proofs.Bounds.{head_bounded}
use Rattle.record.proofs.EveryRecord.{Every, Own, records-own, with_every}
use Rattle.record.proofs.Laid.{same_count, highest_defined}
use Rattle.symbol.proofs.LaidLookups.{overloads_told, field_told, visibility_told}
use Rattle.symbol.proofs.ParamNames.{Distinct, names_distinct}
use Rattle.record.proofs.Records.{records-here, records-end}
use Rattle.record.proofs.RecordSizes.{head_by_lem}
use Rattle.symbol.proofs.Wholes.{function-whole, field_whole}
use Rattle.record.specs.Inside.Front.{plain_head, visibility_head, head_by, front_of}
use Rattle.record.specs.Inside.Keyed.{is_of, records_with, type_length}
use Rattle.symbol.specs.Inside.FoundSymbols.{params_from, overload_found, field_in, visibility_in}
use Rattle.record.specs.Inside.FrontRecord.{count_of}
use Rattle.record.specs.Layout.{ids_used, record_kind}
use Rattle.symbol.specs.Lookup.{overload_of, symbols_in, symbols_of}
use Rattle.record.specs.TableRefused.{table_fault}
use Rattle.record.specs.Table.{Record, records_of, of_kind, name_count, key_of, keyed}
use Rattle.symbol.specs.Inside.ParamsRow.{TypeAt, ParamsAt}
use Rattle.symbol.specs.Symbols.{Overload}
use Rattle.record.specs.Inside.Front.{Front}

-- ---- types

-- a type of an accepted table: whole, of at most 192 bytes, and without Error
pub record TypeGood (ty : Ty) : Type 0 where
  pub top : ℕ
  pub whole : read_type ty longest_type ≡ whole_read (length ty) top false
  pub some : 1 ≤ length ty
  pub short : length ty ≤ longest_type
  pub kind : kind_of ty ≡ error_kind → ⊥
  pub error : ty ≡ plain_ty error_kind → ⊥

no_error_lem : (s : List ℕ) (n top : ℕ) → read_type s longest_type ≡ whole_read n top false → kind_of s ≡ error_kind → ⊥
no_error_lem [] n top q e = omega (arith, whole [] longest_type n top false q)
no_error_lem (b ∷ s) n top q e =
    let r = reads_alike (error_kind ∷ []) (b ∷ s) longest_type longest_type 1 0 true (ap (λ (x : ℕ). x ∷ []) e) (omega arith) error-read in
    true≢false (sym (whole_parts n 1 top 0 false true (sym q ∙ r)).2)
  where
    error-read : read_type (error_kind ∷ []) longest_type ≡ whole_read 1 0 true
    error-read = unfold choose size_width body_length child_count number_at id_in item_of item_at no_end read_from read_type in refl

pub type_good : (s : List ℕ) (k : ℕ) → TypeAt s k → TypeGood (take (type_length (drop k s)) (drop k s))
type_good s k t =
    let n = type_length (drop k s) in
    let b = whole (drop k s) longest_type (type_length (drop k s)) t.top false t.whole in
    let l : length (take (type_length (drop k s)) (drop k s)) ≡ type_length (drop k s) = length-take-le (type_length (drop k s)) (drop k s) b.2 in
    let r = reads_taken (drop k s) longest_type (type_length (drop k s)) (type_length (drop k s)) t.top false (omega arith) t.whole in
    record {
      top = t.top;
      whole = rw l r;
      some = omega arith;
      short = omega arith;
      kind = no_error_lem (take (type_length (drop k s)) (drop k s)) (type_length (drop k s)) t.top r;
      error = λ e. no_error_lem (take (type_length (drop k s)) (drop k s)) (type_length (drop k s)) t.top r (ap kind_of e);
    }

-- ---- functions

-- a function of an accepted table
pub record FunctionGood (o : Overload) : Type 0 where
  pub visibility : o.visibility ≤ 3
  pub result : TypeGood o.result
  pub few : length o.params ≤ 16
  pub types : Every (λ p. TypeGood p.ty) o.params
  pub distinct : Distinct o.params

params_length : (n : ℕ) (s : List ℕ) → length (params_from n s) ≡ n
unfolding params_from
params_length zero s = refl
params_length (suc n) s = ap suc (params_length n (drop (3 + type_length (drop 3 s)) s))

params_good : (n : ℕ) (s : List ℕ) → ParamsAt n s → Every (λ p. TypeGood p.ty) (params_from n s)
unfolding params_from
params_good zero s r = tt
params_good (suc n) s r = (type_good s 3 r.0, params_good n (drop (3 + type_length (drop 3 s)) s) r.1)

overload_good : (r : Record) → (front_of r).kind ≡ 4 → (front_of r).error ≡ false → (front_of r).repeated ≡ false → Own r
    → FunctionGood (overload_found r)
unfolding overload_found
overload_good r k e d _ =
    let f = function-whole r k e in
    record {
      visibility = f.fields.visibility;
      result = type_good r 8 f.result;
      few = omega (arith, params_length (get_or r 7 0) (drop (8 + type_length (drop 8 r)) r), f.fields.count);
      types = params_good (get_or r 7 0) (drop (8 + type_length (drop 8 r)) r) f.row;
      distinct = names_distinct r f d;
    }

every_map : (rs : List Record) → Every (λ r. FunctionGood (overload_found r)) rs → Every FunctionGood (map overload_found rs)
every_map [] e = tt
every_map (r ∷ rs) e = (e.0, every_map rs e.1)

-- EVERY FUNCTION of an accepted table: its types are whole, short and without Error, its parameters are at most 16 and have distinct names
pub functions_good : (t : List ℕ) → table_fault t ≡ 0 → (owner name : ℕ) → Every FunctionGood ((symbols_of t).functions_of owner name)
functions_good t e owner name =
    subst (Every FunctionGood) (overloads_told t e owner name)
    (every_map (records_with 4 owner name (records_of t))
    (with_every (λ r. FunctionGood (overload_found r)) 4 owner name overload_good [] (records_of t) (accepted_clean t e)
    (records-own (length t) t (omega arith))))

-- ---- fields

-- EVERY FIELD of an accepted table
pub field_good : (t : List ℕ) → table_fault t ≡ 0 → (owner name : ℕ) (ty : Ty) → (symbols_of t).field_of owner name ≡ some ty → TypeGood ty
field_good t e owner name ty q =
    go (records_with 5 owner name (records_of t))
    (with_every (λ r. TypeGood (drop 5 r)) 5 owner name field_of_lem [] (records_of t) (accepted_clean t e) (records-own (length t) t (omega arith)))
    (field_told t e owner name ∙ q)
  where
    field_of_lem : (r : Record) → (front_of r).kind ≡ 5 → (front_of r).error ≡ false → (front_of r).repeated ≡ false → Own r → TypeGood (drop 5 r)
    field_of_lem r k e _ o =
        let f = field_whole r k e in
        let a : take (type_length (drop 5 r)) (drop 5 r) ≡ drop 5 r = take_all (type_length (drop 5 r)) (drop 5 r) (omega (arith, length-drop 5 r, f.len)) in
        rw a at (type_good r 5 f.ty)

    go : (rs : List Record) → Every (λ r. TypeGood (drop 5 r)) rs → field_in rs ≡ some ty → TypeGood ty
    go [] v q = absurd (no_some q)
      where
        no_some : none ≡ some ty → ⊥
        no_some q = let z : ◌≡◌ {A = ℕ} 0 1 = cc in omega arith
    go (r ∷ rs) v q = let z : drop 5 r ≡ ty = cc in subst TypeGood z v.0

-- ---- visibilities

-- a record with no type in it that has a kind is not bad
record NotBad (bad : Bool) (h : Front) : Type 0 where
  is : 1 ≤ h.kind → bad ≡ false

not_bad : (s : List ℕ) (n : ℕ) (bad : Bool) (kind one two top : ℕ) → NotBad bad (plain_head s n bad kind one two top)
unfolding plain_head
not_bad s n bad kind one two top =
    by_choice (NotBad bad) (ltb (length s) n) (λ _. record { is = λ l. absurd (omega arith) }) λ _.
    by_choice (NotBad bad) bad (λ _. record { is = λ l. absurd (omega arith) }) (λ b. record { is = λ _. b })

pub level_small : (s : List ℕ) → (front_of s).kind ≡ 6 → get_or s 5 0 ≤ 3
unfolding head_by visibility_head choose
level_small s k =
    let e : front_of s ≡ visibility_head s = head_by_lem s 6 (omega arith) k in
    ltb-false 3 (get_or s 5 0) ((not_bad s 6 (ltb 3 (get_or s 5 0)) 6 (id_at s 1) (id_at s 3) (max (id_at s 1) (id_at s 3))).is (omega (arith, ap (λ (x : Front). x.kind) e)))

-- A MEMBER'S VISIBILITY of an accepted table is one of 0 to 3
pub visibility_small : (t : List ℕ) → table_fault t ≡ 0 → (owner name v : ℕ) → (symbols_of t).visibility_of owner name ≡ some v → v ≤ 3
visibility_small t e owner name v q =
    go (records_with 6 owner name (records_of t))
    (with_every (λ r. get_or r 5 0 ≤ 3) 6 owner name (λ r k _ _ _. level_small r k) [] (records_of t) (accepted_clean t e) (records-own (length t) t (omega arith)))
    (visibility_told (records_of t) owner name ∙ q)
  where
    go : (rs : List Record) → Every (λ r. get_or r 5 0 ≤ 3) rs → visibility_in rs ≡ some v → v ≤ 3
    go [] w q = let z : ◌≡◌ {A = ℕ} 0 1 = cc in absurd (omega arith)
    go (r ∷ rs) w q = let z : get_or r 5 0 ≡ v = cc in omega (arith, w.0)

-- ---- how many

records_few : (n : ℕ) (s : List ℕ) → length s ≤ n → length (records_of s) ≤ length s
records_few zero [] h = omega (arith, ap (λ (x : List Record). length x) (records-end [] 0 (omega arith)))
records_few zero (b ∷ bs) h = absurd (not-suc-le-zero h)
records_few (suc n) [] h = omega (arith, ap (λ (x : List Record). length x) (records-end [] 0 (omega arith)))
records_few (suc n) (b ∷ bs) h =
    let o : 0 < length (b ∷ bs) = omega arith in
    let w = head_bounded (b ∷ bs) o in
    let m = length-drop (front_of (b ∷ bs)).len (b ∷ bs) in
    let i = records_few n (drop (front_of (b ∷ bs)).len (b ∷ bs)) (omega (arith, w.low)) in
    omega (arith, ap (λ (x : List Record). length x) (records-here (b ∷ bs) o), w.low, w.high)

with_few : (k a b : ℕ) (rs : List Record) → length (records_with k a b rs) ≤ length rs
unfolding records_with
with_few k a b [] = omega arith
with_few k a b (r ∷ rs) =
    let i = with_few k a b rs in
    by_choice (λ (x : List Record). length x ≤ length (r ∷ rs)) (is_of k a b (front_of r)) (λ _. omega arith) (λ _. omega arith)

-- A FUNCTION LIST of an accepted table has at most 60,000 entries
pub functions_few : (t : List ℕ) → table_fault t ≡ 0 → (owner name : ℕ) → length ((symbols_of t).functions_of owner name) ≤ 60000
functions_few t e owner name =
    let o = ap (λ (os : List Overload). length os) (overloads_told t e owner name) in
    let l : length (map overload_found (records_with 4 owner name (records_of t))) ≡ length (records_with 4 owner name (records_of t)) = simp length-map in
    let w = with_few 4 owner name (records_of t) in
    let r = records_few (length t) t (omega arith) in
    let s = accepted_short t e in
    omega arith

kind_few : (k : ℕ) (rs : List Record) → length (of_kind k rs) ≤ length rs
unfolding of_kind
kind_few k [] = omega arith
kind_few k (r ∷ rs) =
    let i = kind_few k rs in
    by_choice (λ (x : List Record). length x ≤ length (r ∷ rs)) (eqb (record_kind r) k) (λ _. omega arith) (λ _. omega arith)

-- AN ACCEPTED TABLE has at most 60,000 names
pub names_few : (t : List ℕ) → table_fault t ≡ 0 → name_count (records_of t) ≤ 60000
names_few t e = omega (arith, kind_few 1 (records_of t), records_few (length t) t (omega arith), accepted_short t e)

-- ---- ids

-- EVERY ID of each record of an accepted table is that of a built-in name or of one of all its names
pub ids-defined : (t : List ℕ) → table_fault t ≡ 0 → Every (λ r. all_defined (ids_used r) (name_count (records_of t)) ≡ true) (records_of t)
ids-defined t e = go [] (records_of t) (accepted_clean t e) (name_count (records_of t)) (omega (arith, none, same_count 1 (records_of t)))
  where
    none : count_of 1 [] ≡ 0
    none = unfold count_of in refl

    go : (earlier rs : List Record) → CleanFrom earlier rs → (n : ℕ) → count_of 1 earlier + count_of 1 rs ≤ n → Every (λ r. all_defined (ids_used r) n ≡ true) rs
    go earlier [] c n h = tt
    go earlier (r ∷ rs) c n h =
        let d = ltb-true (front_of r).top (first_table_id + count_of 1 earlier) c.0.defined in
        let m = moved earlier r rs in
        let k : id_defined (front_of r).top n ≡ true = lt-ltb (front_of r).top (first_table_id + n) (omega arith) in (
          sym (highest_defined n (ids_used r)) ∙ ap (λ (z : ℕ). id_defined z n) (sym (same_top r (sym (same_malformed r) ∙ c.0.whole))) ∙ k,
          go (r ∷ earlier) rs c.1 n (omega arith),
        )
      where
        moved : (earlier : List Record) (r : Record) (rs : List Record) → count_of 1 (r ∷ earlier) + count_of 1 rs ≡ count_of 1 earlier + count_of 1 (r ∷ rs)
        moved earlier r rs = unfold count_of in omega arith

-- ---- order

-- A FUNCTION LIST keeps table order
pub functions_order : (xs ys : List Record) (owner name : ℕ)
    → (symbols_in (xs ++ ys)).functions_of owner name ≡ (symbols_in xs).functions_of owner name ++ (symbols_in ys).functions_of owner name
unfolding symbols_in keyed choose
functions_order [] ys owner name = refl
functions_order (r ∷ xs) ys owner name = go (eqb (record_kind r) 4 && same_bytes (key_of r) (owner ∷ name ∷ [])) (functions_order xs ys owner name)
  where
    go : (v : Bool)
        → map overload_of (keyed 4 (owner ∷ name ∷ []) (xs ++ ys)) ≡ map overload_of (keyed 4 (owner ∷ name ∷ []) xs) ++ map overload_of (keyed 4 (owner ∷ name ∷ []) ys)
        → map overload_of (choose v (r ∷ keyed 4 (owner ∷ name ∷ []) (xs ++ ys)) (keyed 4 (owner ∷ name ∷ []) (xs ++ ys)))
        ≡ map overload_of (choose v (r ∷ keyed 4 (owner ∷ name ∷ []) xs) (keyed 4 (owner ∷ name ∷ []) xs)) ++ map overload_of (keyed 4 (owner ∷ name ∷ []) ys)
    go true ih = ap (λ (x : List Overload). overload_of r ∷ x) ih
    go false ih = ih
