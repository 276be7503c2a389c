-- The head that the code reads is the record by its fields.
use Prim.Native.Nat.{ℕ, ◌≤◌}
use borrow.Author.Tests.{eqb-true, eqb-false}
use lib.Dec.{eqb, ltb}
use lib.ListN.{length, get_or}
use mathlib.Core.Bool.{Bool, true, false}
use mathlib.Core.List.{List, []}
use mathlib.Core.Path.{◌≡◌, refl, sym, ◌∙◌, subst}
use native.Mathlib.Omega.{arith}
use Rattle.record.proofs.Agree.{head_agrees, same_malformed, same_size, same_top, same_repeated, same_error}
use Rattle.record.proofs.Laid.{same_kind, same_one, same_two}
use Rattle.record.proofs.RecordSizes.{head_by_lem, head_kind, head_known}
use Rattle.record.specs.Inside.Front.{broken_head, plain_head, name_head, head_by, front_of}
use Rattle.record.specs.Layout.{is_malformed, has_error, ids_used, param_names, record_kind, record_size, value_in}
use Rattle.record.specs.TableRefused.{repeats}
use Rattle.record.specs.Inside.Front.{Front}
use Rattle.ty.proofs.Ids.{highest_of}
use Rattle.ty.proofs.Choice.{by_choice}
use Rattle.ty.specs.Choose.{choose}

-- a name has no ids
record NoIds (h : Front) : Type 0 where
  one : h.one ≡ 0
  two : h.two ≡ 0

name_ids : (s : List ℕ) → NoIds (name_head s)
unfolding name_head plain_head
name_ids s =
    by_choice NoIds (ltb (length s) 26) (λ _. record { one = refl; two = refl }) λ _.
    by_choice NoIds _ (λ _. record { one = refl; two = refl }) (λ _. record { one = refl; two = refl })

first-ids : (s : List ℕ) → (front_of s).kind ≡ 1 → NoIds (front_of s)
unfolding head_by choose
first-ids s k = subst NoIds (sym (head_by_lem s 1 (omega arith) k)) (name_ids s)

-- THE HEAD of a record, from its fields: all that the code keeps of it
unfoldable pub head_from : List ℕ → Front
head_from s =
    choose (is_malformed s) (broken_head s)
    (record {
      kind = get_or s 0 0;
      one = choose (eqb (get_or s 0 0) 1) 0 (value_in 0 s);
      two = choose (eqb (get_or s 0 0) 1) 0 (value_in 1 s);
      len = record_size s;
      top = highest_of (ids_used s);
      malformed = false;
      repeated = repeats [] (param_names s);
      error = has_error s;
    })

pub head_laid : (s : List ℕ) → front_of s ≡ head_from s
unfolding head_from
head_laid s =
    by_choice (λ (h : Front). front_of s ≡ h) (is_malformed s) (λ e. (head_agrees s).bad e) λ e.
    λ i. record {
      kind = byte e i;
      one = id_by (eqb (get_or s 0 0) 1) (front_of s).one (value_in 0 s) (λ n. (first-ids s (one_kind e n)).one) (λ n. same_one s (from-two e n)) i;
      two = id_by (eqb (get_or s 0 0) 1) (front_of s).two (value_in 1 s) (λ n. (first-ids s (one_kind e n)).two) (λ n. same_two s (from-two e n)) i;
      len = same_size s i;
      top = same_top s e i;
      malformed = (same_malformed s ∙ e) i;
      repeated = same_repeated s e i;
      error = same_error s e i;
    }
  where
    id_by : (b : Bool) (i x : ℕ) → (b ≡ true → i ≡ 0) → (b ≡ false → i ≡ x) → i ≡ choose b 0 x
    id_by b i x f g = by_choice (λ (y : ℕ). i ≡ y) b f g

    byte : is_malformed s ≡ false → (front_of s).kind ≡ get_or s 0 0
    byte e = head_kind s (same_malformed s ∙ e)

    one_kind : is_malformed s ≡ false → eqb (get_or s 0 0) 1 ≡ true → (front_of s).kind ≡ 1
    one_kind e n = byte e ∙ eqb-true (get_or s 0 0) 1 n

    from-two : is_malformed s ≡ false → eqb (get_or s 0 0) 1 ≡ false → 2 ≤ record_kind s
    from-two e n =
        let l = head_known s (same_malformed s ∙ e) in
        let k = byte e in
        let q = same_kind s in
        let m = eqb-false (get_or s 0 0) 1 n in
        omega arith
