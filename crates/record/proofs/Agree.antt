-- A record by its fields is what the code keeps of it, part by part.
use Prim.Native.Nat.{ℕ, ◌+◌}
use lib.Dec.{eqb}
use lib.ListN.{length, get_or}
use mathlib.Core.Bool.{Bool, true, false, ◌||◌}
use mathlib.Core.List.{List, []}
use mathlib.Core.Path.{◌≡◌, refl, ap}
use Rattle.record.proofs.RecordParts.{Agrees, name_agrees, class_agrees, operators_agrees, field_agrees, visibility_agrees, suspend_agrees, variant_agrees, unknown_agrees}
use Rattle.record.proofs.Runs.{function_agrees}
use Rattle.record.specs.Inside.Front.{head_by, front_of}
use Rattle.record.specs.Layout.{Field, fields_of, fields_from, fields_in, lengths, is_malformed, is_endless, has_error, ids_used, param_names, record_size}
use Rattle.record.specs.TableRefused.{repeats}
use Rattle.record.specs.Inside.Front.{Front}
use Rattle.ty.proofs.Ids.{highest_of}
use Rattle.ty.specs.Choose.{choose}

both : {A B : Type 0} (P : A → B → Type 0) (t : Bool) {x y : A} {u v : B} → P x u → P y v → P (choose t x y) (choose t u v)
unfolding choose
both P true p q = p
both P false p q = q

-- ---- a record by its fields
record LaidOut (s : List ℕ) (fs : List Field) (h : Front) : Type 0 where
  is : Agrees s (fields_from fs s 1) h

agrees_by : (kind : ℕ) (s : List ℕ) → LaidOut s (fields_of kind (get_or s 7 0)) (head_by kind s)
unfolding fields_of head_by
agrees_by kind s =
    both (LaidOut s) (eqb kind 1) (record { is = name_agrees s })
    (both (LaidOut s) (eqb kind 2) (record { is = class_agrees s })
    (both (LaidOut s) (eqb kind 3) (record { is = operators_agrees s })
    (both (LaidOut s) (eqb kind 4) (record { is = function_agrees s })
    (both (LaidOut s) (eqb kind 5) (record { is = field_agrees s })
    (both (LaidOut s) (eqb kind 6) (record { is = visibility_agrees s })
    (both (LaidOut s) (eqb kind 7) (record { is = suspend_agrees s })
    (both (LaidOut s) (eqb kind 8) (record { is = variant_agrees s }) (record { is = unknown_agrees s }))))))))

pub head_agrees : (s : List ℕ) → Agrees s (fields_in s) (front_of s)
unfolding front_of
head_agrees s = (agrees_by (get_or s 0 0) s).is

module _ (s : List ℕ) where
  pub same_malformed : (front_of s).malformed ≡ is_malformed s
  same_malformed = go (is_malformed s) refl
    where
      go : (b : Bool) → is_malformed s ≡ b → (front_of s).malformed ≡ b
      go true e = ap (λ (h : Front). h.malformed) ((head_agrees s).bad e)
      go false e = ((head_agrees s).good e).whole

  pub same_size : (front_of s).len ≡ record_size s
  unfolding record_size choose
  same_size = go (is_malformed s) refl
    where
      go : (b : Bool) → is_malformed s ≡ b → (front_of s).len ≡ choose (b || is_endless s) (length s) (1 + lengths (fields_in s))
      go true e = ap (λ (h : Front). h.len) ((head_agrees s).bad e)
      go false e = ((head_agrees s).good e).len

  -- THE HIGHEST ID is that of the list
  pub same_top : is_malformed s ≡ false → (front_of s).top ≡ highest_of (ids_used s)
  same_top e = ((head_agrees s).good e).top

  -- A PARAMETER'S NAME TWICE is a name that occurs before
  pub same_repeated : is_malformed s ≡ false → (front_of s).repeated ≡ repeats [] (param_names s)
  same_repeated e = ((head_agrees s).good e).repeated

  pub same_error : is_malformed s ≡ false → (front_of s).error ≡ has_error s
  same_error e = ((head_agrees s).good e).error
