-- What a search for the records of a kind with a key finds.
use Rattle.std.specs.Prelude.{ℕ, zero, suc, ◌+◌, ◌≤◌, ◌<◌, length, get_or, drop, false, List, [], ◌∷◌, ◌≡◌, Option, None, Some}
use Rattle.index.specs.declared.index.Place.{Place}
use Rattle.record.specs.Inside.Front.{front_of}
use Rattle.record.specs.Inside.FrontRecord.{front_record}
use Rattle.record.specs.Inside.Keyed.{is_of, records_with}
use Rattle.record.specs.Inside.Walk.{Sits, behind}
use Rattle.record.specs.Layout.{has_error, record_kind}
use Rattle.record.specs.Table.{Record, records_of}
use Rattle.ty.specs.Choose.{choose}

-- the first record of kind k with the key a, b among some, of which the first begins at byte p: by its first byte, counted from 1; 0 is none
unfoldable pub first_in : ℕ → ℕ → ℕ → ℕ → List Record → ℕ
first_in k a b p [] = 0
first_in k a b p (r ∷ rs) = choose (is_of k a b (front_of r)) (suc p) (first_in k a b (p + length r) rs)

-- the first in the table
abbrev pub first_with : List ℕ → ℕ → ℕ → ℕ → ℕ
first_with t k a b = first_in k a b 0 (records_of t)

-- the first behind the record at byte p
abbrev pub first_behind : List ℕ → ℕ → ℕ → ℕ → ℕ → ℕ
first_behind t k a b p = first_in k a b (behind t p) (records_of (drop (behind t p) t))

-- what a search for a record finds: its place, or nothing
abbrev pub Found : Type 0
Found = Option Place

-- a record that is given so, as a place
abbrev pub found_at : ℕ → Found
found_at zero = None
found_at (suc p) = Some (record { at = p })

-- the record that entry i of an index gives
abbrev pub place_at : List ℕ → ℕ → Found
place_at x i = found_at (get_or x i 0)

-- the first of kind k with the key a, b from a record on
abbrev pub first_from : List ℕ → ℕ → ℕ → ℕ → Found → Found
first_from t k a b None = None
first_from t k a b (Some p) = found_at (first_in k a b p.at (records_of (drop p.at t)))

-- one that stands at a place, and the others behind it
pub record HereIs (t : List ℕ) (all : List Record) (k a b : ℕ) (p : Place) : Type 0 where
  pub first : all ≡ front_record (drop p.at t) ∷ records_with k a b (records_of (drop (behind t p.at) t))
  pub kind : (front_of (drop p.at t)).kind ≡ k
  pub one : (front_of (drop p.at t)).one ≡ a
  pub two : 4 ≤ k → (front_of (drop p.at t)).two ≡ b
  pub error : (front_of (drop p.at t)).error ≡ false
  pub some : p.at < length t
  pub sits : Sits t p.at

abbrev pub FoundIs : List ℕ → List Record → ℕ → ℕ → ℕ → Found → Type 0
FoundIs t all k a b None = all ≡ []
FoundIs t all k a b (Some p) = HereIs t all k a b p

-- a whole function record without Error begins at the place
pub record FunctionAt (t : List ℕ) (p : Place) : Type 0 where
  pub kind : record_kind (drop p.at t) ≡ 4
  pub error : has_error (drop p.at t) ≡ false
  pub some : p.at < length t
  pub sits : Sits t p.at
