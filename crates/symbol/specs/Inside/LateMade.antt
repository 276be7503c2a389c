-- The entries for the classes ahead that the check of a table leaves: the lent ones, or those from the first record on of which a superclass or interface has
-- no earlier record.
use Rattle.std.specs.Prelude.{ℕ, ◌+◌, eqb, Bool, List, [], ◌∷◌}
use Rattle.ty.specs.Choose.{choose}
use Rattle.index.specs.Inside.Ahead.{marked_from}
use Rattle.record.specs.Inside.Front.{front_of}
use Rattle.record.specs.Inside.HeadFault.{parent_missing, own_fault, key_fault}
use Rattle.record.specs.Table.{Record, records_of}

-- at a record that begins at byte e: they are made once, where a superclass or interface is missing
unfoldable pub late_looked : List ℕ → ℕ → Bool → Bool → List ℕ → List ℕ
late_looked t e missing looked late = choose looked late (choose missing (marked_from t e late) late)

-- some records, of which the first begins at byte p, behind some earlier ones: the first that draws a number is the last one
unfoldable pub late_from : List ℕ → ℕ → List Record → List Record → List ℕ → List ℕ
late_from t p earlier [] late = late
late_from t p earlier (r ∷ rs) late =
    choose (eqb (own_fault earlier r) 0)
    (choose (parent_missing earlier r) (marked_from t p late)
    (choose (eqb (key_fault earlier r (r ∷ rs)) 0) (late_from t (p + (front_of r).len) (r ∷ earlier) rs late) late))
    late

unfoldable pub late_made : List ℕ → List ℕ → List ℕ
late_made t late = late_from t 0 [] (records_of t) late
