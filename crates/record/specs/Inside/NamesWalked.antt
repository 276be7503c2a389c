-- The walks of the check of a table are those of order 3's claims.
use Rattle.std.specs.Prelude.{ℕ, suc, ◌≤◌, ◌<◌, ◌≡◌, List, length}
use Rattle.record.specs.Inside.NamesBefore.{WalkAt, TableStepIs, behind_name}
use Rattle.record.specs.Layout.{record_kind}
use Rattle.record.specs.Order3.{nth_record, walked}
use Rattle.record.specs.Table.{records_of}
use Rattle.record.specs.declared.walk.TableStep.{TableStep}
use Rattle.record.specs.declared.walk.TableWalk.{TableWalk}

pub record NamesWalked (t : List ℕ) : Type 0 where
  -- the walk behind i records stands at record i, as the contracts of the check have it, and there is no other for which they hold
  pub stands : (i : ℕ) → i ≤ length (records_of t) → WalkAt t (walked t i) × ((walked t i).here.index ≡ i)
  pub only : (w : TableWalk) → WalkAt t w → w ≡ walked t w.here.index
  -- a step of the check leads from each of these walks to the next, and so does the names' own step over a name
  pub step : (i : ℕ) → i < length (records_of t) → (r : TableStep) → TableStepIs t (walked t i) r → r.next ≡ walked t (suc i)
  pub name : (i : ℕ) → i < length (records_of t) → record_kind (nth_record t i) ≡ 1 → behind_name (walked t i) ≡ walked t (suc i)
