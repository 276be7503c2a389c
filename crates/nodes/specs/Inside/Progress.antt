-- How far a judgement is, between two nodes.
use Rattle.std.specs.Prelude.{ℕ, suc, ◌+◌, ◌≤◌, length, ◌&&◌, not, List, [], ◌∷◌, ◌≡◌, set}
use Rattle.area.specs.Diagnostic.{Diag}
use Rattle.area.specs.Reported.{reported}
use Rattle.area.specs.declared.reports.Reports.{Reports}
use Rattle.overload.specs.Inside.Tally.{most_diagnostics}
use Rattle.nodes.specs.declared.progress.State.{State}
use Rattle.question.specs.Inside.Skip.{skip_at}
use Rattle.operators.specs.Out.{error_ty}
use Rattle.ty.specs.Bytes.{Ty, same_bytes}
use Rattle.typing.specs.Judge.{Given}
use Rattle.typing.specs.Mark.{no_error}

-- where the children of a node with so many bytes of its own begin
abbrev pub inside_of : State → ℕ → State
inside_of s own = record { at = s.at + own; node = suc s.node; fine = s.fine }

-- behind n trees that stay unvisited
abbrev pub passed_over : List ℕ → State → ℕ → State
passed_over q s n = record { at = (skip_at q s.at n).at; node = s.node + (skip_at q s.at n).nodes; fine = s.fine }

-- behind a node of the type t
abbrev pub finished_as : State → Ty → State
finished_as s t = record { at = s.at; node = s.node; fine = s.fine && not (same_bytes t error_ty) }

-- From s the judgement has come to the position `at` and the number `node`: it has finished g and reported ds. The lent buffer was b and is b'.
pub record Reached (s : State) (at node : ℕ) (g : List Given) (ds : List Diag) (b b' : Reports) (r : State) : Type 0 where
  pub result : r ≡ record { at = at; node = node; fine = s.fine && no_error g }
  pub reports : b' ≡ reported b ds

-- Node n, behind whose children the judgement was at s, is finished: it has the type t, which is stored in its slot, and ds are reported.
-- The slots held ts and hold ts'.
pub record Finished (s : State) (n : ℕ) (t : Ty) (ds : List Diag) (ts ts' : List Ty) (b b' : Reports) (r : State) : Type 0 where
  pub reached : Reached s s.at s.node (record { node = n; ty = t } ∷ []) ds b b' r
  pub stored : ts' ≡ set ts n t
  pub few : length ds ≤ most_diagnostics

-- the same of a call that reports nothing and is lent no buffer
abbrev pub FinishedSilently : State → ℕ → Ty → List Ty → List Ty → State → Type 0
FinishedSilently s n t ts ts' r = (b : Reports) → Finished s n t [] ts ts' b b r
