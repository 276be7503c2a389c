-- What a call answers: where its type comes from, and what is reported.
use Rattle.std.specs.Prelude.{ℕ, List, [], ◌∷◌, eqb, length, Option as Maybe, Some, None}
use Rattle.ty.specs.Choose.{choose}
use Rattle.ty.specs.Bytes.{Ty}
use Rattle.symbol.specs.Lookup.{symbols_of}
use Rattle.symbol.specs.Inside.LookupAnswer.{overload_at}
use Rattle.index.specs.declared.index.Place.{Place}
use Rattle.area.specs.Diagnostic.{Diag}
use Rattle.area.specs.declared.Source.{Source}
use Rattle.area.specs.declared.Source.TheVariants.{Part}
use Rattle.operators.specs.Diag.{diag}
use Rattle.area.specs.DiagnosticKind.{no_match_diag}
use Rattle.scoring.specs.Arg.{Arg, Verdict}
use Rattle.scoring.specs.Arity.{any_own}
use Rattle.scoring.specs.Inside.Args.{args_in}
use Rattle.scoring.specs.declared.args.Arg.{Arg as Handed}
use Rattle.overload.specs.Reports.{mismatches}
use Rattle.scoring.specs.WithParams.{with_params}
use Rattle.overload.specs.Resolve.{tie_report, resolve}
use Rattle.overload.specs.Inside.Picked.{picked_in}
use Rattle.overload.specs.Inside.BestPlace.{chosen_at, result_at, error_source, source_of}
use Rattle.overload.specs.declared.calls.Highest.{Highest}
use Rattle.overload.specs.declared.calls.Tally.{Tally}

-- ---- a tally whose first overload stands at p is settled

-- by the highest score, if anything matches
abbrev pub best_source : Maybe Highest → Source → Source
best_source None s = s
best_source (Some h) s = Part h.result

abbrev pub best_diags : ℕ → Maybe Highest → List Diag → List Diag
best_diags node None ds = ds
best_diags node (Some h) ds = tie_report node h.many

abbrev pub settled_source : List ℕ → Place → Tally → Source
settled_source t p w = best_source w.highest (choose (eqb w.fitting 1) (result_at t p) error_source)

-- what is reported then at a node, for the arguments xs
abbrev pub settled_diags : List ℕ → Place → ℕ → List Arg → Tally → List Diag
settled_diags t p node xs w =
    best_diags node w.highest
    (choose (eqb w.fitting 1) (mismatches (symbols_of t) 1 (with_params (overload_at t p).params xs)) (diag no_match_diag node 0 ∷ []))

-- ---- the call at a node of the functions of an owner and a name, with the slots ts

-- what it comes to
abbrev pub call_at : List ℕ → ℕ → ℕ → ℕ → List Ty → List Handed → Verdict
call_at t owner id node ts xs = resolve (symbols_of t) ((symbols_of t).functions_of owner id) node (args_in ts xs)

-- the places of the overloads that it looks at, with n arguments
abbrev pub called_places : List ℕ → ℕ → ℕ → ℕ → List Place
called_places t n owner id = picked_in t (any_own ((symbols_of t).functions_of owner id)) n owner id

-- where its type comes from, with the arguments xs
unfoldable pub call_source : List ℕ → ℕ → ℕ → List Arg → Source
call_source t owner id xs =
    source_of t (called_places t (length xs) owner id) (chosen_at t (called_places t (length xs) owner id) xs)
