-- Access to a member. Document 01, "Corners in checker.rs": an empty owner blocks nothing, nor does Internal where either package is unknown.
use Rattle.std.specs.Prelude.{ℕ, Bool, false, not, ◌&&◌, ◌||◌, List, [], ◌∷◌, eqb}
use Rattle.ty.specs.Choose.{choose}
use Rattle.ty.specs.Name.{no_id}
use Rattle.symbol.specs.Symbols.{Symbols}
use Rattle.symbol.specs.Subclass.{is_subclass}
use Rattle.question.specs.declared.Header.{Header}
use Rattle.area.specs.DiagnosticKind.{access_diag}
use Rattle.symbol.specs.Visibility.{public_vis, protected_vis, private_vis}
use Rattle.operators.specs.Out.{Report, report}

-- both packages are known, and they differ
abbrev pub other_package : ℕ → ℕ → Bool
other_package a b = not (eqb a no_id) && (not (eqb b no_id) && not (eqb a b))

-- `check_access`: whether a member of an owner, of a visibility, is blocked where the script stands
unfoldable pub blocked : Symbols → Header → ℕ → ℕ → Bool
blocked S H vis owner =
    choose (eqb owner no_id) false
    (choose (eqb vis public_vis) false
    (choose (eqb vis private_vis) (not (eqb H.current owner))
    (choose (eqb vis protected_vis) (not (eqb H.current owner || is_subclass S H.current owner))
    (other_package H.pkg (S.package_of owner)))))

unfoldable pub access_report : Symbols → Header → ℕ → ℕ → List Report
access_report S H vis owner = choose (blocked S H vis owner) (report access_diag vis ∷ []) []
