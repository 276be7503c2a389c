-- The clean rules of calls. Document 01, "Clean rules", without the second way that document 02, order 4, takes out. Only which overloads are usable and fit,
-- and scoring are shared with the definition of `check_call_args`.
use Rattle.std.specs.Prelude.{ℕ, ◌<◌, length, true, false, ◌⊎◌, ◌≡◌}
use mathlib.Core.List.{List, ◌∷◌, ◌++◌, Memᴰ}
use Rattle.std.proofs.Math.Option.{some}
use Rattle.scoring.specs.Arg.{Arg}
use Rattle.scoring.specs.Arity.{usable, fitting}
use Rattle.scoring.specs.Score.{score}
use Rattle.question.specs.declared.Header.{Header}
use Rattle.rules.specs.Access.{blocked}
use Rattle.symbol.specs.Symbols.{Param, Overload, Symbols}
use Rattle.ty.specs.Bytes.{Ty}
use Rattle.ty.specs.Name.{no_id}
use Rattle.typing.specs.Callee.{base_name}

-- "suspend allowed"
abbrev pub SuspendAllowed : Symbols → Header → ℕ → ℕ → Type 0
SuspendAllowed S H owner id = (H.suspend ≡ true) ⊎ (S.is_suspend owner id ≡ false)

-- "every usable overload (one left when builtins have dropped out) that fits in number"
abbrev pub candidates : List Overload → List Arg → List Overload
candidates os xs = fitting (length xs) (usable os)

-- a parameter has that name
pub record Known (id : ℕ) (ps : List Param) : Type 0 where
  pub param : Param
  pub among : Memᴰ param ps
  pub called : param.name ≡ id

-- "every named argument known to every usable overload that fits in number"
abbrev pub AllKnown : List Overload → List Arg → Type 0
AllKnown vs xs = (v : Overload) → Memᴰ v vs → (a : Arg) → Memᴰ a xs → (id : ℕ) → a.name ≡ some id → Known id v.params

module _ (S : Symbols) where
  -- every match among these scores lower
  abbrev pub Lower : List Overload → List Arg → ℕ → Type 0
  Lower vs xs points = (v : Overload) → Memᴰ v vs → (s : ℕ) → score S v xs ≡ some s → s < points

  -- "one overload matches and every other match scores lower". A list may hold two equal overloads: the others are those at other places.
  pub record Wins (vs : List Overload) (xs : List Arg) (winner : Overload) (points : ℕ) : Type 0 where
    pub front : List Overload
    pub rear : List Overload
    pub place : vs ≡ front ++ (winner ∷ rear)
    pub scores : score S winner xs ≡ some points
    pub lower_front : Lower front xs points
    pub lower_rear : Lower rear xs points

  pub record ByScore (vs : List Overload) (xs : List Arg) (T : Ty) : Type 0 where
    pub winner : Overload
    pub points : ℕ
    pub wins : Wins vs xs winner points
    pub result : T ≡ winner.result

  -- a list of functions may be called with these arguments; "its type is that overload's result"
  pub record CleanArgs (os : List Overload) (xs : List Arg) (T : Ty) : Type 0 where
    pub known : AllKnown (candidates os xs) xs
    pub chosen : ByScore (candidates os xs) xs T

  -- an object of the type t has a Named base with a list of that name
  pub record HasList (id : ℕ) (t : Ty) : Type 0 where
    pub owner : ℕ
    pub is_named : base_name t ≡ some owner
    pub first : Overload
    pub others : List Overload
    pub list : S.functions_of owner id ≡ first ∷ others

  module _ (H : Header) where
    -- a call of the name id with arguments xs may have the type T
    pub record CleanCall (id : ℕ) (xs : List Arg) (T : Ty) : Type 0 where
      pub allowed : SuspendAllowed S H no_id id
      pub rule : CleanArgs (S.functions_of no_id id) xs T

    -- "A method call adds access to the list's first function"
    pub record CleanMethod (id : ℕ) (t : Ty) (xs : List Arg) (T : Ty) : Type 0 where
      pub found : HasList id t
      pub access : blocked S H found.first.visibility found.owner ≡ false
      pub allowed : SuspendAllowed S H found.owner id
      pub rule : CleanArgs (S.functions_of found.owner id) xs T
