-- Which overloads a call looks at. Document 01, "Corners in checker.rs": builtins drop out beside any non-builtin. Those left are usable; those of them that
-- fit in number are scored.
use Rattle.std.specs.Prelude.{ℕ, suc, Bool, false, not, ◌&&◌, ◌||◌, List, [], ◌∷◌, length, leb}
use Rattle.ty.specs.Choose.{choose}
use Rattle.symbol.specs.Symbols.{Param, Overload}

-- one of them is not a builtin
unfoldable pub any_own : List Overload → Bool
any_own [] = false
any_own (o ∷ os) = not o.builtin || any_own os

unfoldable pub own : List Overload → List Overload
own [] = []
own (o ∷ os) = choose o.builtin (own os) (o ∷ own os)

unfoldable pub usable : List Overload → List Overload
usable os = choose (any_own os) (own os) os

-- how many parameters have no default and are not vararg
unfoldable pub required : List Param → ℕ
required [] = 0
required (p ∷ ps) = choose (p.default || p.vararg) (required ps) (suc (required ps))

-- the last parameter is vararg; v: the parameter before these is vararg
unfoldable pub ends_vararg : Bool → List Param → Bool
ends_vararg v [] = v
ends_vararg v (p ∷ ps) = ends_vararg p.vararg ps

abbrev pub last_vararg : List Param → Bool
last_vararg ps = ends_vararg false ps

-- an overload fits a number of arguments
unfoldable pub fits : ℕ → Overload → Bool
fits n o = leb (required o.params) n && (last_vararg o.params || leb n (length o.params))

-- `viable`
unfoldable pub fitting : ℕ → List Overload → List Overload
fitting n [] = []
fitting n (o ∷ os) = choose (fits n o) (o ∷ fitting n os) (fitting n os)
