-- A function as it is read at its place in the table, field by field.
use Rattle.std.specs.Prelude.{ℕ, zero, suc, ◌+◌, ◌%◌, List, [], ◌∷◌, leb, eqb, get_or, drop}
use Rattle.ty.specs.Bytes.{id_at}
use Rattle.record.specs.Layout.{record_size}
use Rattle.record.specs.Inside.Keyed.{type_length}
use Rattle.index.specs.declared.index.Place.{Place}
use Rattle.symbol.specs.Inside.ParamsRow.{part}
use Rattle.symbol.specs.declared.functions.Param.{Param}
use Rattle.symbol.specs.declared.functions.Function.{Function}

-- the parameter at byte a: name, flag (bit 0 default, bit 1 vararg), type; it ends before byte e
abbrev pub param_laid : List ℕ → ℕ → ℕ → Param
param_laid t e a =
    record {
      name = id_at t a;
      default = eqb (get_or t (a + 2) 0 % 2) 1;
      vararg = leb 2 (get_or t (a + 2) 0);
      part = record { start = a + 3; len = type_length (part t (a + 3) e) };
    }

-- n parameters from byte a on
unfoldable pub params_laid : List ℕ → ℕ → ℕ → ℕ → List Param
params_laid t e zero a = []
params_laid t e (suc n) a = param_laid t e a ∷ params_laid t e n (a + 3 + type_length (part t (a + 3) e))

-- the function at byte a, which ends before byte e; its result type has n bytes
abbrev pub function_sized : List ℕ → ℕ → ℕ → ℕ → Function
function_sized t a e n =
    record {
      builtin = eqb (get_or t (a + 6) 0) 1;
      visibility = get_or t (a + 5) 0;
      result = record { start = a + 8; len = n };
      params = params_laid t e (get_or t (a + 7) 0) (a + 8 + n);
    }

abbrev pub function_until : List ℕ → ℕ → ℕ → Function
function_until t a e = function_sized t a e (type_length (part t (a + 8) e))

-- the function at a place
unfoldable pub function_at : List ℕ → Place → Function
function_at t p = function_until t p.at (p.at + record_size (drop p.at t))
