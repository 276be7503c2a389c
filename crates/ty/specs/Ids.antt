-- The ids of a type: those of each Named and each Module that is examined while it is read. Document 01, "Refused, and by whose doing": in a type without end
-- only kinds and bodies wholly inside its first 192 bytes are examined.
use Rattle.std.specs.Prelude.{ℕ, zero, suc, ◌+◌, ◌-◌, min, ◌||◌, List, [], ◌∷◌, ◌++◌, length, get_or, eqb, Result, Ok, Err}
use Rattle.ty.specs.Choose.{choose}
use Rattle.ty.specs.Kind.{named_kind, module_kind}
use Rattle.ty.specs.Bytes.{id_at}
use Rattle.ty.specs.declared.read.Item.{Item}
use Rattle.ty.specs.declared.read.ItemFault.{ItemFault}
use Rattle.ty.specs.Read.{item_at}

-- the id of the kind at `at`: a Named or a Module has one, the other kinds have none
unfoldable pub own_ids : List ℕ → ℕ → List ℕ
own_ids s at = choose (eqb (get_or s at 0) named_kind || eqb (get_or s at 0) module_kind) (id_at s (at + 1) ∷ []) []

-- the ids of an item, before those of what stands behind it
abbrev pub ids_behind : Result Item ItemFault → (ℕ → ℕ → List ℕ) → List ℕ
ids_behind (Ok r) k = k r.next r.children
ids_behind (Err fault) k = []

-- the ids of `pending` types from `at` on
unfoldable pub ids_from : ℕ → List ℕ → ℕ → ℕ → ℕ → List ℕ
ids_from zero s limit at pending = []
ids_from (suc f) s limit at pending =
    choose (eqb pending 0) []
    (ids_behind (item_at s (min (length s) limit) at) (λ next c. own_ids s at ++ ids_from f s limit next (pending - 1 + c)))

-- The ids that are examined where one type is read from the front of s, in byte order. Document 01: in a type without end only kinds and bodies wholly inside
-- its first 192 bytes are examined. `top` of what `read_type` finds is the highest of them (proofs/Ids.antt).
unfoldable pub ids_in : List ℕ → ℕ → List ℕ
ids_in s limit = ids_from (suc (min (length s) limit)) s limit 0 1
