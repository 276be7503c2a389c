-- The definitions on small cases, by computation.
use lib.ListN.{replicate}
use mathlib.Core.List.{[], ◌∷◌}
use mathlib.Core.Path.{◌≡◌, refl}
use Rattle.area.specs.Diagnostic.{Diag, record_of, records, put_one, put_all}
use Rattle.area.specs.Source.{type_from}
use Rattle.area.specs.declared.Source.TheVariants.{ListOf, Name, Inner, Pointer, Part, Function}
use Rattle.ty.specs.Bytes.{inner_of}
use Rattle.ty.specs.Kind.{any_kind}
use Rattle.ty.specs.Choose.{choose}
use Rattle.written.specs.Padding.{padded_to}

-- a tie of 300 overloads at node 63: low bytes first
abbrev pub tie : Diag
tie = record { kind = 19; node = 63; number = 300 }

-- one diagnostic: 5 bytes hold it, 4 are left alone; a second one stands behind it
pub buffers : (record_of tie ≡ 19 ∷ 63 ∷ 0 ∷ 44 ∷ 1 ∷ []) × (put_all (replicate 5 0) 0 (tie ∷ []) ≡ record_of tie) × (put_all (replicate 4 0) 0 (tie ∷ []) ≡ replicate 4 0)
    × (put_all (replicate 12 0) 0 (tie ∷ tie ∷ []) ≡ padded_to 12 (records (tie ∷ tie ∷ [])))
unfolding record_of records put_one put_all padded_to choose
buffers = (refl, refl, refl, refl)

-- a Pair, a Map's keys, what a Pointer to an Int holds, a Pointer to a Boolean, a part of a table, a Function that gives it
pub sources : (type_from [] [] [] (Name 0) ≡ 17 ∷ 0 ∷ 0 ∷ []) × (type_from [] [] [] (ListOf any_kind) ≡ 15 ∷ 9 ∷ []) × (type_from [] (13 ∷ 0 ∷ []) [] Inner ≡ 0 ∷ [])
    × (type_from [] (6 ∷ []) [] Pointer ≡ 13 ∷ 6 ∷ []) × (type_from (5 ∷ 12 ∷ 8 ∷ 5 ∷ []) [] [] (Part (record { start = 1; len = 2 })) ≡ 12 ∷ 8 ∷ [])
    × (type_from (5 ∷ 12 ∷ 8 ∷ 5 ∷ []) [] [] (Function (record { start = 1; len = 2 })) ≡ 18 ∷ 0 ∷ 12 ∷ 8 ∷ [])
unfolding type_from inner_of choose
sources = (refl, refl, refl, refl, refl, refl)
