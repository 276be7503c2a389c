-- The number of a record of kind 1 behind names.
use Prim.Native.Nat.{ℕ, ◌+◌, ◌≤◌}
use borrow.Author.Tests.{lt-ltb, le-ltb}
use lib.Dec.{eqb, ltb}
use lib.ListN.{length, drop}
use mathlib.Core.Bool.{Bool, true, false, not, ◌&&◌, ◌||◌, true≢false, false≢true}
use mathlib.Core.List.{List}
use mathlib.Core.Path.{◌≡◌, refl, sym, ap, ◌∙◌}
use native.Mathlib.Omega.{arith}
use Rattle.index.proofs.StandingFront.{Standing, standing_room, standing_bytes}
use Rattle.index.specs.Inside.SearchKey.{name_bytes_at}
use Rattle.record.proofs.NameRecords.{name_by, whole_name, name_some, name_byte}
use Rattle.record.proofs.Records.{record_own}
use Rattle.record.specs.Inside.Front.{Front, name_head, name_front, front_of, front_at}
use Rattle.record.specs.Inside.FrontRecord.{count_of}
use Rattle.record.specs.Inside.HeadFault.{name_bytes, is_builtin_name, has_key, last_kind, some_parent, id_late, parent_late, head_fault}
use Rattle.record.specs.Inside.Walk.{record_at}
use Rattle.record.specs.Spelling.{builtin_names, spelled}
use Rattle.record.specs.Table.{Record, records_of, before}
use Rattle.record.specs.declared.front.Head.{Head}
use Rattle.record.specs.declared.walk.Cursor.{Cursor}
use Rattle.std.specs.Prelude.{Option, Some, None, is_some, Result}
use Rattle.std.specs.Option.{ok_or}
use Rattle.symbol.specs.Inside.Asked.{NameAsked, fault_at}
use Rattle.symbol.specs.Inside.Checked.{checked_number}
use Rattle.symbol.specs.Inside.Join.{NameEntryIs}
use Rattle.symbol.specs.declared.checks.TableFault.{TableFault}
use Rattle.symbol.specs.declared.checks.TableFault.TheVariants.{KeyRepeated}
use Rattle.ty.proofs.Choice.{choose_no, chosen, passed}
use Rattle.ty.specs.Choose.{choose}
use Rattle.ty.specs.Name.{id_defined}

module _ (t x : List ℕ) (c : Cursor) (a : NameAsked t x c) where
  abbrev earlier : List Record
  earlier = before c.index (records_of t)

  abbrev r : Record
  r = record_at t c

  -- ---- what is read there
  module _ (h : Option Head) (e : front_at (drop c.at t) h ≡ name_head (drop c.at t)) where
    read : front_at (drop c.at t) h ≡ front_of (drop c.at t)
    read = e ∙ sym (name_by (drop c.at t) (name_byte t c a.byte))

    pub name_malformed : is_some h ≡ false → 2 ≡ fault_at t c
    unfolding head_fault
    name_malformed n = chosen _ _ _ _ (ap (λ (z : Front). z.malformed) (record_own t c (name_some t c a.byte)) ∙ go h read n) refl
      where
        go : (g : Option Head) → front_at (drop c.at t) g ≡ front_of (drop c.at t) → is_some g ≡ false → (front_of (drop c.at t)).malformed ≡ true
        go None q z = ap (λ (z : Front). z.malformed) (sym q)
        go (Some g) q z = absurd (true≢false z)

    pub name_whole : is_some h ≡ true → front_of (drop c.at t) ≡ name_front
    name_whole n = whole_name (drop c.at t) (name_byte t c a.byte) (go h read n)
      where
        go : (g : Option Head) → front_at (drop c.at t) g ≡ front_of (drop c.at t) → is_some g ≡ true → (front_of (drop c.at t)).malformed ≡ false
        go None q z = absurd (false≢true z)
        go (Some g) q z = ap (λ (z : Front). z.malformed) (sym q)

  -- ---- a whole name
  module _ (w : front_of (drop c.at t) ≡ name_front) where
    own : front_of r ≡ name_front
    own = record_own t c (name_some t c a.byte) ∙ w

    stands : Standing t c name_front
    stands = record { at = a.at; some = name_some t c a.byte; head = sym w }

    pub name_inside : c.at + 26 ≤ length t
    name_inside = standing_room t c name_front stands refl

    -- its number: 5 for a spelling that is a built-in name's or an earlier record's
    number : fault_at t c ≡ choose (spelled (name_bytes_at t c.at) builtin_names || has_key r earlier) 5 0
    unfolding head_fault parent_late
    number =
        sym (passed _ _ _ _ (ap (λ (z : Front). z.malformed) own)
        (passed _ _ _ _ (ap (λ (z : Front). ltb z.kind (last_kind earlier)) own ∙ le-ltb _ _ a.kind)
        (passed _ _ _ _ (ap (λ (z : Front). not (id_defined z.top (count_of 1 earlier))) own ∙ ap not (lt-ltb 0 (40 + count_of 1 earlier) (omega arith)))
        (λ i. choose (sym five i) 5 (sym none i)))))
      where
        five : ((front_of r).repeated || (is_builtin_name r || has_key r earlier)) ≡ (spelled (name_bytes_at t c.at) builtin_names || has_key r earlier)
        five =
            ap (λ (z : Front). z.repeated || (eqb z.kind 1 && spelled (name_bytes r) builtin_names || has_key r earlier)) own
            ∙ ap (λ (b : List ℕ). spelled b builtin_names || has_key r earlier) (sym (standing_bytes t c name_front stands refl))

        late : parent_late earlier r (records_of (drop c.at t)) ≡ false
        late =
            ap (λ (z : Front). eqb z.kind 2 && some_parent (id_late earlier (records_of (drop c.at t))) r) own

        none : ◌≡◌ {A = ℕ} (choose (parent_late earlier r (records_of (drop c.at t))) 6 (choose (front_of r).error 7 0)) 0
        none = choose_no _ _ _ late ∙ choose_no _ _ _ (ap (λ (z : Front). z.error) own)

    module _ (b : List ℕ) (is : b ≡ name_bytes_at t c.at) (v : Bool) (e : v ≡ spelled b builtin_names) where
      spelling : spelled (name_bytes_at t c.at) builtin_names ≡ v
      spelling = ap (λ (z : List ℕ). spelled z builtin_names) (sym is) ∙ sym e

      pub name_builtin : v ≡ true → 5 ≡ fault_at t c
      name_builtin y = chosen _ _ _ _ (ap (λ (z : Bool). z || has_key r earlier) (spelling ∙ y)) refl ∙ sym number

      pub name_number : v ≡ false → (f : Option ℕ) → NameEntryIs t x c f → (s : Result ℕ TableFault) → s ≡ ok_or f KeyRepeated → checked_number s ≡ fault_at t c
      name_number y f i s q = ap checked_number q ∙ go f i ∙ sym (number ∙ ap (λ (z : Bool). choose (z || has_key r earlier) 5 0) (spelling ∙ y))
        where
          go : (g : Option ℕ) → NameEntryIs t x c g → checked_number (ok_or g KeyRepeated) ≡ choose (has_key r earlier) 5 0
          go None k = chosen _ _ _ _ (sym k.key) refl
          go (Some n) k = passed _ _ _ _ (sym k.key) refl
