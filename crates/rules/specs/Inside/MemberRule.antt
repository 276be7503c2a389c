-- What the code of member nodes answers, as a struct: `Member` says which type and which reports that is, and the laws `MemberRuling` that it is the same.
use Rattle.std.specs.Prelude.{ℕ, leb, eqb, ◌&&◌, ◌||◌, List, Option, None, Some}
use Rattle.area.specs.DiagnosticKind.{nullable_member_diag, unresolved_diag, no_members_diag}
use Rattle.area.specs.declared.Source.TheVariants as source
use Rattle.area.specs.declared.Source.{Source}
use Rattle.operators.specs.Inside.RuledParts.{clean_one, plain_one, fails_one, ruled_before, ruled_alone}
use Rattle.operators.specs.Operand.{is_kind}
use Rattle.operators.specs.declared.ruled.OneReport.{OneReport}
use Rattle.operators.specs.declared.ruled.Ruled.{Ruled}
use Rattle.question.specs.declared.Header.{Header}
use Rattle.rules.specs.Accept.{is_variable_name}
use Rattle.rules.specs.Inside.AccessRule.{base_ruled}
use Rattle.rules.specs.Inside.Variable.{variable_place}
use Rattle.rules.specs.Member.{one2, one4, has_elements, is_nullable_object}
use Rattle.symbol.specs.Lookup.{symbols_of}
use Rattle.symbol.specs.Symbols.{Symbols}
use Rattle.ty.specs.Bytes.{Ty, name_of, non_null}
use Rattle.ty.specs.Choose.{choose}
use Rattle.ty.specs.Kind.{int_kind, boolean_kind, string_kind, any_kind, unit_kind, map_kind, named_kind, module_kind, error_kind}
use Rattle.ty.specs.Name.{pair_id, list_id, set_class_id, to_string_id, hash_code_id, equals_id, first_id, second_id, size_id, count_id, is_empty_id, last_id}
use Rattle.ty.specs.Name.{get_id, get_at_id, set_id, add_id, push_id, append_id, contains_id, index_of_id, length_id, is_not_empty_id}
use Rattle.ty.specs.Name.{trim_id, lowercase_id, uppercase_id, keys_id}

-- a type variable's members
unfoldable pub variable_ruled : ℕ → OneReport
variable_ruled id =
    choose (eqb id to_string_id) (plain_one string_kind)
    (choose (eqb id hash_code_id) (plain_one int_kind)
    (choose (eqb id equals_id) (plain_one boolean_kind) (plain_one any_kind)))

-- Pair's
unfoldable pub pair_ruled : ℕ → OneReport
pair_ruled id =
    choose (one2 id first_id second_id) (plain_one any_kind)
    (choose (eqb id to_string_id) (plain_one string_kind) (fails_one unresolved_diag))

-- those of the classes List, ArrayList, MutableList, Array and Set, as names
unfoldable pub collection_ruled : ℕ → OneReport
collection_ruled id =
    choose (one2 id size_id count_id) (plain_one int_kind)
    (choose (eqb id is_empty_id) (plain_one boolean_kind)
    (choose (one4 id first_id last_id get_id get_at_id) (plain_one any_kind)
    (choose (one4 id set_id add_id push_id append_id) (plain_one unit_kind)
    (choose (eqb id contains_id) (plain_one boolean_kind)
    (choose (eqb id index_of_id) (plain_one int_kind) (fails_one unresolved_diag))))))

-- String's
unfoldable pub string_ruled : ℕ → OneReport
string_ruled id =
    choose (one2 id length_id size_id) (plain_one int_kind)
    (choose (one2 id is_empty_id is_not_empty_id) (plain_one boolean_kind)
    (choose (eqb id trim_id || one2 id lowercase_id uppercase_id) (plain_one string_kind) (fails_one unresolved_diag)))

-- a List's or an Array's: what it holds is read off the object
unfoldable pub element_ruled : ℕ → OneReport
element_ruled id =
    choose (one2 id size_id count_id) (plain_one int_kind)
    (choose (eqb id is_empty_id) (plain_one boolean_kind)
    (choose (one4 id first_id last_id get_id get_at_id) (clean_one source.Inner)
    (choose (eqb id set_id) (plain_one unit_kind) (fails_one unresolved_diag))))

-- a Map's
unfoldable pub map_ruled : ℕ → OneReport
map_ruled id = choose (eqb id size_id) (plain_one int_kind) (choose (eqb id keys_id) (clean_one (source.ListOf any_kind)) (fails_one unresolved_diag))

-- the type of a field or a function, or else s
unfoldable pub variable_or : Option Source → OneReport → OneReport
variable_or None s = s
variable_or (Some variable) s = clean_one variable

module _ (table : List ℕ) where
  abbrev S : Symbols
  S = symbols_of table

  -- the members that the table gives a class
  unfoldable pub class_ruled : ℕ → ℕ → OneReport
  class_ruled owner id =
      variable_or (variable_place table owner id)
      (choose (S.is_variant owner id) (clean_one (source.Name owner)) (choose (S.in_types owner) (fails_one unresolved_diag) (plain_one error_kind)))

  -- a Named base's, by its name
  unfoldable pub named_ruled : ℕ → ℕ → OneReport
  named_ruled owner id =
      choose (is_variable_name S owner) (variable_ruled id)
      (choose (eqb owner pair_id) (pair_ruled id)
      (choose (leb list_id owner && leb owner set_class_id) (collection_ruled id) (class_ruled owner id)))

  -- a base's, by its kind
  unfoldable pub kind_ruled : Ty → ℕ → OneReport
  kind_ruled base id =
      choose (is_kind named_kind base) (named_ruled (name_of base) id)
      (choose (is_kind string_kind base) (string_ruled id)
      (choose (has_elements base) (element_ruled id)
      (choose (is_kind map_kind base) (map_ruled id)
      (choose (is_kind any_kind base) (plain_one any_kind) (fails_one no_members_diag)))))

  -- a member node's answer, t being the object's type: the access check's report in the first place
  unfoldable pub member_ruled : Header → ℕ → Ty → Ruled
  member_ruled H id t =
      choose (is_nullable_object t) (ruled_alone (fails_one nullable_member_diag))
      (choose (is_kind module_kind (non_null t)) (ruled_alone (plain_one any_kind))
      (ruled_before (base_ruled S H (non_null t) id) (kind_ruled (non_null t) id)))
