-- Member nodes: `check_member` of checker.rs with `lookup_var_ty`, its checks in the source's order. Document 01, "Corners in checker.rs": no climb to
-- superclasses; a name found only as a function gives a Function type with no parameters. "Table and question": a Module base gives Any; visibility is looked
-- up for Named bases only.
use Rattle.std.specs.Prelude.{ℕ, Bool, not, ◌&&◌, ◌||◌, List, [], ◌∷◌, leb, eqb}
use Rattle.std.proofs.Math.Option.{Option, none, some}
use Rattle.ty.specs.Choose.{choose}
use Rattle.ty.specs.Kind.{int_kind, boolean_kind, string_kind, any_kind, unit_kind, list_kind, map_kind, named_kind, module_kind, error_kind}
use Rattle.ty.specs.Name.{pair_id, list_id, set_class_id, to_string_id, hash_code_id, equals_id, first_id, second_id, size_id, count_id, is_empty_id, last_id}
use Rattle.ty.specs.Name.{get_id, get_at_id, set_id, add_id, push_id, append_id, contains_id, index_of_id, length_id, is_not_empty_id}
use Rattle.ty.specs.Name.{trim_id, lowercase_id, uppercase_id, keys_id}
use Rattle.ty.specs.Bytes.{Ty, name_of, is_nullable, is_array, inner_of, non_null}
use Rattle.symbol.specs.Symbols.{Overload, Symbols}
use Rattle.question.specs.declared.Header.{Header}
use Rattle.area.specs.DiagnosticKind.{nullable_member_diag, unresolved_diag, no_members_diag}
use Rattle.operators.specs.Out.{Report, Out, any_ty, clean, plain, fails, reports_before, found}
use Rattle.operators.specs.Made.{named_ty, list_ty, function_ty}
use Rattle.operators.specs.Operand.{is_kind}
use Rattle.rules.specs.Accept.{is_variable_name}
use Rattle.rules.specs.Access.{access_report}

-- one of two names, or of four
abbrev pub one2 : ℕ → ℕ → ℕ → Bool
one2 id m n = eqb id m || eqb id n

abbrev pub one4 : ℕ → ℕ → ℕ → ℕ → ℕ → Bool
one4 id m n p q = one2 id m n || one2 id p q

-- a type variable's members
unfoldable pub variable_member : ℕ → Out
variable_member id =
    choose (eqb id to_string_id) (plain string_kind)
    (choose (eqb id hash_code_id) (plain int_kind)
    (choose (eqb id equals_id) (plain boolean_kind) (plain any_kind)))

-- Pair's
unfoldable pub pair_member : ℕ → Out
pair_member id =
    choose (one2 id first_id second_id) (plain any_kind)
    (choose (eqb id to_string_id) (plain string_kind) (fails unresolved_diag))

-- those of the classes List, ArrayList, MutableList, Array and Set, as names
unfoldable pub collection_member : ℕ → Out
collection_member id =
    choose (one2 id size_id count_id) (plain int_kind)
    (choose (eqb id is_empty_id) (plain boolean_kind)
    (choose (one4 id first_id last_id get_id get_at_id) (plain any_kind)
    (choose (one4 id set_id add_id push_id append_id) (plain unit_kind)
    (choose (eqb id contains_id) (plain boolean_kind)
    (choose (eqb id index_of_id) (plain int_kind) (fails unresolved_diag))))))

-- String's
unfoldable pub string_member : ℕ → Out
string_member id =
    choose (one2 id length_id size_id) (plain int_kind)
    (choose (one2 id is_empty_id is_not_empty_id) (plain boolean_kind)
    (choose (eqb id trim_id || one2 id lowercase_id uppercase_id) (plain string_kind) (fails unresolved_diag)))

-- a List's or an Array's, by its element type
unfoldable pub element_member : Ty → ℕ → Out
element_member t id =
    choose (one2 id size_id count_id) (plain int_kind)
    (choose (eqb id is_empty_id) (plain boolean_kind)
    (choose (one4 id first_id last_id get_id get_at_id) (clean t)
    (choose (eqb id set_id) (plain unit_kind) (fails unresolved_diag))))

-- a Map's
unfoldable pub map_member : ℕ → Out
map_member id = choose (eqb id size_id) (plain int_kind) (choose (eqb id keys_id) (clean (list_ty any_ty)) (fails unresolved_diag))

-- `lookup_var_ty`: a field, or else the list's first function
unfoldable pub first_function : List Overload → Option Ty
first_function [] = none
first_function (o ∷ os) = some (function_ty o.result)

unfoldable pub field_or : Option Ty → Option Ty → Option Ty
field_or (some t) f = some t
field_or none f = f

abbrev pub lookup_var : Symbols → ℕ → ℕ → Option Ty
lookup_var S owner id = field_or (S.field_of owner id) (first_function (S.functions_of owner id))

-- the members that the table gives a class: a field, else a function, else a variant (which has the enum's type). Any other name is unresolved where the class
-- is in `types`, and Error without a report where it is not.
unfoldable pub class_member : Symbols → ℕ → ℕ → Out
class_member S owner id =
    found (lookup_var S owner id)
    (choose (S.is_variant owner id) (clean (named_ty owner)) (choose (S.in_types owner) (fails unresolved_diag) (plain error_kind)))

-- a Named base's, by its name
unfoldable pub named_member : Symbols → ℕ → ℕ → Out
named_member S owner id =
    choose (is_variable_name S owner) (variable_member id)
    (choose (eqb owner pair_id) (pair_member id)
    (choose (leb list_id owner && leb owner set_class_id) (collection_member id) (class_member S owner id)))

-- it holds elements: a List or an Array
abbrev pub has_elements : Ty → Bool
has_elements t = is_kind list_kind t || is_array t

-- a base's, by its kind
unfoldable pub kind_member : Symbols → Ty → ℕ → Out
kind_member S base id =
    choose (is_kind named_kind base) (named_member S (name_of base) id)
    (choose (is_kind string_kind base) (string_member id)
    (choose (has_elements base) (element_member (inner_of base) id)
    (choose (is_kind map_kind base) (map_member id)
    (choose (is_kind any_kind base) (plain any_kind) (fails no_members_diag)))))

-- the access check of a member that has a visibility
unfoldable pub visibility_report : Symbols → Header → ℕ → Option ℕ → List Report
visibility_report S H owner none = []
visibility_report S H owner (some vis) = access_report S H vis owner

abbrev pub owner_report : Symbols → Header → ℕ → ℕ → List Report
owner_report S H owner id = visibility_report S H owner (S.visibility_of owner id)

unfoldable pub member_report : Symbols → Header → Ty → ℕ → List Report
member_report S H base id = choose (is_kind named_kind base) (owner_report S H (name_of base) id) []

-- nullable, and not because it is unknown
abbrev pub is_nullable_object : Ty → Bool
is_nullable_object t = is_nullable t && not (is_kind any_kind (non_null t) || is_kind error_kind (non_null t))

unfoldable pub base_member : Symbols → Header → Ty → ℕ → Out
base_member S H base id =
    choose (is_kind module_kind base) (plain any_kind) (reports_before (member_report S H base id) (kind_member S base id))

-- `check_member`: the member `id` of an object of the type t
unfoldable pub member_out : Symbols → Header → ℕ → Ty → Out
member_out S H id t = choose (is_nullable_object t) (fails nullable_member_diag) (base_member S H (non_null t) id)
