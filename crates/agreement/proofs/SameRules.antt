-- The rules give the same where the lookups that they make are equal, and where function lists begin alike.
use Prim.Native.Nat.{ℕ, zero, suc}
use borrow.Author.Tests.{leb-true}
use lib.Dec.{eqb, leb}
use mathlib.Core.Bool.{Bool, true, false, not, ◌&&◌, ◌||◌}
use mathlib.Core.List.{List, [], ◌∷◌, ◌++◌}
use mathlib.Core.Option.{Option, none, some}
use mathlib.Core.Path.{◌≡◌, refl, ap}
use Rattle.agreement.proofs.SameResolved.{same_assigns, same_variable}
use Rattle.agreement.specs.Agree.{SameById}
use Rattle.agreement.specs.Asks.{AsksOperators}
use Rattle.agreement.specs.Inside.AlikeLookups.{AlikeLookups, SameFirst}
use Rattle.area.specs.DiagnosticKind.{access_diag, no_members_diag, nullable_member_diag, nullable_operands_diag, suspend_diag, unrelated_diag, unresolved_diag}
use Rattle.operators.specs.Binary.{add_out, arithmetic_out, binary_out, bitwise_out, builtin_binary, logical_out, operator_out, order_out, takes_nullable}
use Rattle.operators.specs.Made.{function_ty, named_ty}
use Rattle.operators.specs.Operand.{char_string, either, is_kind}
use Rattle.operators.specs.Operator.{add_op, assign_op, ge_op, is_op, mod_op, ne_op, or_op, to_op, ushr_op}
use Rattle.operators.specs.OperatorMethod.{at_class, climb, first_result, has_operator, method_id, operator_return}
use Rattle.operators.specs.Out.{checked, clean, fails, found, plain, report, reports_before, unless}
use Rattle.overload.specs.Before.{method_reports, suspend_report}
use Rattle.question.specs.declared.Header.{Header}
use Rattle.rules.specs.Access.{access_report, blocked, other_package}
use Rattle.rules.specs.Member.{base_member, class_member, collection_member, element_member, field_or, first_function, has_elements, is_nullable_object}
use Rattle.rules.specs.Member.{kind_member, lookup_var, map_member, member_out, member_report, named_member, pair_member, string_member, variable_member}
use Rattle.rules.specs.Member.{visibility_report}
use Rattle.symbol.specs.Subclass.{climbs, is_subclass}
use Rattle.symbol.specs.Symbols.{Overload, Symbols}
use Rattle.symbol.specs.Visibility.{private_vis, protected_vis, public_vis}
use Rattle.ty.specs.Bytes.{Ty, inner_of, name_of, non_null, plain_ty}
use Rattle.ty.specs.Choose.{choose}
use Rattle.ty.specs.Kind.{any_kind, boolean_kind, error_kind, map_kind, module_kind, named_kind, nullable_kind, string_kind}
use Rattle.ty.specs.Name.{list_id, no_id, pair_id, set_class_id}

-- ---- a list's first function
pub same_first : (os : List Overload) → SameFirst os os
unfolding SameFirst
same_first [] = tt
same_first (o ∷ os) = refl

same_result : (os ps : List Overload) → SameFirst os ps → first_result os ≡ first_result ps
unfolding SameFirst first_result
same_result [] [] h = refl
same_result [] (p ∷ ps) h = absurd h
same_result (o ∷ os) [] h = absurd h
same_result (o ∷ os) (p ∷ ps) h = ap (λ (v : Overload). v.result) h

same_function : (os ps : List Overload) → SameFirst os ps → first_function os ≡ first_function ps
unfolding SameFirst first_function
same_function [] [] h = refl
same_function [] (p ∷ ps) h = absurd h
same_function (o ∷ os) [] h = absurd h
same_function (o ∷ os) (p ∷ ps) h = ap (λ (v : Overload). some (function_ty v.result)) h

-- ---- access
module _ (S T : Symbols) (N : SameById S T) (H : Header) where
  same_subclass : (class above : ℕ) → is_subclass S class above ≡ is_subclass T class above
  unfolding is_subclass
  same_subclass class above = λ i. climbs (λ c. N.super_of c i) (N.classes i) class above

  same_blocked : (vis owner : ℕ) → blocked S H vis owner ≡ blocked T H vis owner
  unfolding blocked
  same_blocked vis owner = λ i.
      choose (eqb owner no_id) false
      (choose (eqb vis public_vis) false
      (choose (eqb vis private_vis) (not (eqb H.current owner))
      (choose (eqb vis protected_vis) (not (eqb H.current owner || same_subclass H.current owner i))
      (other_package H.pkg (N.package_of owner i)))))

  same_access : (vis owner : ℕ) → access_report S H vis owner ≡ access_report T H vis owner
  unfolding access_report
  same_access vis owner = λ i. choose (same_blocked vis owner i) (report access_diag vis ∷ []) []

module _ (asked : ℕ → Bool) (S T : Symbols) (L : AlikeLookups asked S T) (H : Header) where
  -- ---- operator methods
  module _ (op : ℕ) (known : asked (method_id op) ≡ true) where
    same_at : (c : ℕ) (mask : Option ℕ) (up : Option Ty) → at_class S op c mask up ≡ at_class T op c mask up
    unfolding at_class
    same_at c none up = refl
    same_at c (some mask) up = λ i.
        choose (has_operator mask op)
        (some (same_result (S.functions_of c (method_id op)) (T.functions_of c (method_id op)) (L.firsts c (method_id op) known) i))
        up

    same_climb : (f c : ℕ) → climb S f op c ≡ climb T f op c
    unfolding climb
    same_climb zero c = refl
    same_climb (suc f) c = λ i. choose (eqb c no_id) none (same_at c (L.by_id.operators_of c i) (same_climb f (L.by_id.super_of c i) i) i)

  same_operator : AsksOperators asked → (op : ℕ) (t : Ty) → operator_return S op t ≡ operator_return T op t
  unfolding operator_return choose
  same_operator a op t = go (leb op ge_op) refl
    where
      go : (b : Bool) → leb op ge_op ≡ b
          → choose (b && is_kind named_kind t) (climb S (suc S.classes) op (name_of t)) none
          ≡ choose (b && is_kind named_kind t) (climb T (suc T.classes) op (name_of t)) none
      go true e =
          let k : asked (method_id op) ≡ true = a op (leb-true op ge_op e) in
          λ i. choose (true && is_kind named_kind t) (same_climb op k (suc (L.by_id.classes i)) (name_of t) i) none
      go false e = refl

  same_operator_out : (op : ℕ) (l r : Ty) → operator_out S op l r ≡ operator_out T op l r
  unfolding operator_out
  same_operator_out op l r = λ i.
      let related = same_assigns S T L.by_id l r i || same_assigns S T L.by_id r l i in
      choose (eqb op add_op) (add_out l r)
      (choose (leb op mod_op) (arithmetic_out l r)
      (choose (leb op ne_op) (checked (related || (either any_kind l r || char_string l r)) (plain_ty boolean_kind) unrelated_diag)
      (choose (leb op ge_op) (order_out l r)
      (choose (leb op or_op) (logical_out l r)
      (choose (leb op ushr_op) (bitwise_out l r)
      (choose (eqb op assign_op) (clean r)
      (choose (eqb op to_op) (clean (named_ty pair_id))
      (choose (eqb op is_op) (plain boolean_kind) (clean r)))))))))

  same_builtin : (op : ℕ) (l r : Ty) → builtin_binary S op l r ≡ builtin_binary T op l r
  unfolding builtin_binary
  same_builtin op l r = λ i.
      choose (not (takes_nullable op) && either nullable_kind l r) (fails nullable_operands_diag) (same_operator_out op l r i)

  pub same_binary : AsksOperators asked → (op : ℕ) (l r : Ty) → binary_out S op l r ≡ binary_out T op l r
  unfolding binary_out
  same_binary a op l r = λ i. choose (either error_kind l r) (plain error_kind) (found (same_operator a op l i) (same_builtin op l r i))

  -- ---- members
  module _ (id : ℕ) (known : asked id ≡ true) where
    same_lookup : (owner : ℕ) → lookup_var S owner id ≡ lookup_var T owner id
    same_lookup owner = λ i.
        field_or (L.members.field_of owner id known i)
        (same_function (S.functions_of owner id) (T.functions_of owner id) (L.firsts owner id known) i)

    same_class : (owner : ℕ) → class_member S owner id ≡ class_member T owner id
    unfolding class_member
    same_class owner = λ i.
        found (same_lookup owner i)
        (choose (L.members.is_variant owner id known i) (clean (named_ty owner))
        (choose (L.by_id.in_types owner i) (fails unresolved_diag) (plain error_kind)))

    same_named : (owner : ℕ) → named_member S owner id ≡ named_member T owner id
    unfolding named_member
    same_named owner = λ i.
        choose (same_variable S T L.by_id owner i) (variable_member id)
        (choose (eqb owner pair_id) (pair_member id)
        (choose (leb list_id owner && leb owner set_class_id) (collection_member id) (same_class owner i)))

    same_kind : (base : Ty) → kind_member S base id ≡ kind_member T base id
    unfolding kind_member
    same_kind base = λ i.
        choose (is_kind named_kind base) (same_named (name_of base) i)
        (choose (is_kind string_kind base) (string_member id)
        (choose (has_elements base) (element_member (inner_of base) id)
        (choose (is_kind map_kind base) (map_member id)
        (choose (is_kind any_kind base) (plain any_kind) (fails no_members_diag)))))

    same_visibility : (owner : ℕ) (vis : Option ℕ) → visibility_report S H owner vis ≡ visibility_report T H owner vis
    unfolding visibility_report
    same_visibility owner none = refl
    same_visibility owner (some vis) = same_access S T L.by_id H vis owner

    same_member_report : (base : Ty) → member_report S H base id ≡ member_report T H base id
    unfolding member_report
    same_member_report base = λ i.
        choose (is_kind named_kind base) (same_visibility (name_of base) (L.members.visibility_of (name_of base) id known i) i) []

    same_base : (base : Ty) → base_member S H base id ≡ base_member T H base id
    unfolding base_member
    same_base base = λ i. choose (is_kind module_kind base) (plain any_kind) (reports_before (same_member_report base i) (same_kind base i))

    pub same_member : (t : Ty) → member_out S H id t ≡ member_out T H id t
    unfolding member_out
    same_member t = λ i. choose (is_nullable_object t) (fails nullable_member_diag) (same_base (non_null t) i)

    -- ---- what is reported before a call's arguments
    pub same_suspend : (owner : ℕ) → suspend_report S H owner id ≡ suspend_report T H owner id
    unfolding suspend_report
    same_suspend owner = λ i. unless (H.suspend || not (L.members.is_suspend owner id known i)) (report suspend_diag 0)

    pub same_method_reports : (vis owner : ℕ) → method_reports S H vis owner id ≡ method_reports T H vis owner id
    same_method_reports vis owner = λ i. same_access S T L.by_id H vis owner i ++ same_suspend owner i
