-- What the answers of access checks and member nodes stand for: the type and the reports that the definitions give.
use Prim.Native.Nat.{ℕ}
use mathlib.Core.List.{List}
use mathlib.Core.Option as maybe
use Rattle.std.specs.Prelude.{Option, None, Some}
use mathlib.Core.Path.{◌≡◌, refl, ap, ◌∙◌}
use Rattle.area.specs.Source.{type_from}
use Rattle.area.specs.declared.Source.TheVariants.{Name}
use Rattle.area.specs.declared.Source.{Source}
use Rattle.operators.proofs.Each.{each, each_by}
use Rattle.operators.proofs.Ruling.{clean-gives, plain-gives, fails-gives, alone_gives, before-gives}
use Rattle.area.specs.DiagnosticKind.{unresolved_diag}
use Rattle.operators.specs.Inside.Ruled.{reports_by, report_of, reports_of, one_out, out_of}
use Rattle.operators.specs.Inside.RuledParts.{plain_one, fails_one}
use Rattle.operators.specs.Inside.Looked.{source_ty}
use Rattle.operators.specs.Out.{Out, plain, fails, found, reports_before}
use Rattle.operators.specs.declared.ruled.OneReport.{OneReport}
use Rattle.operators.specs.declared.ruled.Ruled.{Ruled}
use Rattle.question.specs.declared.Header.{Header}
use Rattle.record.specs.TableRefused.{table_fault}
use Rattle.rules.proofs.Bases.{same_base}
use Rattle.rules.proofs.MemberLookups.{variable_placed}
use Rattle.rules.specs.Access.{access_report}
use Rattle.rules.specs.Inside.AccessRule.{access_ruled, visibility_ruled, base_ruled}
use Rattle.rules.specs.Inside.MemberRule.{variable_or, class_ruled, named_ruled, kind_ruled, member_ruled}
use Rattle.rules.specs.Inside.MemberRule.{variable_ruled, pair_ruled, collection_ruled, string_ruled, element_ruled, map_ruled}
use Rattle.rules.specs.Inside.MemberRuled.{HoldsSame, MemberRuled}
use Rattle.rules.specs.Inside.Variable.{variable_place}
use Rattle.rules.specs.Member.{class_member, named_member, kind_member, base_member, member_out}
use Rattle.rules.specs.Member.{variable_member, pair_member, collection_member, string_member, element_member, map_member, visibility_report, member_report}
use Rattle.symbol.specs.Lookup.{symbols_of}
use Rattle.symbol.specs.Symbols.{Symbols}
use Rattle.ty.specs.Bytes.{Ty, inner_of, non_null}
use Rattle.ty.specs.Kind.{error_kind}

-- ---- access
module _ (S : Symbols) (H : Header) where
  pub access_gives : (vis owner : ℕ) → reports_of (access_ruled S H vis owner) ≡ access_report S H vis owner
  unfolding access_ruled access_report reports_of reports_by
  access_gives vis owner = each reports_of _ refl refl

  pub visibility_gives : (owner : ℕ) (F : maybe.Option ℕ) → reports_of (visibility_ruled S H owner F) ≡ visibility_report S H owner F
  unfolding visibility_ruled visibility_report reports_of
  visibility_gives owner maybe.none = refl
  visibility_gives owner (maybe.some vis) = access_gives vis owner

  pub base_gives : (base : Ty) (id : ℕ) → reports_of (base_ruled S H base id) ≡ member_report S H base id
  unfolding base_ruled member_report reports_of reports_by
  base_gives base id = each reports_of _ (visibility_gives _ _) refl

-- ---- members that need no table
module _ (table : List ℕ) (x y : Ty) where
  abbrev one : OneReport → Out
  one s = one_out table x y s

  p : (kind : ℕ) → one_out table x y (plain_one kind) ≡ plain kind
  p kind = plain-gives table x y kind

  pub variable_gives : (id : ℕ) → one_out table x y (variable_ruled id) ≡ variable_member id
  unfolding variable_ruled variable_member
  variable_gives id = each one _ (p _) (each one _ (p _) (each one _ (p _) (p _)))

  unresolved : one_out table x y (fails_one unresolved_diag) ≡ fails unresolved_diag
  unfolding report_of reports_by
  unresolved = fails-gives table x y unresolved_diag

  pub pair_gives : (id : ℕ) → one_out table x y (pair_ruled id) ≡ pair_member id
  unfolding pair_ruled pair_member
  pair_gives id = each one _ (p _) (each one _ (p _) unresolved)

  pub collection_gives : (id : ℕ) → one_out table x y (collection_ruled id) ≡ collection_member id
  unfolding collection_ruled collection_member
  collection_gives id =
      each one _ (p _) (each one _ (p _) (each one _ (p _) (each one _ (p _) (each one _ (p _) (each one _ (p _) unresolved)))))

  pub string-gives : (id : ℕ) → one_out table x y (string_ruled id) ≡ string_member id
  unfolding string_ruled string_member
  string-gives id = each one _ (p _) (each one _ (p _) (each one _ (p _) unresolved))

  pub element_gives : (id : ℕ) → one_out table x y (element_ruled id) ≡ element_member (inner_of x) id
  unfolding element_ruled element_member type_from
  element_gives id = each one _ (p _) (each one _ (p _) (each one _ (clean-gives table x y _) (each one _ (p _) unresolved)))

  pub map_gives : (id : ℕ) → one_out table x y (map_ruled id) ≡ map_member id
  unfolding map_ruled map_member type_from
  map_gives id = each one _ (p _) (each one _ (clean-gives table x y _) unresolved)

-- ---- members of a base
pub variable_or_lem : (table : List ℕ) (x y : Ty) (v : Option Source) (s : OneReport)
    → one_out table x y (variable_or v s) ≡ found (source_ty table x y v) (one_out table x y s)
unfolding variable_or found
variable_or_lem table x y None s = refl
variable_or_lem table x y (Some source) s = clean-gives table x y _

module _ (table : List ℕ) (clean : table_fault table ≡ 0) where
  abbrev S : Symbols
  S = symbols_of table

  module _ (x y : Ty) where
    abbrev gives : OneReport → Out
    gives s = one_out table x y s

    class-gives : (owner id : ℕ) → one_out table x y (class_ruled table owner id) ≡ class_member S owner id
    unfolding class_ruled class_member type_from
    class-gives owner id =
        variable_or_lem table x y (variable_place table owner id) _
        ∙ (λ i. found (variable_placed table x y clean owner id i)
        (each gives (S.is_variant owner id) (clean-gives table x y (Name owner)) (each gives (S.in_types owner) (unresolved table x y) (plain-gives table x y error_kind)) i))

    named-gives : (owner id : ℕ) → one_out table x y (named_ruled table owner id) ≡ named_member S owner id
    unfolding named_ruled named_member
    named-gives owner id =
        each gives _ (variable_gives table x y _)
        (each gives _ (pair_gives table x y _) (each gives _ (collection_gives table x y _) (class-gives owner id)))

    kind_gives : (base : Ty) (id : ℕ) → HoldsSame x base → one_out table x y (kind_ruled table base id) ≡ kind_member S base id
    unfolding kind_ruled kind_member report_of reports_by
    kind_gives base id h =
        each gives _ (named-gives _ _)
        (each gives _ (string-gives table x y _)
        (each_by gives _ (λ e. element_gives table x y id ∙ ap (λ (t : Ty). element_member t id) (h e)) λ _.
        (each gives _ (map_gives table x y _) (each gives _ (plain-gives table x y _) (fails-gives table x y _)))))

  -- A MEMBER NODE'S ANSWER is what the definition gives
  pub member_gives : (H : Header) (id : ℕ) (t : Ty) → MemberRuled table H id t (member_ruled table H id t)
  unfolding member_ruled member_out base_member report_of reports_by
  member_gives H id t y =
      let whole : Ruled → Out = out_of table t y in
      each_by whole _ (λ _. alone_gives table t y _ ∙ fails-gives table t y _) λ e.
      each whole _ (alone_gives table t y _ ∙ plain-gives table t y _)
      (before-gives table t y _ _ ∙ (λ i. reports_before (base_gives S H (non_null t) id i) (kind_gives t y (non_null t) id (same_base t e) i)))

  pub member_is : (H : Header) (id : ℕ) (t : Ty) (a : Ruled) → a ≡ member_ruled table H id t → MemberRuled table H id t a
  member_is H id t a e = λ y. rw e (member_gives H id t y)
