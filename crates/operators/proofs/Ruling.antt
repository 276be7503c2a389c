-- What the answers of the rules stand for: the type and the reports that the definitions give.
use Prim.Native.Nat.{ℕ}
use mathlib.Core.Bool.{Bool, true, false}
use mathlib.Core.List.{List, []}
use mathlib.Core.Path.{◌≡◌, refl, ◌∙◌}
use Rattle.std.specs.Prelude.{Option, None, Some, option_map}
use Rattle.area.specs.DiagnosticKind.{logical_diag}
use Rattle.area.specs.Source.{type_from}
use Rattle.area.specs.declared.Source.{Source}
use Rattle.operators.proofs.Each.{each}
use Rattle.operators.proofs.MethodLookups.{operator_placed}
use Rattle.operators.specs.Binary.{add_out, arithmetic_out, equality_out, order_out, logical_out, bitwise_out, operator_out, builtin_binary, binary_out}
use Rattle.operators.specs.Inside.BinaryRule.{add_ruled, arithmetic_ruled, equality_ruled, order_ruled, logical_ruled, bitwise_ruled, operator_ruled, builtin_ruled}
use Rattle.operators.specs.Inside.BinaryRule.{method_ruled, binary_ruled}
use Rattle.operators.specs.Inside.Looked.{source_ty}
use Rattle.operators.specs.Inside.MethodPlace.{operator_place}
use Rattle.operators.specs.Inside.Ruled.{reports_by, report_of, reports_of, out_of, one_out, fails_by, checked_by, BinaryRuled, UnaryRuled}
use Rattle.operators.specs.Inside.RuledParts.{diagnostic, report_unless, clean_one, plain_one, fails_one, checked_one, ruled_before, ruled_alone}
use Rattle.operators.specs.Inside.UnaryRule.{unary_one, unary_ruled}
use Rattle.operators.specs.Operand.{is_logical}
use Rattle.operators.specs.Out.{Out, clean, plain, unless, reports_before, found}
use Rattle.operators.specs.Unary.{unary_of, unary_out}
use Rattle.operators.specs.declared.ruled.Diagnostic.{Diagnostic}
use Rattle.operators.specs.declared.ruled.OneReport.{OneReport}
use Rattle.operators.specs.declared.ruled.Ruled.{Ruled}
use Rattle.record.specs.TableRefused.{table_fault}
use Rattle.symbol.specs.Lookup.{symbols_of}
use Rattle.symbol.specs.Symbols.{Symbols}
use Rattle.ty.specs.Bytes.{Ty}
use Rattle.ty.specs.Choose.{choose}

-- ---- diagnostics
pub reports_unless : (ok : Bool) (kind number : ℕ) → reports_of (report_unless ok kind number) ≡ choose ok [] (reports_by kind number)
unfolding report_unless reports_of
reports_unless ok kind number = each reports_of ok refl refl

-- a kind alone is reported with the number 0
unnumbered : (o : Option ℕ) → reports_of (option_map (λ kind. diagnostic kind 0) o) ≡ report_of o
unfolding reports_of report_of
unnumbered None = refl
unnumbered (Some kind) = refl

module _ (table : List ℕ) (x y : Ty) where
  -- ---- answers with at most one report
  pub clean-gives : (source : Source) → one_out table x y (clean_one source) ≡ clean (type_from table x y source)
  unfolding one_out clean_one report_of
  clean-gives source = refl

  pub plain-gives : (kind : ℕ) → one_out table x y (plain_one kind) ≡ plain kind
  unfolding one_out plain_one clean_one report_of type_from
  plain-gives kind = refl

  pub fails-gives : (kind : ℕ) → one_out table x y (fails_one kind) ≡ fails_by kind
  unfolding one_out fails_one report_of type_from
  fails-gives kind = refl

  pub checked-gives : (ok : Bool) (source : Source) (kind : ℕ)
      → one_out table x y (checked_one ok source kind) ≡ checked_by ok (type_from table x y source) kind
  unfolding one_out checked_one clean_one report_of choose
  checked-gives true source kind = refl
  checked-gives false source kind = refl

  -- ---- whole answers
  pub before-gives : (first : Option Diagnostic) (rest : OneReport)
      → out_of table x y (ruled_before first rest) ≡ reports_before (reports_of first) (one_out table x y rest)
  unfolding out_of one_out ruled_before
  before-gives first rest = rw (unnumbered rest.kind)

  pub alone_gives : (rest : OneReport) → out_of table x y (ruled_alone rest) ≡ one_out table x y rest
  unfolding ruled_alone reports_of
  alone_gives rest = before-gives None rest

  -- ---- the built-in binary operators
  abbrev one : OneReport → Out
  one s = one_out table x y s

  pub add_gives : (l r : Ty) → one_out table x y (add_ruled l r) ≡ add_out l r
  unfolding add_ruled add_out report_of reports_by
  add_gives l r =
      each one _ (plain-gives _) (each one _ (each one _ (plain-gives _) (plain-gives _)) (each one _ (plain-gives _) (fails-gives _)))

  pub arithmetic_gives : (l r : Ty) → one_out table x y (arithmetic_ruled l r) ≡ arithmetic_out l r
  unfolding arithmetic_ruled arithmetic_out report_of reports_by
  arithmetic_gives l r = each one _ (each one _ (plain-gives _) (each one _ (plain-gives _) (plain-gives _))) (fails-gives _)

  pub equality_gives : (S : Symbols) (l r : Ty) → one_out table x y (equality_ruled S l r) ≡ equality_out S l r
  unfolding equality_ruled report_of reports_by type_from unless
  equality_gives S l r = checked-gives _ _ _

  pub order_gives : (l r : Ty) → one_out table x y (order_ruled l r) ≡ order_out l r
  unfolding order_ruled report_of reports_by type_from unless
  order_gives l r = checked-gives _ _ _

  pub logical_gives : (l r : Ty) → out_of table x y (logical_ruled l r) ≡ logical_out l r
  unfolding logical_ruled out_of reports_of reports_by type_from unless
  logical_gives l r = rw (reports_unless (is_logical l) logical_diag 1, reports_unless (is_logical r) logical_diag 2)

module _ (table : List ℕ) (l r : Ty) where
  pub bitwise_gives : one_out table l r (bitwise_ruled l r) ≡ bitwise_out l r
  unfolding bitwise_ruled report_of reports_by type_from unless
  bitwise_gives = checked-gives table l r _ _ _

  abbrev whole : Ruled → Out
  whole a = out_of table l r a

  pub operator_gives : (S : Symbols) (op : ℕ) → out_of table l r (operator_ruled S op l r) ≡ operator_out S op l r
  unfolding operator_ruled operator_out type_from
  operator_gives S op =
      each whole _ (alone_gives _ _ _ _ ∙ add_gives _ _ _ _ _)
      (each whole _ (alone_gives _ _ _ _ ∙ arithmetic_gives _ _ _ _ _)
      (each whole _ (alone_gives _ _ _ _ ∙ equality_gives _ _ _ S _ _)
      (each whole _ (alone_gives _ _ _ _ ∙ order_gives _ _ _ _ _)
      (each whole _ (logical_gives _ _ _ _ _)
      (each whole _ (alone_gives _ _ _ _ ∙ bitwise_gives)
      (each whole _ (alone_gives _ _ _ _ ∙ clean-gives _ _ _ _)
      (each whole _ (alone_gives _ _ _ _ ∙ clean-gives _ _ _ _)
      (each whole _ (alone_gives _ _ _ _ ∙ plain-gives _ _ _ _) (alone_gives _ _ _ _ ∙ clean-gives _ _ _ _)))))))))

  pub builtin_gives : (S : Symbols) (op : ℕ) → out_of table l r (builtin_ruled S op l r) ≡ builtin_binary S op l r
  unfolding builtin_ruled builtin_binary report_of reports_by
  builtin_gives S op = each whole _ (alone_gives _ _ _ _ ∙ fails-gives _ _ _ _) (operator_gives S op)

  -- ---- an operator method, or else another answer
  method-gives : (m : Option Source) (a : Ruled) → out_of table l r (method_ruled m a) ≡ found (source_ty table l r m) (out_of table l r a)
  unfolding method_ruled found
  method-gives None a = refl
  method-gives (Some s) a = alone_gives _ _ _ _ ∙ clean-gives _ _ _ _

-- A BINARY NODE'S ANSWER is what the definition gives
pub binary-gives : (table : List ℕ) → table_fault table ≡ 0 → (op : ℕ) (l r : Ty) → BinaryRuled table op l r (binary_ruled table op l r)
unfolding binary_ruled binary_out
binary-gives table clean op l r =
    each (out_of table l r) _ (alone_gives _ _ _ _ ∙ plain-gives _ _ _ _)
    (method-gives table l r (operator_place table op l) _ ∙ (λ i. found (operator_placed table clean l r op l i) (builtin_gives table l r (symbols_of table) op i)))

pub binary_is : (table : List ℕ) → table_fault table ≡ 0 → (op : ℕ) (l r : Ty) (a : Ruled) → a ≡ binary_ruled table op l r → BinaryRuled table op l r a
binary_is table clean op l r a e = rw e (binary-gives table clean op l r)

-- ---- a unary node
one-unary : (table : List ℕ) (t y : Ty) (op : ℕ) → one_out table t y (unary_one op t) ≡ unary_out op t
unfolding unary_one unary_out unary_of report_of reports_by type_from unless
one-unary table t y op =
    let one : OneReport → Out = one_out table t y in
    each one _ (fails-gives _ _ _ _)
    (each one _ (checked-gives _ _ _ _ _ _)
    (each one _ (checked-gives _ _ _ _ _ _)
    (each one _ (checked-gives _ _ _ _ _ _)
    (each one _ (clean-gives _ _ _ _)
    (each one _ (each one _ (clean-gives _ _ _ _) (fails-gives _ _ _ _)) (fails-gives _ _ _ _))))))

-- A UNARY NODE'S ANSWER is what the definition gives
pub unary-gives : (op : ℕ) (t : Ty) → UnaryRuled op t (unary_ruled op t)
unary-gives op t table y = alone_gives table t y (unary_one op t) ∙ one-unary table t y op

pub unary_is : (op : ℕ) (t : Ty) (a : Ruled) → a ≡ unary_ruled op t → UnaryRuled op t a
unary_is op t a e = λ table y. rw e (unary-gives op t table y)
