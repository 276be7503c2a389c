-- Calls are judged silently exactly where their clean rule holds.
use Prim.Native.Nat.{ℕ}
use mathlib.Core.Bool.{Bool, true, false, ◌||◌, not, true≢false}
use mathlib.Core.List.{List, [], ◌∷◌, ◌++◌, nil≢cons}
use mathlib.Core.Logic.{◌⊎◌, inl, inr, ◌≢◌, ◌↔◌}
use mathlib.Core.Option.{Option, none, some}
use mathlib.Core.Path.{◌≡◌, refl, ap, sym, ◌∙◌}
use Rattle.scoring.proofs.NoneAndNil.{append_nil_left, append_nil_right, append_nils, some≢none}
use Rattle.scoring.specs.Arg.{Arg, Verdict, silent}
use Rattle.scoring.specs.Arity.{any_own, fitting, usable}
use Rattle.overload.specs.Before.{suspend_report}
use Rattle.overload.specs.Resolve.{none_fits, resolve, resolve_in}
use Rattle.question.specs.declared.Header.{Header}
use Rattle.rules.specs.Access.{access_report, blocked}
use Rattle.area.specs.DiagnosticKind.{access_diag, suspend_diag}
use Rattle.operators.specs.Out.{Report, error_ty, report, unless}
use Rattle.symbol.specs.Symbols.{Overload, Symbols}
use Rattle.ty.specs.Bytes.{Ty}
use Rattle.ty.specs.Choose.{choose}
use Rattle.ty.specs.Name.{no_id}
use Rattle.typing.proofs.Base.{some_inj}
use Rattle.typing.proofs.Resolve.{law}
use Rattle.typing.specs.Callee.{Callee, base_name, call_in, call_of, method_by, method_in, method_of}
use Rattle.typing.specs.CleanCall.{CleanArgs, CleanCall, CleanMethod, HasList, SuspendAllowed}

-- a list is found, nothing is reported before the arguments are visited, and the rest is silent too
pub record Silent (S : Symbols) (n : ℕ) (found : Option Callee) (xs : List Arg) (T : Ty) : Type 0 where
  pub callee : Callee
  pub list : found ≡ some callee
  pub allowed : callee.before ≡ []
  pub rule : resolve S callee.overloads n xs ≡ silent T

module _ (S : Symbols) (H : Header) where
  allowed_silent : (owner : ℕ) (id : ℕ) → SuspendAllowed S H owner id → suspend_report S H owner id ≡ []
  unfolding suspend_report unless choose
  allowed_silent owner id (inl p) = rw p
  allowed_silent owner id (inr p) = go H.suspend (S.is_suspend owner id) p
    where
      go : (a b : Bool) → b ≡ false → unless (a || not b) (report suspend_diag 0) ≡ []
      go true b q = refl
      go false false q = refl
      go false true q = absurd (true≢false q)

  silent_allowed : (owner : ℕ) (id : ℕ) → suspend_report S H owner id ≡ [] → SuspendAllowed S H owner id
  unfolding suspend_report unless choose
  silent_allowed owner id e = go H.suspend (S.is_suspend owner id) e
    where
      go : (a b : Bool) → unless (a || not b) (report suspend_diag 0) ≡ [] → (a ≡ true) ⊎ (b ≡ false)
      go true b q = inl refl
      go false false q = inr refl
      go false true q = absurd (nil≢cons (sym q))

  open_silent : (vis owner : ℕ) → blocked S H vis owner ≡ false → access_report S H vis owner ≡ []
  unfolding access_report choose
  open_silent vis owner p = rw p

  silent_open : (vis owner : ℕ) → access_report S H vis owner ≡ [] → blocked S H vis owner ≡ false
  unfolding access_report choose
  silent_open vis owner e = go (blocked S H vis owner) e
    where
      go : (b : Bool) → choose b (report access_diag vis ∷ []) [] ≡ [] → b ≡ false
      go true q = absurd (nil≢cons (sym q))
      go false q = refl

  -- an empty list has no clean rule
  no_clean : (xs : List Arg) (T : Ty) → T ≢ error_ty → CleanArgs S [] xs T → ⊥
  unfolding resolve resolve_in none_fits fitting usable any_own choose
  no_clean xs T h c = h (ap (λ (v : Verdict). v.ty) (sym ((law S [] 0 xs T h).0 c)))

  plain_to : (n : ℕ) (rs : List Report) (os : List Overload) (xs : List Arg) (T : Ty) → T ≢ error_ty → rs ≡ []
      → CleanArgs S os xs T → Silent S n (call_in rs os) xs T
  unfolding call_in
  plain_to n rs [] xs T h p c = absurd (no_clean xs T h c)
  plain_to n rs (o ∷ os) xs T h p c = record { callee = record { before = rs; overloads = o ∷ os }; list = refl; allowed = p; rule = (law S (o ∷ os) n xs T h).0 c }

  plain-from : (n : ℕ) (rs : List Report) (os : List Overload) (xs : List Arg) (T : Ty) → T ≢ error_ty
      → Silent S n (call_in rs os) xs T → (rs ≡ []) × CleanArgs S os xs T
  unfolding call_in
  plain-from n rs [] xs T h s = absurd (some≢none (sym s.list))
  plain-from n rs (o ∷ os) xs T h s =
      let p = some_inj s.list in
      let b : rs ≡ [] = ap (λ (c : Callee). c.before) p ∙ s.allowed in
      let q : o ∷ os ≡ s.callee.overloads = ap (λ (c : Callee). c.overloads) p in
      (b, (law S (o ∷ os) n xs T h).1 (rw q s.rule))

  -- what is found for a method call
  record Found (id : ℕ) (t : Ty) (c : Callee) : Type 0 where
    has : HasList S id t
    before : c.before ≡ access_report S H has.first.visibility has.owner ++ suspend_report S H has.owner id
    overloads : c.overloads ≡ S.functions_of has.owner id

  found : (id : ℕ) (t : Ty) (c : Callee) → method_of S H id t ≡ some c → Found id t c
  unfolding method_by method_in
  found id t c e = go (base_name t) refl e
    where
      go : (b : Option ℕ) → base_name t ≡ b → method_by S H id b ≡ some c → Found id t c
      go none p q = absurd (some≢none (sym q))
      go (some owner) p q = under (S.functions_of owner id) refl q
        where
          under : (os : List Overload) → S.functions_of owner id ≡ os → method_in S H owner id os ≡ some c → Found id t c
          under [] r z = absurd (some≢none (sym z))
          under (o ∷ os) r z =
              let y = some_inj z in
              record {
                has = record { owner = owner; is_named = p; first = o; others = os; list = r };
                before = ap (λ (k : Callee). k.before) (sym y);
                overloads = ap (λ (k : Callee). k.overloads) (sym y) ∙ sym r;
              }

  finds : (id : ℕ) (t : Ty) (f : HasList S id t)
      → method_of S H id t ≡ some (record { before = access_report S H f.first.visibility f.owner ++ suspend_report S H f.owner id; overloads = f.first ∷ f.others })
  unfolding method_by method_in
  finds id t f = ap (method_by S H id) f.is_named ∙ ap (method_in S H f.owner id) f.list

  method_to : (id n : ℕ) (t : Ty) (xs : List Arg) (T : Ty) → T ≢ error_ty → CleanMethod S H id t xs T → Silent S n (method_of S H id t) xs T
  method_to id n t xs T h c =
      let f = c.found in
      record {
        callee = _;
        list = finds id t f;
        allowed = append_nils (open_silent f.first.visibility f.owner c.access) (allowed_silent f.owner id c.allowed);
        rule = (law S (f.first ∷ f.others) n xs T h).0 (rw f.list at c.rule);
      }

  method-from : (id n : ℕ) (t : Ty) (xs : List Arg) (T : Ty) → T ≢ error_ty → Silent S n (method_of S H id t) xs T → CleanMethod S H id t xs T
  method-from id n t xs T h s =
      let f = found id t s.callee s.list in
      let b : access_report S H f.has.first.visibility f.has.owner ++ suspend_report S H f.has.owner id ≡ [] = sym f.before ∙ s.allowed in
      let r : resolve S s.callee.overloads n xs ≡ silent T = s.rule in
      record {
        found = f.has;
        access = silent_open f.has.first.visibility f.has.owner (append_nil_left _ _ b);
        allowed = silent_allowed f.has.owner id (append_nil_right (access_report S H f.has.first.visibility f.has.owner) _ b);
        rule = (law S (S.functions_of f.has.owner id) n xs T h).1 (rw f.overloads at r);
      }

  pub call_law : (id n : ℕ) (xs : List Arg) (T : Ty) → T ≢ error_ty → CleanCall S H id xs T ↔ Silent S n (call_of S H id) xs T
  call_law id n xs T h = (
    λ c. plain_to n (suspend_report S H no_id id) (S.functions_of no_id id) xs T h (allowed_silent no_id id c.allowed) c.rule,
    λ s. let (p, c) = plain-from n (suspend_report S H no_id id) (S.functions_of no_id id) xs T h s in record { allowed = silent_allowed no_id id p; rule = c },
  )

  pub list_law : (id : ℕ) (t : Ty) → HasList S id t ↔ ((c : Callee) × (method_of S H id t ≡ some c))
  list_law id t = (λ f. (_, finds id t f), λ (c, e). (found id t c e).has)

  pub method_law : (id n : ℕ) (t : Ty) (xs : List Arg) (T : Ty) → T ≢ error_ty → CleanMethod S H id t xs T ↔ Silent S n (method_of S H id t) xs T
  method_law id n t xs T h = (method_to id n t xs T h, method-from id n t xs T h)
