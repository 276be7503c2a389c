-- How long a rule's type is, where the table's types have at most 192 bytes.
use Prim.Native.Nat.{ℕ, zero, suc, ◌+◌, ◌≤◌}
use lib.Dec.{eqb, leb, ltb}
use lib.ListN.{length}
use mathlib.Core.Bool.{Bool, true, false, ◌&&◌}
use mathlib.Core.List.Memᴰ
use mathlib.Core.List.{List, [], ◌∷◌, Memᴰ}
use mathlib.Core.Logic.{◌⊎◌, inl, inr}
use mathlib.Core.Option.{Option, none, some}
use mathlib.Core.Path.{◌≡◌, refl, ap, sym}
use native.Mathlib.Omega.{arith}
use Rattle.scoring.proofs.NoneAndNil.{some≢none}
use Rattle.scoring.specs.Arg.{Arg}
use Rattle.scoring.specs.Arity.{any_own, own, usable, fits, fitting}
use Rattle.overload.specs.Best.{Best, nobody, best, better, chosen}
use Rattle.overload.specs.Resolve.{none_fits, settle, resolve_in, resolve}
use Rattle.scoring.specs.Score.{score}
use Rattle.question.specs.declared.Header.{Header}
use Rattle.operators.specs.Binary.{add_out, arithmetic_out, operator_out, builtin_binary, binary_out}
use Rattle.rules.specs.Member.{variable_member, pair_member, collection_member, string_member, element_member, map_member, first_function, field_or, lookup_var, class_member, named_member, kind_member, base_member, member_out}
use Rattle.operators.specs.Operator.{ge_op}
use Rattle.operators.specs.OperatorMethod.{method_id, has_operator, first_result, at_class, climb, operator_return}
use Rattle.operators.specs.Out.{Report, Out, clean, plain, fails, checked, found}
use Rattle.operators.specs.Unary.{unary_of, unary_out}
use Rattle.symbol.specs.Symbols.{Overload, Symbols}
use Rattle.ty.proofs.Held.{inner_length, non_null-length}
use Rattle.ty.specs.Bytes.{Ty, kind_of, name_of, inner_of, non_null}
use Rattle.ty.specs.Choose.{choose}
use Rattle.ty.specs.Kind.{named_kind}
use Rattle.ty.specs.Name.{no_id}
use Rattle.ty.specs.Read.{longest_type}
use Rattle.typing.proofs.Base.{some_inj}
use Rattle.typing.specs.Callee.{Callee, call_in, call_of, method_in, method_by, method_of, base_name}

-- the results of some functions
abbrev pub Results : List Overload → Type 0
Results os = (o : Overload) → Memᴰ o os → length o.result ≤ longest_type

-- every type that a table gives has at most 192 bytes
pub record SymbolsFit (S : Symbols) : Type 0 where
  pub fields : (owner id : ℕ) (t : Ty) → S.field_of owner id ≡ some t → length t ≤ longest_type
  pub results : (owner id : ℕ) → Results (S.functions_of owner id)

-- an outcome's type has at most k bytes
pub record Short (k : ℕ) (o : Out) : Type 0 where
  pub len : length o.ty ≤ k

either : {k : ℕ} (t : Bool) {a b : Out} → Short k a → Short k b → Short k (choose t a b)
unfolding choose
either true p q = p
either false p q = q

short_clean : {k : ℕ} (t : Ty) → length t ≤ k → Short k (clean t)
short_clean t h = record { len = h }

-- calls
tail_results : {o : Overload} {os : List Overload} → Results (o ∷ os) → Results os
tail_results h x m = h x (Memᴰ.tail m)

pub cons_results : {o : Overload} {os : List Overload} → length o.result ≤ longest_type → Results os → Results (o ∷ os)
cons_results {o} {os} p h x m = go (Memᴰ.cases_cons m)
  where
    go : (x ≡ o) ⊎ Memᴰ x os → length x.result ≤ longest_type
    go (inl q) = rw q p
    go (inr n) = h x n

choose_results : (t : Bool) (xs ys : List Overload) → Results xs → Results ys → Results (choose t xs ys)
unfolding choose
choose_results true xs ys p q = p
choose_results false xs ys p q = q

own_results : (os : List Overload) → Results os → Results (own os)
unfolding own
own_results [] h = h
own_results (o ∷ os) h =
    choose_results o.builtin _ _ (own_results os (tail_results h)) (cons_results (h o (Memᴰ.head refl)) (own_results os (tail_results h)))

fitting_results : (k : ℕ) (os : List Overload) → Results os → Results (fitting k os)
unfolding fitting
fitting_results k [] h = h
fitting_results k (o ∷ os) h =
    choose_results (fits k o) _ _ (cons_results (h o (Memᴰ.head refl)) (fitting_results k os (tail_results h))) (fitting_results k os (tail_results h))

usable_results : (os : List Overload) → Results os → Results (usable os)
unfolding usable
usable_results os h = choose_results (any_own os) _ _ (own_results os h) h

BestFits : Best → Type 0
BestFits nobody = Unit {0}
BestFits (best s o c) = length o.result ≤ longest_type

better-fits : (b : Best) (o : Overload) (r : Option ℕ) → BestFits b → length o.result ≤ longest_type → BestFits (better b o r)
unfolding better BestFits choose
better-fits b o none h p = h
better-fits nobody o (some s) h p = p
better-fits (best t f c) o (some s) h p = go (ltb t s) (eqb t s)
  where
    go : (x y : Bool) → BestFits (choose x (best s o 1) (choose y (best t f (suc c)) (best t f c)))
    go true y = p
    go false true = h
    go false false = h

module _ (S : Symbols) where
  chosen-fits : (xs : List Arg) (vs : List Overload) (b : Best) → BestFits b → Results vs → BestFits (chosen S b vs xs)
  unfolding chosen
  chosen-fits xs [] b h r = h
  chosen-fits xs (v ∷ vs) b h r =
      chosen-fits xs vs (better b v (score S v xs)) (better-fits b v (score S v xs) h (r v (Memᴰ.head refl))) (tail_results r)

  settle-fits : (n : ℕ) (xs : List Arg) (v : Overload) (vs : List Overload) (b : Best) → BestFits b → length v.result ≤ longest_type
      → length (settle S n xs v vs b).ty ≤ longest_type
  unfolding settle BestFits
  settle-fits n xs v vs (best s o c) h p = h
  settle-fits n xs v [] nobody h p = p
  settle-fits n xs v (w ∷ vs) nobody h p = omega arith

  in_fits : (u : Bool) (n : ℕ) (xs : List Arg) (vs : List Overload) → Results vs → length (resolve_in S u n xs vs).ty ≤ longest_type
  unfolding resolve_in none_fits BestFits
  in_fits u n xs [] r = omega arith
  in_fits u n xs (v ∷ vs) r = settle-fits n xs v vs (chosen S nobody (v ∷ vs) xs) (chosen-fits xs (v ∷ vs) nobody tt r) (r v (Memᴰ.head refl))

  resolve-fits : (os : List Overload) (n : ℕ) (xs : List Arg) → Results os → length (resolve S os n xs).ty ≤ longest_type
  unfolding resolve
  resolve-fits os n xs r = in_fits (any_own os) n xs (fitting (length xs) (usable os)) (fitting_results (length xs) (usable os) (usable_results os r))

-- a type that may be found
record Fits (o : Option Ty) (k : ℕ) : Type 0 where
  all : (t : Ty) → o ≡ some t → length t ≤ k

none_fits_lem : (k : ℕ) → Fits none k
none_fits_lem k = record { all = λ t e. absurd (some≢none (sym e)) }

some_fits : (t : Ty) (k : ℕ) → length t ≤ k → Fits (some t) k
some_fits t k h = record { all = λ u e. rw (some_inj e) at h }

choose-fits : (b : Bool) (x y : Option Ty) (k : ℕ) → Fits x k → Fits y k → Fits (choose b x y) k
unfolding choose
choose-fits true x y k p q = p
choose-fits false x y k p q = q

found_short : {k : ℕ} (o : Option Ty) (x : Out) → Fits o k → Short k x → Short k (found o x)
unfolding found
found_short none x h p = p
found_short (some t) x h p = short_clean t (h.all t refl)

module _ (S : Symbols) (fit : SymbolsFit S) where
  first_short : (os : List Overload) → Results os → length (first_result os) ≤ longest_type
  unfolding first_result
  first_short [] h = omega arith
  first_short (o ∷ os) h = h o (Memᴰ.head refl)

  at_fits : (op c : ℕ) (m : Option ℕ) (up : Option Ty) → Fits up longest_type → Fits (at_class S op c m up) longest_type
  unfolding at_class
  at_fits op c none up h = none_fits_lem longest_type
  at_fits op c (some m) up h =
      choose-fits (has_operator m op) _ _ longest_type (some_fits _ longest_type (first_short _ (fit.results c (method_id op)))) h

  climb-fits : (f op c : ℕ) → Fits (climb S f op c) longest_type
  unfolding climb
  climb-fits zero op c = none_fits_lem longest_type
  climb-fits (suc f) op c = choose-fits (eqb c no_id) _ _ longest_type (none_fits_lem longest_type) (at_fits op c (S.operators_of c) _ (climb-fits f op (S.super_of c)))

  operator_fits : (op : ℕ) (t : Ty) → Fits (operator_return S op t) longest_type
  unfolding operator_return
  operator_fits op t = choose-fits (leb op ge_op && eqb (kind_of t) named_kind) _ _ longest_type (climb-fits _ op _) (none_fits_lem longest_type)

  function-fits : (os : List Overload) → Results os → Fits (first_function os) (2 + longest_type)
  unfolding first_function
  function-fits [] h = none_fits_lem (2 + longest_type)
  function-fits (o ∷ os) h = some_fits _ (2 + longest_type) (omega (arith, h o (Memᴰ.head refl)))

  field_or-fits : (a b : Option Ty) → Fits a longest_type → Fits b (2 + longest_type) → Fits (field_or a b) (2 + longest_type)
  unfolding field_or
  field_or-fits none b p q = q
  field_or-fits (some t) b p q = some_fits t (2 + longest_type) (omega (arith, p.all t refl))

  lookup_fits : (owner id : ℕ) → Fits (lookup_var S owner id) (2 + longest_type)
  lookup_fits owner id = field_or-fits (S.field_of owner id) _ (record { all = fit.fields owner id }) (function-fits _ (fit.results owner id))

  module _ (k : ℕ) (big : longest_type ≤ k) where
    -- a type of one byte
    tiny : (b : ℕ) → Short k (plain b)
    tiny b = record { len = omega arith }

    failed : (i : ℕ) → Short k (fails i)
    failed i = record { len = omega arith }

    checked_short : (ok : Bool) (t : Ty) (i : ℕ) → length t ≤ k → Short k (checked ok t i)
    checked_short ok t i h = record { len = h }

    add_short : (l r : Ty) → Short k (add_out l r)
    unfolding add_out
    add_short l r = either _ (tiny _) (either _ (either _ (tiny _) (tiny _)) (either _ (tiny _) (failed _)))

    arithmetic_short : (l r : Ty) → Short k (arithmetic_out l r)
    unfolding arithmetic_out
    arithmetic_short l r = either _ (either _ (tiny _) (either _ (tiny _) (tiny _))) (failed _)

    operator_short : (op : ℕ) (l r : Ty) → length l ≤ k → length r ≤ k → Short k (operator_out S op l r)
    unfolding operator_out
    operator_short op l r p q =
        either _ (add_short l r)
        (either _ (arithmetic_short l r)
        (either _ (record { len = omega arith })
        (either _ (record { len = omega arith })
        (either _ (record { len = omega arith })
        (either _ (record { len = p })
        (either _ (short_clean r q)
        (either _ (record { len = omega arith })
        (either _ (tiny _) (short_clean r q)))))))))

    builtin_short : (op : ℕ) (l r : Ty) → length l ≤ k → length r ≤ k → Short k (builtin_binary S op l r)
    unfolding builtin_binary
    builtin_short op l r p q = either _ (failed _) (operator_short op l r p q)

    pub binary_short : (op : ℕ) (l r : Ty) → length l ≤ k → length r ≤ k → Short k (binary_out S op l r)
    unfolding binary_out
    binary_short op l r p q =
        either _ (tiny _)
        (found_short (operator_return S op l) _ (record { all = λ t e. omega (arith, (operator_fits op l).all t e) }) (builtin_short op l r p q))

    -- only address-of adds a byte
    pub unary_short : (op : ℕ) (t : Ty) → length t ≤ k → Short (suc k) (unary_out op t)
    unfolding unary_out unary_of
    unary_short op t p =
        either _ (record { len = omega arith })
        (either _ (record { len = omega arith })
        (either _ (record { len = omega arith })
        (either _ (record { len = omega arith })
        (either _ (record { len = omega arith })
        (either _ (either _ (record { len = omega (arith, inner_length t) }) (record { len = omega arith })) (record { len = omega arith }))))))

    module _ (bigger : 2 + longest_type ≤ k) where
      class_short : (owner id : ℕ) → Short k (class_member S owner id)
      unfolding class_member
      class_short owner id =
          found_short (lookup_var S owner id) _ (record { all = λ t e. omega (arith, (lookup_fits owner id).all t e) })
          (either _ (record { len = omega arith }) (either _ (failed _) (tiny _)))

      named_short : (owner id : ℕ) → Short k (named_member S owner id)
      unfolding named_member variable_member pair_member collection_member
      named_short owner id =
          either _ (either _ (tiny _) (either _ (tiny _) (either _ (tiny _) (tiny _))))
          (either _ (either _ (tiny _) (either _ (tiny _) (failed _)))
          (either _
          (either _ (tiny _) (either _ (tiny _) (either _ (tiny _) (either _ (tiny _) (either _ (tiny _) (either _ (tiny _) (failed _)))))))
          (class_short owner id)))

      kind_short : (base : Ty) (id : ℕ) → length base ≤ k → Short k (kind_member S base id)
      unfolding kind_member string_member element_member map_member
      kind_short base id h =
          either _ (named_short (name_of base) id)
          (either _ (either _ (tiny _) (either _ (tiny _) (either _ (tiny _) (failed _))))
          (either _
          (either _ (tiny _) (either _ (tiny _) (either _ (short_clean (inner_of base) (omega (arith, inner_length base))) (either _ (tiny _) (failed _)))))
          (either _ (either _ (tiny _) (either _ (record { len = omega arith }) (failed _))) (either _ (tiny _) (failed _)))))

      base_short : (H : Header) (base : Ty) (id : ℕ) → length base ≤ k → Short k (base_member S H base id)
      unfolding base_member
      base_short H base id h = either _ (tiny _) (record { len = (kind_short base id h).len })

      pub member_short : (H : Header) (id : ℕ) (t : Ty) → length t ≤ k → Short k (member_out S H id t)
      unfolding member_out
      member_short H id t h = either _ (failed _) (base_short H (non_null t) id (omega (arith, non_null-length t)))

  -- calls
  in_limit : (rs : List Report) (os : List Overload) (c : Callee) (n : ℕ) (xs : List Arg) → Results os → call_in rs os ≡ some c
      → length (resolve S c.overloads n xs).ty ≤ longest_type
  unfolding call_in
  in_limit rs [] c n xs h e = absurd (some≢none (sym e))
  in_limit rs (o ∷ os) c n xs h e =
      let q : o ∷ os ≡ c.overloads = ap (λ (z : Callee). z.overloads) (some_inj e) in
      rw q at (resolve-fits S (o ∷ os) n xs h)

  module _ (H : Header) where
    pub call_short : (id : ℕ) (c : Callee) (n : ℕ) (xs : List Arg) → call_of S H id ≡ some c → length (resolve S c.overloads n xs).ty ≤ longest_type
    call_short id c n xs e = in_limit _ (S.functions_of no_id id) c n xs (fit.results no_id id) e

    pub method_short : (id : ℕ) (t : Ty) (c : Callee) (n : ℕ) (xs : List Arg) → method_of S H id t ≡ some c
        → length (resolve S c.overloads n xs).ty ≤ longest_type
    unfolding method_by method_in
    method_short id t c n xs e = go (base_name t) e
      where
        go : (b : Option ℕ) → method_by S H id b ≡ some c → length (resolve S c.overloads n xs).ty ≤ longest_type
        go none q = absurd (some≢none (sym q))
        go (some owner) q = under (S.functions_of owner id) (fit.results owner id) q
          where
            under : (os : List Overload) → Results os → method_in S H owner id os ≡ some c → length (resolve S c.overloads n xs).ty ≤ longest_type
            under [] r z = absurd (some≢none (sym z))
            under (o ∷ os) r z =
                let p : o ∷ os ≡ c.overloads = ap (λ (y : Callee). y.overloads) (some_inj z) in
                rw p at (resolve-fits S (o ∷ os) n xs r)
