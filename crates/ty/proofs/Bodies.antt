-- Laws of bodies: how long they are, and that the bytes behind a kind matter only to the kinds that have a body.
use Prim.Native.Nat.{ℕ, ◌+◌, ◌≤◌, ◌<◌}
use borrow.Author.Tests.{eqb-true, ne_eqb}
use lib.Dec.{eqb, leb}
use mathlib.Core.Bool.{Bool, true, false, true≢false, ◌&&◌, ◌||◌, not}
use mathlib.Core.Path.{◌≡◌, refl, sym, ap, ◌∙◌}
use native.Mathlib.Omega.{arith}
use Rattle.ty.proofs.Choice.{by_choice, or_cases}
use Rattle.ty.specs.Bytes.{is_array_kind, size_width}
use Rattle.ty.specs.Choose.{choose}
use Rattle.ty.specs.Kind.{nullable_kind, array_kind, named_kind, function_kind, type_var_kind, module_kind, large_array_kind}
use Rattle.ty.specs.Read.{holds_one, body_length, child_count, good_array, id_in, item_of}

-- a kind with a property is none without it
pub apart : (p : ℕ → Bool) (k m : ℕ) → p k ≡ true → p m ≡ false → eqb k m ≡ false
apart p k m h n = ne_eqb k m (λ q. true≢false (sym h ∙ ap p q ∙ n))

-- ---- an Array's body
pub width_least : (k : ℕ) → 4 ≤ size_width k
unfolding size_width
width_least k = by_choice (λ n. 4 ≤ n) _ (λ _. omega arith) (λ _. omega arith)

pub array_above : (k : ℕ) → is_array_kind k ≡ true → nullable_kind < k
array_above k e =
    or_cases (eqb k array_kind) _ e (λ h. let q = eqb-true k array_kind h in omega arith) (λ h. let q = eqb-true k large_array_kind h in omega arith)

pub array_body : (k : ℕ) → is_array_kind k ≡ true → body_length k ≡ 1 + size_width k
unfolding body_length choose
array_body k e = rw e

pub function_body : (k : ℕ) → eqb k function_kind ≡ true → body_length k ≡ 1
unfolding body_length choose
function_body k e = rw (eqb-true k function_kind e)

pub id_body : (k : ℕ) → eqb k named_kind || eqb k module_kind ≡ true → body_length k ≡ 2
unfolding body_length choose
id_body k e = or_cases (eqb k named_kind) (eqb k module_kind) e (λ h. rw (eqb-true k named_kind h)) (λ h. rw (eqb-true k module_kind h))

pub no_body : (k : ℕ) → holds_one k ≡ true → is_array_kind k ≡ false → body_length k ≡ 0
unfolding body_length choose
no_body k h a =
    rw (
      a,
      apart holds_one k named_kind h refl,
      apart holds_one k module_kind h refl,
      apart holds_one k type_var_kind h refl,
      apart holds_one k function_kind h refl,
    )

-- a body's bytes matter only to the kinds that have them
same_good : (k c c' n n' : ℕ) (a f : Bool) → (a ≡ true → c ≡ c') → (f ≡ true → c ≡ c') → (a ≡ true → n ≡ n')
    → (not a || good_array k c n) && (not f || leb c 16) ≡ (not a || good_array k c' n') && (not f || leb c' 16)
same_good k c c' n n' true f p q r = rw (p refl, r refl)
same_good k c c' n n' false true p q r = rw (q refl)
same_good k c c' n n' false false p q r = refl

same_choose : (t : Bool) (x x' y : ℕ) → (t ≡ true → x ≡ x') → choose t x y ≡ choose t x' y
unfolding choose
same_choose true x x' y h = h refl
same_choose false x x' y h = refl

pub same_item : (k c c' n n' i i' next : ℕ) → (is_array_kind k ≡ true → c ≡ c') → (eqb k function_kind ≡ true → c ≡ c')
    → (is_array_kind k ≡ true → n ≡ n') → (eqb k named_kind || eqb k module_kind ≡ true → i ≡ i') → item_of k c n i next ≡ item_of k c' n' i' next
unfolding item_of child_count id_in
same_item k c c' n n' i i' next p q r t =
    rw (
      same_good k c c' n n' (is_array_kind k) (eqb k function_kind) p q r,
      same_choose (eqb k function_kind) (c + 1) (c' + 1) _ (λ e. ap (λ (m : ℕ). m + 1) (q e)),
      same_choose (eqb k named_kind || eqb k module_kind) i i' 0 t,
    )
