-- Assignability: `can_assign_to` of ty.rs, its checks in the source's order. Document 01, "Corners in ty.rs". The last of them is order 2's: "Named A now
-- assigns to Named B if B is met climbing from A, at every depth where assignability compares types"; order 6: "Assignability reaches through superclass and
-- interfaces alike".
use Rattle.std.specs.Prelude.{ℕ, zero, suc, ◌+◌, Bool, true, false, ◌&&◌, ◌||◌, length, eqb}
use Rattle.ty.specs.Choose.{choose}
use Rattle.ty.specs.Kind.{any_kind, nothing_kind, nullable_kind, list_kind, named_kind, error_kind}
use Rattle.ty.specs.Name.{list_id, array_list_id, mutable_list_id}
use Rattle.ty.specs.Bytes.{Ty, name_of, is_array, inner_of, same_bytes}
use Rattle.symbol.specs.Symbols.{Symbols}
use Rattle.below.specs.Below.{is_below}
use Rattle.operators.specs.Operand.{is_kind, numbers}
use Rattle.operators.specs.declared.assign.Next.{Next}
use Rattle.operators.specs.declared.assign.Next.TheVariants.{Yes, No, Left, Right, Both, Classes}

-- a Named of the name `id`
abbrev pub is_named : ℕ → Ty → Bool
is_named id t = is_kind named_kind t && eqb (name_of t) id

-- ArrayList or MutableList, as names
abbrev pub is_growing : Ty → Bool
is_growing t = is_named array_list_id t || is_named mutable_list_id t

-- List, ArrayList or MutableList, as names
abbrev pub is_list_name : Ty → Bool
is_list_name t = is_named list_id t || is_growing t

-- The checks that come first and all say yes: the same type; to Any, to Error or from Error; from Any; both numeric; List to List.
abbrev pub assigns_at_once : Ty → Ty → Bool
assigns_at_once a b =
    same_bytes a b
    || ((is_kind any_kind b || (is_kind error_kind b || is_kind error_kind a))
    || (is_kind any_kind a || (numbers a b || (is_kind list_kind a && is_kind list_kind b))))

-- One look at two types: yes, no, or it goes by the types inside or by the classes of two Named types (`answer_by`).
unfoldable pub assign_step : Ty → Ty → Next
assign_step a b =
    choose (assigns_at_once a b) Yes
    (choose (is_kind list_kind a && is_array b) Both
    (choose (is_growing a && is_array b) Yes
    (choose (is_array a && is_array b) Both
    (choose (is_list_name a && (is_kind list_kind b || is_list_name b)) Yes
    (choose (is_kind list_kind a && is_list_name b) Yes
    (choose (is_kind nullable_kind b) Right
    (choose (is_kind nullable_kind a) Left
    (choose (is_kind nothing_kind a) Yes
    (choose (is_kind named_kind a && is_kind named_kind b) Classes No)))))))))

module _ (below : ℕ → ℕ → Bool) where
  -- a step's answer: `below` says whether one class is below another, and `ask` what holds of the types inside
  abbrev pub answer_by : Next → Ty → Ty → (Ty → Ty → Bool) → Bool
  answer_by Yes a b ask = true
  answer_by No a b ask = false
  answer_by Left a b ask = ask (inner_of a) b
  answer_by Right a b ask = ask a (inner_of b)
  answer_by Both a b ask = ask (inner_of a) (inner_of b)
  answer_by Classes a b ask = below (name_of a) (name_of b)

  unfoldable pub assign_in : ℕ → Ty → Ty → Bool
  assign_in zero a b = false
  assign_in (suc f) a b = answer_by (assign_step a b) a b (λ x y. assign_in f x y)

  -- Whether the type a assigns to the type b. Each step goes to types that are shorter together, so this many steps are enough.
  unfoldable pub can_assign : Ty → Ty → Bool
  can_assign a b = assign_in (suc (length a + length b)) a b

-- assignability as the rules use it: the table says which classes are below which
abbrev pub assigns : Symbols → Ty → Ty → Bool
assigns S a b = can_assign (is_below S) a b
