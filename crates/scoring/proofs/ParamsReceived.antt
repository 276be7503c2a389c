-- Marks, and the turns of arguments, one parameter at a time.
use Prim.Native.Nat.{ℕ, ◌+◌, ◌≤◌, ◌<◌}
use lib.Dec.{eqb}
use lib.ListN.{length, get_or, set, take, drop, drop_of_length-le, length-set}
use mathlib.Core.Bool.{Bool, true, false, ◌||◌}
use mathlib.Core.List.{List, [], ◌∷◌, ◌++◌, append_assoc}
use mathlib.Core.Logic.{◌⊎◌, inl, inr}
use mathlib.Core.Option.{none, some}
use mathlib.Core.Path.{◌≡◌, refl, sym, ap, ◌∙◌}
use native.Mathlib.Omega.{arith}
use Rattle.std.specs.Prelude.{Option as Maybe, Some, None}
use Rattle.std.proofs.lemmas.List.{take-append-drop, drop_more, take_more_set, drop-set-lt}
use Rattle.scoring.proofs.ParamsAndArgsLeft.{params_next, params_none}
use Rattle.scoring.proofs.ParamSearch.{param_named_is}
use Rattle.scoring.specs.Inside.Params.{param_here, param_at, named_place}
use Rattle.scoring.specs.Inside.Passes.{mark_one, unmarked}
use Rattle.scoring.specs.Inside.Received.{left_in, ReceivedIs}
use Rattle.scoring.specs.WithParams.{is_name, next_param, behind_next, parameter_for, left_behind}
use Rattle.symbol.specs.Inside.LookupAnswer.{param_seen, params_in}
use Rattle.symbol.specs.Symbols.{Param}
use Rattle.symbol.specs.declared.functions.Param.{Param as Read}
use Rattle.ty.specs.Choose.{choose}
use Rattle.ty.proofs.Choice.{choose_yes, choose_no}

-- ---- the next parameter without a mark
module _ (t : List ℕ) (ps : List Read) (marks : List Bool) where
  -- the parameters left from place j on
  left_none : (j : ℕ) → length ps ≤ j ⊎ (length marks ≤ j) → left_in t ps marks j ≡ []
  unfolding left_in unmarked
  left_none j (inl h) = ap (λ (qs : List Param). unmarked qs (drop j marks)) (params_none t ps j h)
  left_none j (inr h) = ap (λ (ms : List Bool). unmarked (params_in t (drop j ps)) ms) (drop_of_length-le marks h) ∙ go (params_in t (drop j ps))
    where
      go : (qs : List Param) → unmarked qs [] ≡ []
      go [] = refl
      go (q ∷ qs) = refl

  left_next : (j : ℕ) (d : Read) → j < length ps → j < length marks
      → left_in t ps marks j ≡ choose (get_or marks j false) (left_in t ps marks (j + 1)) (param_seen t (get_or ps j d) ∷ left_in t ps marks (j + 1))
  unfolding left_in unmarked
  left_next j d h l =
      ap (λ (qs : List Param). unmarked qs (drop j marks)) (params_next t ps j d h)
      ∙ ap (λ (ms : List Bool). unmarked (param_seen t (get_or ps j d) ∷ params_in t (drop (j + 1) ps)) ms) (drop_more marks j false l)

  -- from place i on none has been without a mark so far, and j is the next place
  module _ (i j : ℕ) (e : left_in t ps marks j ≡ left_in t ps marks i) where
    pub left_passed : (d : Read) → j < length ps → j < length marks → get_or marks j false ≡ true → left_in t ps marks (j + 1) ≡ left_in t ps marks i
    left_passed d h l m = sym (left_next j d h l ∙ choose_yes _ _ _ m) ∙ e

    pub received_here : (d : Read) → j < length ps → j < length marks → get_or marks j false ≡ false
        → ReceivedIs t ps marks i none (record { param = Some (get_or ps j d); next = j + 1 })
    unfolding next_param behind_next parameter_for left_behind
    received_here d h l m =
        let f : left_in t ps marks i ≡ param_seen t (get_or ps j d) ∷ left_in t ps marks (j + 1) = sym e ∙ left_next j d h l ∙ choose_no _ _ _ m in
        record {
          param = sym (ap (λ (fs : List Param). parameter_for (params_in t ps) fs none) f);
          left = sym (ap (λ (fs : List Param). left_behind fs none) f);
        }

    pub received_none : length ps ≤ j ⊎ (length marks ≤ j) → ReceivedIs t ps marks i none (record { param = None; next = i })
    unfolding next_param behind_next parameter_for left_behind
    received_none h =
        let f : left_in t ps marks i ≡ [] = sym e ∙ left_none j h in
        record {
          param = sym (ap (λ (fs : List Param). parameter_for (params_in t ps) fs none) f);
          left = f ∙ sym (ap (λ (fs : List Param). left_behind fs none) f);
        }

  -- a name's
  pub received_named : (i id : ℕ) (r : Maybe ℕ) (q : Maybe Read) → r ≡ named_place t ps id → q ≡ param_at ps r → ReceivedIs t ps marks i (some id) (record { param = q; next = i })
  unfolding parameter_for left_behind
  received_named i id r q e f = record { param = ap (λ (o : Maybe Read). param_here t o) f ∙ sym (param_named_is t ps id r e); left = refl }

-- ---- marks: those of the parameters before place j are set
module _ (ps : List Read) (id : ℕ) (before : List Bool) where
  pub record MarkedTo (j : ℕ) (marks : List Bool) : Type 0 where
    pub wide : length marks ≡ length before
    pub is : (t : List ℕ) → take j marks ++ mark_one (params_in t (drop j ps)) (some id) (drop j marks) ≡ mark_one (params_in t ps) (some id) before

  module _ (j : ℕ) (marks : List Bool) (w : MarkedTo j marks) where
    pub marked_next : (d : Read) → j < length ps → j < length marks
        → MarkedTo (j + 1) (set marks j (get_or marks j false || eqb id (get_or ps j d).name))
    unfolding mark_one is_name
    marked_next d h l =
        let v : Bool = get_or marks j false || eqb id (get_or ps j d).name in
        record {
          wide = length-set marks j v ∙ w.wide;
          is = λ t.
              ap (λ (ms : List Bool). ms ++ mark_one (params_in t (drop (j + 1) ps)) (some id) (drop (j + 1) (set marks j v))) (take_more_set marks j v l)
              ∙ ap (λ (ms : List Bool). (take j marks ++ (v ∷ [])) ++ mark_one (params_in t (drop (j + 1) ps)) (some id) ms) (drop-set-lt (j + 1) marks j v (omega arith))
              ∙ append_assoc (take j marks) (v ∷ []) (mark_one (params_in t (drop (j + 1) ps)) (some id) (drop (j + 1) marks))
              ∙ sym
              (ap (λ (qs : List Param). take j marks ++ mark_one qs (some id) (drop j marks)) (params_next t ps j d h)
              ∙ ap (λ (ms : List Bool). take j marks ++ mark_one (param_seen t (get_or ps j d) ∷ params_in t (drop (j + 1) ps)) (some id) ms) (drop_more marks j false l))
              ∙ w.is t;
        }

    pub marked_done : length ps ≤ j ⊎ (length marks ≤ j) → (t : List ℕ) → marks ≡ mark_one (params_in t ps) (some id) before
    unfolding mark_one
    marked_done (inl h) t =
        sym (take-append-drop j marks) ∙ ap (λ (qs : List Param). take j marks ++ mark_one qs (some id) (drop j marks)) (sym (params_none t ps j h)) ∙ w.is t
    marked_done (inr h) t =
        let e : drop j marks ≡ [] = drop_of_length-le marks h in
        sym (take-append-drop j marks)
        ∙ ap (λ (ms : List Bool). take j marks ++ ms)
        (e ∙ sym (ap (λ (ms : List Bool). mark_one (params_in t (drop j ps)) (some id) ms) e ∙ none_marked (params_in t (drop j ps))))
        ∙ w.is t
      where
        none_marked : (qs : List Param) → mark_one qs (some id) [] ≡ []
        none_marked [] = refl
        none_marked (q ∷ qs) = refl
