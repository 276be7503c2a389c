-- The fold over the fitting overloads finds the winner, if there is just one.
use Prim.Native.Nat.{ℕ, suc, ◌≤◌, ◌<◌}
use borrow.Author.Tests.{eqb-true, eqb-false, ne_eqb, ltb-true, ltb-false, lt-ltb, le-ltb}
use lib.Dec.{eqb, ltb}
use mathlib.Core.Bool.{Bool, true, false}
use mathlib.Core.List.Memᴰ
use mathlib.Core.List.{List, [], ◌∷◌, ◌++◌, append-nil, append_assoc, Memᴰ}
use mathlib.Core.Logic.{◌≢◌, ◌⊎◌, inl, inr}
use mathlib.Core.Option.{Option, none, some}
use mathlib.Core.Path.{◌≡◌, refl, ap, sym, ◌∙◌, subst}
use native.Mathlib.Omega.{arith}
use Rattle.scoring.proofs.NoneAndNil.{some≢none}
use Rattle.scoring.specs.Arg.{Arg}
use Rattle.overload.specs.Best.{Best, best, better, chosen, nobody}
use Rattle.scoring.specs.Score.{score}
use Rattle.symbol.specs.Symbols.{Overload, Symbols}
use Rattle.ty.specs.Choose.{choose}
use Rattle.typing.proofs.Base.{some_inj}
use Rattle.typing.specs.CleanCall.{Lower, Wins}

module _ (S : Symbols) (xs : List Arg) where
  abbrev points : Overload → Option ℕ
  points v = score S v xs

  -- no score that stands is at or over t
  Below : Best → ℕ → Type 0
  Below nobody t = Unit {0}
  Below (best s f c) t = s < t

  better-below : (b : Best) (v : Overload) (r : Option ℕ) (t : ℕ) → Below b t → ((s : ℕ) → r ≡ some s → s < t) → Below (better b v r) t
  unfolding better Below choose
  better-below b v none t h l = h
  better-below nobody v (some s) t h l = l s refl
  better-below (best u f c) v (some s) t h l = go (ltb u s) (eqb u s)
    where
      go : (p q : Bool) → Below (choose p (best s v 1) (choose q (best u f (suc c)) (best u f c))) t
      go true q = l s refl
      go false true = h
      go false false = h

  better_top : (b : Best) (v : Overload) (t : ℕ) → Below b t → better b v (some t) ≡ best t v 1
  unfolding better Below choose
  better_top nobody v t h = refl
  better_top (best u f c) v t h = rw (lt-ltb u t h)

  better_keep : (t : ℕ) (w : Overload) (c : ℕ) (v : Overload) (r : Option ℕ) → ((s : ℕ) → r ≡ some s → s < t) → better (best t w c) v r ≡ best t w c
  unfolding better choose
  better_keep t w c v none l = refl
  better_keep t w c v (some s) l =
      let h : s < t = l s refl in
      let n : t ≢ s = omega arith in
      rw (le-ltb t s (omega arith), ne_eqb t s n)

  -- lower scores change nothing
  pub chosen_keep : (vs : List Overload) (t : ℕ) (w : Overload) (c : ℕ) → Lower S vs xs t → chosen S (best t w c) vs xs ≡ best t w c
  unfolding chosen
  chosen_keep [] t w c l = refl
  chosen_keep (v ∷ vs) t w c l =
      rw (better_keep t w c v (points v) (l v (Memᴰ.head refl))) (chosen_keep vs t w c (λ u m. l u (Memᴰ.tail m)))

  chosen_wins : (front : List Overload) (b : Best) (w : Overload) (t : ℕ) (rear : List Overload) → Below b t → score S w xs ≡ some t
      → Lower S front xs t → Lower S rear xs t → chosen S b (front ++ (w ∷ rear)) xs ≡ best t w 1
  unfolding chosen
  chosen_wins [] b w t rear h e lf lr = ap (λ (z : Best). chosen S z rear xs) (ap (better b w) e ∙ better_top b w t h) ∙ chosen_keep rear t w 1 lr
  chosen_wins (v ∷ front) b w t rear h e lf lr =
      chosen_wins front (better b v (points v)) w t rear (better-below b v (points v) t h (lf v (Memᴰ.head refl))) e (λ u m. lf u (Memᴰ.tail m)) lr

  -- a single winner is chosen, with a count of one
  pub wins_chosen : (vs : List Overload) (w : Overload) (t : ℕ) → Wins S vs xs w t → chosen S nobody vs xs ≡ best t w 1
  unfolding Below
  wins_chosen vs w t h = rw h.place (chosen_wins h.front nobody w t h.rear tt h.scores h.lower_front h.lower_rear)

  -- what stands after the overloads pre
  pub record Stands (pre : List Overload) (t : ℕ) (f : Overload) (c : ℕ) : Type 0 where
    pub matched : score S f xs ≡ some t
    pub at_most : Lower S pre xs (suc t)
    pub counted : 1 ≤ c
    pub single : c ≡ 1 → Wins S pre xs f t

  abbrev pub NoMatch : List Overload → Type 0
  NoMatch pre = (v : Overload) → Memᴰ v pre → score S v xs ≡ none

  pub Inv : Best → List Overload → Type 0
  Inv nobody pre = NoMatch pre
  Inv (best t f c) pre = Stands pre t f c

  snoc_cases : (P : Overload → Type 0) (pre : List Overload) (v : Overload) → ((u : Overload) → Memᴰ u pre → P u) → P v → (u : Overload) → Memᴰ u (pre ++ (v ∷ [])) → P u
  snoc_cases P pre v h k u m = go (Memᴰ.append_cases pre m)
    where
      go : Memᴰ u pre ⊎ Memᴰ u (v ∷ []) → P u
      go (inl n) = h u n
      go (inr n) = subst P (sym (Memᴰ.eq_of_singleton n)) k

  abbrev Under : ℕ → Overload → Type 0
  Under t v = (s : ℕ) → score S v xs ≡ some s → s < t

  wins_snoc : (pre : List Overload) (v f : Overload) (t : ℕ) → Wins S pre xs f t → Under t v → Wins S (pre ++ (v ∷ [])) xs f t
  wins_snoc pre v f t w h = record {
    front = w.front;
    rear = w.rear ++ (v ∷ []);
    place = rw w.place (append_assoc w.front (f ∷ w.rear) (v ∷ []));
    scores = w.scores;
    lower_front = w.lower_front;
    lower_rear = snoc_cases (Under t) w.rear v w.lower_rear h;
  }

  wins_last : (pre : List Overload) (v : Overload) (t : ℕ) → score S v xs ≡ some t → Lower S pre xs t → Wins S (pre ++ (v ∷ [])) xs v t
  wins_last pre v t e l = record { front = pre; rear = []; place = refl; scores = e; lower_front = l; lower_rear = λ u m. absurd (Memᴰ.not-nil m) }

  inv_step : (b : Best) (pre : List Overload) (v : Overload) (r : Option ℕ) → points v ≡ r → Inv b pre → Inv (better b v r) (pre ++ (v ∷ []))
  unfolding better Inv choose
  inv_step nobody pre v none e h = snoc_cases (λ u. score S u xs ≡ none) pre v h e
  inv_step (best t f c) pre v none e h =
      let u : (k : ℕ) → Under k v = λ k s p. absurd (some≢none (sym p ∙ e)) in
      record {
        matched = h.matched;
        at_most = snoc_cases (Under (suc t)) pre v h.at_most (u (suc t));
        counted = h.counted;
        single = λ p. wins_snoc pre v f t (h.single p) (u t);
      }
  inv_step nobody pre v (some s) e h =
      let l : (k : ℕ) → Lower S pre xs k = λ k u m z p. absurd (some≢none (sym p ∙ h u m)) in
      record {
        matched = e;
        at_most = snoc_cases (Under (suc s)) pre v (l (suc s)) (λ z p. let q : z ≡ s = some_inj (sym p ∙ e) in omega arith);
        counted = omega arith;
        single = λ p. wins_last pre v s e (l s);
      }
  inv_step (best t f c) pre v (some s) e h = go (ltb t s) refl (eqb t s) refl
    where
      here : (k : ℕ) → s < k → Under k v
      here k i z p = let q : z ≡ s = some_inj (sym p ∙ e) in omega arith

      go : (p : Bool) → ltb t s ≡ p → (q : Bool) → eqb t s ≡ q → Inv (choose p (best s v 1) (choose q (best t f (suc c)) (best t f c))) (pre ++ (v ∷ []))
      go true i q j =
          let lt : t < s = ltb-true t s i in
          let l : (k : ℕ) → t < k → Lower S pre xs k = λ k y u m z p. let g : z < suc t = h.at_most u m z p in omega arith in
          record {
            matched = e;
            at_most = snoc_cases (Under (suc s)) pre v (l (suc s) (omega arith)) (here (suc s) (omega arith));
            counted = omega arith;
            single = λ p. wins_last pre v s e (l s lt);
          }
      go false i true j =
          let q : t ≡ s = eqb-true t s j in
          record {
            matched = h.matched;
            at_most = snoc_cases (Under (suc t)) pre v h.at_most (here (suc t) (omega arith));
            counted = omega arith;
            single = λ p. let k : 1 ≤ c = h.counted in absurd (omega arith);
          }
      go false i false j =
          let le : s ≤ t = ltb-false t s i in
          let ne : t ≢ s = eqb-false t s j in
          record {
            matched = h.matched;
            at_most = snoc_cases (Under (suc t)) pre v h.at_most (here (suc t) (omega arith));
            counted = h.counted;
            single = λ p. wins_snoc pre v f t (h.single p) (here t (omega arith));
          }

  inv_all : (vs : List Overload) (b : Best) (pre : List Overload) → Inv b pre → Inv (chosen S b vs xs) (pre ++ vs)
  unfolding chosen
  inv_all [] b pre h = rw append-nil h
  inv_all (v ∷ vs) b pre h =
      rw append_assoc at (inv_all vs (better b v (points v)) (pre ++ (v ∷ [])) (inv_step b pre v (points v) refl h))

  pub chosen_inv : (vs : List Overload) → Inv (chosen S nobody vs xs) vs
  unfolding Inv
  chosen_inv vs = inv_all vs nobody [] (λ v m. absurd (Memᴰ.not-nil m))

  pub chosen_stands : (vs : List Overload) (t : ℕ) (f : Overload) (c : ℕ) → chosen S nobody vs xs ≡ best t f c → Stands vs t f c
  unfolding Inv
  chosen_stands vs t f c e = subst (λ (b : Best). Inv b vs) e (chosen_inv vs)

  pub chosen_nobody : (vs : List Overload) → chosen S nobody vs xs ≡ nobody → NoMatch vs
  unfolding Inv
  chosen_nobody vs e = subst (λ (b : Best). Inv b vs) e (chosen_inv vs)
