-- What a search finds is the first of the places with its key.
use Prim.Native.Nat.{ℕ, zero, suc, ◌+◌, ◌-◌, ◌≤◌, ◌<◌}
use borrow.Author.Tests.{eq-eqb, ltb-true, ltb-false, le-ltb}
use lib.Dec.{eqb, ltb}
use lib.ListN.{length, drop, length-drop}
use lib.Seq.{drop-drop}
use mathlib.Core.Bool.{Bool, true, false, ◌&&◌}
use mathlib.Core.List.{List, [], ◌∷◌, map, nil≢cons, head-eq_of_cons-eq, tail-eq_of_cons-eq}
use mathlib.Core.Path.{◌≡◌, refl, sym, ap, ◌∙◌, subst}
use native.Mathlib.Omega.{arith, not-le}
use Rattle.index.proofs.ListSearch.{sits_cons, sits-own, sits_later, sits-length, sits_at, sits_next, here_is}
use Rattle.index.specs.Inside.Found.{HereIs, FoundIs}
use Rattle.std.specs.Prelude.{None, Some, is_some}
use Rattle.symbol.specs.Inside.FoundSymbols.{any_in}
use Rattle.index.specs.Inside.Found.{Found}
use Rattle.index.specs.declared.index.Place.{Place}
use Rattle.record.proofs.Accepts.{with_no}
use Rattle.record.proofs.Laid.{key_test}
use Rattle.record.proofs.Records.{records-end, records-joined}
use Rattle.record.specs.Inside.Front.{front_of}
use Rattle.record.specs.Inside.FrontRecord.{front_record}
use Rattle.record.specs.Inside.Keyed.{is_of, records_with}
use Rattle.record.specs.Inside.Walk.{Sits, behind}
use Rattle.record.specs.Layout.{record_kind}
use Rattle.record.specs.Table.{Record, records_of, key_of, joined}
use Rattle.record.specs.TableRefused.{table_fault}
use Rattle.record.specs.Inside.Front.{Front}
use Rattle.symbol.specs.Inside.Places.{places_in, places_from, first_place}
use Rattle.ty.proofs.Choice.{choose_yes, choose_no}
use Rattle.ty.specs.Bytes.{same_bytes}
use Rattle.ty.specs.Choose.{choose}

-- ---- how many records with a key there are behind some
module _ (k a b : ℕ) where
  with_yes : (r : Record) (rs : List Record) → is_of k a b (front_of r) ≡ true → records_with k a b (r ∷ rs) ≡ r ∷ records_with k a b rs
  unfolding records_with
  with_yes r rs h = choose_yes _ _ _ h

  with_less : (r : Record) (rs : List Record) → length (records_with k a b rs) ≤ length (records_with k a b (r ∷ rs))
  unfolding records_with choose
  with_less r rs = go (is_of k a b (front_of r))
    where
      go : (v : Bool) → length (records_with k a b rs) ≤ length (choose v (r ∷ records_with k a b rs) (records_with k a b rs))
      go true = omega arith
      go false = omega arith

  with_behind : (n : ℕ) (rs : List Record) → length (records_with k a b (drop n rs)) ≤ length (records_with k a b rs)
  with_behind zero rs = omega arith
  with_behind (suc n) [] = omega arith
  with_behind (suc n) (r ∷ rs) = omega (arith, with_behind n rs, with_less r rs)

  with_later : (i j : ℕ) (rs : List Record) → i ≤ j → length (records_with k a b (drop j rs)) ≤ length (records_with k a b (drop i rs))
  with_later i j rs h =
      let e : i + (j - i) ≡ j = omega arith in
      let d : drop (j - i) (drop i rs) ≡ drop j rs = drop-drop (j - i) i rs ∙ ap (λ (n : ℕ). drop n rs) e in
      subst (λ (z : List Record). length (records_with k a b z) ≤ length (records_with k a b (drop i rs))) d (with_behind (j - i) (drop i rs))

-- ---- one place is found
module _ (t : List ℕ) (all : List Record) (k a b : ℕ) (l : 4 ≤ k) where
  abbrev left : ℕ → ℕ
  left i = length (records_with k a b (drop i (records_of t)))

  module _ (p : Place) (h : HereIs t all k a b p) where
    is_here : is_of k a b (front_of (front_record (drop p.at t))) ≡ true
    is_here =
        let o = sits-own t p.at h.sits h.some in
        let e = eq-eqb (front_of (front_record (drop p.at t))).kind k (ap (λ (x : Front). x.kind) o ∙ h.kind) in
        let f = eq-eqb (front_of (front_record (drop p.at t))).one a (ap (λ (x : Front). x.one) o ∙ h.one) in
        let g = eq-eqb (front_of (front_record (drop p.at t))).two b (ap (λ (x : Front). x.two) o ∙ h.two l) in
        rw (e, f, g, le-ltb k 4 l)

    behind_is : records_of (drop (behind t p.at) t) ≡ drop (h.sits.index + 1) (records_of t)
    behind_is = (sits_at t p.at h.sits h.some).sits

    here-left : left h.sits.index ≡ suc (left (h.sits.index + 1))
    here-left =
        ap (λ (z : List Record). length (records_with k a b z)) (sym h.sits.at.sits ∙ sits_cons t p.at h.sits h.some)
        ∙ ap (λ (z : List Record). length z) (with_yes k a b _ _ is_here)
        ∙ ap (λ (z : List Record). suc (length (records_with k a b z))) behind_is

    all_left : length all ≡ suc (left (h.sits.index + 1))
    all_left = ap (λ (z : List Record). length z) h.first ∙ ap (λ (z : List Record). suc (length (records_with k a b z))) behind_is

  not-before : (p q : Place) (h : HereIs t all k a b p) (w : HereIs t all k a b q) → h.sits.index ≤ w.sits.index
  not-before p q h w =
      let i = h.sits.index in
      let j = w.sits.index in
      not_lt i j (λ m. omega (arith, with_later k a b (j + 1) i (records_of t) (omega arith), here-left p h, all_left p h, all_left q w))
    where
      not_lt : (i j : ℕ) → (j < i → ⊥) → i ≤ j
      not_lt i j n = let m = not-le (suc j) i (λ z. n z) in omega arith

  same_at : (p q : Place) → HereIs t all k a b p → HereIs t all k a b q → p.at ≡ q.at
  same_at p q h w =
      let e : h.sits.index ≡ w.sits.index = omega (arith, not-before p q h w, not-before q p w h) in
      let d : drop p.at t ≡ drop q.at t
      = sym (records-joined (drop p.at t))
      ∙ ap joined (h.sits.at.sits ∙ ap (λ (n : ℕ). drop n (records_of t)) e ∙ sym w.sits.at.sits)
      ∙ records-joined (drop q.at t) in
      omega (arith, h.some, w.some, length-drop p.at t, length-drop q.at t, ap (λ (z : List ℕ). length z) d)

  pub found_same : (f g : Found) → FoundIs t all k a b f → FoundIs t all k a b g → f ≡ g
  found_same None None h w = refl
  found_same None (Some q) h w = absurd (omega (arith, ap (λ (z : List Record). length z) (sym h ∙ w.first)))
  found_same (Some p) None h w = absurd (omega (arith, ap (λ (z : List Record). length z) (sym w ∙ h.first)))
  found_same (Some p) (Some q) h w = let e = same_at p q h w in λ i. Some (record { at = e i })

-- whether there is one
pub found_some : (t : List ℕ) (all : List Record) (k a b : ℕ) (f : Found) → FoundIs t all k a b f → is_some f ≡ any_in all
found_some t all k a b None h = sym (ap any_in h)
found_some t all k a b (Some p) h = sym (ap any_in h.first)

-- ---- the places from a byte on
module _ (t : List ℕ) (clean : table_fault t ≡ 0) (k a b : ℕ) (l : 4 ≤ k) where
  test_same : (r : Record) → (eqb (record_kind r) k && same_bytes (key_of r) (a ∷ b ∷ [])) ≡ is_of k a b (front_of r)
  unfolding choose
  test_same r =
      let e : choose (ltb k 4) (a ∷ []) (a ∷ b ∷ []) ≡ a ∷ b ∷ [] = choose_no _ _ _ (le-ltb k 4 l) in
      sym (key_test k a b (omega arith) r ∙ ap (λ (z : List ℕ). eqb (record_kind r) k && same_bytes (key_of r) z) e)

  places_yes : (p : ℕ) (r : Record) (rs : List Record) → is_of k a b (front_of r) ≡ true
      → places_in k (a ∷ b ∷ []) p (r ∷ rs) ≡ record { at = p } ∷ places_in k (a ∷ b ∷ []) (p + length r) rs
  unfolding places_in
  places_yes p r rs h = choose_yes _ _ _ (test_same r ∙ h)

  places_no : (p : ℕ) (r : Record) (rs : List Record) → is_of k a b (front_of r) ≡ false
      → places_in k (a ∷ b ∷ []) p (r ∷ rs) ≡ places_in k (a ∷ b ∷ []) (p + length r) rs
  unfolding places_in
  places_no p r rs h = choose_no _ _ _ (test_same r ∙ h)

  -- what the places at byte e or behind it are: the first is what a search finds there, they are those of its records, and the others stand behind the first
  pub record PlacesFromIs (e : ℕ) : Type 0 where
    pub found : FoundIs t (records_with k a b (records_of (drop e t))) k a b (first_place (places_from t k (a ∷ b ∷ []) e))
    pub records : map (λ (p : Place). front_record (drop p.at t)) (places_from t k (a ∷ b ∷ []) e) ≡ records_with k a b (records_of (drop e t))
    pub rest : (p : Place) (ps : List Place) → places_from t k (a ∷ b ∷ []) e ≡ p ∷ ps → ps ≡ places_from t k (a ∷ b ∷ []) (behind t p.at)

  module _ (e : ℕ) (w : Sits t e) where
    from_end : length t ≤ e → PlacesFromIs e
    unfolding records_with places_in first_place
    from_end h =
        let z : records_of (drop e t) ≡ [] = records-end t e h in
        let n : places_from t k (a ∷ b ∷ []) e ≡ [] = ap (places_in k (a ∷ b ∷ []) e) z in
        let r : records_with k a b (records_of (drop e t)) ≡ [] = ap (records_with k a b) z in
        record {
          found = subst (λ (y : List Place). FoundIs t (records_with k a b (records_of (drop e t))) k a b (first_place y)) (sym n) r;
          records = ap (map (λ (p : Place). front_record (drop p.at t))) n ∙ sym r;
          rest = λ p ps q. absurd (nil≢cons (sym n ∙ q));
        }

    module _ (some : e < length t) where
      places_cons : places_from t k (a ∷ b ∷ []) e ≡ places_in k (a ∷ b ∷ []) e (front_record (drop e t) ∷ records_of (drop (behind t e) t))
      places_cons = ap (places_in k (a ∷ b ∷ []) e) (sits_cons t e w some)

      later : places_in k (a ∷ b ∷ []) (e + length (front_record (drop e t))) (records_of (drop (behind t e) t)) ≡ places_from t k (a ∷ b ∷ []) (behind t e)
      later = ap (λ (n : ℕ). places_in k (a ∷ b ∷ []) n (records_of (drop (behind t e) t))) (sits-length t e w some)

      from-here : is_of k a b (front_of (front_record (drop e t))) ≡ true → PlacesFromIs (behind t e) → PlacesFromIs e
      unfolding first_place
      from-here u h =
          let c : places_from t k (a ∷ b ∷ []) e ≡ record { at = e } ∷ places_from t k (a ∷ b ∷ []) (behind t e)
          = places_cons ∙ places_yes e _ _ u ∙ ap (λ (z : List Place). record { at = e } ∷ z) later in
          record {
            found =
                subst (λ (z : List Place). FoundIs t (records_with k a b (records_of (drop e t))) k a b (first_place z)) (sym c)
                (here_is t e w some clean k a b u _ refl);
            records =
                ap (map (λ (p : Place). front_record (drop p.at t))) c
                ∙ ap (λ (z : List Record). front_record (drop e t) ∷ z) h.records
                ∙ sym (ap (records_with k a b) (sits_cons t e w some) ∙ with_yes k a b _ _ u);
            rest = λ p ps q.
                let d = sym c ∙ q in
                tail-eq_of_cons-eq (sym d) ∙ ap (λ (z : Place). places_from t k (a ∷ b ∷ []) (behind t z.at)) (head-eq_of_cons-eq d);
          }

      from_past : is_of k a b (front_of (front_record (drop e t))) ≡ false → PlacesFromIs (behind t e) → PlacesFromIs e
      from_past u h =
          let c : places_from t k (a ∷ b ∷ []) e ≡ places_from t k (a ∷ b ∷ []) (behind t e) = places_cons ∙ places_no e _ _ u ∙ later in
          let r = ap (records_with k a b) (sits_cons t e w some) ∙ with_no k a b _ _ u in
          record {
            found =
                subst (λ (z : List Place). FoundIs t (records_with k a b (records_of (drop e t))) k a b (first_place z)) (sym c)
                (subst (λ (z : List Record). FoundIs t z k a b (first_place (places_from t k (a ∷ b ∷ []) (behind t e)))) (sym r) h.found);
            records = ap (map (λ (p : Place). front_record (drop p.at t))) c ∙ h.records ∙ sym r;
            rest = λ p ps q. h.rest p ps (sym c ∙ q);
          }

  from_on : (m e : ℕ) → length t - e ≤ m → Sits t e → PlacesFromIs e
  from_on zero e h w = from_end e w (omega arith)
  from_on (suc m) e h w =
      go (ltb e (length t)) refl (is_of k a b (front_of (front_record (drop e t)))) refl (λ n some. from_on m (behind t e) n (sits_next t e w some))
    where
      go : (v : Bool) → ltb e (length t) ≡ v → (y : Bool) → is_of k a b (front_of (front_record (drop e t))) ≡ y
          → (length t - behind t e ≤ m → (some : e < length t) → PlacesFromIs (behind t e)) → PlacesFromIs e
      go false f y u ih = from_end e w (ltb-false e (length t) f)
      go true f true u ih = let some = ltb-true e (length t) f in from-here e w some u (ih (omega (arith, sits_later t e w some)) some)
      go true f false u ih = let some = ltb-true e (length t) f in from_past e w some u (ih (omega (arith, sits_later t e w some)) some)

  -- THE PLACES WITH A KEY, and what a search finds
  pub places_from_lem : (e : ℕ) → Sits t e → PlacesFromIs e
  places_from_lem e w = from_on (length t - e) e (omega arith) w

  pub found-place : (e : ℕ) → Sits t e → (f : Found) → FoundIs t (records_with k a b (records_of (drop e t))) k a b f
      → f ≡ first_place (places_from t k (a ∷ b ∷ []) e)
  found-place e w f h = found_same t (records_with k a b (records_of (drop e t))) k a b l f _ h (places_from_lem e w).found
