-- Records with keys of their own, in an accepted table: a search finds the only one with a key.
use Prim.Native.Nat.{ℕ, zero, suc, ◌-◌, ◌≤◌, ◌<◌}
use borrow.Author.Tests.{eqb-true, eq-eqb, ltb-true, ltb-false}
use lib.Dec.{eqb, ltb}
use lib.ListN.{length, drop}
use mathlib.Core.Bool.{Bool, true, false, true≢false}
use mathlib.Core.List.{List}
use mathlib.Core.Path.{◌≡◌, refl, sym, ap, ◌∙◌}
use native.Mathlib.Omega.{arith, not-le}
use Rattle.index.proofs.Chains.{behind-before}
use Rattle.index.proofs.Earlier.{any_key, passed_before}
use Rattle.index.proofs.Firsts.{first-behind, first-end}
use Rattle.index.proofs.ListSearch.{first_yes, sits_cons, sits-own, sits_next, sits_later, sits-clean, sits-whole}
use Rattle.index.proofs.Paths.{of_kind_lem, of_both, not-met}
use Rattle.index.proofs.TreeWalks.{search_spot}
use Rattle.index.specs.Inside.Found.{first_in, first_with, found_at}
use Rattle.index.specs.Inside.IndexedTable.{IndexedTable}
use Rattle.index.specs.Inside.SearchKey.{Single}
use Rattle.index.specs.Inside.SearchTree.{TreeMember}
use Rattle.index.specs.Inside.Spot.{Open, TakenIs, FreeIs, SpotIs}
use Rattle.index.specs.Inside.TreeWalk.{search_of}
use Rattle.std.specs.Prelude.{Result, Ok, Err}
use Rattle.std.specs.Result.{result_ok}
use Rattle.index.specs.declared.index.Place.{Place}
use Rattle.index.specs.declared.tree.Key.TheVariants.{Ids}
use Rattle.record.proofs.Accepts.{accepted_short}
use Rattle.record.proofs.Records.{at_start}
use Rattle.record.specs.Inside.Front.{front_of}
use Rattle.record.specs.Inside.FrontRecord.{front_record}
use Rattle.record.specs.Inside.HeadFault.{same_key, has_key}
use Rattle.record.specs.Inside.Keyed.{is_of}
use Rattle.record.specs.Inside.Walk.{Sits, behind}
use Rattle.record.specs.Table.{records_of, before}
use Rattle.record.specs.Inside.Front.{Front}

-- records that are passed over
passed_over_lem : (t : List ℕ) (k a b e : ℕ) → Sits t e → ((q : ℕ) → Sits t q → q < e → is_of k a b (front_of (front_record (drop q t))) ≡ false)
    → (m p : ℕ) → e - p ≤ m → Sits t p → p ≤ e → first_in k a b p (records_of (drop p t)) ≡ first_in k a b e (records_of (drop e t))
passed_over_lem t k a b e v fails zero p h w l = let d : p ≡ e = omega arith in ap (λ (i : ℕ). first_in k a b i (records_of (drop i t))) d
passed_over_lem t k a b e v fails (suc m) p h w l =
    go (eqb p e) refl (λ s i. passed_over_lem t k a b e v fails m (behind t p) (omega (arith, sits_later t p w s)) (sits_next t p w s) i)
  where
    go : (u : Bool) → eqb p e ≡ u
        → (p < length t → behind t p ≤ e → first_in k a b (behind t p) (records_of (drop (behind t p) t)) ≡ first_in k a b e (records_of (drop e t)))
        → first_in k a b p (records_of (drop p t)) ≡ first_in k a b e (records_of (drop e t))
    go true q ih = ap (λ (i : ℕ). first_in k a b i (records_of (drop i t))) (eqb-true p e q)
    go false q ih =
        let c : p < e = not-le e p (λ z. true≢false (sym (eq-eqb p e (omega arith)) ∙ q)) in
        let s : p < length t = omega (arith, v.at.inside) in
        first-behind t k a b p w s (fails p w c) ∙ ih s (behind-before t p e w v c)

none_left : (t : List ℕ) (k a b : ℕ) → ((q : ℕ) → Sits t q → q < length t → is_of k a b (front_of (front_record (drop q t))) ≡ false)
    → (m p : ℕ) → length t - p ≤ m → Sits t p → first_in k a b p (records_of (drop p t)) ≡ 0
none_left t k a b fails zero p h w = first-end t k a b p (omega arith)
none_left t k a b fails (suc m) p h w =
    go (ltb p (length t)) refl (λ s. none_left t k a b fails m (behind t p) (omega (arith, sits_later t p w s)) (sits_next t p w s))
  where
    go : (u : Bool) → ltb p (length t) ≡ u → (p < length t → first_in k a b (behind t p) (records_of (drop (behind t p) t)) ≡ 0) → first_in k a b p (records_of (drop p t)) ≡ 0
    go false q ih = first-end t k a b p (ltb-false p (length t) q)
    go true q ih = let s = ltb-true p (length t) q in first-behind t k a b p w s (fails p w s) ∙ ih s

pub accepted_open : (t x : List ℕ) → IndexedTable t x → Open t x
accepted_open t x ok = record { short = accepted_short t ok.clean; end = length t; inside = omega arith; tree = ok.indexed.tree }

module _ (t x : List ℕ) (ok : IndexedTable t x) (k a b : ℕ) (one : Single k) where
  start : Sits t 0
  start = record { index = 0; at = at_start t }

  -- the first record that passes is the only one
  module _ (p : ℕ) (w : Sits t p) (some : p < length t) (yes : is_of k a b (front_of (front_record (drop p t))) ≡ true) where
    fresh : has_key (front_record (drop p t)) (before w.index (records_of t)) ≡ false
    fresh = (sits-clean t p w some ok.clean).fresh

    alone : (q : ℕ) → Sits t q → q < p → is_of k a b (front_of (front_record (drop q t))) ≡ false
    alone q v l = go (is_of k a b (front_of (front_record (drop q t)))) refl
      where
        go : (u : Bool) → is_of k a b (front_of (front_record (drop q t))) ≡ u → is_of k a b (front_of (front_record (drop q t))) ≡ false
        go false z = z
        go true z =
            let s : same_key (front_record (drop q t)) (front_record (drop p t)) ≡ true = of_both k a b (front_record (drop q t)) (front_record (drop p t)) one z yes in
            let h = passed_before t (λ r. same_key r (front_record (drop p t))) p w q v l s in
            absurd (true≢false (sym h ∙ any_key (front_record (drop p t)) (before w.index (records_of t)) ∙ fresh))

    single_here : first_with t k a b ≡ suc p
    single_here = passed_over_lem t k a b p w alone p 0 (omega arith) start (omega arith) ∙ ap (first_in k a b p) (sits_cons t p w some) ∙ first_yes k a b p _ _ yes

  single_taken : (p : Place) → TakenIs t (length t) (Ids k a b) p → first_with t k a b ≡ suc p.at
  single_taken p h = single_here p.at h.node.begun.sits h.node.begun.some h.has

  single_free : (s : ℕ) → FreeIs t x (Ids k a b) s → first_with t k a b ≡ 0
  single_free s free = none_left t k a b none (length t) 0 (omega arith) start
    where
      none : (q : ℕ) → Sits t q → q < length t → is_of k a b (front_of (front_record (drop q t))) ≡ false
      none q v l = go (is_of k a b (front_of (front_record (drop q t)))) refl
        where
          node : is_of k a b (front_of (front_record (drop q t))) ≡ true → TreeMember t (length t) q
          node z =
              record {
                begun = record { sits = v; some = l; whole = sits-whole t q v l ok.clean };
                low = l;
                other = λ f. one.other (sym (sym (ap (λ (h : Front). h.kind) (sits-own t q v l)) ∙ of_kind_lem k a b (front_record (drop q t)) z) ∙ f);
              }

          go : (u : Bool) → is_of k a b (front_of (front_record (drop q t))) ≡ u → is_of k a b (front_of (front_record (drop q t))) ≡ false
          go false z = z
          go true z = absurd (not-met t x (length t) ok.indexed.tree (Ids k a b) one.low s free q (node z) z)

  -- so it is the first
  module _ (r : Result Place ℕ) (is : r ≡ search_of t x (Ids k a b)) where
    spot : SpotIs t x (length t) (Ids k a b) r
    spot = search_spot t x (Ids k a b) (accepted_open t x ok) r is (length t) ok.indexed.tree

    pub single_ok : result_ok r ≡ found_at (first_with t k a b)
    single_ok = go r spot
      where
        go : (z : Result Place ℕ) → SpotIs t x (length t) (Ids k a b) z → result_ok z ≡ found_at (first_with t k a b)
        go (Ok p) h = ap found_at (sym (single_taken p h))
        go (Err s) h = ap found_at (sym (single_free s h))
