-- Demand 3 for one table and one question whose types fit. No axiom.
use Prim.Native.Nat.{ℕ, ◌≤◌}
use lib.ListN.{length}
use mathlib.Core.Bool.{true}
use mathlib.Core.List.{List}
use mathlib.Core.Option.{some}
use mathlib.Core.Path.{◌≡◌, refl, ap, sym, ◌∙◌}
use native.Mathlib.Omega.{arith}
use Rattle.question.specs.Header.{header_of}
use Rattle.question.specs.Parse.{most_nodes, tree_of}
use Rattle.question.specs.Tree.{Node, size, LeavesFit}
use Rattle.question.specs.declared.Header.{Header}
use Rattle.symbol.specs.Lookup.{symbols_of}
use Rattle.symbol.specs.Symbols.{Symbols}
use Rattle.ty.specs.Bytes.{Ty}
use Rattle.typing.proofs.Answers.{answer_judged, marked-passes, passed}
use Rattle.typing.proofs.Flat.{flat_typing, typing_flat}
use Rattle.typing.proofs.Length.{type_short}
use Rattle.typing.proofs.Short.{SymbolsFit}
use Rattle.typing.proofs.Structural.{Structural}
use Rattle.typing.proofs.Unique.{typing_root, typing_passes, typings_alike, passes_typing, passes-clean}
use Rattle.typing.proofs.Visited.{typed_has, visited_iff}
use Rattle.typing.specs.Answer.{Answer, answer_bytes, fault_of, judgement_of, answer_of, buffer_of}
use Rattle.typing.specs.Demand3.{TypingOf, Passed, Demand3}
use Rattle.typing.specs.Judge.{judge}
use Rattle.typing.specs.Mark.{type_in, passes}
use Rattle.typing.specs.Typing.{IsTyping}
use Rattle.typing.specs.Visits.{Choice, Visits}

module _ (S : Symbols) (H : Header) (tree : Node) where
  typing : (τ : Choice) → IsTyping S H tree τ → Structural S H tree τ
  typing τ f = flat_typing S H τ tree f

  visits_to : (τ σ : Choice) → IsTyping S H tree τ → IsTyping S H tree σ → (k : ℕ) → Visits S τ tree 0 k → Visits S σ tree 0 k
  visits_to τ σ f g k v =
      let (U, s) = (visited_iff S H τ tree (typing τ f) k).0 v in
      (visited_iff S H σ tree (typing σ g) k).1 (U, sym (typings_alike S H tree τ σ (typing τ f) (typing σ g) k) ∙ s)

  root_is : (τ : Choice) (t : Structural S H tree τ) (T : Ty) → τ 0 ≡ some T → T ≡ (judge S H tree 0).ty
  root_is τ t T e =
      let h : τ 0 ≡ some t.root = (typed_has S H τ tree 0 t.root t.obeys).gives in
      let r : t.root ≡ (judge S H tree 0).ty = typing_root S H tree τ t in
      cc

  -- a judgement that passes is a typing
  pub typing_of : passes (judge S H tree 0) ≡ true → IsTyping S H tree (type_in (judge S H tree 0).typed)
  typing_of p = typing_flat S H _ tree (passes_typing S H tree p)

module _ (t q : List ℕ) (lent : ℕ) (accepted : fault_of t q ≡ 0) (fit : SymbolsFit (symbols_of t)) (leaves : LeavesFit (tree_of q)) (few : size (tree_of q) ≤ most_nodes) where
  abbrev S : Symbols
  S = symbols_of t

  abbrev H : Header
  H = header_of q

  abbrev tree : Node
  tree = tree_of q

  -- 64 nodes over 192 bytes give 256
  pub fits : length (judgement_of t q).ty ≤ answer_bytes
  fits = omega (arith, type_short S fit H tree 0 leaves)

  answers : passes (judgement_of t q) ≡ true → ((answer_of t q lent).pass ≡ 1) × Passed (judgement_of t q).ty lent (answer_of t q lent) (buffer_of t q lent)
  answers p = passed t q lent accepted fits p

  marked : (answer_of t q lent).pass ≡ 1 → passes (judgement_of t q) ≡ true
  marked e = marked-passes lent (judgement_of t q) (sym (ap (λ (a : Answer). a.pass) (answer_judged t q lent accepted)) ∙ e)

  judged_passes : (τ : Choice) → TypingOf t q τ → passes (judgement_of t q) ≡ true
  judged_passes τ f = typing_passes S H tree τ (typing S H tree τ f)

  pub promise : Demand3 t q lent (answer_of t q lent) (buffer_of t q lent)
  promise = record {
    alike = λ τ σ f g.
        record {
          nodes = λ k. (visits_to S H tree τ σ f g k, visits_to S H tree σ τ g f k);
          types = typings_alike S H tree τ σ (typing S H tree τ f) (typing S H tree σ g);
        };
    mark = (λ e. (type_in (judgement_of t q).typed, typing_of S H tree (marked e)), λ (τ, f). (answers (judged_passes τ f)).0);
    passed = λ τ f T e. rw (root_is S H tree τ (typing S H tree τ f) T e) (answers (judged_passes τ f)).1;
    quiet = (
      λ e. let (d, n) = (passes-clean S H tree).0 (marked e) in record { diags = d; types = n },
      λ c. (answers ((passes-clean S H tree).1 (c.diags, c.types))).0,
    );
    answer = refl;
    buffer = refl;
  }
