-- What each return of `write_load` leaves, on plain values.
use Rattle.std.proofs.Common.{◌≡◌, ℕ, ◌<◌, ◌≤◌, Bool, true, false, ◌||◌, eqb, ltb, List, length, replicate, sym, refl, ap, ◌∙◌, true≢false, arith, ltb-false, le-ltb, lt-ltb}
use borrow.Author.Tests.{eqb-false}
use lib.Seq.{sets}
use Rattle.load.proofs.Order1.{load_fine}
use Rattle.load.specs.DrawnTree.{drawn_tree}
use Rattle.load.specs.Inside.WritesTree.{WritesTree}
use Rattle.load.specs.Load.{load_header, load_question, load_bytes, load_of}
use Rattle.load.specs.Order1.{LoadFine}
use Rattle.question.specs.Parse.{most_nodes}
use Rattle.question.specs.Write.{write_tree}
use Rattle.ty.proofs.Choice.{choose_yes, choose_no}
use Rattle.written.proofs.ListFacts.{sets-append}
use Rattle.written.proofs.Outputs.{wrote_all, wrote_writes}
use Rattle.written.specs.Output.{Output, wrote, refused, Writes}
use Rattle.written.specs.declared.WriteFault.TheVariants.{BadCount, TooShort}
use Rattle.written.specs.declared.WriteFault.{WriteFault}
use Rattle.std.specs.Prelude.{Result, Ok}

-- a node count that is let through
pub few : (n : ℕ) → eqb n 0 || ltb most_nodes n ≡ false → (1 ≤ n) × (n ≤ most_nodes)
few n = go (eqb n 0) refl
  where
    go : (b : Bool) → eqb n 0 ≡ b → b || ltb most_nodes n ≡ false → (1 ≤ n) × (n ≤ most_nodes)
    go true e h = absurd (true≢false h)
    go false e h = let z = eqb-false n 0 e in (omega (arith, z), ltb-false most_nodes n h)

module _ (start nodes : ℕ) (before after : List ℕ) (r : Result ℕ WriteFault) where
  -- by what the output is
  given : (o : Output WriteFault) → load_of start nodes (length before) ≡ o → Writes o r before after
      → Writes (load_of start nodes (length before)) r before after × (1 ≤ nodes → nodes ≤ 64 → LoadFine start nodes)
  given o e w = (rw e w, load_fine start nodes)

  pub load_many : eqb nodes 0 || ltb most_nodes nodes ≡ true → Writes (refused BadCount) r before after
      → Writes (load_of start nodes (length before)) r before after × (1 ≤ nodes → nodes ≤ 64 → LoadFine start nodes)
  unfolding load_of
  load_many t w = given (refused BadCount) (choose_yes _ _ _ t) w

  pub load_short : eqb nodes 0 || ltb most_nodes nodes ≡ false → length before < load_bytes nodes → Writes (refused TooShort) r before after
      → Writes (load_of start nodes (length before)) r before after × (1 ≤ nodes → nodes ≤ 64 → LoadFine start nodes)
  unfolding load_of
  load_short t h w = given (refused TooShort) (choose_no _ _ _ t ∙ choose_yes _ _ _ (lt-ltb (length before) (load_bytes nodes) h)) w

module _ (start nodes : ℕ) (before after : List ℕ) where
  pub load_wrote : eqb nodes 0 || ltb most_nodes nodes ≡ false → load_bytes nodes ≤ length before → (clean headed : List ℕ) → clean ≡ replicate (length before) 0
      → headed ≡ sets clean 0 load_header → (u : ℕ) → WritesTree nodes start 5 headed after u
      → Writes (load_of start nodes (length before)) (Ok (load_bytes nodes)) before after × (1 ≤ nodes → nodes ≤ 64 → LoadFine start nodes)
  unfolding load_of load_question
  load_wrote t h clean headed c d u g =
      let n = few nodes t in
      let long = (load_fine start nodes n.0 n.1).long in
      let q = load_question start nodes in
      let all : after ≡ sets (replicate (length before) 0) 0 q =
      g.buffer
      ∙ ap (λ (b : List ℕ). sets b 5 (write_tree (drawn_tree nodes start).tree)) (d ∙ ap (λ (b : List ℕ). sets b 0 load_header) c)
      ∙ sets-append load_header (write_tree (drawn_tree nodes start).tree) (replicate (length before) 0) 0 in
      given start nodes before after _ (wrote q) (choose_no _ _ _ t ∙ choose_no _ _ _ (le-ltb (length before) (load_bytes nodes) h))
      (wrote_writes q (load_bytes nodes) before after (sym long) (all ∙ wrote_all (length before) q (omega arith)))
