use Rattle.std.proofs.Common.{rules, ◌≡◌, ◌∙◌, arith, ap, List, ℕ}
use Rattle.std.proofs.lemmas.List.Edits.{sets}
use Rattle.std.proofs.Math.ListN.{length-set}
use Rattle.written.proofs.ListFacts.{part_stored}
use Rattle.aura_c.proofs.NumberBytes.{eight_bytes}
use Rattle.aura_c.specs.AnswerBytes.{little_endian, bytes_of}
use Rattle.aura_c.proofs.put_front.Goals as goal

pub returns : goal.returns
unfolding little_endian bytes_of
returns c =
    let e : c.copy_from_slice.new.self ≡ c.to_le_bytes.result = search rules in
    part_stored c.put_two.new.out _ (little_endian 8 c.args.a.count) 4 8 (e ∙ c.to_le_bytes.ensures ∙ eight_bytes c.args.a.count) (omega arith)
    (omega (arith, length-set {A = ℕ}))
    ∙ ap (λ (b : List ℕ). sets b 4 (little_endian 8 c.args.a.count)) c.put_two.ensures
