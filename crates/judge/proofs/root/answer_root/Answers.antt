use lib.ListN.{length}
use mathlib.Core.Path.{◌≡◌, refl}
use native.Mathlib.Omega.{arith}
use Rattle.std.proofs.Common.{rules}
use Rattle.typing.specs.Answer.{zeros}
use Rattle.judge.proofs.Answering.{root_yes, root_no, root_short, type_padded, zeros-length}
use Rattle.judge.proofs.root.answer_root.Goals as goal

pub copy_in-requires : goal.copy_in-requires
copy_in-requires c = let a = c.args in
    omega (arith, root_short a.s a.count a.root.now a.diagnostics.now _ c.root_refusal-refusal.ensures c.in-None.is, zeros-length a.ty.now 256 c.requires.1)

pub returns-in-None : goal.returns-in-None
returns-in-None c = let a = c.args in
    root_yes _ _ _ _ _ c.root_refusal-refusal.ensures c.in-None.is _ refl refl c.passes-pass.ensures _
    (type_padded _ _ _ _ c.requires.1 c.copy_in.ensures refl (root_short a.s a.count a.root.now a.diagnostics.now _ c.root_refusal-refusal.ensures c.in-None.is))

pub returns-in-Some : goal.returns-in-Some
returns-in-Some c =
    let z : c.fill.new.self ≡ zeros (length c.args.diagnostics.now) = search rules in
    root_no _ _ _ _ _ c.root_refusal-refusal.ensures _ c.in-Some.is _ c.requires.1 _ z
