use Rattle.aura_c.proofs.LoadJudged.{load_accepted}
use Rattle.std.proofs.Common.{sym, ◌∙◌}
use Rattle.written.proofs.Outputs.{ok_written, err_written}
use Rattle.aura_c.proofs.aura_load.Goals as goal

pub returns-in-Ok : goal.returns-in-Ok
returns-in-Ok c =
    let w = ok_written _ _ _ _ c.in-Ok.ensures.writes in
    record {
      value = sym w.0;
      len_after = sym w.1;
      out_after = c.in-Ok.ensures.writes.buffer;
      load_accepted = load_accepted c.args.start c.args.nodes c.in-Ok.ensures.load_fine;
    }

pub returns-in-Err : goal.returns-in-Err
returns-in-Err c =
    let w = err_written _ _ _ _ c.in-Err.ensures.writes in
    record {
      value = c.number.ensures ∙ sym w.0;
      len_after = sym w.1;
      out_after = c.in-Err.ensures.writes.buffer;
      load_accepted = load_accepted c.args.start c.args.nodes c.in-Err.ensures.load_fine;
    }
