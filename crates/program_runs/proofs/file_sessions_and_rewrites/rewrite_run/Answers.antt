use Rattle.std.proofs.Common.{Option, Ok, Err, refl, ◌∙◌, ap}
use Rattle.exit_lines.specs.ExitStatusAndLines.{finish_by, noticed}
use Rattle.exit_lines.specs.declared.lines_and_statuses.Line.{Line}
use Rattle.program_runs.proofs.file_sessions_and_rewrites.rewrite_run.Goals as goal

pub returns-in-Err : goal.returns-in-Err
returns-in-Err g c = record {
  old = Err c.in-Err.fault;
  world = c.open_to_read.new.owner.world;
  opened = rw c.new-owner.ensures.world at c.in-Err.ensures.fails;
  ended = (refl, c.by.ensures ∙ ap finish_by c.open_line.ensures);
}

pub returns : goal.returns
returns g c = record {
  old = Ok c.in-Ok.opened.1;
  world = c.open_to_read.new.owner.world;
  opened = rw c.new-owner.ensures.world at c.in-Ok.ensures.replays;
  ended = (c.renew-finish.result, c.renew-finish.ensures, c.after_notice.ensures ∙ ap (λ (n : Option Line). noticed n c.renew-finish.result) c.torn_notice.ensures);
}
