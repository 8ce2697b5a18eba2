use Rattle.std.proofs.Common.{Ok, Err, refl, ◌∙◌, ap}
use Rattle.exit_lines.specs.ExitStatusAndLines.{finish_by}
use Rattle.program_runs.proofs.file_sessions_and_rewrites.serve_file.Goals as goal

pub returns-in-Ok : goal.returns-in-Ok
returns-in-Ok g c =
    let o = c.in-Ok.ensures.opened in
    record { file = Ok o.loaded; world = c.in-Ok.opened.owner.world; opened = o.opened; served = (o.told, c.serve_logged.ensures) }

pub returns-in-Err : goal.returns-in-Err
returns-in-Err g c =
    let u = c.in-Err.ensures.unopened in
    record { file = Err u.fault; world = u.world; opened = u.opened; served = (refl, refl, u.quiet, c.by.ensures ∙ ap finish_by u.line_is) }
