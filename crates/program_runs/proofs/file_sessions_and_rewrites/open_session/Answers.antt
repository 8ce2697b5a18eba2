use Rattle.std.proofs.Common.{refl}
use Rattle.program_runs.proofs.file_sessions_and_rewrites.open_session.Goals as goal

pub returns-in-Err-clause-unopened : goal.returns-in-Err-clause-unopened
returns-in-Err-clause-unopened g c =
    let cause = rw c.new-owner.ensures.world at c.in-Err.ensures.fails in
    record { fault = cause.0; world = c.open_file.new.owner.world; opened = cause.2; line_is = cause.1; quiet = refl }
