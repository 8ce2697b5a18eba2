use Rattle.tcp_server.proofs.ServerLemmas.{out_of_step}
use Rattle.tcp_server.proofs.server_run.totals_of.Goals as goal

pub returns-in-Err : goal.returns-in-Err
returns-in-Err g c = out_of_step c.in-Err.fault (λ missing. c.in-Err.ensures.missing.0 missing c.requires.numbered)
