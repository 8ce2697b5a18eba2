use Rattle.std.proofs.Common.{rules, refl, inr, ◌∙◌, ap}
use Rattle.exit_lines.specs.ExitStatusAndLines.{finish_by}
use Rattle.tcp_server.specs.ServerRun as server
use Rattle.tcp_server.proofs.ServerLemmas.{own_all, are_numbered, not_handed_over}
use Rattle.tcp_server.proofs.server_run.serve_run.Goals as goal

pub attend-requires-clause-own : goal.attend-requires-clause-own
attend-requires-clause-own g c = let own = own_all c.in-Ok.opened.0 c.in-Ok.opened.1.items c.in-Ok.ensures.passes.own in search rules

pub totals_of-closed-requires-clause-numbered : goal.totals_of-closed-requires-clause-numbered
totals_of-closed-requires-clause-numbered g c = are_numbered c.in-Ok.opened.0 c.args.owner.world c.in-Ok.opened.1.items c.in-Ok-attend.served.passes.items c.in-Ok.ensures.passes c.in-Ok-attend.ensures.ok.keep

pub returns-in-Err-attend : goal.returns-in-Err-attend
returns-in-Err-attend g c = inr (record {
  cause = server.hand_over_line c.in-Err-attend.fault;
  cause_is = not_handed_over c.in-Err-attend.fault c.args.owner.world c.args.settings.now.places c.in-Ok.ensures.fits;
  finish_is = c.by-in-Err-attend.ensures ∙ ap finish_by c.hand_over_line.ensures;
  arrivals = c.in-Err-attend.ensures.err;
  drain = refl;
})
