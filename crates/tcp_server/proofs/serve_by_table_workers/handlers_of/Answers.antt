use Rattle.std.proofs.Common.{rules}
use Rattle.tcp_server.proofs.ServedLemmas.{handlers_more, none_more}
use Rattle.tcp_server.proofs.serve_by_table_workers.handlers_of.Goals as goal

pub loop-pass-preserved : goal.loop-pass-preserved
loop-pass-preserved g c =
    let i = c.loop-pass.invariant in let p = c.push_reserved.ensures in let n = c.in-Ok.ensures in (
      handlers_more c.args.table.now c.loop-pass.handlers.items c.push_reserved.new.self.items c.loop-pass.yielded c.in-Some.pass c.in-Ok.handler i.0 p.items n.worker n.handled n.none,
      search rules,
      none_more c.loop-pass.handlers.items c.push_reserved.new.self.items c.in-Ok.handler i.2 p.items n.handled,
    )
