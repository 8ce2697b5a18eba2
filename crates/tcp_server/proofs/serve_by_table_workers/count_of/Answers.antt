use Rattle.std.proofs.Common.{arith}
use Rattle.tcp_server.proofs.ServedLemmas.{length_at_end}
use Rattle.tcp_server.proofs.serve_by_table_workers.count_of.Goals as goal

pub returns : goal.returns
returns g c = omega (arith, c.loop-list.invariant.0, length_at_end c.args.handed.now.taken.items c.loop-list.list-index (omega arith))
