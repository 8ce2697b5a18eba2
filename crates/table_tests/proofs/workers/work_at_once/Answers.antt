use denote.Param.{param}
use denote.Param.Send.{sendable}
use Rattle.set_table.proofs.ThreadCrossing.{table_shared, pass_sent, command_shared}
use Rattle.table_tests.proofs.workers.Signals.TheSendSync as signals
use Rattle.table_tests.proofs.workers.work_at_once.Goals as goal

pub join-requires-send-F : goal.join-requires-send-F
join-requires-send-F g c κs within =
    let t = table_shared (param 0 g.row.S) (param 1 g.row.L) g.S.LogSink g.L.Ledger c.type_bounds.send-S in
    let p = pass_sent in
    let q = command_shared in
    let h = signals.the_sync in
    search sendable depth 20
