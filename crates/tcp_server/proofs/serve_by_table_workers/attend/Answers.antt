use Rattle.std.proofs.Common.{arith}
use denote.Param.Send.{sendable}
use Rattle.table_worker.proofs.ThreadCrossing.{handler_sent}
use Rattle.tcp_server.proofs.ServedLemmas.{handed_count, attended}
use Rattle.tcp_server.proofs.serve_by_table_workers.attend.Goals as goal

pub take_passes-requires-clause-room : goal.take_passes-requires-clause-room
take_passes-requires-clause-room g c =
    let n = handed_count _ _ _ _ _ _ _ _ _ c.in_ok-handlers.ensures.handlers c.in_ok-handed.ensures.ok in omega (arith, n, c.in_ok-gathered.ensures.capacity, c.len.ensures)

pub returns-clause-ok : goal.returns-clause-ok
returns-clause-ok g c = attended _ _ _ _ _ _ _ _ _ c.in_ok-handlers.ensures.handlers c.in_ok-handed.ensures.ok _ _ c.take_passes.ensures.passes c.take_passes.ensures.own c.count_of-connections.ensures

pub hand_over-requires-send-H : goal.hand_over-requires-send-H
hand_over-requires-send-H g c κs within =
    let records = c.type_bounds.send-K in
    let handles = c.type_bounds.send-Y in
    let sources = c.type_bounds.send-S in
    let drains = c.type_bounds.send-D in
    let clock = c.type_bounds.sync-R in
    search (sendable, handler_sent) depth 20
