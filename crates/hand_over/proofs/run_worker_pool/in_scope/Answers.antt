use denote.Param.Send.{sendable}
use Rattle.std.proofs.Common.{rules}
use Rattle.hand_over.proofs.run_worker_pool.in_scope.Goals as goal

pub scoped-requires : goal.scoped-requires
scoped-requires g c =
    let h = c.type_bounds.send-H in
    let k = c.type_bounds.send-A-Conn in
    let r = c.type_bounds.sync-R in
    let b = c.type_bounds.sync-H-Bell in
    record { at = λ a. search (rules, sendable) depth 20 }
