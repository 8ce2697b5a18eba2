use Rattle.std.proofs.Common.{◌+◌, refl, subst}
use Rattle.table_worker.specs.WorkerRequests.{HandlerView, Attends}
use Rattle.table_worker.proofs.WorkerTurnLemmas.{attends_by_added}
use Rattle.table_worker.proofs.connection_handler.ConnectionHandlerHandlerTuple2.handle.Goals as goal

pub returns-clause-keeps : goal.returns-clause-keeps
returns-clause-keeps g c =
    let inside = c.self.inside in
    let before : HandlerView = record { worker = inside.worker; handled = inside.handled; connections = inside.connections.held } in
    let after : HandlerView = record { worker = inside.worker; handled = inside.handled + 1; connections = c.add.new.self.held } in
    subst (λ (h : HandlerView). Attends h after) c.self.view_is (attends_by_added c.takes_turns.ensures.law before after _ _ refl c.add.ensures.added)
