use Rattle.std.proofs.Common.{subst}
use Rattle.table_worker.specs.WorkerRequests.{HandlerView, Attends}
use Rattle.table_worker.proofs.WorkerTurnLemmas.{attends_by_turn}
use Rattle.table_worker.proofs.connection_handler.ConnectionHandlerHandlerTuple2.turn.Goals as goal

pub returns-clause-keeps : goal.returns-clause-keeps
returns-clause-keeps g c =
    let inside = c.self.inside in
    let before : HandlerView = record { worker = inside.worker; handled = inside.handled; connections = inside.connections.held } in
    let after : HandlerView = record { worker = c.turn.new.exec; handled = inside.handled; connections = c.turn.new.self.held } in
    subst (λ (h : HandlerView). Attends h after) c.self.view_is (attends_by_turn before after c.turn.ensures.moves c.turn.ensures.goes_on)
