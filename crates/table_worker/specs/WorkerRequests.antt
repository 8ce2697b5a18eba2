-- What a worker of the server does: the requests that it ran, connection by connection.
use Rattle.std.specs.Prelude.{◌≡◌, ℕ, List, [], map, Option}
use Rattle.std.specs.List.{AllZip}
use Rattle.resp_wire.specs.Response.{Response}
use Rattle.set_table.specs.TableAndPassViews.{TableView, PassView}
use Rattle.session_core.specs.Exchange.{Exchanges}
use Rattle.table_worker.specs.WorkerAnswers.{WorkerView, WorkerAnswers}
use Rattle.connections.specs.HeldConnections.{HeldState, AllStand}

-- what contracts see of a handler: its worker, how many connections it has handled, and those that it holds
pub record HandlerView : Type 0 where
  pub worker : WorkerView
  pub handled : ℕ
  pub connections : List (Option HeldState)

abbrev pub worker_on : TableView → PassView → WorkerView
worker_on table pass = record { table = table; pass = pass }

-- a worker that ran requests in turn, each answered as a worker on a table answers
pub record WorkerHasRun (old new : WorkerView) : Type 0 where
  pub requests : List (List (List ℕ))
  pub replies : List Response
  pub exchanges : Exchanges WorkerAnswers old requests replies new

-- a worker that stayed with its table and its pass, and ran requests
pub record Keeps (old new : WorkerView) : Type 0 where
  pub table : new.table ≡ old.table
  pub number : new.pass.number ≡ old.pass.number
  pub ran : WorkerHasRun old new

-- a handler whose worker ran requests; and each connection that it holds stands as one that is served alone, the requests
-- that it sent answered in turn, those of the others between them, where that was so before
pub record Attends (old new : HandlerView) : Type 0 where
  pub worker : Keeps old.worker new.worker
  pub connections : AllStand WorkerAnswers old.connections old.worker → AllStand WorkerAnswers new.connections new.worker

-- a handler with a worker on a table, that has handled nothing yet; and one for each pass
abbrev pub new_handler : TableView → PassView → HandlerView
new_handler table pass = record { worker = worker_on table pass; handled = 0; connections = [] }

abbrev pub new_handlers : TableView → List PassView → List HandlerView
new_handlers table passes = map (new_handler table) passes

-- the passes of handlers' workers
abbrev pub passes_of : List HandlerView → List PassView
passes_of handlers = map (λ handler. handler.worker.pass) handlers

-- each pass became what its worker's requests made of it
abbrev pub AllKeep : TableView → List PassView → List PassView → Type 0
AllKeep table first last = AllZip (λ before after. Keeps (worker_on table before) (worker_on table after)) first last
