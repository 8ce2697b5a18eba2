-- Connections leave a worker that ran requests.
use Rattle.std.proofs.Common.{◌≡◌, ℕ, List, [], ◌∷◌, Option, Result, Ok, Err, inl, inr, ◌∙◌, sym, subst}
use Rattle.resp_wire.specs.Response.{Response}
use Rattle.zset_commands.specs.AbstractCommand.{Meaning}
use Rattle.zset_commands.specs.CommandGrammar.{asked}
use Rattle.zset_commands.specs.declared.refusal.Refusal.{Refusal}
use Rattle.session_core.specs.Exchange.{ExchangeOf, Exchanges}
use Rattle.session_core.specs.Interleaved.{StateMoves, TakesTurns}
use Rattle.table_worker.specs.WorkerAnswers.{WorkerView, WorkerAnswers}
use Rattle.connections.specs.HeldConnections.{AllStand, AllGoOn, IsAdded}
use Rattle.connections.specs.ConnectionTurnState.{new_state}
use Rattle.connections.proofs.HeldLemmas.{all_stand_on, added_stands}
use Rattle.table_worker.specs.WorkerRequests.{HandlerView, Keeps, Attends}
use Rattle.table_worker.specs.WorkerRequestsCompose.{keeps_itself}

abbrev Stays : WorkerView → WorkerView → Type 0
Stays old new = (new.table ≡ old.table) × (new.pass.number ≡ old.pass.number)

same_stays : (old new : WorkerView) → new ≡ old → Stays old new
same_stays old new same = (λ i. (same i).table, λ i. (same i).pass.number)

stays_in_exchange : (old new : WorkerView) (words : List (List ℕ)) (meant : Result Meaning Refusal) (reply : Response) → ExchangeOf WorkerAnswers old words meant reply new → Stays old new
stays_in_exchange old new words (Ok meaning) reply (inl answers) = (answers.1.table, answers.1.number)
stays_in_exchange old new words (Ok meaning) reply (inr refuses) = same_stays old new refuses.0
stays_in_exchange old new words (Err refusal) reply (inl refuses) = same_stays old new refuses.0
stays_in_exchange old new words (Err refusal) reply (inr refuses) = same_stays old new refuses.0

stays : (requests : List (List (List ℕ))) (replies : List Response) (old new : WorkerView) → Exchanges WorkerAnswers old requests replies new → Stays old new
stays [] [] old new same = same_stays old new same
stays [] (reply ∷ replies) old new none = absurd none
stays (words ∷ requests) [] old new none = absurd none
stays (words ∷ requests) (reply ∷ replies) old new (between, exchange, rest) =
    let first = stays_in_exchange old between words (asked words) reply exchange in
    let others = stays requests replies between new rest in
    (others.0 ∙ first.0, others.1 ∙ first.1)

ran : (old new : WorkerView) (requests : List (List (List ℕ))) (replies : List Response) → Exchanges WorkerAnswers old requests replies new → Keeps old new
ran old new requests replies exchanges =
    let stay = stays requests replies old new exchanges in
    record { table = stay.0; number = stay.1; ran = record { requests = requests; replies = replies; exchanges = exchanges } }

-- requests, whichever connection's, leave a worker that ran them
pub keeps_by_moves : (old new : WorkerView) → StateMoves WorkerAnswers old new → Keeps old new
keeps_by_moves old new moves = ran old new moves.requests moves.replies moves.exchanges

-- a turn for each connection that is ready
pub attends_by_turn : (old new : HandlerView) → StateMoves WorkerAnswers old.worker new.worker → AllGoOn WorkerAnswers old.connections old.worker new.connections new.worker → Attends old new
attends_by_turn old new moves goes = record {
  worker = keeps_by_moves old.worker new.worker moves;
  connections = all_stand_on WorkerAnswers old.connections new.connections old.worker new.worker goes;
}

-- a connection is taken on
pub attends_by_added : TakesTurns WorkerAnswers → (old new : HandlerView) (source drain : Option (List ℕ)) → new.worker ≡ old.worker → IsAdded (new_state source drain) old.connections new.connections → Attends old new
attends_by_added law old new source drain same added = record {
  worker = subst (λ (w : WorkerView). Keeps old.worker w) (sym same) (keeps_itself old.worker);
  connections = λ stand. subst (λ (w : WorkerView). AllStand WorkerAnswers new.connections w) (sym same) (added_stands WorkerAnswers law old.connections new.connections old.worker source drain added stand);
}
