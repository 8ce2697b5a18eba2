-- Workers may run requests in turn: none, and those of one connection behind those of another.
use Rattle.std.proofs.Common.{ℕ, List, [], ◌∷◌, ◌++◌, refl, ◌∙◌, subst}
use Rattle.resp_wire.specs.Response.{Response}
use Rattle.session_core.specs.Exchange.{Exchanges}
use Rattle.table_worker.specs.WorkerAnswers.{WorkerView, WorkerAnswers}
use Rattle.table_worker.specs.WorkerRequests.{HandlerView, Keeps, Attends}

exchanges_follow : (requests : List (List (List ℕ))) (replies : List Response) (more : List (List (List ℕ))) (further : List Response) (a b c : WorkerView)
    → Exchanges WorkerAnswers a requests replies b → Exchanges WorkerAnswers b more further c → Exchanges WorkerAnswers a (requests ++ more) (replies ++ further) c
exchanges_follow [] [] more further a b c first second = subst (λ (w : WorkerView). Exchanges WorkerAnswers w more further c) first second
exchanges_follow [] (reply ∷ replies) more further a b c first second = absurd first
exchanges_follow (words ∷ requests) [] more further a b c first second = absurd first
exchanges_follow (words ∷ requests) (reply ∷ replies) more further a b c first second =
    (first.0, first.1, exchanges_follow requests replies more further first.0 b c first.2 second)

pub keeps_itself : (w : WorkerView) → Keeps w w
keeps_itself w = record { table = refl; number = refl; ran = record { requests = []; replies = []; exchanges = refl } }

pub keeps_on : (a b c : WorkerView) → Keeps a b → Keeps b c → Keeps a c
keeps_on a b c first second =
    let x = first.ran in let y = second.ran in
    record {
      table = second.table ∙ first.table;
      number = second.number ∙ first.number;
      ran = record {
        requests = x.requests ++ y.requests;
        replies = x.replies ++ y.replies;
        exchanges = exchanges_follow x.requests x.replies y.requests y.replies a b c x.exchanges y.exchanges;
      };
    }

pub attends_itself : (h : HandlerView) → Attends h h
attends_itself h = record { worker = keeps_itself h.worker; connections = λ stand. stand }

pub attends_on : (a b c : HandlerView) → Attends a b → Attends b c → Attends a c
attends_on a b c first second = record {
  worker = keeps_on a.worker b.worker c.worker first.worker second.worker;
  connections = λ stand. second.connections (first.connections stand);
}
