use Rattle.std.proofs.Common.{◌≡◌, ℕ, ◌≤◌, ap, sym, ◌∙◌, arith, length}
use Rattle.std.proofs.lemmas.List.{length-map}
use Rattle.connection_channel.proofs.Steps.{begins}
use Rattle.hand_over.proofs.run_worker_pool.hand_over.Goals as goal

as_few : (a b top : ℕ) → a ≡ b → b ≤ top → a ≤ top
as_few a b top e h = omega arith

pub crew_of-requires : goal.crew_of-requires
crew_of-requires g c = record { room = c.requires.room }

pub bounded_with-requires-clause-rule : goal.bounded_with-requires-clause-rule
bounded_with-requires-clause-rule g c = begins g.row.A-Conn.Denot

pub in_scope-arrivals-requires-clause-parts : goal.in_scope-arrivals-requires-clause-parts
in_scope-arrivals-requires-clause-parts g c =
    let d = c.in_ok-doors.crew.desks in let h = c.args.handlers in
    λ _ _. as_few d.len h.len 64 (d.ok.0 ∙ sym (length-map d.items (λ d. d.handler)) ∙ ap length c.in_ok-doors.ensures.handlers ∙ sym h.ok.0) c.requires.workers

pub in_scope-arrivals-requires-clause-room : goal.in_scope-arrivals-requires-clause-room
in_scope-arrivals-requires-clause-room g c = λ _ _. c.in_ok-doors.ensures.room
