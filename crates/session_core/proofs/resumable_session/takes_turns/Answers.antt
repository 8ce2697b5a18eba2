use Rattle.session_core.proofs.Interleaving as interleaving
use Rattle.session_core.proofs.resumable_session.takes_turns.Goals as goal

pub returns : goal.returns
returns g c = record { law = interleaving.takes_turns g.E.Exec.allows c.cut.ensures.requests_are c.cut.ensures.rest_is c.cut.ensures.fault_is }
