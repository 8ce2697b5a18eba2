use Rattle.session_core.proofs.Interleaving.{moves-refl}
use Rattle.connection_turns.proofs.connection_in_turns.Visit.run_held.Goals as goal

pub returns-else-eq-clause-moves : goal.returns-else-eq-clause-moves
returns-else-eq-clause-moves g c = moves-refl g.E.Exec.allows _
