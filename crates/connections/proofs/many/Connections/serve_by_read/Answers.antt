use Rattle.connections.proofs.HeldLemmas.{turns_refl}
use Rattle.connections.proofs.many.Connections.serve_by_read.Goals as goal

pub returns-then-not-reads_wait : goal.returns-then-not-reads_wait
returns-then-not-reads_wait g c = turns_refl g.E.Exec.allows g.E.Exec.settled _ _ c.requires.settled
