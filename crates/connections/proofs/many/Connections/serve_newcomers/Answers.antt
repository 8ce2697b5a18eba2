use Rattle.connections.proofs.HeldLemmas.{turns_refl, turns_on}
use Rattle.connections.proofs.many.Connections.serve_newcomers.Goals as goal

pub loop-init : goal.loop-init
loop-init g c = turns_refl g.E.Exec.allows g.E.Exec.settled _ _ c.requires.settled

pub loop-preserved : goal.loop-preserved
loop-preserved g c = turns_on g.E.Exec.allows g.E.Exec.settled _ _ _ _ _ _ _ c.loop.invariant c.self-in-loop.view_is c.serve_behind_quiet.ensures
