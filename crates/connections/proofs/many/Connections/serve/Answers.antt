use Rattle.connections.proofs.HeldLemmas.{turns_trans}
use Rattle.connections.proofs.many.Connections.serve.Goals as goal

pub loop-part-preserved : goal.loop-part-preserved
loop-part-preserved g c =
    let further = rw c.look.ensures.same at c.serve_part-is_underway-in-loop-part.ensures in
    turns_trans g.E.Exec.allows g.E.Exec.settled _ _ _ _ _ _ c.loop-part.invariant further
