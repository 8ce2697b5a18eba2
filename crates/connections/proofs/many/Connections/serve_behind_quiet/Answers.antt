use Rattle.connections.proofs.HeldLemmas.{turns_trans}
use Rattle.connections.proofs.many.Connections.serve_behind_quiet.Goals as goal

pub returns : goal.returns
returns g c =
    let woken = rw c.look.ensures.same at c.serve_woken.ensures in
    rw c.yield_behind.ensures.same (turns_trans g.E.Exec.allows g.E.Exec.settled _ _ _ _ _ _ woken c.serve.ensures)
