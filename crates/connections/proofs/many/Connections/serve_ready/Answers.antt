use Rattle.std.proofs.Common.{sym, subst}
use Rattle.connections.specs.HeldConnections.{HeldConnections, TurnsAreTaken}
use Rattle.connections.proofs.HeldLemmas.{turns_refl, turns_trans, turns_on}
use Rattle.connections.proofs.many.Connections.serve_ready.Goals as goal

pub loop-init : goal.loop-init
loop-init g c = turns_refl g.E.Exec.allows g.E.Exec.settled _ _ c.requires.settled

pub loop-preserved : goal.loop-preserved
loop-preserved g c =
    let newcomers = turns_trans g.E.Exec.allows g.E.Exec.settled _ _ _ _ _ _ c.loop.invariant c.serve_newcomers.ensures in
    turns_on g.E.Exec.allows g.E.Exec.settled _ _ _ _ _ _ _ newcomers c.self-in-loop.view_is c.serve_behind_quiet.ensures

pub returns-in_default : goal.returns-in_default
returns-in_default g c =
    let newcomers = turns_trans g.E.Exec.allows g.E.Exec.settled _ _ _ _ _ _ c.loop.invariant c.serve_newcomers.ensures in
    subst (λ (now : HeldConnections). TurnsAreTaken g.E.Exec.allows g.E.Exec.settled c.args.self.now c.args.exec.now now c.serve_newcomers.new.exec) (sym c.self-in-loop.view_is) newcomers
