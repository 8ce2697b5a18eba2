use Rattle.std.proofs.Common.{sym, subst}
use Rattle.connections.specs.HeldConnections.{HeldConnections, AllMayLeave}
use Rattle.connection_turns.specs.SettledRecords.{RisesBy}
use Rattle.connections.proofs.HeldLemmas.{may_leave_refl, may_leave_trans, rises_refl, rises_trans}
use Rattle.connections.proofs.many.Connections.let_go_settled.Goals as goal

pub loop-place-init : goal.loop-place-init
loop-place-init g c =
    let now : HeldConnections = record { held = _; settled = c.self.inside.settled } in
    subst (λ (before : HeldConnections). (AllMayLeave now.settled before.held now.held) × (RisesBy (g.T.Settle.settles c.args.settler.now) before.settled now.settled)) c.self.view_is
    (may_leave_refl now.settled now.held, rises_refl (g.T.Settle.settles c.args.settler.now) now.settled)

pub loop-place-preserved : goal.loop-place-preserved
loop-place-preserved g c =
    let before = c.loop-place.invariant in
    (may_leave_trans _ _ c.let_go.ensures.settled_by.rises _ _ _ before.0 c.let_go.ensures.leave, rises_trans _ _ _ _ before.1 c.let_go.ensures.settled_by)

pub returns-clause-leave : goal.returns-clause-leave
returns-clause-leave g c = subst (λ (now : HeldConnections). AllMayLeave now.settled c.args.self.now.held now.held) (sym c.self-2.view_is) c.loop-place.invariant.0
