use Rattle.connections.proofs.HeldLemmas.{turns_trans, left_go_on, left_leave}
use Rattle.connections.proofs.many.Connections.turn.Goals as goal

pub returns-clause-moves : goal.returns-clause-moves
returns-clause-moves g c =
    let allows = g.E.Exec.allows in
    let known = g.E.Exec.settled in
    let read = rw c.wait_due.ensures.same at c.serve_by_read.ensures in
    let quiet = turns_trans allows known _ _ _ _ _ _ read c.serve_woken.ensures in
    let served = turns_trans allows known _ _ _ _ _ _ (turns_trans allows known _ _ _ _ _ _ quiet c.serve_newcomers.ensures) c.serve_ready.ensures in
    served.moves

pub returns-clause-goes_on : goal.returns-clause-goes_on
returns-clause-goes_on g c =
    let allows = g.E.Exec.allows in
    let known = g.E.Exec.settled in
    let settled = c.let_go_settled.new.self.settled in
    let read = rw c.wait_due.ensures.same at c.serve_by_read.ensures in
    let quiet = turns_trans allows known _ _ _ _ _ _ read c.serve_woken.ensures in
    let served = turns_trans allows known _ _ _ _ _ _ (turns_trans allows known _ _ _ _ _ _ quiet c.serve_newcomers.ensures) c.serve_ready.ensures in
    left_go_on allows settled _ _ _ _ _ (left_go_on allows settled _ _ _ _ _ served.goes_on c.let_go_settled.ensures.leave) (left_leave settled _ _ c.look_for_silent.ensures.left)
