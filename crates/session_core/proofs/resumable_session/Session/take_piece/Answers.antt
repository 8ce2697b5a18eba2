use Rattle.session_core.proofs.HeldRequests.{halted_unfed}
use Rattle.session_core.proofs.resumable_session.Session.take_piece.Goals as goal

pub returns-then-is_err-clause-halted : goal.returns-then-is_err-clause-halted
returns-then-is_err-clause-halted g c = halted_unfed g.E.Exec.allows _ _ _ _ _
