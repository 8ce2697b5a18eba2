use Rattle.std.proofs.Common.{rules}
use Rattle.resp_wire.specs.Response.{ErrorText}
use Rattle.session_core.specs.Exchange.{Exchange}
use Rattle.session_core.proofs.ReplySent.{answered_one, halted_one}
use Rattle.session_core.proofs.resumable_session.Session.answer.Goals as goal

pub returns-in-Err-clause-answered : goal.returns-in-Err-clause-answered
returns-in-Err-clause-answered g c =
    let refused : Exchange g.E.Exec.allows c.args.exec.now c.args.request (ErrorText c.text.result.now) c.args.exec.now = search rules in
    answered_one g.E.Exec.allows c.args.exec.now c.args.exec.now c.args.request (ErrorText c.text.result.now) refused
    _ _ c.put_reply.result c.args.self.now.progress c.put_reply.new.self.progress c.put_reply.ensures.told c.put_reply.ensures.out c.put_reply.ensures.count

pub returns-in-Err-clause-halted : goal.returns-in-Err-clause-halted
returns-in-Err-clause-halted g c =
    let refused : Exchange g.E.Exec.allows c.args.exec.now c.args.request (ErrorText c.text.result.now) c.args.exec.now = search rules in
    halted_one g.E.Exec.allows c.args.exec.now c.args.exec.now c.args.request (ErrorText c.text.result.now) refused
    _ _ c.put_reply.result c.args.self.now.progress.out c.put_reply.ensures.ended
