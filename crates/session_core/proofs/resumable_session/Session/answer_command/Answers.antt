use Rattle.std.proofs.Common.{ap, refl, Ok, Err}
use Rattle.resp_wire.specs.Response.{response_of, ErrorText}
use Rattle.session_core.proofs.ReplySent.{command_exchange, answered_one, halted_one}
use Rattle.session_core.proofs.resumable_session.Session.answer_command.Goals as goal

pub returns-in-Err-clause-answered : goal.returns-in-Err-clause-answered
returns-in-Err-clause-answered g c =
    answered_one g.E.Exec.allows c.args.exec.now c.run.new.self c.args.command.now.words (ErrorText c.text.result.now)
    (command_exchange g.E.Exec.allows c.args.exec.now c.run.new.self c.args.command.now (Err c.in-Err.refusal) _ c.requires.read c.in-Err.ensures.allowed (ap ErrorText c.text.ensures))
    _ _ c.put_reply.result c.args.self.now.progress c.put_reply.new.self.progress c.put_reply.ensures.told c.put_reply.ensures.out c.put_reply.ensures.count

pub returns-in-Err-clause-halted : goal.returns-in-Err-clause-halted
returns-in-Err-clause-halted g c =
    halted_one g.E.Exec.allows c.args.exec.now c.run.new.self c.args.command.now.words (ErrorText c.text.result.now)
    (command_exchange g.E.Exec.allows c.args.exec.now c.run.new.self c.args.command.now (Err c.in-Err.refusal) _ c.requires.read c.in-Err.ensures.allowed (ap ErrorText c.text.ensures))
    _ _ c.put_reply.result c.args.self.now.progress.out c.put_reply.ensures.ended

pub returns-in-Ok-clause-answered : goal.returns-in-Ok-clause-answered
returns-in-Ok-clause-answered g c =
    answered_one g.E.Exec.allows c.args.exec.now c.run.new.self c.args.command.now.words (response_of c.in-Ok.reply)
    (command_exchange g.E.Exec.allows c.args.exec.now c.run.new.self c.args.command.now (Ok (response_of c.in-Ok.reply)) _ c.requires.read c.in-Ok.ensures.allowed refl)
    _ _ c.put_reply-in-Ok.result c.args.self.now.progress c.put_reply-in-Ok.new.self.progress c.put_reply-in-Ok.ensures.told c.put_reply-in-Ok.ensures.out c.put_reply-in-Ok.ensures.count

pub returns-in-Ok-clause-halted : goal.returns-in-Ok-clause-halted
returns-in-Ok-clause-halted g c =
    halted_one g.E.Exec.allows c.args.exec.now c.run.new.self c.args.command.now.words (response_of c.in-Ok.reply)
    (command_exchange g.E.Exec.allows c.args.exec.now c.run.new.self c.args.command.now (Ok (response_of c.in-Ok.reply)) _ c.requires.read c.in-Ok.ensures.allowed refl)
    _ _ c.put_reply-in-Ok.result c.args.self.now.progress.out c.put_reply-in-Ok.ensures.ended
