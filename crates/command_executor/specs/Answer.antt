-- What an executor answers a command.
use Rattle.std.specs.Prelude.{Result, Ok, Err}
use Rattle.resp_messages.specs.declared.reply.Reply.{Reply}
use Rattle.resp_wire.specs.Response.{Response, response_of}
use Rattle.zset_commands.specs.declared.refusal.Refusal.{Refusal}

-- an answer, whatever memory its reply stands in
abbrev pub answer_of : {A : Type 0} → Result (Reply A) Refusal → Result Response Refusal
answer_of (Ok reply) = Ok (response_of reply)
answer_of (Err refusal) = Err refusal
