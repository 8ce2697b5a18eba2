use Rattle.std.proofs.Common.{rules}
use Rattle.held_replies.proofs.held_replies.HeldReplies.let_go.Goals as goal

pub returns-in-Err-clause-unsettled : goal.returns-in-Err-clause-unsettled
returns-in-Err-clause-unsettled g c = search rules
