use Rattle.std.proofs.Common.{rules}
use Rattle.held_replies.proofs.held_replies.HeldRepliesByteDrain.flush.Goals as goal

pub returns-clause-inner : goal.returns-clause-inner
returns-clause-inner g c = search rules

pub returns-clause-held : goal.returns-clause-held
returns-clause-held g c = search rules
