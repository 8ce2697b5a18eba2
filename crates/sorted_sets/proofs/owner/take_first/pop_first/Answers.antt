use Rattle.std.proofs.Common.{Some}
use Rattle.sorted_sets.proofs.FirstSets.{gone_of}
use Rattle.sorted_sets.proofs.owner.take_first.pop_first.Goals as goal

pub returns-in-Some-clause-gone : goal.returns-in-Some-clause-gone
returns-in-Some-clause-gone g c = gone_of (Some (c.in-Some.key, c.in-Some.kept)) c.args.sets.now c.pop_first.new.self c.in-Some.ensures.updates
