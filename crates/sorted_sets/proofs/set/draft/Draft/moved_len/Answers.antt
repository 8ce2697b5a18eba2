use Rattle.std.proofs.Common.{sym}
use Rattle.sorted_sets.proofs.Gathered.{length-moved}
use Rattle.sorted_sets.proofs.set.draft.Draft.moved_len.Goals as goal

pub returns : goal.returns
returns g c = sym (length-moved c.args.self.now c.args.members.now.entries c.requires.counted)
