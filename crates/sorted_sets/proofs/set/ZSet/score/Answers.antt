use Rattle.std.proofs.Common.{◌∙◌}
use Rattle.sorted_sets.proofs.Places.{score_kept}
use Rattle.sorted_sets.proofs.set.ZSet.score.Goals as goal

pub returns : goal.returns
returns g c = c.score_before.ensures ∙ score_kept c.self.inside.members.entries c.self.inside.column c.self.inside.prepared c.args.self.now c.args.member.now c.kept_len-kept.result c.self.view_is c.kept_len-kept.ensures.kept
