use Rattle.std.proofs.Common.{◌∙◌, sym}
use Rattle.sorted_sets.specs.MembersWithStagedScores.{current_score}
use Rattle.sorted_sets.proofs.Bridge.{len_members}
use Rattle.sorted_sets.proofs.set.members_with_staged_scores.card_of.Goals as goal

pub returns-clause-card : goal.returns-clause-card
returns-clause-card g c = c.len.ensures.len ∙ sym (len_members current_score c.args.members.now.entries c.len.ensures.unique)
