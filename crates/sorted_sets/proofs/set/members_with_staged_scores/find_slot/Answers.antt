use Rattle.std.proofs.Common.{◌∙◌, sym, ap, option_map}
use Rattle.sorted_sets.specs.MembersWithStagedScores.{staged_score}
use Rattle.sorted_sets.proofs.Bridge.{get_members}
use Rattle.sorted_sets.proofs.Staging.{place_of}
use Rattle.sorted_sets.proofs.set.members_with_staged_scores.find_slot.Goals as goal

pub returns-in-Some-clause-place : goal.returns-in-Some-clause-place
returns-in-Some-clause-place g c = place_of c.args.members.now.entries c.in-Some.place c.args.member.now c.in-Some.field-0-1.now c.in-Some.slot.now c.in-Some.ensures.entry (sym c.in-Some.ensures.key)

pub returns-in-None-clause-score : goal.returns-in-None-clause-score
returns-in-None-clause-score g c = sym (get_members staged_score c.args.members.now.entries c.args.member.now ∙ ap (option_map staged_score) (sym c.in-None.ensures.value))

pub returns-in-Some-clause-score : goal.returns-in-Some-clause-score
returns-in-Some-clause-score g c = sym (get_members staged_score c.args.members.now.entries c.args.member.now ∙ ap (option_map staged_score) (sym c.in-Some.ensures.value))
