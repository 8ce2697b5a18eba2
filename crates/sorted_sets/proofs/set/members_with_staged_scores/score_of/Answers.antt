use Rattle.std.proofs.Common.{◌∙◌, sym, ap, Some, w64, SFits, rules, to_z-of_z, option_map}
use Rattle.sorted_sets.specs.MembersWithStagedScores.{current_score}
use Rattle.sorted_sets.proofs.Bridge.{get_members}
use Rattle.sorted_sets.proofs.set.members_with_staged_scores.score_of.Goals as goal

pub returns-in-None : goal.returns-in-None
returns-in-None g c = sym (get_members current_score c.args.members.now.entries c.args.member.now ∙ ap (option_map current_score) (sym c.in-None.ensures.value))

pub returns-in-Some : goal.returns-in-Some
returns-in-Some g c =
    let f : SFits w64 c.in-Some.slot.now.current = search rules in
    ap Some (to_z-of_z f) ∙ sym (get_members current_score c.args.members.now.entries c.args.member.now ∙ ap (option_map current_score) (sym c.in-Some.ensures.value))
