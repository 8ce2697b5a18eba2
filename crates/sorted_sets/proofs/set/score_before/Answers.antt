use Rattle.std.proofs.Common.{◌∙◌, sym, ap, Some, w64, SFits, rules, to_z-of_z, option_map}
use Rattle.sorted_sets.specs.MembersWithStagedScores.{current_score}
use Rattle.sorted_sets.proofs.Places.{slot_nowhere, slot_early, slot_late}
use Rattle.sorted_sets.proofs.set.score_before.Goals as goal

pub returns-in-None : goal.returns-in-None
returns-in-None g c = sym (ap (option_map current_score) (slot_nowhere c.args.members.now.entries c.args.member.now c.args.kept (sym c.in-None.ensures.value)))

pub returns-then-place-kept : goal.returns-then-place-kept
returns-then-place-kept g c =
    let f : SFits w64 c.in-Some.slot.now.current = search rules in
    ap Some (to_z-of_z f)
    ∙ sym (ap (option_map current_score) (slot_early c.args.members.now.entries c.args.member.now c.args.kept c.in-Some.place c.in-Some.slot.now (sym c.in-Some.ensures.index) (sym c.in-Some.ensures.value) c.if-place-kept.true))

pub returns-else-place-kept : goal.returns-else-place-kept
returns-else-place-kept g c = sym (ap (option_map current_score) (slot_late c.args.members.now.entries c.args.member.now c.args.kept c.in-Some.place (sym c.in-Some.ensures.index) c.if-place-kept.false))
