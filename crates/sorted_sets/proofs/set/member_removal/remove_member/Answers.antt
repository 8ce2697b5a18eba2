use Rattle.std.proofs.Common.{◌∙◌, ℕ, ℤ, List, SFits, w64, sym, ap, subst, rules, to_z-of_z}
use Rattle.std.specs.FinMap as fin
use Rattle.ripple_column.specs.Content.{Holds}
use Rattle.sorted_sets.specs.MembersWithStagedScores.{current_score, members_by}
use Rattle.zset_core.specs.SortedSet.{Members, pairs}
use Rattle.sorted_sets.proofs.MemberRemoval.{HasRow-of, Holds-without, name_is, name_stays, score_is}
use Rattle.sorted_sets.proofs.Staging.{members_gone, ScoresAreSettled-gone}
use Rattle.sorted_sets.proofs.set.member_removal.remove_member.Goals as goal

pub delete-requires-clause-there : goal.delete-requires-clause-there
delete-requires-clause-there g c =
    let es = c.args.members.now.entries in
    let name = c.in-Some.name in
    let slot = c.in-Some.slot in
    let f : SFits w64 slot.current = search rules in
    let row = c.new.ensures ∙ ap (λ (s : ℤ). (s, name)) (to_z-of_z f) in
    HasRow-of c.args.column.now (members_by current_score es) c.new.result name slot.current row
    (score_is es c.args.place name slot c.len-count.ensures.unique (sym c.in-Some.ensures.entry)) c.requires.content

pub returns-clause-members : goal.returns-clause-members
returns-clause-members g c =
    let es = c.args.members.now.entries in
    let name = c.in-Some.name in
    members_gone current_score name c.args.members.now c.swap_remove_index.new.self c.in-Some.ensures.updates
    ∙ ap (λ (q : List ℕ). fin.remove (members_by current_score es) q) (sym (name_is es c.args.place name c.in-Some.slot (sym c.in-Some.ensures.entry)))

pub returns-clause-settled : goal.returns-clause-settled
returns-clause-settled g c =
    ScoresAreSettled-gone c.in-Some.name c.args.members.now c.swap_remove_index.new.self c.in-Some.ensures.updates c.swap_remove_index.ensures.unique c.requires.settled

pub returns-clause-before : goal.returns-clause-before
returns-clause-before g c p before =
    name_stays c.args.members.now.entries c.swap_remove_index.new.self.entries c.args.place p (c.in-Some.name, c.in-Some.slot) c.in-Some.ensures.entries c.requires.within before

pub returns-clause-content : goal.returns-clause-content
returns-clause-content g c =
    let es = c.args.members.now.entries in
    let m = members_by current_score es in
    let name = c.in-Some.name in
    let slot = c.in-Some.slot in
    let f : SFits w64 slot.current = search rules in
    let row = c.new.ensures ∙ ap (λ (s : ℤ). (s, name)) (to_z-of_z f) in
    let gone = members_gone current_score name c.args.members.now c.swap_remove_index.new.self c.in-Some.ensures.updates in
    subst (λ (n : Members). Holds c.delete.new.self (pairs n)) (sym gone)
    (Holds-without c.args.column.now c.delete.new.self m c.new.result name slot.current row
    (score_is es c.args.place name slot c.len-count.ensures.unique (sym c.in-Some.ensures.entry)) c.requires.content c.delete.ensures.content)
