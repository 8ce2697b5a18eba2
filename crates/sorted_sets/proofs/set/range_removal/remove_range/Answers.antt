use Rattle.std.proofs.Common.{◌∙◌, ap, List, ℕ}
use Rattle.std.specs.Prelude.{slice_range}
use Rattle.sorted_sets.specs.MembersWithStagedScores.{current_score, members_by}
use Rattle.zset_core.specs.SortedSet.{Pair, names_of}
use Rattle.zset_core.specs.Semantics.{remove_all}
use Rattle.sorted_sets.proofs.RangeRows.{SameBag-range}
use Rattle.sorted_sets.proofs.RangeRemoval.{Holds-left, removed_rows}
use Rattle.sorted_sets.proofs.set.range_removal.remove_range.Goals as goal

pub remove_rows-requires : goal.remove_rows-requires
remove_rows-requires g c = record { answer = (c.args.leaving.range, c.requires.stands.answer) }

pub returns-clause-members : goal.returns-clause-members
returns-clause-members g c =
    let m = members_by current_score c.args.members.now.entries in
    let leaving = c.args.leaving in
    let old = c.args.column.now in
    let places : ℕ × ℕ = (leaving.from, leaving.to) in
    let bag = SameBag-range old m leaving.range places c.requires.content c.requires.stands.rows in
    c.take_out_rows.ensures.members ∙ ap (λ (l : List Pair). remove_all m (names_of l)) c.rows.ensures
    ∙ removed_rows leaving.range m (slice_range old.rows leaving.from leaving.to) bag

pub returns-clause-content : goal.returns-clause-content
returns-clause-content g c =
    let range = c.args.leaving.range in
    Holds-left c.args.column.now c.remove_rows.new.self (members_by current_score c.args.members.now.entries) range c.requires.content (c.remove_rows.ensures.removes range c.requires.stands.answer).content

pub returns-clause-column : goal.returns-clause-column
returns-clause-column g c = (c.remove_rows.ensures.removes c.args.leaving.range c.requires.stands.answer).takes_out
