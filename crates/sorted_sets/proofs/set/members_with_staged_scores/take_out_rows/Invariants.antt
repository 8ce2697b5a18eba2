use Rattle.std.proofs.Common.{◌≡◌, drop}
use Rattle.sorted_sets.specs.MembersWithStagedScores.{current_score, members_by, ScoresAreSettled}
use Rattle.zset_core.specs.SortedSet.{names_of}
use Rattle.zset_core.specs.Semantics.{remove_all}
use Rattle.sorted_sets.proofs.set.members_with_staged_scores.take_out_rows.Given as goal

abbrev pub invariant-loop-row : goal.invariant-loop-row
invariant-loop-row g l = record {
  members : remove_all (members_by current_score l.members.entries) (names_of (drop l.row-index l.rows)) ≡ remove_all (members_by current_score l.initial.members.entries) (names_of l.rows);
  settled : ScoresAreSettled l.members.entries;
}
