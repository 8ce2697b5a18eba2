use Rattle.std.proofs.Common.{◌≡◌, drop}
use Rattle.sorted_sets.specs.MembersWithStagedScores.{current_score, rows_by, IsWaiting}
use Rattle.sorted_sets.proofs.set.members_with_staged_scores.discard_staged.Given as goal

abbrev pub invariant-loop-place : goal.invariant-loop-place
invariant-loop-place g l = record {
  current : rows_by current_score l.members.entries ≡ rows_by current_score l.initial.members.entries;
  waiting : IsWaiting (drop l.place-index l.touched) l.members.entries;
}
