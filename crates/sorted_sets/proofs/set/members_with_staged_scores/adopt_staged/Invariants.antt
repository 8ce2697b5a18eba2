use Rattle.std.proofs.Common.{◌≡◌, drop}
use Rattle.sorted_sets.specs.MembersWithStagedScores.{staged_score, rows_by, IsWaiting}
use Rattle.sorted_sets.proofs.set.members_with_staged_scores.adopt_staged.Given as goal

abbrev pub invariant-loop-place : goal.invariant-loop-place
invariant-loop-place g l = record {
  staged : rows_by staged_score l.members.entries ≡ rows_by staged_score l.initial.members.entries;
  waiting : IsWaiting (drop l.place-index l.touched) l.members.entries;
}
