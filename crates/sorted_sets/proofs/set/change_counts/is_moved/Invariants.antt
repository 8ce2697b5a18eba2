use Rattle.std.proofs.Common.{drop}
use Rattle.sorted_sets.specs.MembersWithStagedScores.{IsWaiting}
use Rattle.sorted_sets.proofs.set.change_counts.is_moved.Given as goal

abbrev pub invariant-loop-place : goal.invariant-loop-place
invariant-loop-place g l = IsWaiting (drop l.place-index l.touched) l.members.entries
