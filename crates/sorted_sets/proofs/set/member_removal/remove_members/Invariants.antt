use Rattle.std.proofs.Common.{◌≡◌, ◌≤◌, length}
use Rattle.ripple_column.specs.Content.{Holds}
use Rattle.zset_core.specs.SortedSet.{pairs}
use Rattle.sorted_sets.specs.MembersWithStagedScores.{current_score, members_by, names_at, ScoresAreSettled, IsWithin}
use Rattle.zset_core.specs.Semantics.{remove_all}
use Rattle.sorted_sets.proofs.set.member_removal.remove_members.Given as goal

abbrev pub invariant-loop-place : goal.invariant-loop-place
invariant-loop-place g l = record {
  members : remove_all (members_by current_score l.members.entries) (names_at l.members.entries l.places.keys) ≡ remove_all (members_by current_score l.initial.members.entries) (names_at l.initial.members.entries l.initial.places.keys);
  settled : ScoresAreSettled l.members.entries;
  within : IsWithin (length l.members.entries) l.places.keys;
  content : Holds l.column (pairs (members_by current_score l.members.entries));
  room : length l.places.keys ≤ l.column.delete_spare;
  rows : l.column.rows ≡ l.initial.column.rows;
  pivots : l.column.pivots ≡ l.initial.column.pivots;
}

abbrev pub decreases-loop-place : goal.decreases-loop-place
decreases-loop-place g l = length l.places.keys
