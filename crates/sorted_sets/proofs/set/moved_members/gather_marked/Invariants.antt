use Rattle.std.proofs.Common.{◌≡◌, ◌≤◌, ◌++◌, ℕ, length, take, get_or}
use Rattle.std.specs.List.{range_with_len}
use Rattle.sorted_sets.specs.MovedMembers.{moved_names}
use Rattle.sorted_sets.specs.PlaceMarks.{AreMarked}
use Rattle.sorted_sets.specs.MembersWithStagedScores.{current_score, staged_score, members_by, names_at, IsWaiting}
use Rattle.sorted_sets.proofs.set.moved_members.gather_marked.Given as goal

abbrev pub invariant-loop-index : goal.invariant-loop-index
invariant-loop-index g l = record {
  len : length l.noted.items ≡ length l.initial.noted.items;
  few : l.moved ≤ l.index;
  rest : (k : ℕ) → l.index ≤ k → get_or l.noted.items k 0 ≡ get_or l.initial.noted.items k 0;
  waiting : IsWaiting l.noted.items l.members.entries;
  marks : 1 ≤ length l.marks;
  marked : AreMarked l.marks (take l.moved l.noted.items);
  names : names_at l.members.entries (range_with_len l.kept l.leading ++ take l.moved l.noted.items)
      ≡ moved_names (members_by current_score (take l.kept l.members.entries)) (members_by staged_score l.members.entries)
      (names_at l.members.entries (range_with_len l.kept l.leading ++ take l.index l.initial.noted.items));
}
