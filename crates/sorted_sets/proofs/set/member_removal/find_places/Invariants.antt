use Rattle.std.proofs.Common.{◌≡◌, ◌≤◌, ℕ, List, [], drop, length}
use Rattle.std.specs.List.{list_any}
use Rattle.std.specs.Str.{bytes_eq}
use Rattle.sorted_sets.specs.NamesTouchedByPlan.{all_noted}
use Rattle.zset_core.specs.Semantics.{remove_all}
use Rattle.sorted_sets.specs.MembersWithStagedScores.{current_score, members_by, names_at, IsWithin}
use Rattle.sorted_sets.specs.RemovedMemberPlaces.{AreFoundPlaces}
use Rattle.sorted_sets.proofs.set.member_removal.find_places.Given as goal

abbrev pub invariant-loop-name : goal.invariant-loop-name
invariant-loop-name g l = record {
  gone : remove_all (remove_all (members_by current_score l.members.entries) (names_at l.members.entries l.places.keys)) (drop l.name-index l.names) ≡ remove_all (members_by current_score l.members.entries) l.names;
  order : all_noted (members_by current_score l.members.entries) (names_at l.members.entries l.order.items) (drop l.name-index l.names) ≡ all_noted (members_by current_score l.members.entries) [] l.names;
  seen : (q : List ℕ) → list_any (bytes_eq q) (names_at l.members.entries l.order.items) ≡ list_any (bytes_eq q) (names_at l.members.entries l.places.keys);
  within : IsWithin (length l.members.entries) l.order.items;
  found : AreFoundPlaces l.members.entries l.places;
  few : length l.places.keys ≤ l.name-index;
}
