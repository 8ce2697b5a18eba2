-- The places of the members that a ZREM takes out, each once.
use Rattle.std.specs.Prelude.{◌≡◌, ℕ, ◌+◌, List, length, slice_get, Some}
use Rattle.std.specs.List.{list_any}
use Rattle.std.specs.Ordering.{nat_cmp}
use Rattle.std.specs.Str.{bytes_eq}
use Rattle.std.specs.BTreeSet.{BTreeSet, contains}
use Rattle.std.specs.FinMap as fin
use Rattle.zset_core.specs.Semantics.{remove_all}
use Rattle.sorted_sets.specs.MembersWithStagedScores.{Entry, IsWithin, current_score, members_by, names_at, slots}
use Rattle.sorted_sets.specs.declared.set.members_with_staged_scores.ScoreSlot.{ScoreSlot}

-- places of members, each of which is one member less
pub record AreFoundPlaces (entries : List Entry) (places : BTreeSet ℕ) : Type 0 where
  pub same : (place : ℕ) (q : List ℕ) (slot : ScoreSlot) → slice_get (slots entries) place ≡ Some (q, slot) → contains nat_cmp places place ≡ list_any (bytes_eq q) (names_at entries places.keys)
  pub count : length places.keys + fin.len (remove_all (members_by current_score entries) (names_at entries places.keys)) ≡ fin.len (members_by current_score entries)
  pub within : IsWithin (length entries) places.keys
