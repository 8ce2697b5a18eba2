-- How a set is kept: the entries of its map, new members last, each with the score that it has and the one that it gets.
use Rattle.std.specs.Prelude.{◌≡◌, ℕ, ◌<◌, ◌≤◌, Bool, false, ℤ, List, [], map, length, take, nat_eq, slice_get, Option, IfSome, option_map, unwrap_or}
use Rattle.std.specs.List.{AllByRecursion, list_any}
use Rattle.std.specs.FinMap as fin
use Rattle.std.specs.Map.{lookup}
use Rattle.std.specs.Str.{bytes_eq}
use Rattle.zset_core.specs.SortedSet.{Members}
use Rattle.sorted_sets.specs.declared.set.members_with_staged_scores.ScoreSlot.{ScoreSlot}

-- equality of members, as the map tests it
abbrev pub same_bytes : List ℕ → List ℕ → Bool
same_bytes x y = bytes_eq x y

abbrev pub Entry : Type 0
Entry = List ℕ × ScoreSlot

abbrev pub current_score : ScoreSlot → ℤ
current_score slot = slot.current

abbrev pub staged_score : ScoreSlot → ℤ
staged_score slot = slot.staged

-- the bytes of the member at a place
abbrev pub name_at : List Entry → ℕ → List ℕ
name_at entries place = unwrap_or (option_map (λ (e : Entry). e.0) (slice_get entries place)) []

-- the bytes of the members at places
abbrev pub names_at : List Entry → List ℕ → List (List ℕ)
names_at entries places = map (name_at entries) places

-- members with one of their two scores
abbrev pub rows_by : (ScoreSlot → ℤ) → List Entry → List (List ℕ × ℤ)
rows_by score entries = map (λ (e : Entry). (e.0, score e.1)) entries

-- the set that entries make by one of their two scores
abbrev pub members_by : (ScoreSlot → ℤ) → List Entry → Members
members_by score entries = fin.from_entries (rows_by score entries)

-- members with both of their scores
abbrev pub slots : List Entry → List (List ℕ × ScoreSlot)
slots entries = map (λ (e : Entry). (e.0, e.1)) entries

-- what entries have at some bytes
abbrev pub slot_at : List Entry → List ℕ → Option ScoreSlot
slot_at entries q = lookup (λ k. bytes_eq q k) entries

-- an entry does not wait for another score
abbrev pub Stays : Entry → Type 0
Stays e = e.1.staged ≡ e.1.current

-- no entry waits for another score
abbrev pub ScoresAreSettled : List Entry → Type 0
ScoresAreSettled entries = (i : ℕ) → IfSome (slice_get entries i) Stays

-- each of these places has an entry
abbrev pub IsWithin : ℕ → List ℕ → Type 0
IsWithin len places = AllByRecursion (λ p. p < len) places

-- only the entries at these places may wait for another score
pub record IsWaiting (places : List ℕ) (entries : List Entry) : Type 0 where
  pub within : IsWithin (length entries) places
  pub settled : (i : ℕ) → list_any (λ p. nat_eq p i) places ≡ false → IfSome (slice_get entries i) Stays

-- the old entries stand first among the new ones, with the scores that they have
pub record Grows (old new : List Entry) : Type 0 where
  pub longer : length old ≤ length new
  pub front : take (length old) (rows_by current_score new) ≡ rows_by current_score old

-- the entries are what they were before a command
pub record IsBack (old new : List Entry) : Type 0 where
  pub same : rows_by current_score new ≡ rows_by current_score old
  pub settled : ScoresAreSettled new
