-- A world: sorted sets by key. Only sets with members are kept, so that worlds with the same members are equal.
use Rattle.std.specs.Prelude.{ℕ, Bool, if◌then◌else◌, List, Option, None, Some, nat_eq, unwrap_or, slice_get, find}
use Rattle.std.specs.Ordering.{is_lt}
use Rattle.std.specs.FinMap as fin
use Rattle.std.specs.FinMap.{FinMap}
use Rattle.zset_core.specs.SortedSet.{Members, bytes_cmp}

-- the sets that are not empty, by their keys
abbrev pub World : Type 0
World = FinMap bytes_cmp Members

abbrev pub is_empty : Members → Bool
is_empty members = nat_eq (fin.len members) 0

-- the set at a key
abbrev pub set_at : World → List ℕ → Members
set_at world key = unwrap_or (fin.get world key) fin.empty

-- the world with another set at a key
abbrev pub put_set : World → List ℕ → Members → World
put_set world key members = if is_empty members then fin.remove world key else fin.insert world key members

-- among names in byte order the first one, or the first behind a name
abbrev pub key_behind : List (List ℕ) → Option (List ℕ) → Option (List ℕ)
key_behind names None = slice_get names 0
key_behind names (Some key) = find (λ name. is_lt (bytes_cmp key name)) names
