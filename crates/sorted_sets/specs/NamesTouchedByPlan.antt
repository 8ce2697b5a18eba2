-- The names that a plan takes note of on its way, in turn: enough of those in the command to have each that it moves.
use Rattle.std.specs.Prelude.{◌≡◌, ◌≤◌, ◌+◌, ℕ, not, ◌&&◌, if◌then◌else◌, List, [], ◌∷◌, ◌++◌, is_none, is_some}
use Rattle.std.specs.List.{list_any, range_with_len}
use Rattle.std.specs.Str.{bytes_eq}
use Rattle.std.specs.FinMap as fin
use Rattle.zset_core.specs.SortedSet.{Members, Pair}
use Rattle.sorted_sets.specs.declared.set.draft.Draft.{Draft}
use Rattle.zset_commands.specs.declared.flags.Flags.{Flags}

-- the name of one pair of ZADD: with XX only where it is a member
abbrev pub mention : Flags → Members → List ℕ → List (List ℕ)
mention flags members name = if flags.xx && is_none (fin.get members name) then [] else name ∷ []

-- the names of its pairs; who is a member is the same before and after each pair where XX asks for it
abbrev pub mentions : Flags → Members → List Pair → List (List ℕ)
mentions flags members [] = []
mentions flags members (p ∷ ps) = mention flags members p.1 ++ mentions flags members ps

-- the members found so far, after one name more of ZREM
abbrev pub noted : Members → List (List ℕ) → List ℕ → List (List ℕ)
noted members found name = if is_some (fin.get members name) && not (list_any (bytes_eq name) found) then found ++ name ∷ [] else found

abbrev pub all_noted : Members → List (List ℕ) → List (List ℕ) → List (List ℕ)
all_noted members found [] = found
all_noted members found (name ∷ names) = all_noted members (noted members found name) names

-- the places that a draft takes note of, in turn: those of the new members that lead are counted
abbrev pub noted_places : {A : Type 0} → Draft A → List ℕ
noted_places draft = range_with_len draft.kept draft.leading ++ draft.touched.items

-- the leading new members stand among so many entries, and up to their end while no other place was noted
pub record IsLed {A : Type 0} (draft : Draft A) (len : ℕ) : Type 0 where
  pub within : draft.kept + draft.leading ≤ len
  pub alone : draft.touched.items ≡ [] → draft.kept + draft.leading ≡ len
