-- What a command does to a set in numbers.
use Rattle.std.specs.Prelude.{◌≡◌, ◌≢◌, ◌↔◌, ◌+◌, ◌⊎◌, ℕ, not, length, IsTrue}
use Rattle.std.specs.List.{filter}
use Rattle.std.specs.FinMap as fin
use Rattle.zset_core.specs.SortedSet.{Members}
use Rattle.sorted_sets.specs.declared.set.change_counts.Outline.{Outline}

-- how many members of one set another has not
abbrev pub missing : Members → Members → ℕ
missing other members = length (filter (λ name. not (fin.contains_key other name)) (fin.keys members))

-- from the old set to the new one
pub record IsOutline (outline : Outline) (old new : Members) : Type 0 where
  pub added : outline.added ≡ missing old new
  pub removed : outline.removed ≡ missing new old
  pub changed : IsTrue outline.changed ↔ (new ≢ old)
  pub sums : fin.len new + outline.removed ≡ fin.len old + outline.added
  -- no command adds members and removes others
  pub one_way : (outline.added ≡ 0) ⊎ (outline.removed ≡ 0)
