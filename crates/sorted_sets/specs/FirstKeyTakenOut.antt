-- A set that is taken out of a world with its key.
use Rattle.std.specs.Prelude.{◌≡◌, ℕ, false, List, ◌∷◌, None, Some, slice_get}
use Rattle.std.specs.FinMap as fin
use Rattle.sorted_sets.specs.SetAndOwnerViews.{SetView}
use Rattle.zset_core.specs.SetsByKey.{World, is_empty, set_at}

-- the set at the old world's first key was taken out, and the new world is what is left
pub record IsFirst (old : World) (key : List ℕ) (taken : SetView) (new : World) : Type 0 where
  pub first : slice_get (fin.keys old) 0 ≡ Some key
  pub members : taken.members ≡ set_at old key
  pub filled : is_empty taken.members ≡ false
  pub idle : taken.next ≡ None
  pub rest : new ≡ fin.remove old key
  -- the same in lists: keys with their members, in byte order
  pub entries : fin.entries old ≡ (key, taken.members) ∷ fin.entries new
