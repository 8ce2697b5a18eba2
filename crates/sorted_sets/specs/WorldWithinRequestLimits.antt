-- Sets of keys, members and scores that requests can carry. No owner has other sets, so that requests can be replayed to each of
-- its worlds.
use Rattle.std.specs.Prelude.{◌≡◌, ℕ, false, List, IfSome}
use Rattle.std.specs.FinMap as fin
use Rattle.resp_wire.specs.RequestEncoding.{IsArgument}
use Rattle.zset_commands.specs.RequestLimits.{IsSpelled}
use Rattle.zset_core.specs.SortedSet.{Members}
use Rattle.zset_core.specs.SetsByKey.{World, is_empty}
use Rattle.sorted_sets.specs.SetAndOwnerViews.{OwnerView}

-- a set of pairs that a request can carry
abbrev pub IsBoundedSet : Members → Type 0
IsBoundedSet members = (member : List ℕ) → IfSome (fin.get members member) (λ score. IsSpelled (score, member))

-- a set that a world may have at a key: it is not empty
pub record IsBoundedAt (name : List ℕ) (set : Members) : Type 0 where
  pub key : IsArgument name
  pub filled : is_empty set ≡ false
  pub members : IsBoundedSet set

-- a world of such sets
abbrev pub IsBoundedWorld : World → Type 0
IsBoundedWorld world = (key : List ℕ) → IfSome (fin.get world key) (IsBoundedAt key)

-- an owner of such sets, and one of them is prepared at most
pub record IsBoundedOwner (owner : OwnerView) : Type 0 where
  pub world : IsBoundedWorld owner.world
  pub next : IfSome owner.next (λ next. IsArgument next.0 × IsBoundedSet next.1.members)
