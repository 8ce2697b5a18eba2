-- An owner of sets whose log is synced between two of its commands.
use Rattle.std.specs.Prelude.{◌≡◌, ◌≤◌, true}
use Rattle.zset_core.specs.SetsByKey.{World}
use Rattle.append_log.specs.LoggedOwnerViewAndRuns.{LoggedView, Replays}

-- no set changed, and no byte or record came to the log: it was synced, so that more of its records are settled, or a sync failed,
-- which breaks it
pub record IsSynced (old new : LoggedView) : Type 0 where
  pub world : new.world ≡ old.world
  pub share : new.share ≡ old.share
  pub told : new.log.told ≡ old.log.told
  pub appended : new.log.appended ≡ old.log.appended
  pub written : new.log.written ≡ old.log.written
  pub limit : new.log.limit ≡ old.log.limit
  pub deferred : new.log.deferred ≡ old.log.deferred
  pub parts : new.log.parts ≡ old.log.parts
  pub settled : old.log.settled ≤ new.log.settled
  pub broken : old.log.broken ≡ true → new.log.broken ≡ true
  pub replays : (start : World) → Replays start old → Replays start new
