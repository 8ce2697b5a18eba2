use Rattle.std.proofs.Common.{◌≡◌, ℕ, ◌+◌, List, length, None}
use Rattle.zset_core.specs.SetsByKey.{World}
use Rattle.log_records.specs.ReloadOutcome.{ReloadHolds}
use Rattle.log_records.specs.ReloadSteps.{IsBetweenReads}
use Rattle.append_log.proofs.loading.Reloader.replay_held.Given as goal

abbrev pub invariant-records : goal.invariant-records
invariant-records g l = record {
  idle : l.owner.next ≡ None;
  bytes_stay : l.self.decoder.taken + length l.self.decoder.held ≡ l.fn.self.decoder.taken + length l.fn.self.decoder.held;
  ready : IsBetweenReads l.self.decoder l.self.records;
  holds : (start : World) (bytes : List ℕ) → ReloadHolds start bytes l.fn.self.decoder l.fn.owner.world l.fn.self.records l.fn.self.version → ReloadHolds start bytes l.self.decoder l.owner.world l.self.records l.self.version;
}

abbrev pub decreases-records : goal.decreases-records
decreases-records g l = length l.self.decoder.held
