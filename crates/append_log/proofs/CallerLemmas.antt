-- What other crates cite of these proofs: a set whose outline tells no change is the same set; which refusals an append and
-- a sync give, and exactly when; no bytes replay to the sets that were there.
pub use Rattle.log_records.proofs.OutlineLemmas.{unchanged}
pub use Rattle.log_records.proofs.AppendRefusals.{append_stays, append_breaks, append_refusals, exactly_broken, exactly_full, exactly_broken_at_sync, sync_refusals}
pub use Rattle.log_records.proofs.HeldReplay.{replayed_start}
