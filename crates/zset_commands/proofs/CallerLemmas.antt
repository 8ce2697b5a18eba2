-- What other crates cite of these proofs: what a request is read as, and sums that are scores.
pub use Rattle.zset_commands.proofs.Asked.{asked-ok}
pub use Rattle.zset_commands.proofs.ReadWithinLimits.{passing}
