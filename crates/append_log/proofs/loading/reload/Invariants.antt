use Rattle.std.proofs.Common.{◌≡◌, ◌+◌, ◌-◌, ◌*◌, ◌^◌, ◌≤◌, length, None}
use Rattle.std.specs.Prelude.{min}
use Rattle.log_records.specs.ReloadSteps.{IsBetweenReads, Underway}
use Rattle.append_log.proofs.loading.reload.Given as goal

abbrev pub invariant-reads : goal.invariant-reads
invariant-reads g l = record {
  way : Underway (g.R.ByteSource.told l.fn.source) (g.R.ByteSource.told l.source) l.fn.owner.world l.reloader.decoder l.owner.world l.reloader.records l.reloader.version;
  slice : length l.piece.items ≡ l.buffer;
  idle : l.owner.next ≡ None;
  bytes_so_far : l.reloader.decoder.taken + length l.reloader.decoder.held ≤ l.counter * 65536;
  ready : IsBetweenReads l.reloader.decoder l.reloader.records;
  few : g.R.ByteSource.calls l.source ≤ g.R.ByteSource.calls l.fn.source + l.counter;
  many : min (g.R.ByteSource.calls l.fn.source + l.counter) (2 ^ 64 - 1) ≤ g.R.ByteSource.calls l.source;
  good : g.R.ByteSource.failures l.source ≡ g.R.ByteSource.failures l.fn.source;
}
