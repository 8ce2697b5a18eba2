use Rattle.std.proofs.Common.{length, ◌-◌, ◌≡◌, ◌≤◌, take}
use Rattle.std.specs.Io.KnownBytes.{append_known}
use Rattle.log_records.proofs.writing_out.write_out.Given as goal

abbrev pub invariant-loop-taken : goal.invariant-loop-taken
invariant-loop-taken g l = record {
  at_most : l.taken ≤ length l.bytes;
  told : g.S.LogSink.told l.sink ≡ append_known (g.S.LogSink.told l.fn.sink) (take l.taken l.bytes);
  synced : g.S.LogSink.synced l.sink ≡ g.S.LogSink.synced l.fn.sink;
  good : g.S.LogSink.failures l.sink ≡ g.S.LogSink.failures l.fn.sink;
}

abbrev pub decreases-loop-taken : goal.decreases-loop-taken
decreases-loop-taken g l = length l.bytes - l.taken
