use Rattle.std.proofs.Common.{length, ◌-◌, ◌≡◌, ◌≤◌, take}
use Rattle.std.specs.Io.KnownBytes.{append_known}
use Rattle.byte_devices.proofs.device.write_all.Given as goal

abbrev pub invariant-loop-taken : goal.invariant-loop-taken
invariant-loop-taken g l = record {
  at_most : l.taken ≤ length l.piece;
  told : g.D.ByteDrain.told l.drain ≡ append_known (g.D.ByteDrain.told l.fn.drain) (take l.taken l.piece);
  flushed : g.D.ByteDrain.flushed l.drain ≡ g.D.ByteDrain.flushed l.fn.drain;
  good : g.D.ByteDrain.failures l.drain ≡ g.D.ByteDrain.failures l.fn.drain;
}

abbrev pub decreases-loop-taken : goal.decreases-loop-taken
decreases-loop-taken g l = length l.piece - l.taken
