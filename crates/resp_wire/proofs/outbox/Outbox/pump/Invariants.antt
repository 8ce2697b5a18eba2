use Rattle.std.proofs.Common.{◌≡◌, ◌≤◌, ◌-◌, length, drop}
use Rattle.std.specs.Io.KnownBytes.{append_known}
use Rattle.resp_wire.proofs.outbox.Outbox.pump.Given as goal

abbrev pub invariant-loop-self : goal.invariant-loop-self
invariant-loop-self g l = record {
  within : l.self.sent ≤ length l.self.held.items;
  told : append_known (g.D.ByteDrain.told l.self.drain) (drop l.self.sent l.self.held.items) ≡ append_known (g.D.ByteDrain.told l.fn.self.drain) (drop l.fn.self.sent l.fn.self.held.items);
  flushed : g.D.ByteDrain.flushed l.self.drain ≡ g.D.ByteDrain.flushed l.fn.self.drain;
  calls : l.self.count.calls ≡ l.fn.self.count.calls;
  failures : l.self.count.failures ≡ l.fn.self.count.failures;
}

abbrev pub decreases-loop-self : goal.decreases-loop-self
decreases-loop-self g l = length l.self.held.items - l.self.sent
