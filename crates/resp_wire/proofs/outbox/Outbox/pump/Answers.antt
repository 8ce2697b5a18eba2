use Rattle.std.proofs.Common.{arith, ◌∙◌, length-drop}
use Rattle.std.proofs.lemmas.List.{take_rest}
use Rattle.resp_wire.proofs.OutboxLemmas.{taken_more}
use Rattle.resp_wire.proofs.outbox.Outbox.pump.Goals as goal

pub loop-self-preserved : goal.loop-self-preserved
loop-self-preserved g c =
    let count = rw c.in-Some.is at c.in_ok-n.ensures.count in
    let told = rw c.in-Some.is at c.in_ok-n.ensures.told in
    record {
      within = omega (arith, count, c.deref.ensures.len, length-drop c.loop-self.self.sent c.loop-self.self.held.items);
      told = taken_more _ _ c.loop-self.self.held.items c.loop-self.self.sent c.in-Some.n (simp (take_rest, c.deref.ensures.value) at told) ∙ c.loop-self.invariant.told;
      flushed = c.in_ok-n.ensures.flushed ∙ c.loop-self.invariant.flushed;
      calls = c.loop-self.invariant.calls;
      failures = c.loop-self.invariant.failures;
    }
