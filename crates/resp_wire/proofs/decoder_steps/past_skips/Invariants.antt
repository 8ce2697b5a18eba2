use Rattle.std.proofs.Common.{length}
use Rattle.resp_wire.specs.DecoderSteps.{SkipsTo}
use Rattle.resp_wire.proofs.decoder_steps.past_skips.Given as goal

abbrev pub invariant-skips : goal.invariant-skips
invariant-skips l = SkipsTo l.bytes l.rest

abbrev pub decreases-skips : goal.decreases-skips
decreases-skips l = length l.rest
