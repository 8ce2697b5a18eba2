use Rattle.std.proofs.Common.{◌<◌, arith}
use Rattle.resp_wire.proofs.StepLemmas.{head_count, head_shorter, skips_more}
use Rattle.resp_wire.proofs.decoder_steps.past_skips.Goals as goal

pub skips-smaller-in_default : goal.skips-smaller-in_default
skips-smaller-in_default c = head_shorter c.skips.rest.now c.in-Ok.head c.in-Ok.behind.now c.in-Ok.ensures

pub skips-smaller : goal.skips-smaller
skips-smaller c = head_shorter c.skips.rest.now c.in-Ok.head c.in-Ok.behind.now c.in-Ok.ensures

pub skips-preserved-in_default : goal.skips-preserved-in_default
skips-preserved-in_default c =
    let none : 0 < head_count c.in-Ok.head → ⊥ = rw c.in-Some.is (λ pos. absurd (omega arith)) in
    skips_more c.args.bytes.now c.skips.rest.now c.in-Ok.behind.now c.in-Ok.head c.in-Ok.ensures none c.skips.invariant

pub skips-preserved : goal.skips-preserved
skips-preserved c =
    let none : 0 < head_count c.in-Ok.head → ⊥ = rw c.in_default.is (λ pos. absurd (omega arith)) in
    skips_more c.args.bytes.now c.skips.rest.now c.in-Ok.behind.now c.in-Ok.head c.in-Ok.ensures none c.skips.invariant
