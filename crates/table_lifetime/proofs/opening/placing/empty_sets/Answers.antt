use Rattle.table_lifetime.proofs.OpeningLemmas.{empty_more}
use Rattle.table_lifetime.proofs.opening.placing.empty_sets.Goals as goal

pub loop-preserved : goal.loop-preserved
loop-preserved g c =
    empty_more c.loop.counter c.loop.sets.items c.push.new.self.items c.in_ok-empty_set.field-0 c.in_ok-push.ensures.items c.in_ok-empty_set.ensures.members c.in_ok-empty_set.ensures.idle c.loop.invariant
