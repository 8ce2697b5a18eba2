use Rattle.std.proofs.Common.{arith, ◌∙◌}
use Rattle.connection_channel.proofs.Steps.{goes_on_to}
use Rattle.connection_channel.proofs.accepting.Unsent.accept_all.Goals as goal

pub loop-number-preserved : goal.loop-number-preserved
loop-number-preserved g c =
    let h = c.hand_out in let i = c.loop-number.invariant in let k = c.in-Came.ensures in
    (h.ensures.pass, goes_on_to _ _ _ _ _ _ _ _ _ _ _ (omega arith) i.1 h.ensures.moves, (let a = k.came in let b = i.2 in omega arith), h.ensures.room ∙ i.3, (λ _. k.last))
