use Rattle.std.proofs.Common.{◌∙◌}
use Rattle.std.proofs.lemmas.List.Sorted.{IsPermutation-trans}
use Rattle.crack_kernel.proofs.crack.crack_ends.Goals as goal

pub loop-ends-preserved : goal.loop-ends-preserved
loop-ends-preserved g c = record {
  moves = IsPermutation-trans _ _ _ c.loop-ends.invariant.moves c.exchange.ensures.permutation;
  value = c.exchange.ensures.value ∙ c.find_upper.ensures.value ∙ c.find_lower.ensures.value ∙ c.loop-ends.invariant.value;
  cracked = c.exchange.ensures.cracked;
  done = c.exchange.ensures.done;
}
