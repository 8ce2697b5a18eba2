use Rattle.std.proofs.Common.{rules}
use Rattle.sorted_sets.specs.MembersWithStagedScores.{ScoresAreSettled}
use Rattle.sorted_sets.proofs.Planning.{IsIdle-empty}
use Rattle.sorted_sets.proofs.set.ZSet.with_hasher.Goals as goal

pub invariant_of-result : goal.invariant_of-result
invariant_of-result g c =
    let settled : ScoresAreSettled c.with_hasher.result.entries = search rules in
    IsIdle-empty c.with_hasher.result.entries c.new.result c.with_hasher.ensures.empty settled c.new.ensures.rows c.new.ensures.insertions
