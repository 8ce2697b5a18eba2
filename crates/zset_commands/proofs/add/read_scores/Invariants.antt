use Rattle.std.proofs.Common.{◌≡◌, ◌+◌, ◌*◌, ◌++◌, length, drop}
use Rattle.std.specs.Prelude.{option_map}
use Rattle.zset_commands.specs.CommandGrammar.{pairs_value}
use Rattle.zset_commands.specs.MeaningOfForm.{scored}
use Rattle.zset_commands.proofs.add.read_scores.Given as goal

abbrev pub invariant-loop-rest : goal.invariant-loop-rest
invariant-loop-rest g l =
    (2 * length l.scores.items + length l.rest ≡ length l.pairs)
    × (drop (2 * length l.scores.items) l.pairs ≡ l.rest)
    × (pairs_value l.pairs ≡ option_map (λ more. scored l.scores.items l.pairs ++ more) (pairs_value l.rest))

abbrev pub decreases-loop-rest : goal.decreases-loop-rest
decreases-loop-rest g l = length l.rest
