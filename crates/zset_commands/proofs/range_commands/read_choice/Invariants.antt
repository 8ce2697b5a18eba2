use Rattle.std.proofs.Common.{◌≡◌, length}
use Rattle.std.specs.Prelude.{option_map}
use Rattle.zset_commands.specs.CommandGrammar.{range_options}
use Rattle.zset_commands.specs.ReadingMatchesGrammar.{choice_after, no_choice}
use Rattle.zset_commands.proofs.range_commands.read_choice.Given as goal

abbrev pub invariant-loop-rest : goal.invariant-loop-rest
invariant-loop-rest g l =
    option_map (choice_after l.choice) (range_options l.rest) ≡ option_map (choice_after no_choice) (range_options l.words)

abbrev pub decreases-loop-rest : goal.decreases-loop-rest
decreases-loop-rest g l = length l.rest
