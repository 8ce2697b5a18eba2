use Rattle.std.proofs.Common.{◌≡◌, length}
use Rattle.zset_commands.specs.CommandGrammar.{is_named}
use Rattle.zset_commands.proofs.name.is_named.Given as goal

abbrev pub invariant-loop-letters : goal.invariant-loop-letters
invariant-loop-letters l = is_named l.letters l.rest ≡ is_named l.fn.name l.fn.word

abbrev pub decreases-loop-letters : goal.decreases-loop-letters
decreases-loop-letters l = length l.letters
