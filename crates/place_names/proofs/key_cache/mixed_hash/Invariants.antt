use Rattle.std.proofs.Common.{length}
use Rattle.place_names.proofs.key_cache.mixed_hash.Given as goal

abbrev pub decreases-loop-rest : goal.decreases-loop-rest
decreases-loop-rest l = length l.rest
