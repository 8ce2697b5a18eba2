use Rattle.std.proofs.Common.{[], None}
use Rattle.append_log.proofs.CallerLemmas.{replayed_start}
use Rattle.append_file.proofs.opening.place_of.Goals as goal

pub returns-in-Err : goal.returns-in-Err
returns-in-Err g c = λ world. ([], (0, [], 0, None, (replayed_start world).replayed))
