use Rattle.std.proofs.Common.{rules}
use Rattle.zset_core.proofs.row_edits.make_edits.Goals as goal

pub returns-clause-content : goal.returns-clause-content
returns-clause-content g c = search rules
