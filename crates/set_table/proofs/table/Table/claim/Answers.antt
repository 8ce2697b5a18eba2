use Rattle.std.proofs.Common.{rules}
use Rattle.set_table.proofs.table.Table.claim.Goals as goal

pub returns-clause-err : goal.returns-clause-err
returns-clause-err g c = search rules
