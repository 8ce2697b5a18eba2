use Rattle.std.proofs.Common.{rules}
use Rattle.column_rows.specs.RowHash.{hash_of}
use Rattle.column_rows.proofs.row_hash.hash_of.Goals as goal

pub returns-clause-is : goal.returns-clause-is
unfolding hash_of
returns-clause-is g c = search rules
