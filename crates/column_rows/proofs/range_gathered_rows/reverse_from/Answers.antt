use Rattle.std.proofs.Common.{◌-◌, length}
use Rattle.std.proofs.lemmas.List.Sorted.{IsPermutation-put_mid}
use Rattle.column_rows.proofs.range_gathered_rows.reverse_from.Goals as goal

pub returns-clause-rows : goal.returns-clause-rows
returns-clause-rows g c = IsPermutation-put_mid c.args.from (length c.args.rows.now - c.args.from) c.args.rows.now c.reverse.new.self c.reverse.ensures.permutation
