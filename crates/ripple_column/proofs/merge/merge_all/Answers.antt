use Rattle.column_rows.proofs.Counts.{none_left}
use Rattle.ripple_column.proofs.merge.merge_all.Goals as goal

pub returns-clause-merged_deletions : goal.returns-clause-merged_deletions
returns-clause-merged_deletions g c = none_left c.merge_range.new.pending.deletions.items c.merge_range.ensures.merged_deletions

pub returns-clause-merged_insertions : goal.returns-clause-merged_insertions
returns-clause-merged_insertions g c = none_left c.merge_range.new.pending.insertions.items c.merge_range.ensures.merged_insertions
