use Rattle.std.proofs.Common.{◌∙◌}
use Rattle.column_rows.proofs.Counts.{count_moved}
use Rattle.column_rows.proofs.Marking.{covers_moved}
use Rattle.column_rows.proofs.pending_lists.PendingList.sort_from.Goals as goal

pub invariant_of-self : goal.invariant_of-self
invariant_of-self g c = (covers_moved _ _ _ c.sort_from.ensures.rows c.self.invariant.0, count_moved _ _ _ c.sort_from.ensures.rows ∙ c.self.invariant.1)
