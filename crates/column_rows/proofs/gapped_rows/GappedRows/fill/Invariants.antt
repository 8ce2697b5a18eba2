use Rattle.std.proofs.Common.{◌≡◌, ◌+◌, ◌-◌, replicate, count_by}
use Rattle.crack_kernel.specs.RowBag.{Test}
use Rattle.column_rows.specs.MergeGap.{blank, TakenFrom}
use Rattle.column_rows.specs.GapEffects.{IsFilled}
use Rattle.column_rows.proofs.gapped_rows.GappedRows.fill.Given as goal

abbrev pub invariant-loop-self : goal.invariant-loop-self
invariant-loop-self g l = record {
  filled : IsFilled l.fn.self l.self;
  content : (p : Test) → count_by p l.self.rows.items + count_by p l.insertions.items + count_by p (replicate (l.self.low - l.fn.self.low) blank) ≡ count_by p l.fn.self.rows.items + count_by p l.fn.insertions.items;
  taken : TakenFrom l.from l.fn.insertions.items l.insertions.items;
}

abbrev pub decreases-loop-self : goal.decreases-loop-self
decreases-loop-self g l = l.self.high - l.self.low
