use Rattle.std.proofs.Common.{◌≡◌, ◌≤◌, ◌+◌, ◌-◌, replicate, count_by}
use Rattle.crack_kernel.specs.RowBag.{Test}
use Rattle.column_rows.specs.MergeGap.{blank, TakenFrom}
use Rattle.column_rows.specs.GapEffects.{IsWidened}
use Rattle.column_rows.proofs.gapped_rows.GappedRows.take_out.Given as goal

abbrev pub invariant-loop-at : goal.invariant-loop-at
invariant-loop-at g l = record {
  widened : IsWidened l.fn.self l.self;
  order : l.self.high ≤ l.at;
  high : l.at ≤ l.end;
  content : (p : Test) → count_by p l.self.rows.items + count_by p l.fn.deletions.items ≡ count_by p l.fn.self.rows.items + count_by p l.deletions.items + count_by p (replicate (l.self.high - l.fn.self.high) blank);
  taken : TakenFrom l.tail.from l.fn.deletions.items l.deletions.items;
}

abbrev pub decreases-loop-at : goal.decreases-loop-at
decreases-loop-at g l = l.end - l.at
