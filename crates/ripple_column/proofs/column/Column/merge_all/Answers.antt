use Rattle.std.proofs.Common.{arith, rules}
use Rattle.column_rows.proofs.Counts.{length-sub_bag}
use Rattle.ripple_column.proofs.Merged.{IsScored-merged}
use Rattle.ripple_column.proofs.column.Column.merge_all.Goals as goal

pub invariant_of-self : goal.invariant_of-self
invariant_of-self g c =
    let inv = c.self.invariant in
    let old = c.self.inside in
    let new = c.merge_all_pieces.new in
    let m = c.merge_all_pieces.ensures.merges in
    let scored = IsScored-merged old.pieces.cracked.rows.items new.pieces.cracked.rows.items old.pending.insertions.items new.pending.insertions.items old.pending.deletions.items new.pending.deletions.items inv.scored_rows inv.scored_insertions m.content m.less_deletions in
    record {
      part = m.part;
      scored_rows = scored.0;
      scored_insertions = scored.1;
      few_insertions = omega (arith, inv.few_insertions, length-sub_bag new.pending.insertions.items old.pending.insertions.items m.less_insertions);
      few_deletions = omega (arith, inv.few_deletions, length-sub_bag new.pending.deletions.items old.pending.deletions.items m.less_deletions);
    }

pub returns-clause-values : goal.returns-clause-values
returns-clause-values g c = search rules

pub returns-clause-insertions : goal.returns-clause-insertions
returns-clause-insertions g c = search rules

pub returns-clause-deletions : goal.returns-clause-deletions
returns-clause-deletions g c = search rules
