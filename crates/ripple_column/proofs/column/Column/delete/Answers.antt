use Rattle.std.proofs.Common.{◌<◌, ◌-◌, min, vec_len, vec_capacity, sym, subst, arith}
use Rattle.column_rows.specs.Content.{ColumnState, HasRow}
use Rattle.column_rows.proofs.Counts.{length-sub_bag}
use Rattle.ripple_column.proofs.Merged.{PendsCounts-from, IsScored-less, IsSubBag-pended}
use Rattle.ripple_column.proofs.column.Column.delete.Goals as goal

pub invariant_of-self : goal.invariant_of-self
invariant_of-self g c =
    let inv = c.self.invariant in
    let old = c.self.inside in
    let new = c.pend.new in
    let counts = PendsCounts-from c.args.row old.pending.deletions.items new.self.items old.pending.insertions.items new.other.items c.pend.ensures.pends in
    let room : 0 < min (vec_capacity old.pending.deletions) 2048 - vec_len old.pending.deletions = subst (λ (v : ColumnState). 0 < v.delete_spare) (sym c.self.view_is) c.requires.room in
    let there = subst (λ (v : ColumnState). HasRow v c.args.row) (sym c.self.view_is) c.requires.there in
    record {
      part = IsSubBag-pended c.args.row old.pieces.cracked.rows.items old.pending.insertions.items new.other.items old.pending.deletions.items new.self.items inv.part there c.pend.ensures.pends;
      scored_rows = inv.scored_rows;
      scored_insertions = IsScored-less new.other.items old.pending.insertions.items counts.less inv.scored_insertions;
      few_insertions = omega (arith, inv.few_insertions, length-sub_bag new.other.items old.pending.insertions.items counts.less);
      few_deletions = omega (arith, room, c.pend.ensures.len);
    }

pub returns-clause-content : goal.returns-clause-content
returns-clause-content g c p =
    let inv = c.self.invariant in
    let old = c.self.inside in
    let new = c.pend.new in
    let counts = PendsCounts-from c.args.row old.pending.deletions.items new.self.items old.pending.insertions.items new.other.items c.pend.ensures.pends in
    let there = subst (λ (v : ColumnState). HasRow v c.args.row) (sym c.self.view_is) c.requires.there in
    let part = IsSubBag-pended c.args.row old.pieces.cracked.rows.items old.pending.insertions.items new.other.items old.pending.deletions.items new.self.items inv.part there c.pend.ensures.pends in
    rw (← c.self.view_is) (omega (arith, inv.part p, part p, counts.all p, counts.less p))

pub returns-clause-spare : goal.returns-clause-spare
returns-clause-spare g c = rw (← c.self.view_is) (omega (arith, c.pend.ensures.len, c.pend.ensures.capacity))

pub returns-clause-spare_insertions : goal.returns-clause-spare_insertions
returns-clause-spare_insertions g c = rw (← c.self.view_is) (omega (arith, c.pend.ensures.len_other, c.pend.ensures.capacity_other))
