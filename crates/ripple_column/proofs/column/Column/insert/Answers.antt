use Rattle.std.proofs.Common.{◌<◌, ◌-◌, min, vec_len, vec_capacity, sym, subst, arith}
use Rattle.column_rows.specs.Content.{ColumnState}
use Rattle.column_rows.proofs.Counts.{length-sub_bag}
use Rattle.ripple_column.proofs.Merged.{PendsCounts-from, IsScored-pended}
use Rattle.ripple_column.proofs.column.Column.insert.Goals as goal

pub invariant_of-self : goal.invariant_of-self
invariant_of-self g c =
    let inv = c.self.invariant in
    let old = c.self.inside in
    let new = c.pend.new in
    let counts = PendsCounts-from c.args.row old.pending.insertions.items new.self.items old.pending.deletions.items new.other.items c.pend.ensures.pends in
    let room : 0 < min (vec_capacity old.pending.insertions) 2048 - vec_len old.pending.insertions = subst (λ (v : ColumnState). 0 < v.insert_spare) (sym c.self.view_is) c.requires.room in
    record {
      part = λ p. omega (arith, inv.part p, counts.less p);
      scored_rows = inv.scored_rows;
      scored_insertions = IsScored-pended c.args.row old.pending.insertions.items new.self.items old.pending.deletions.items new.other.items counts c.pend.ensures.score inv.scored_insertions;
      few_insertions = omega (arith, room, c.pend.ensures.len);
      few_deletions = omega (arith, inv.few_deletions, length-sub_bag new.other.items old.pending.deletions.items counts.less);
    }

pub returns-clause-content : goal.returns-clause-content
returns-clause-content g c p =
    let inv = c.self.invariant in
    let old = c.self.inside in
    let new = c.pend.new in
    let counts = PendsCounts-from c.args.row old.pending.insertions.items new.self.items old.pending.deletions.items new.other.items c.pend.ensures.pends in
    rw (← c.self.view_is) (omega (arith, inv.part p, counts.all p, counts.less p))

pub returns-clause-spare : goal.returns-clause-spare
returns-clause-spare g c = rw (← c.self.view_is) (omega (arith, c.pend.ensures.len, c.pend.ensures.capacity))

pub returns-clause-spare_deletions : goal.returns-clause-spare_deletions
returns-clause-spare_deletions g c = rw (← c.self.view_is) (omega (arith, c.pend.ensures.len_other, c.pend.ensures.capacity_other))
