use Rattle.std.proofs.Common.{◌≡◌, ◌≤◌, pos, arith}
use Rattle.column_rows.proofs.Gaps.{HasGap-lifted, values-set}
use Rattle.column_rows.proofs.gapped_rows.GappedRows.lift.Goals as goal

pub invariant_of-self : goal.invariant_of-self
invariant_of-self g c =
    let old = c.args.self.now in
    let ps = old.pivots.list in
    let same : c.list.result.now ≡ ps = c.list.ensures.value in
    record {
      has_gap = rw (c.set_place.ensures.list, same) (HasGap-lifted ps _ _ old.piece old.low old.high (pos 0, 0) c.requires c.change_places.ensures.len (rw (← same) c.change_places.ensures.changed) old.has_gap);
    }

pub returns-clause-carried : goal.returns-clause-carried
returns-clause-carried g c =
    let old = c.args.self.now in
    let order : old.low ≤ old.high = old.has_gap.order in
    record {
      width = omega arith;
      rows = c.change_places.ensures.permutation;
      frame = record {
        values = rw c.set_place.ensures.list (values-set old.pivots.list old.piece _ (pos 0, 0) c.requires);
        spare = c.set_place.ensures.spare;
        capacity = c.change_places.ensures.capacity;
      };
    }
