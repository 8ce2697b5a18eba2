use Rattle.std.proofs.Common.{◌-◌, pos, refl, arith}
use Rattle.std.proofs.lemmas.List.Sorted.{IsPermutation-refl}
use Rattle.column_rows.proofs.Gaps.{values-set}
use Rattle.column_rows.proofs.gapped_rows.GappedRows.lower.Goals as goal

pub returns-clause-carried : goal.returns-clause-carried
returns-clause-carried g c =
    let old = c.args.self.now in
    record {
      width = refl;
      rows = IsPermutation-refl _;
      frame = record {
        values = rw c.set_place.ensures.list (values-set old.pivots.list (old.piece - 1) _ (pos 0, 0) (omega (arith, old.has_gap.index, c.requires.some)));
        spare = c.set_place.ensures.spare;
        capacity = refl;
      };
    }
