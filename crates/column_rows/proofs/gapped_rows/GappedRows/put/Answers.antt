use Rattle.std.proofs.Common.{arith}
use Rattle.column_rows.proofs.Gaps.{HasGap-filled}
use Rattle.column_rows.proofs.gapped_rows.GappedRows.put.Goals as goal

pub invariant_of-self : goal.invariant_of-self
invariant_of-self g c =
    let old = c.args.self.now in
    let past = c.requires.piece in
    record {
      has_gap = HasGap-filled old.pivots.list old.rows.items c.set.new.self.items c.args.row old.piece old.low old.high c.requires.some
          (λ k p h. past.upto k p (omega arith) h) (λ k p f h. past.above k p f h) c.set.ensures.items old.has_gap;
    }
