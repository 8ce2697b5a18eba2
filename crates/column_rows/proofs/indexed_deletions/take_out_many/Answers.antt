use Rattle.std.proofs.Common.{refl, arith}
use Rattle.column_rows.proofs.Carried.{IsWidened-more}
use Rattle.column_rows.proofs.Taken.{TakenFrom-more}
use Rattle.column_rows.proofs.TakenOut.{IsWidened-seen, StandFrom-lower, TakenFrom-none, taken_more, taken_none}
use Rattle.column_rows.proofs.indexed_deletions.take_out_many.Goals as goal

pub invariant_of-gapped : goal.invariant_of-gapped
invariant_of-gapped g c = record { has_gap = rw c.next_within-at.ensures.same c.args.gapped.now.has_gap }

pub loop-at-init : goal.loop-at-init
loop-at-init g c = record {
  widened = IsWidened-seen c.next_within-at.ensures.same refl refl refl refl;
  order = c.next_within-at.ensures.low;
  high = c.next_within-at.ensures.high;
  content = λ p. rw c.next_within-at.ensures.same (taken_none p c.args.gapped.now.rows.items c.args.deletions.now.items c.args.gapped.now.high);
  taken = TakenFrom-none _ _ c.requires.from;
}

pub take_out_found-requires-clause-above : goal.take_out_found-requires-clause-above
take_out_found-requires-clause-above g c = c.loop-at.invariant.order

pub take_out_found-requires-clause-within : goal.take_out_found-requires-clause-within
take_out_found-requires-clause-within g c = omega (arith, c.loop-at.invariant.widened.len, c.requires.within)

pub take_out_found-requires-clause-ends : goal.take_out_found-requires-clause-ends
take_out_found-requires-clause-ends g c =
    rw (c.loop-at.invariant.widened.pivots, c.loop-at.invariant.widened.piece) (StandFrom-lower _ _ _ _ (omega arith) c.requires.ends)

pub take_out_found-requires-clause-from : goal.take_out_found-requires-clause-from
take_out_found-requires-clause-from g c = c.loop-at.invariant.taken.within

pub invariant_of-gapped-in-loop-at : goal.invariant_of-gapped-in-loop-at
invariant_of-gapped-in-loop-at g c = record { has_gap = rw c.next_within-at-in-loop-at.ensures.same c.take_out_found.new.gapped.has_gap }

pub loop-at-preserved : goal.loop-at-preserved
loop-at-preserved g c =
    let v = c.loop-at.invariant in
    let old = c.args.gapped.now in
    let n = c.take_out_found.ensures in
    let new = c.take_out_found.new.gapped in
    let at = c.next_within-at-in-loop-at.ensures in
    record {
      widened = IsWidened-more v.widened (IsWidened-more n.widened (IsWidened-seen at.same refl refl refl refl));
      order = omega (arith, n.high, at.low);
      high = at.high;
      content = λ p. rw at.same (taken_more p old.rows.items c.loop-at.gapped.rows.items new.rows.items c.args.deletions.now.items c.loop-at.deletions.items c.take_out_found.new.deletions.items old.high c.loop-at.gapped.high new.high v.widened.high n.widened.high (v.content p) (n.content p));
      taken = TakenFrom-more _ _ _ _ v.taken n.taken;
    }

pub returns-else-len-from-clause-widened : goal.returns-else-len-from-clause-widened
returns-else-len-from-clause-widened g c = c.loop-at.invariant.widened

pub returns-else-len-from-clause-high : goal.returns-else-len-from-clause-high
returns-else-len-from-clause-high g c = omega (arith, c.loop-at.invariant.order, c.loop-at.invariant.high)

pub returns-else-len-from-clause-content : goal.returns-else-len-from-clause-content
returns-else-len-from-clause-content g c = c.loop-at.invariant.content

pub returns-else-len-from-clause-taken : goal.returns-else-len-from-clause-taken
returns-else-len-from-clause-taken g c = c.loop-at.invariant.taken

pub returns-after-loop-at-clause-widened : goal.returns-after-loop-at-clause-widened
returns-after-loop-at-clause-widened g c = c.loop-at.invariant.widened

pub returns-after-loop-at-clause-high : goal.returns-after-loop-at-clause-high
returns-after-loop-at-clause-high g c = omega (arith, c.loop-at.invariant.order, c.loop-at.invariant.high)

pub returns-after-loop-at-clause-content : goal.returns-after-loop-at-clause-content
returns-after-loop-at-clause-content g c = c.loop-at.invariant.content

pub returns-after-loop-at-clause-taken : goal.returns-after-loop-at-clause-taken
returns-after-loop-at-clause-taken g c = c.loop-at.invariant.taken
