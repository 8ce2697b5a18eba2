use Rattle.std.proofs.Common.{refl, arith}
use Rattle.column_rows.proofs.Carried.{IsWidened-more}
use Rattle.column_rows.proofs.Taken.{TakenFrom-more}
use Rattle.column_rows.proofs.TakenOut.{IsWidened-seen, StandFrom-lower, TakenFrom-none, taken_more, taken_none}
use Rattle.column_rows.proofs.gapped_rows.GappedRows.take_out.Goals as goal

pub returns-then-count-eq0-clause-widened : goal.returns-then-count-eq0-clause-widened
returns-then-count-eq0-clause-widened g c = IsWidened-seen refl refl refl refl refl

pub returns-then-count-eq0-clause-high : goal.returns-then-count-eq0-clause-high
returns-then-count-eq0-clause-high g c = c.requires.above

pub returns-then-count-eq0-clause-content : goal.returns-then-count-eq0-clause-content
returns-then-count-eq0-clause-content g c p = taken_none p c.args.self.now.rows.items c.args.deletions.now.items c.args.self.now.high

pub returns-then-count-eq0-clause-taken : goal.returns-then-count-eq0-clause-taken
returns-then-count-eq0-clause-taken g c = TakenFrom-none _ _ c.requires.from

pub take_out_many-requires-clause-above : goal.take_out_many-requires-clause-above
take_out_many-requires-clause-above g c = c.requires.above

pub take_out_many-requires-clause-within : goal.take_out_many-requires-clause-within
take_out_many-requires-clause-within g c = c.requires.within

pub take_out_many-requires-clause-ends : goal.take_out_many-requires-clause-ends
take_out_many-requires-clause-ends g c = c.requires.ends

pub take_out_many-requires-clause-from : goal.take_out_many-requires-clause-from
take_out_many-requires-clause-from g c = c.requires.from

pub returns-then-count-ge-INDEXED-clause-widened : goal.returns-then-count-ge-INDEXED-clause-widened
returns-then-count-ge-INDEXED-clause-widened g c = c.take_out_many.ensures.widened

pub returns-then-count-ge-INDEXED-clause-high : goal.returns-then-count-ge-INDEXED-clause-high
returns-then-count-ge-INDEXED-clause-high g c = c.take_out_many.ensures.high

pub returns-then-count-ge-INDEXED-clause-content : goal.returns-then-count-ge-INDEXED-clause-content
returns-then-count-ge-INDEXED-clause-content g c = c.take_out_many.ensures.content

pub returns-then-count-ge-INDEXED-clause-taken : goal.returns-then-count-ge-INDEXED-clause-taken
returns-then-count-ge-INDEXED-clause-taken g c = c.take_out_many.ensures.taken

pub invariant_of-self : goal.invariant_of-self
invariant_of-self g c = record { has_gap = rw c.next_within-at.ensures.same c.args.self.now.has_gap }

pub loop-at-init : goal.loop-at-init
loop-at-init g c = record {
  widened = IsWidened-seen c.next_within-at.ensures.same refl refl refl refl;
  order = c.next_within-at.ensures.low;
  high = c.next_within-at.ensures.high;
  content = λ p. rw c.next_within-at.ensures.same (taken_none p c.args.self.now.rows.items c.args.deletions.now.items c.args.self.now.high);
  taken = TakenFrom-none _ _ c.requires.from;
}

pub take_out_at-requires-clause-above : goal.take_out_at-requires-clause-above
take_out_at-requires-clause-above g c = c.loop-at.invariant.order

pub take_out_at-requires-clause-within : goal.take_out_at-requires-clause-within
take_out_at-requires-clause-within g c = omega (arith, c.loop-at.invariant.widened.len, c.requires.within)

pub take_out_at-requires-clause-ends : goal.take_out_at-requires-clause-ends
take_out_at-requires-clause-ends g c =
    rw (c.loop-at.invariant.widened.pivots, c.loop-at.invariant.widened.piece) (StandFrom-lower _ _ _ _ (omega arith) c.requires.ends)

pub take_out_at-requires-clause-from : goal.take_out_at-requires-clause-from
take_out_at-requires-clause-from g c = c.loop-at.invariant.taken.within

pub invariant_of-self-in-loop-at : goal.invariant_of-self-in-loop-at
invariant_of-self-in-loop-at g c = record { has_gap = rw c.next_within-at-in-loop-at.ensures.same c.take_out_at.new.self.has_gap }

pub loop-at-preserved : goal.loop-at-preserved
loop-at-preserved g c =
    let v = c.loop-at.invariant in
    let old = c.args.self.now in
    let n = c.take_out_at.ensures in
    let new = c.take_out_at.new.self in
    let at = c.next_within-at-in-loop-at.ensures in
    record {
      widened = IsWidened-more v.widened (IsWidened-more n.widened (IsWidened-seen at.same refl refl refl refl));
      order = omega (arith, n.high, at.low);
      high = at.high;
      content = λ p. rw at.same (taken_more p old.rows.items c.loop-at.self.rows.items new.rows.items c.args.deletions.now.items c.loop-at.deletions.items c.take_out_at.new.deletions.items old.high c.loop-at.self.high new.high v.widened.high n.widened.high (v.content p) (n.content p));
      taken = TakenFrom-more _ _ _ _ v.taken n.taken;
    }

pub returns-else-len-tail-clause-widened : goal.returns-else-len-tail-clause-widened
returns-else-len-tail-clause-widened g c = c.loop-at.invariant.widened

pub returns-else-len-tail-clause-high : goal.returns-else-len-tail-clause-high
returns-else-len-tail-clause-high g c = omega (arith, c.loop-at.invariant.order, c.loop-at.invariant.high)

pub returns-else-len-tail-clause-content : goal.returns-else-len-tail-clause-content
returns-else-len-tail-clause-content g c = c.loop-at.invariant.content

pub returns-else-len-tail-clause-taken : goal.returns-else-len-tail-clause-taken
returns-else-len-tail-clause-taken g c = c.loop-at.invariant.taken

pub returns-after-loop-at-clause-widened : goal.returns-after-loop-at-clause-widened
returns-after-loop-at-clause-widened g c = c.loop-at.invariant.widened

pub returns-after-loop-at-clause-high : goal.returns-after-loop-at-clause-high
returns-after-loop-at-clause-high g c = omega (arith, c.loop-at.invariant.order, c.loop-at.invariant.high)

pub returns-after-loop-at-clause-content : goal.returns-after-loop-at-clause-content
returns-after-loop-at-clause-content g c = c.loop-at.invariant.content

pub returns-after-loop-at-clause-taken : goal.returns-after-loop-at-clause-taken
returns-after-loop-at-clause-taken g c = c.loop-at.invariant.taken
