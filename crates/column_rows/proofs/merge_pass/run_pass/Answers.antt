use Rattle.std.proofs.Common.{◌≡◌, ◌-◌, ◌++◌, ℕ, replicate, count_by, ap, arith}
use Rattle.crack_kernel.specs.PivotList.{PivotList}
use Rattle.column_rows.specs.RangeCutsAsPivots.{values}
use Rattle.column_rows.specs.MergeGap.{blank}
use Rattle.column_rows.proofs.Blanks.{count_append}
use Rattle.column_rows.proofs.Counts.{count_moved}
use Rattle.column_rows.proofs.Frames.{KeepsFrame-more}
use Rattle.column_rows.proofs.Gaps.{ObeysPivots-values, length-values}
use Rattle.column_rows.proofs.Taken.{TakenFrom-more}
use Rattle.column_rows.proofs.merge_pass.run_pass.Goals as goal
use Rattle.column_rows.proofs.merge_pass.run_pass.Goals.{in-Up, in-Down}

pub open-gapped-requires-clause-piece : goal.open-gapped-requires-clause-piece
open-gapped-requires-clause-piece g c = rw c.take.ensures c.requires.piece

pub open-gapped-requires-clause-room : goal.open-gapped-requires-clause-room
open-gapped-requires-clause-room g c =
    rw c.take.ensures (elim c.match-pass.branch [ in-Up w ↦ omega arith | in-Down w ↦ omega arith ])

pub change_piece-requires-clause-deletions : goal.change_piece-requires-clause-deletions
change_piece-requires-clause-deletions g c = c.requires.deletions

pub change_piece-requires-clause-insertions : goal.change_piece-requires-clause-insertions
change_piece-requires-clause-insertions g c = c.requires.insertions

pub loop-passed-init : goal.loop-passed-init
loop-passed-init g c =
    let opened = c.open-gapped.result in
    let xs = c.args.cracked.now.rows.items in
    let rows = rw c.take.ensures at c.open-gapped.ensures.rows in
    let frame = rw c.take.ensures at c.open-gapped.ensures.frame in
    let d = c.change_piece.ensures in
    record {
      start = d.start;
      content = λ p.
          let wide : count_by p opened.rows.items ≡ count_by p (xs ++ replicate (opened.high - opened.low) blank) = ap (count_by p) rows in
          omega (arith, wide, count_append p xs (replicate (opened.high - opened.low) blank), d.content p);
      deletions = d.deletions;
      insertions = d.insertions;
      frame = KeepsFrame-more frame (record {
        values = ap (λ (z : PivotList). values z.list) d.pivots;
        spare = ap (λ (z : PivotList). z.spare) d.pivots;
        capacity = d.capacity;
      });
    }

pub carry_to-requires-clause-start : goal.carry_to-requires-clause-start
carry_to-requires-clause-start g c = c.loop-passed.invariant.start

pub change_piece-requires-in-loop-passed-clause-deletions : goal.change_piece-requires-in-loop-passed-clause-deletions
change_piece-requires-in-loop-passed-clause-deletions g c = c.loop-passed.invariant.deletions.within

pub change_piece-requires-in-loop-passed-clause-insertions : goal.change_piece-requires-in-loop-passed-clause-insertions
change_piece-requires-in-loop-passed-clause-insertions g c = c.loop-passed.invariant.insertions.within

pub loop-passed-preserved : goal.loop-passed-preserved
loop-passed-preserved g c =
    let v = c.loop-passed.invariant in
    let n = c.carry_to.ensures.carried in
    let d = c.change_piece-in-loop-passed.ensures in
    record {
      start = d.start;
      content = λ p.
          let moved = count_moved p c.loop-passed.gapped.rows.items c.carry_to.new.gapped.rows.items n.rows in
          let wide = ap (λ (m : ℕ). count_by p (replicate m blank)) n.width in
          omega (arith, moved, wide, d.content p, v.content p);
      deletions = TakenFrom-more _ _ _ _ v.deletions d.deletions;
      insertions = TakenFrom-more _ _ _ _ v.insertions d.insertions;
      frame = KeepsFrame-more v.frame (KeepsFrame-more n.frame (record {
        values = ap (λ (z : PivotList). values z.list) d.pivots;
        spare = ap (λ (z : PivotList). z.spare) d.pivots;
        capacity = d.capacity;
      }));
    }

pub invariant_of-drop : goal.invariant_of-drop
invariant_of-drop g c =
    let old = c.args.cracked.now in
    let kept = KeepsFrame-more c.loop-passed.invariant.frame c.lift_out-rows.ensures.frame in
    record { law = ObeysPivots-values old.pivots.list _ old.rows.items _ kept.values old.law c.lift_out-rows.ensures.parted }

pub returns-clause-piece : goal.returns-clause-piece
returns-clause-piece g c =
    let long = length-values _ _ c.lift_out-rows.ensures.frame.values in
    omega (arith, long, c.loop-passed.gapped.has_gap.index)

pub returns-clause-content : goal.returns-clause-content
returns-clause-content g c p = omega (arith, c.loop-passed.invariant.content p, c.lift_out-rows.ensures.content p)

pub returns-clause-deletions : goal.returns-clause-deletions
returns-clause-deletions g c = c.loop-passed.invariant.deletions

pub returns-clause-insertions : goal.returns-clause-insertions
returns-clause-insertions g c = c.loop-passed.invariant.insertions

pub returns-clause-frame : goal.returns-clause-frame
returns-clause-frame g c = KeepsFrame-more c.loop-passed.invariant.frame c.lift_out-rows.ensures.frame
