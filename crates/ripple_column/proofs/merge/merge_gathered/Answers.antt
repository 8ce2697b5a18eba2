use Rattle.std.proofs.Common.{◌∙◌, true, arith}
use Rattle.crack_kernel.specs.RowBag.{Test}
use Rattle.column_rows.specs.Content.{has_score_in}
use Rattle.column_rows.proofs.Counts.{count_all, count_split}
use Rattle.column_rows.proofs.Frames.{KeepsFrame-more}
use Rattle.column_rows.proofs.Tails.{SameOutside-taken, count_within_tail, outside-taken}
use Rattle.ripple_column.proofs.merge.merge_gathered.Goals as goal

pub merge_many-requires-clause-room : goal.merge_many-requires-clause-room
merge_many-requires-clause-room g c =
    let last = c.requires.insertions in
    let tail = count_within_tail (has_score_in c.args.range.now) c.args.tails.insertions c.args.pending.now.insertions.items last.within last.inside in
    omega (arith, tail, c.requires.room)

pub merge_deletions-requires-clause-part : goal.merge_deletions-requires-clause-part
merge_deletions-requires-clause-part g c p =
    let m = c.merge_many.ensures in
    omega (arith, m.content p, c.requires.part p, m.insertions.less p)

pub merge_deletions-requires-clause-outside : goal.merge_deletions-requires-clause-outside
merge_deletions-requires-clause-outside g c = outside-taken _ _ _ _ c.requires.deletions c.merge_many.ensures.deletions

pub merge_insertions-requires-clause-outside : goal.merge_insertions-requires-clause-outside
merge_insertions-requires-clause-outside g c = outside-taken _ _ _ _ c.requires.insertions c.merge_many.ensures.insertions

pub merge_insertions-requires-clause-room : goal.merge_insertions-requires-clause-room
merge_insertions-requires-clause-room g c =
    let w : Test = has_score_in c.args.range.now in
    let t : Test = λ r. true in
    let m = c.merge_many.ensures in
    let d = c.merge_deletions.ensures in
    let all = m.content t in
    let gone = d.content t in
    let less_m = m.deletions.less t in
    let less_d = d.less t in
    let rows0 = count_all c.args.cracked.now.rows.items in
    let rows2 = count_all c.merge_deletions.new.cracked.rows.items in
    let split0 = count_split t w c.args.pending.now.insertions.items in
    let split1 = count_split t w c.merge_many.new.pending.insertions.items in
    let waits = SameOutside-taken _ _ _ _ c.requires.insertions m.insertions t in
    omega (arith, all, gone, less_m, less_d, rows0, rows2, split0, split1, waits, m.frame.capacity, d.frame.capacity, c.requires.room)

pub returns-clause-merges : goal.returns-clause-merges
returns-clause-merges g c =
    let m = c.merge_many.ensures in
    let d = c.merge_deletions.ensures in
    let i = c.merge_insertions.ensures in
    record {
      content = λ p. omega (arith, m.content p, d.content p, i.content p);
      part = λ p. omega (arith, d.part p, i.content p, i.less p);
      less_deletions = λ p. omega (arith, d.less p, m.deletions.less p);
      less_insertions = λ p. omega (arith, i.less p, m.insertions.less p);
    }

pub returns-clause-waiting_deletions : goal.returns-clause-waiting_deletions
returns-clause-waiting_deletions g c p = c.merge_deletions.ensures.waiting p ∙ SameOutside-taken _ _ _ _ c.requires.deletions c.merge_many.ensures.deletions p

pub returns-clause-waiting_insertions : goal.returns-clause-waiting_insertions
returns-clause-waiting_insertions g c p = c.merge_insertions.ensures.waiting p ∙ SameOutside-taken _ _ _ _ c.requires.insertions c.merge_many.ensures.insertions p

pub returns-clause-frame : goal.returns-clause-frame
returns-clause-frame g c = KeepsFrame-more c.merge_many.ensures.frame (KeepsFrame-more c.merge_deletions.ensures.frame c.merge_insertions.ensures.frame)
