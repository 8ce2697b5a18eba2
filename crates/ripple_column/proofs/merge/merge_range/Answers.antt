use Rattle.std.proofs.Common.{◌∙◌, ◌&&◌, not, arith}
use Rattle.crack_kernel.specs.RowBag.{Test}
use Rattle.column_rows.specs.Content.{has_score_in}
use Rattle.column_rows.proofs.Counts.{count_moved}
use Rattle.ripple_column.proofs.merge.merge_range.Goals as goal

pub merge_gathered-requires-clause-part : goal.merge_gathered-requires-clause-part
merge_gathered-requires-clause-part g c p =
    let moved = count_moved p c.args.pending.now.deletions.items c.gather-tails.new.self.deletions.items c.gather-tails.ensures.deletions in
    omega (arith, moved, c.requires.part p)

pub merge_gathered-requires-clause-room : goal.merge_gathered-requires-clause-room
merge_gathered-requires-clause-room g c =
    let moved = count_moved (has_score_in c.args.range.now) c.args.pending.now.insertions.items c.gather-tails.new.self.insertions.items c.gather-tails.ensures.insertions in
    omega (arith, moved, c.requires.room)

pub returns-clause-merges : goal.returns-clause-merges
returns-clause-merges g c =
    let m = c.merge_gathered.ensures.merges in
    let a = λ (p : Test). count_moved p c.args.pending.now.deletions.items c.gather-tails.new.self.deletions.items c.gather-tails.ensures.deletions in
    let b = λ (p : Test). count_moved p c.args.pending.now.insertions.items c.gather-tails.new.self.insertions.items c.gather-tails.ensures.insertions in
    record {
      content = λ p. let a' = a p in let b' = b p in omega (arith, a', b', m.content p);
      part = m.part;
      less_deletions = λ p. let a' = a p in omega (arith, a', m.less_deletions p);
      less_insertions = λ p. let b' = b p in omega (arith, b', m.less_insertions p);
    }

pub returns-clause-waiting_deletions : goal.returns-clause-waiting_deletions
returns-clause-waiting_deletions g c p =
    let w : Test = has_score_in c.args.range.now in
    c.merge_gathered.ensures.waiting_deletions p
    ∙ count_moved (λ r. p r && not (w r)) c.args.pending.now.deletions.items c.gather-tails.new.self.deletions.items c.gather-tails.ensures.deletions

pub returns-clause-waiting_insertions : goal.returns-clause-waiting_insertions
returns-clause-waiting_insertions g c p =
    let w : Test = has_score_in c.args.range.now in
    c.merge_gathered.ensures.waiting_insertions p
    ∙ count_moved (λ r. p r && not (w r)) c.args.pending.now.insertions.items c.gather-tails.new.self.insertions.items c.gather-tails.ensures.insertions
