use Rattle.std.proofs.Common.{arith}
use Rattle.column_rows.proofs.Marking.{covers_each}
use Rattle.column_rows.proofs.pending_bloom.mark_all.Goals as goal

pub returns : goal.returns
returns g c = covers_each c.loop-i.marks.words.items c.args.list.now (λ k d low h. c.loop-i.invariant k d low (omega arith))
