use Rattle.std.proofs.Common.{sym, arith}
use Rattle.column_rows.proofs.MarkBits.{set_past}
use Rattle.column_rows.proofs.pending_bloom.PendingBloom.is_set.Goals as goal

pub returns-else-at-len : goal.returns-else-at-len
returns-else-at-len g c = sym (set_past c.args.self.now.words.items c.args.mark (omega arith))
