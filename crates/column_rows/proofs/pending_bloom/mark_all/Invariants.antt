use Rattle.std.proofs.Common.{◌≡◌, true}
use Rattle.std.specs.List.{AllWithin}
use Rattle.column_rows.specs.RowHash.{hash_of}
use Rattle.column_rows.specs.PendingBloom.{is_marked}
use Rattle.column_rows.proofs.pending_bloom.mark_all.Given as goal

abbrev pub invariant-loop-i : goal.invariant-loop-i
invariant-loop-i g l = AllWithin (λ r. is_marked l.marks.words.items (hash_of r) ≡ true) l.list 0 l.i
