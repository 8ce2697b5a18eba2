use Rattle.std.proofs.Common.{◌≡◌, ◌≤◌, ◌-◌, length, true, false, IsPermutation, vec_capacity}
use Rattle.std.specs.List.{AllWithin}
use Rattle.column_rows.specs.Content.{has_score_in}
use Rattle.column_rows.proofs.range_gathered_rows.partition_from.Given as goal

abbrev pub invariant-loop-others : goal.invariant-loop-others
invariant-loop-others g l = record {
  order : l.others ≤ l.end;
  high : l.end ≤ length l.list.items;
  moves : IsPermutation l.fn.list.items l.list.items;
  outside : AllWithin (λ r. has_score_in l.range r ≡ false) l.list.items 0 l.others;
  inside : AllWithin (λ r. has_score_in l.range r ≡ true) l.list.items l.end (length l.list.items);
  capacity : vec_capacity l.list ≡ vec_capacity l.fn.list;
}

abbrev pub decreases-loop-others : goal.decreases-loop-others
decreases-loop-others g l = l.end - l.others
