use Rattle.std.proofs.Common.{◌≡◌, length, nat_eq}
use Rattle.std.specs.Cmp.Lexicographic.{pointwise}
use Rattle.short_bytes.proofs.comparison.are_same.Given as goal

abbrev pub invariant-loop-left_rest : goal.invariant-loop-left_rest
invariant-loop-left_rest l = record {
  long : length l.left_rest ≡ length l.right_rest;
  same : pointwise nat_eq l.left_rest l.right_rest ≡ pointwise nat_eq l.fn.left l.fn.right;
}

abbrev pub decreases-loop-left_rest : goal.decreases-loop-left_rest
decreases-loop-left_rest l = length l.left_rest
