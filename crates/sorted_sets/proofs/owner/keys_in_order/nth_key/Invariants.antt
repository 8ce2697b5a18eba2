use Rattle.std.proofs.Common.{◌≡◌, drop}
use Rattle.std.specs.Map.{keys_of}
use Rattle.sorted_sets.proofs.owner.keys_in_order.nth_key.Given as goal

abbrev pub invariant-loop-place : goal.invariant-loop-place
invariant-loop-place g l = l.keys ≡ drop l._place (keys_of l.sets.entries)
