use Rattle.std.proofs.Common.{◌≡◌, take}
use Rattle.place_names.proofs.copied_knowledge.noted_again.Given as goal

abbrev pub invariant-loop-place : goal.invariant-loop-place
invariant-loop-place l = record {
  same : l.places.items ≡ l.fn.places.items;
  copy : l.copy.items ≡ take l.place l.fn.places.items;
}
