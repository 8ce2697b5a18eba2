use Rattle.std.proofs.Common.{◌≡◌, take}
use Rattle.table_lifetime.specs.Opening.{cards_of}
use Rattle.table_lifetime.proofs.opening.placing.cards.Given as goal

abbrev pub invariant-loop-place : goal.invariant-loop-place
invariant-loop-place g l = l.cards.items ≡ cards_of (take l.place l.sets)
