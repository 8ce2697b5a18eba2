-- Cracks by inner pivots, none and one after the other.
use Rattle.std.proofs.Common.{◌∙◌, refl, arith}
use Rattle.std.proofs.lemmas.List.Sorted.{IsPermutation-refl, IsPermutation-trans}
use Rattle.column_rows.specs.EffectsOnPieces.{AreCracked}
use Rattle.column_rows.specs.declared.cracked_with_shown_pivots.Pieces.{Pieces}

-- nothing was cracked
pub AreCracked-none : {A : Type 0} (p : Pieces A) → AreCracked p p
AreCracked-none p = record {
  rows = IsPermutation-refl p.cracked.rows.items;
  capacity = refl;
  among = λ q there. there;
  shown = refl;
  spare = omega arith;
  room = λ room. room;
  few = omega arith;
}

-- cracks after cracks
pub AreCracked-more : {A : Type 0} (p q r : Pieces A) → AreCracked p q → AreCracked q r → AreCracked p r
AreCracked-more p q r first second = record {
  rows = IsPermutation-trans p.cracked.rows.items q.cracked.rows.items r.cracked.rows.items first.rows second.rows;
  capacity = second.capacity ∙ first.capacity;
  among = λ x there. second.among x (first.among x there);
  shown = second.shown ∙ first.shown;
  spare = omega (arith, first.spare, second.spare);
  room = λ room. second.room (first.room room);
  few = omega (arith, first.few, second.few);
}
