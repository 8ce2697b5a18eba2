-- What merges keep, one after the other.
use Rattle.std.proofs.Common.{ℤ, ℕ, List, refl, ◌∙◌}
use Rattle.std.specs.declared.vec.Vec.{Vec}
use Rattle.crack_kernel.specs.PivotList.{PivotList}
use Rattle.column_rows.specs.MergeEffects.{KeepsFrame}

pub KeepsFrame-more : {A : Type 0} {r0 r1 r2 : Vec (ℤ × List ℕ) A} {p0 p1 p2 : PivotList} → KeepsFrame r0 p0 r1 p1 → KeepsFrame r1 p1 r2 p2 → KeepsFrame r0 p0 r2 p2
KeepsFrame-more a b = record {
  values = b.values ∙ a.values;
  spare = b.spare ∙ a.spare;
  capacity = b.capacity ∙ a.capacity;
}

pub KeepsFrame-start : {A : Type 0} {r : Vec (ℤ × List ℕ) A} {p : PivotList} → KeepsFrame r p r p
KeepsFrame-start = record { values = refl; spare = refl; capacity = refl }
