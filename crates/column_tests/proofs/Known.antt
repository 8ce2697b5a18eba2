-- Lemmas of rows that are known to be in a column.
use Rattle.std.proofs.Common.{ℕ, ℤ, List, Result, Ok, Err, OnOk, arith}
use Rattle.ripple_column.specs.Content.{ColumnState, Holds}
use Rattle.column_tests.specs.Known.{HoldsAll, KeepsOthers}

-- a column of just these rows has all of them
pub HoldsAll-just : (c : ColumnState) (known : List (ℤ × List ℕ)) → Holds c known → HoldsAll c known
HoldsAll-just c known holds p = omega (arith, holds p)

-- a column that holds just the known rows goes on holding just these
pub Holds-kept : {T E : Type 0} (r : Result T E) (c1 c2 : ColumnState) (known known' : List (ℤ × List ℕ)) → Holds c1 known → OnOk r (KeepsOthers c1 c2 known known') → OnOk r (Holds c2 known')
Holds-kept (Ok x) c1 c2 known known' holds keeps = λ p. omega (arith, holds p, keeps p)
Holds-kept (Err e) c1 c2 known known' holds keeps = tt
