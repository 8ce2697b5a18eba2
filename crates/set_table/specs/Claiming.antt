-- Why a key is given no place.
use Rattle.std.specs.Prelude.{ℕ, List}
use Rattle.place_names.specs.Naming.{Naming, IsFull}
use Rattle.set_table.specs.declared.naming.names.ClaimFault.{ClaimFault}
use Rattle.set_table.specs.declared.naming.names.ClaimFault.TheVariants.{NoMemory, TableFull}

abbrev pub IsUnclaimed : ClaimFault → Naming → List ℕ → Type 0
IsUnclaimed NoMemory names key = Unit {0}
IsUnclaimed TableFull names key = IsFull names key
