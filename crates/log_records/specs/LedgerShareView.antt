-- What a contract sees of a ledger's share that threads may share.
use Rattle.std.specs.Prelude.{ℕ}

pub record LedgerShareView : Type 0 where
  pub parts : ℕ
  pub amount : ℕ
