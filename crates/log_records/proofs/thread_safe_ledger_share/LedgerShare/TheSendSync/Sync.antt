use denote.RattleType.{RattleType}
use denote.Param.Send.{IsSync}
use Rattle.std.specs.declared.sync.ledger.Ledger.{Ghosts}
use Rattle.log_records.specs.contracts.thread_safe_ledger_share.LedgerShare.{the_row}
use Rattle.log_records.proofs.LedgerShareSend.{ledger_share_sync}

pub sync : (L : RattleType) (g : Ghosts L.Denot) → IsSync (the_row L g)
sync = ledger_share_sync
