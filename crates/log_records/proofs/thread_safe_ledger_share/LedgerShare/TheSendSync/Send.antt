use denote.RattleType.{RattleType}
use denote.Param.Send.{IsSend}
use Rattle.std.specs.declared.sync.ledger.Ledger.{Ghosts}
use Rattle.log_records.specs.contracts.thread_safe_ledger_share.LedgerShare.{the_row}
use Rattle.log_records.proofs.LedgerShareSend.{ledger_share_send}

pub send : (L : RattleType) (g : Ghosts L.Denot) → IsSend (the_row L g)
send = ledger_share_send
