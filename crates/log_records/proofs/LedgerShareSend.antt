-- A ledger share may go to another thread, and threads may share it: behind a reference it shows nothing.
use denote.RattleType.{RattleType}
use denote.Param.Send.{IsSend, IsSync, part_keyless}
use Rattle.std.specs.declared.sync.ledger.Ledger.{Ghosts}
use Rattle.std.proofs.sync.ledger.Share.TheSendSync as share
use Rattle.log_records.specs.contracts.thread_safe_ledger_share.LedgerShare.{the_row}
use Rattle.log_records.specs.contracts.thread_safe_ledger_share.LedgerShare.TheInside as Inside

inside_send : (L : RattleType) (g : Ghosts L.Denot) → IsSend (Inside.the_row L g)
inside_send L g = record { owned = λ d vs. ((λ vss. (tt, ((share.the_send L g).owned d.share vss.0, tt))), tt); leaving = λ k f vs. (tt, tt) }

pub ledger_share_send : (L : RattleType) (g : Ghosts L.Denot) → IsSend (the_row L g)
ledger_share_send L g = record { owned = λ d vs x. ((inside_send L g).owned x.0 vs, tt); leaving = λ k f vs. tt }

pub ledger_share_sync : (L : RattleType) (g : Ghosts L.Denot) → IsSync (the_row L g)
ledger_share_sync L g = record { shared = λ d b o κ q. ((λ s. part_keyless (Inside.the_row L g) (inside_send L g) s q.0 b o), tt) }
