use Rattle.std.proofs.Common.{arith}
use Rattle.resp_wire.proofs.CallerLemmas.{gave_at, waits_at, stops_at}
use Rattle.log_records.proofs.HeldReplay.{waits, gave_taken, damaged, gives, no_command, unknown}
use Rattle.std.proofs.lemmas.Grind.{common_steps}
use Rattle.append_log.proofs.loading.Reloader.replay_next.Goals as goal

pub returns-in-Err-Protocol-clause-stepped : goal.returns-in-Err-Protocol-clause-stepped
returns-in-Err-Protocol-clause-stepped g c = λ start bytes h.
    let cuts = c.cut.ensures in
    let old = c.args.self.now.decoder in
    let new = c.next.new.self in
    let s = stops_at old new c.requires.ready.unfaulted c.in-Err-Protocol.field-0 c.in-Err-Protocol.field-0-0 c.in-Err-Protocol.field-0-is c.in-Err-Protocol.ensures.next in
    rw c.taken.ensures (damaged c.longest.ensures.whole c.longest.ensures.most cuts.requests_are cuts.rest_is cuts.fault_is start bytes old new _ _ _ h c.in-Err-Protocol.ensures.taken c.in-Err-Protocol.field-0-0 s.0 s.1)

pub returns-in-Ok-None-clause-stepped : goal.returns-in-Ok-None-clause-stepped
returns-in-Ok-None-clause-stepped g c = λ start bytes h.
    let cuts = c.cut.ensures in
    let old = c.args.self.now.decoder in
    let new = c.next.new.self in
    let w = waits_at old new c.requires.ready.unfaulted c.in-Ok-None.field-0 c.in-Ok-None.field-0-is c.in-Ok-None.ensures.next in
    waits c.longest.ensures.whole c.longest.ensures.most cuts.requests_are cuts.rest_is cuts.fault_is start bytes old new _ _ _ h c.in-Ok-None.ensures.taken w.0 w.1 w.2

pub returns-in-Ok-clause-stepped : goal.returns-in-Ok-clause-stepped
returns-in-Ok-clause-stepped g c = λ start bytes h.
    let cuts = c.cut.ensures in
    let old = c.args.self.now.decoder in
    let new = c.next.new.self in
    let words = c.in-Ok-Some.request in
    let gave = gave_at old new c.requires.ready.unfaulted c.in-Ok-Some.field-0 words c.in-Ok-Some.field-0-is c.in-Ok-Some.ensures.next in
    rw c.take_record.ensures.decoder (gives c.longest.ensures.whole c.longest.ensures.most cuts.requests_are cuts.rest_is cuts.fault_is start bytes old new _ _ _ h c.in-Ok-Some.ensures.taken words gave.0 _ _ _ gave.1 c.in-Ok.ensures.ok)

pub returns-in-Err-NotACommand-clause-stepped : goal.returns-in-Err-NotACommand-clause-stepped
returns-in-Err-NotACommand-clause-stepped g c = λ start bytes h.
    let cuts = c.cut.ensures in
    let old = c.args.self.now.decoder in
    let new = c.next.new.self in
    let words = c.in-Ok-Some.request in
    let gave = gave_at old new c.requires.ready.unfaulted c.in-Ok-Some.field-0 words c.in-Ok-Some.field-0-is c.in-Ok-Some.ensures.next in
    rw (c.taken-in-Err-NotACommand.ensures, c.take_record.ensures.decoder) (no_command c.longest.ensures.whole c.longest.ensures.most cuts.requests_are cuts.rest_is cuts.fault_is start bytes old new _ _ _ h c.in-Ok-Some.ensures.taken words gave.0 _ _ c.text_len-size.ensures c.in-Err-NotACommand.ensures.err (rw c.in-Err-NotACommand.field-0-is at c.in-Err-NotACommand.ensures.cause))

pub returns-in-Ok-clause-took : goal.returns-in-Ok-clause-took
returns-in-Ok-clause-took g c =
    let gave = gave_at c.args.self.now.decoder c.next.new.self c.requires.ready.unfaulted c.in-Ok-Some.field-0 c.in-Ok-Some.request c.in-Ok-Some.field-0-is c.in-Ok-Some.ensures.next in
    λ _. rw c.take_record.ensures.decoder (gave_taken _ _ _ gave.0 c.in-Ok-Some.ensures.taken)

pub returns-in-Err-UnknownVersion-clause-stepped : goal.returns-in-Err-UnknownVersion-clause-stepped
returns-in-Err-UnknownVersion-clause-stepped g c = λ start bytes h.
    let cuts = c.cut.ensures in
    let old = c.args.self.now.decoder in
    let new = c.next.new.self in
    let words = c.in-Ok-Some.request in
    let gave = gave_at old new c.requires.ready.unfaulted c.in-Ok-Some.field-0 words c.in-Ok-Some.field-0-is c.in-Ok-Some.ensures.next in
    let cause = rw c.in-Err-UnknownVersion.field-0-is at c.in-Err-UnknownVersion.ensures.cause in
    unknown c.longest.ensures.whole c.longest.ensures.most cuts.requests_are cuts.rest_is cuts.fault_is start bytes old new _ _ _ h c.in-Ok-Some.ensures.taken words gave.0 _ c.in-Err-UnknownVersion.ensures.err cause.0 cause.1 cause.2

pub overflow_sub-result : goal.overflow_sub-result
overflow_sub-result g c = grind (arith, common_steps)

pub returns-in-Ok-None-clause-ready : goal.returns-in-Ok-None-clause-ready
returns-in-Ok-None-clause-ready g c = grind (arith, common_steps)

pub returns-in-Ok-clause-ready : goal.returns-in-Ok-clause-ready
returns-in-Ok-clause-ready g c = grind (arith, common_steps)
