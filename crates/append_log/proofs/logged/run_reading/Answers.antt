use Rattle.std.proofs.Common.{refl, sym, ap}
use Rattle.zset_core.specs.SetsByKey.{set_at}
use Rattle.resp_wire.specs.Response.{response_of}
use Rattle.log_records.proofs.LoggedOwnerLemmas.{reading-stays, Replays-stay}
use Rattle.append_log.proofs.logged.run_reading.Goals as goal

pub returns-in-Ok-clause-same : goal.returns-in-Ok-clause-same
returns-in-Ok-clause-same g c = reading-stays c.args.owner.now.world c.run.new.self.world c.args.command.now.meaning (response_of c.in-Ok.reply) c.requires.reading c.in-Ok.ensures.ok

pub returns-in-Ok-clause-ok : goal.returns-in-Ok-clause-ok
returns-in-Ok-clause-ok g c = λ log share.
    let same = reading-stays c.args.owner.now.world c.run.new.self.world c.args.command.now.meaning (response_of c.in-Ok.reply) c.requires.reading c.in-Ok.ensures.ok in
    record { acted = c.in-Ok.ensures.ok; kept = λ s. (refl, refl); logged = λ differ. absurd (differ same) }

pub returns-in-Ok-clause-replays : goal.returns-in-Ok-clause-replays
returns-in-Ok-clause-replays g c = λ start log share.
    let same = reading-stays c.args.owner.now.world c.run.new.self.world c.args.command.now.meaning (response_of c.in-Ok.reply) c.requires.reading c.in-Ok.ensures.ok in
    Replays-stay start _ _ same (λ records has. has)

pub returns-in-Err-clause-same : goal.returns-in-Err-clause-same
returns-in-Err-clause-same g c = λ q. ap (λ w. set_at w q) (sym c.in-Err.ensures.err)

pub returns-in-Err-clause-replays : goal.returns-in-Err-clause-replays
returns-in-Err-clause-replays g c = λ start log share.
    Replays-stay start _ _ (λ q. ap (λ w. set_at w q) (sym c.in-Err.ensures.err)) (λ records has. has)
