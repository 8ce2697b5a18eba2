use Rattle.resp_wire.proofs.StepLemmas.{went_stop}
use Rattle.resp_wire.proofs.decoder_steps.go_on.Goals as goal

pub returns-in-Stop : goal.returns-in-Stop
returns-in-Stop g c =
    let e = c.fill-filled.ensures in
    went_stop c.args.count c.args.arguments.now.items c.fill-filled.new.arguments.items c.args.bytes.now c.fill-filled.result.0.now c.in-Stop.stop c.requires.some c.requires.within e.shorter (e.each c.requires.each) e.few e.text (rw (c.in-Err.is, c.in-Stop.is) at e.stop)
