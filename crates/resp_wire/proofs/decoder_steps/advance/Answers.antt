use Rattle.std.proofs.Common.{◌≡◌, ◌-◌, ◌≤◌, length, arith, Some}
use Rattle.resp_wire.proofs.Items.{head_takes}
use Rattle.resp_wire.proofs.StepLemmas.{steps_from, no_skips, skips_to_head, skips_shorter, head_shorter, stopped_at_head}
use Rattle.resp_wire.proofs.decoder_steps.advance.Goals as goal

pub returns-then-count-gt0 : goal.returns-then-count-gt0
returns-then-count-gt0 g c =
    let w = c.go_on-end.ensures in
    steps_from c.args.count c.args.arguments.now.items c.args.bytes.now 0 c.args.count c.args.bytes.now c.go_on-end.result.1 c.go_on-end.new.arguments.items c.go_on-end.result.0.now (no_skips _) (omega arith) c.if-count-gt0.true c.requires.within w

pub go_on-end-requires-in-Ok-clause-within : goal.go_on-end-requires-in-Ok-clause-within
go_on-end-requires-in-Ok-clause-within g c =
    let e = rw c.in-Ok.is at c.past_skips-after.ensures.head in
    (head_takes c.past_skips-after.result.rest.now (Some c.in-Ok.count) c.in-Ok.body.now e).1

pub overflow_sub-result-in-Ok : goal.overflow_sub-result-in-Ok
overflow_sub-result-in-Ok g c =
    let f = c.past_skips-after in
    let e = rw c.in-Ok.is at f.ensures.head in
    let a = head_shorter f.result.rest.now (Some c.in-Ok.count) c.in-Ok.body.now e in
    let b = skips_shorter c.args.bytes.now f.result.rest.now f.ensures.skips in
    let d = c.go_on-end-in-Ok.ensures.shorter in
    omega (arith, a, b, d)

pub returns-in-Err : goal.returns-in-Err
returns-in-Err g c =
    let f = c.past_skips-after in
    stopped_at_head c.args.count c.args.arguments.now.items c.args.bytes.now f.result.rest.now c.in-Err.stop c.if-count-gt0.false c.requires.few f.ensures.skips (rw c.in-Err.is at f.ensures.head)

pub returns-in-Ok : goal.returns-in-Ok
returns-in-Ok g c =
    let f = c.past_skips-after in
    let e = rw c.in-Ok.is at f.ensures.head in
    let pos = rw c.in-Ok.is at f.ensures.some in
    let a = head_shorter f.result.rest.now (Some c.in-Ok.count) c.in-Ok.body.now e in
    let b = skips_shorter c.args.bytes.now f.result.rest.now f.ensures.skips in
    let le = (head_takes f.result.rest.now (Some c.in-Ok.count) c.in-Ok.body.now e).1 in
    let zero : c.args.count ≡ 0 = omega arith in
    let none : length c.args.arguments.now.items ≤ 0 = omega (arith, c.requires.few) in
    let s = skips_to_head c.args.arguments.now.items c.args.bytes.now f.result.rest.now c.in-Ok.count c.in-Ok.body.now none f.ensures.skips e pos in
    rw zero (steps_from 0 c.args.arguments.now.items c.args.bytes.now (length c.args.bytes.now - length f.result.rest.now) c.in-Ok.count c.in-Ok.body.now c.go_on-end-in-Ok.result.1 c.go_on-end-in-Ok.new.arguments.items c.go_on-end-in-Ok.result.0.now s (omega (arith, a, b)) pos le c.go_on-end-in-Ok.ensures)
