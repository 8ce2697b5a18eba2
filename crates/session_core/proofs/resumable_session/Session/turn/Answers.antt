use Rattle.std.proofs.Common.{◌≡◌, ℕ, refl, sym, ap, ◌∙◌, rules, arith, length, length-append, Bool, Result, Ok, Err, Some, None}
use Rattle.std.proofs.Common.{◌≤◌, ◌++◌}
use Rattle.std.specs.List.{flat_map}
use Rattle.resp_wire.specs.RequestEncoding.{encoding_of}
use Rattle.resp_wire.specs.Stream.{items, rest}
use Rattle.resp_wire.specs.DecoderView.{DecoderView, Waits}
use Rattle.resp_wire.proofs.CallerLemmas.{gave_at, waits_at, stops_at}
use Rattle.session_core.specs.declared.session_end.SessionFault.{SessionFault}
use Rattle.session_core.specs.declared.session_end.SessionFault.TheVariants.{NoMemory}
use Rattle.session_core.proofs.HeldRequests.{begins, goes_on, answered, halted_at_once, halted_sending, halted_by_fault, small_on, small_same, gave_some}
use Rattle.session_core.proofs.resumable_session.Session.turn.Goals as goal

-- what waits is no longer than what was held
shorter : (old new : DecoderView) → Waits old new → old.held ≡ flat_map encoding_of (items old.held) ++ rest old.held → length new.held ≤ length old.held
shorter old new waits whole = omega (arith, ap length waits.held_is, ap length whole, length-append (flat_map encoding_of (items old.held)) (rest old.held))

pub requests-init : goal.requests-init
requests-init g c = record {
  half = begins g.E.Exec.allows c.args.exec.now c.args.self.now.decoder c.args.self.now.progress (g.D.ByteDrain.told c.args.drain.now) c.requires.ready.unfaulted;
  settled = c.requires.settled;
  small = c.requires.ready.small;
  good = refl;
  count = omega arith;
  shrinks = omega arith;
}

pub returns-in-Protocol-clause-halted : goal.returns-in-Protocol-clause-halted
returns-in-Protocol-clause-halted g c =
    let half = c.requests.invariant.half in
    let s = stops_at c.requests.self.decoder c.next.new.self half.unfaulted c.in-Err.wire_fault c.in-Protocol.fault c.in-Protocol.is c.in-Err.ensures.next in
    halted_by_fault g.E.Exec.allows _ _ _ _ _ _ _ _ half c.next.new.self c.in-Protocol.fault _ _ s.0 s.1 c.tell_fault.ensures.ended

-- the fault in a result
end_in : SessionFault → Result Bool SessionFault → SessionFault
end_in other (Ok is_all) = other
end_in other (Err end) = end

pub returns-in-Protocol-clause-counted : goal.returns-in-Protocol-clause-counted
unfolding end_in
returns-in-Protocol-clause-counted g c = λ told is.
    let half = c.requests.invariant.half in
    let s = stops_at c.requests.self.decoder c.next.new.self half.unfaulted c.in-Err.wire_fault c.in-Protocol.fault c.in-Protocol.is c.in-Err.ensures.next in
    halted_by_fault g.E.Exec.allows _ _ _ _ _ _ _ _ half c.next.new.self c.in-Protocol.fault _ _ s.0 s.1 (c.tell_fault.ensures.counted told (ap (end_in NoMemory) is))

pub returns-in-None-clause-ready : goal.returns-in-None-clause-ready
returns-in-None-clause-ready g c =
    let i = c.requests.invariant in
    let w = waits_at c.requests.self.decoder c.next.new.self i.half.unfaulted c.in-Ok.next c.in-None.is c.in-Ok.ensures.next in
    record {
      unfaulted = w.2;
      small = small_same c.requests.self.decoder c.next.new.self c.requests.self.progress i.small (shorter c.requests.self.decoder c.next.new.self w.0 (c.longest.ensures.whole c.requests.self.decoder.held).0) c.in-Ok.ensures.taken;
    }

pub returns-in-None-clause-shrinks : goal.returns-in-None-clause-shrinks
returns-in-None-clause-shrinks g c =
    let i = c.requests.invariant in
    let w = waits_at c.requests.self.decoder c.next.new.self i.half.unfaulted c.in-Ok.next c.in-None.is c.in-Ok.ensures.next in
    omega (arith, i.shrinks, shorter c.requests.self.decoder c.next.new.self w.0 (c.longest.ensures.whole c.requests.self.decoder.held).0)

pub requests-preserved : goal.requests-preserved
requests-preserved g c =
    let i = c.requests.invariant in
    let gave = gave_at c.requests.self.decoder c.next.new.self i.half.unfaulted c.in-Ok.next c.in-Some.request c.in-Some.is c.in-Ok.ensures.next in
    let one = c.in_ok-answer-in-Some.ensures.answered in
    record {
      half = rw c.answer.ensures.decoder (goes_on g.E.Exec.allows _ _ _ _ _ _ _ _ i.half c.next.new.self c.in-Some.request one.reply _ _ c.answer.new.self.progress gave.0 gave.1 c.in-Ok.ensures.taken one.exchange one.told_is one.out_is one.count_is);
      settled = c.answer.ensures.settled;
      small = rw c.answer.ensures.decoder (small_on c.requests.self.decoder c.next.new.self c.in-Some.request c.requests.self.progress c.answer.new.self.progress i.small gave.0 c.in-Ok.ensures.taken one.count_is c.in_ok-answer-in-Some.ensures.grown);
      good = c.in_ok-answer-in-Some.ensures.failures ∙ i.good;
      count = omega (arith, one.count_is, i.count);
      shrinks = rw c.answer.ensures.decoder (omega (arith, one.count_is, i.shrinks, gave_some c.requests.self.decoder c.next.new.self c.in-Some.request gave.0));
    }

pub returns-in_err-answer-in-Some-clause-halted : goal.returns-in_err-answer-in-Some-clause-halted
returns-in_err-answer-in-Some-clause-halted g c =
    let i = c.requests.invariant in
    let gave = gave_at c.requests.self.decoder c.next.new.self i.half.unfaulted c.in-Ok.next c.in-Some.request c.in-Some.is c.in-Ok.ensures.next in
    let one = c.in_err-answer-in-Some.ensures.halted in
    let halted = halted_sending g.E.Exec.allows _ _ _ _ _ _ _ _ i.half c.next.new.self c.in-Some.request one.reply _ _ _ gave.0 one.exchange one.ends in
    search (rules, halted)

pub returns-clause-answered : goal.returns-clause-answered
returns-clause-answered g c = search rules
