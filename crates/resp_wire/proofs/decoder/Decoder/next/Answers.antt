use Rattle.std.proofs.Common.{◌≡◌, ◌+◌, ◌++◌, drop, refl, sym, ap, ◌∙◌, Some, arith, rules}
use Rattle.std.proofs.lemmas.Grind.{common_steps}
use Rattle.resp_wire.specs.declared.decoder_steps.End.TheVariants as ends
use Rattle.resp_wire.specs.declared.fault.Stop.TheVariants as stops
use Rattle.resp_wire.specs.DecoderView.{DecoderView, begun}
use Rattle.resp_wire.proofs.NextLemmas.{stepped, none_is, some_at, numbers_of, whole_count, stopped_count, numbers_after, whole_gave, stopped_text, stopped_item, waits_short, stops_wrong}
use Rattle.resp_wire.proofs.decoder.Decoder.next.Goals as goal

pub invariant_of-self-in-Short : goal.invariant_of-self-in-Short
invariant_of-self-in-Short g c =
    let d = c.self.inside in
    let i = c.self.invariant in
    let step = c.advance-step.result in
    let after = c.advance-step.new.arguments.items in
    let st = stepped d.count d.arguments.items c.behind-unread.result.now (drop d.start d.bytes.items) (c.behind-unread.ensures ∙ ap (drop d.start) c.deref.ensures.value) step after (ends.Stopped c.in-Stopped.stop) c.in-Stopped.is (λ e. absurd cc) c.advance-step.ensures in
    let n = numbers_after d.start d.begun d.taken d.count d.arguments.items d.bytes.items step after i.start i.begun_is i.room st in
    record { start = n.within; count = st.within; few = st.few; each = st.each; begun_is = n.begun_is; room = n.room }

pub invariant_of-self-in-Wrong : goal.invariant_of-self-in-Wrong
invariant_of-self-in-Wrong g c =
    let d = c.self.inside in
    let i = c.self.invariant in
    let step = c.advance-step.result in
    let after = c.advance-step.new.arguments.items in
    let st = stepped d.count d.arguments.items c.behind-unread.result.now (drop d.start d.bytes.items) (c.behind-unread.ensures ∙ ap (drop d.start) c.deref.ensures.value) step after (ends.Stopped c.in-Stopped.stop) c.in-Stopped.is (λ e. absurd cc) c.advance-step.ensures in
    let n = numbers_after d.start d.begun d.taken d.count d.arguments.items d.bytes.items step after i.start i.begun_is i.room st in
    record { start = n.within; count = st.within; few = st.few; each = st.each; begun_is = n.begun_is; room = n.room }

pub returns-in-Short-clause-next : goal.returns-in-Short-clause-next
returns-in-Short-clause-next g c =
    let d = c.self.inside in
    let step = c.advance-step.result in
    let after = c.advance-step.new.arguments.items in
    let old : DecoderView = c.args.self.now in
    let new : DecoderView = record { held = begun step.count after ++ drop (d.start + step.used) d.bytes.items; taken = d.taken + step.skipped; fault = d.fault } in
    let held : old.held ≡ begun d.count d.arguments.items ++ drop d.start d.bytes.items = ap (λ (w : DecoderView). w.held) (sym c.self.view_is) in
    let st = stepped d.count d.arguments.items c.behind-unread.result.now (drop d.start d.bytes.items) (c.behind-unread.ensures ∙ ap (drop d.start) c.deref.ensures.value) step after (ends.Stopped c.in-Stopped.stop) c.in-Stopped.is (λ e. absurd cc) c.advance-step.ensures in
    let text = stopped_text d.start d.count d.arguments.items d.bytes.items step after old new st held refl in
    let short : step.end ≡ ends.Stopped stops.Short = c.in-Stopped.is ∙ ap ends.Stopped c.in-Short.is in
    let item = stopped_item d.start d.count d.arguments.items d.bytes.items step after new stops.Short st short refl in
    let w = waits_short old new step.skipped text item in
    none_is c.args.self.now.fault (w.0, w.1, c.in_default.is)

pub returns-in-Wrong-clause-next : goal.returns-in-Wrong-clause-next
returns-in-Wrong-clause-next g c =
    let d = c.self.inside in
    let step = c.advance-step.result in
    let after = c.advance-step.new.arguments.items in
    let old : DecoderView = c.args.self.now in
    let new : DecoderView = record { held = begun step.count after ++ drop (d.start + step.used) d.bytes.items; taken = d.taken + step.skipped; fault = Some c.in-Wrong.fault } in
    let held : old.held ≡ begun d.count d.arguments.items ++ drop d.start d.bytes.items = ap (λ (w : DecoderView). w.held) (sym c.self.view_is) in
    let st = stepped d.count d.arguments.items c.behind-unread.result.now (drop d.start d.bytes.items) (c.behind-unread.ensures ∙ ap (drop d.start) c.deref.ensures.value) step after (ends.Stopped c.in-Stopped.stop) c.in-Stopped.is (λ e. absurd cc) c.advance-step.ensures in
    let text = stopped_text d.start d.count d.arguments.items d.bytes.items step after old new st held refl in
    let wrong : step.end ≡ ends.Stopped (stops.Wrong c.in-Wrong.fault) = c.in-Stopped.is ∙ ap ends.Stopped c.in-Wrong.is in
    let item = stopped_item d.start d.count d.arguments.items d.bytes.items step after new (stops.Wrong c.in-Wrong.fault) st wrong refl in
    none_is c.args.self.now.fault (stops_wrong old new step.skipped c.in-Wrong.fault text item refl)

pub returns-in-Whole-clause-next : goal.returns-in-Whole-clause-next
returns-in-Whole-clause-next g c =
    let d = c.self.inside in
    let step = c.advance-step.result in
    let after = c.advance-step.new.arguments.items in
    let old : DecoderView = c.args.self.now in
    let new : DecoderView = record { held = drop (d.start + step.used) d.bytes.items; taken = d.taken + (d.begun + step.used); fault = d.fault } in
    let held : old.held ≡ begun d.count d.arguments.items ++ drop d.start d.bytes.items = ap (λ (w : DecoderView). w.held) (sym c.self.view_is) in
    let st = stepped d.count d.arguments.items c.behind-unread.result.now (drop d.start d.bytes.items) (c.behind-unread.ensures ∙ ap (drop d.start) c.deref.ensures.value) step after ends.Whole c.in-Whole.is (λ e. absurd cc) c.advance-step.ensures in
    let gave = whole_gave d.start d.count d.arguments.items d.bytes.items step after old new st c.in-Whole.is held refl in
    let same : c.of.result ≡ after = cc (c.of.ensures, c.new-in-Whole.ensures, c.replace-arguments.ensures.value) in
    none_is c.args.self.now.fault (rw same gave, c.in_default.is)

pub overflow_add-self : goal.overflow_add-self
overflow_add-self g c =
    let n = numbers_of c.self.inside c.behind-unread.result.now (c.behind-unread.ensures ∙ ap (drop c.self.inside.start) c.deref.ensures.value) c.advance-step.result c.advance-step.new.arguments.items ends.Whole c.in-Whole.is (λ e. absurd cc) c.advance-step.ensures c.self.invariant in
    omega (arith, n.room, n.order)

pub overflow_add-self-in-Whole : goal.overflow_add-self-in-Whole
overflow_add-self-in-Whole g c =
    let n = numbers_of c.self.inside c.behind-unread.result.now (c.behind-unread.ensures ∙ ap (drop c.self.inside.start) c.deref.ensures.value) c.advance-step.result c.advance-step.new.arguments.items ends.Whole c.in-Whole.is (λ e. absurd cc) c.advance-step.ensures c.self.invariant in
    omega (arith, n.room, n.order)

pub overflow_add-self-in-Stopped : goal.overflow_add-self-in-Stopped
overflow_add-self-in-Stopped g c =
    let n = numbers_of c.self.inside c.behind-unread.result.now (c.behind-unread.ensures ∙ ap (drop c.self.inside.start) c.deref.ensures.value) c.advance-step.result c.advance-step.new.arguments.items (ends.Stopped c.in-Stopped.stop) c.in-Stopped.is (λ e. absurd cc) c.advance-step.ensures c.self.invariant in
    omega (arith, n.room, n.order)

pub overflow_add-self-in-Stopped-2 : goal.overflow_add-self-in-Stopped-2
overflow_add-self-in-Stopped-2 g c =
    let n = numbers_of c.self.inside c.behind-unread.result.now (c.behind-unread.ensures ∙ ap (drop c.self.inside.start) c.deref.ensures.value) c.advance-step.result c.advance-step.new.arguments.items (ends.Stopped c.in-Stopped.stop) c.in-Stopped.is (λ e. absurd cc) c.advance-step.ensures c.self.invariant in
    omega (arith, n.room, n.order)

pub overflow_sub-self : goal.overflow_sub-self
overflow_sub-self g c =
    let n = numbers_of c.self.inside c.behind-unread.result.now (c.behind-unread.ensures ∙ ap (drop c.self.inside.start) c.deref.ensures.value) c.advance-step.result c.advance-step.new.arguments.items (ends.Stopped c.in-Stopped.stop) c.in-Stopped.is (λ e. absurd cc) c.advance-step.ensures c.self.invariant in
    omega (arith, n.order)

pub returns-in-Whole-clause-taken : goal.returns-in-Whole-clause-taken
returns-in-Whole-clause-taken g c =
    let n = numbers_of c.self.inside c.behind-unread.result.now (c.behind-unread.ensures ∙ ap (drop c.self.inside.start) c.deref.ensures.value) c.advance-step.result c.advance-step.new.arguments.items ends.Whole c.in-Whole.is (λ e. absurd cc) c.advance-step.ensures c.self.invariant in
    whole_count c.self.inside c.advance-step.result c.advance-step.new.arguments.items c.args.self.now c.self.invariant n (sym c.self.view_is)

pub returns-in-Short-clause-taken : goal.returns-in-Short-clause-taken
returns-in-Short-clause-taken g c =
    let n = numbers_of c.self.inside c.behind-unread.result.now (c.behind-unread.ensures ∙ ap (drop c.self.inside.start) c.deref.ensures.value) c.advance-step.result c.advance-step.new.arguments.items (ends.Stopped c.in-Stopped.stop) c.in-Stopped.is (λ e. absurd cc) c.advance-step.ensures c.self.invariant in
    stopped_count c.self.inside c.advance-step.result c.advance-step.new.arguments.items c.args.self.now c.self.invariant n (sym c.self.view_is)

pub returns-in-Wrong-clause-taken : goal.returns-in-Wrong-clause-taken
returns-in-Wrong-clause-taken g c =
    let n = numbers_of c.self.inside c.behind-unread.result.now (c.behind-unread.ensures ∙ ap (drop c.self.inside.start) c.deref.ensures.value) c.advance-step.result c.advance-step.new.arguments.items (ends.Stopped c.in-Stopped.stop) c.in-Stopped.is (λ e. absurd cc) c.advance-step.ensures c.self.invariant in
    stopped_count c.self.inside c.advance-step.result c.advance-step.new.arguments.items c.args.self.now c.self.invariant n (sym c.self.view_is)

pub returns-in-Whole-clause-failed : goal.returns-in-Whole-clause-failed
returns-in-Whole-clause-failed g c =
    some_at _ c.args.self.now.fault (ap (λ (w : DecoderView). w.fault) (sym c.self.view_is) ∙ c.in_default.is)

pub returns-in-Short-clause-failed : goal.returns-in-Short-clause-failed
returns-in-Short-clause-failed g c =
    some_at _ c.args.self.now.fault (ap (λ (w : DecoderView). w.fault) (sym c.self.view_is) ∙ c.in_default.is)

pub returns-in-Wrong-clause-failed : goal.returns-in-Wrong-clause-failed
returns-in-Wrong-clause-failed g c =
    some_at _ c.args.self.now.fault (ap (λ (w : DecoderView). w.fault) (sym c.self.view_is) ∙ c.in_default.is)

pub returns-in-Memory-clause-failed : goal.returns-in-Memory-clause-failed
returns-in-Memory-clause-failed g c =
    some_at _ c.args.self.now.fault (ap (λ (w : DecoderView). w.fault) (sym c.self.view_is) ∙ c.in_default.is)

pub invariant_of-self : goal.invariant_of-self
invariant_of-self g c = grind (arith, common_steps)

pub of-requires : goal.of-requires
of-requires g c = grind (arith, common_steps)

pub invariant_of-self-in-Whole : goal.invariant_of-self-in-Whole
invariant_of-self-in-Whole g c = grind (arith, common_steps)

pub returns-in-Some-clause-failed : goal.returns-in-Some-clause-failed
returns-in-Some-clause-failed g c = search rules
