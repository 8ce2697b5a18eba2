use Rattle.std.proofs.Common.{◌∙◌, ◌++◌, List, ℕ, sym, ap}
use Rattle.resp_wire.specs.RequestEncoding.{request}
use Rattle.log_records.proofs.RecordedEffects.{few_prepared, prepared_as_given}
use Rattle.log_records.proofs.record.record_text.Goals as goal

pub returns-then-effect_len-eq0-clause-text : goal.returns-then-effect_len-eq0-clause-text
returns-then-effect_len-eq0-clause-text g c =
    c.in_ok-write_request-in-Some.ensures.ok ∙ ap (λ (l : List ℕ). l ++ request c.request.result.now) c.new-text.ensures.items
    ∙ ap request (c.request.ensures.request ∙ sym (prepared_as_given c.args.command.now c.args.set.now c.requires.writing c.requires.prepared c.requires.changes (sym c.effect_len.ensures ∙ c.if-effect_len-eq0.true)))

pub effect_text-requires : goal.effect_text-requires
effect_text-requires g c = few_prepared c.args.set.now c.args.command.now.meaning c.requires.prepared c.in-Some.ensures.fits

pub effect_text-requires-in-Some : goal.effect_text-requires-in-Some
effect_text-requires-in-Some g c = few_prepared c.args.set.now c.args.command.now.meaning c.requires.prepared c.in-Some.ensures.fits
