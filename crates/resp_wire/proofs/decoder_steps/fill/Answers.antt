use Rattle.std.proofs.Common.{◌∷◌, [], length, arith, ◌∙◌}
use Rattle.std.proofs.lemmas.List.{length_push, take-append-le}
use Rattle.std.proofs.lemmas.List.Elements.{All-push}
use Rattle.resp_messages.specs.RequestEncoding.{IsArgument}
use Rattle.resp_wire.proofs.Items.{argument_takes}
use Rattle.resp_wire.proofs.StepLemmas.{arguments_more, argument_shorter}
use Rattle.resp_wire.proofs.decoder_steps.fill.Goals as goal

pub arguments-preserved : goal.arguments-preserved
arguments-preserved g c =
    let arguments = c.arguments.arguments.items in
    let t = argument_takes c.arguments.rest.now c.in-Ok.value c.in-Ok.behind.now c.in-Ok.ensures in
    rw c.in-Ok-push.ensures.items (record {
      text = arguments_more arguments c.in-Ok.value c.arguments.rest.now c.in-Ok.behind.now _ c.in-Ok.ensures c.arguments.invariant.text;
      each = λ before. All-push IsArgument arguments c.in-Ok.value (c.arguments.invariant.each before) t.1;
      few = omega (arith, length_push arguments c.in-Ok.value, c.arguments-test.true);
      kept = take-append-le (length c.args.arguments.now.items) arguments (c.in-Ok.value ∷ []) c.arguments.invariant.longer ∙ c.arguments.invariant.kept;
      longer = omega (arith, length_push arguments c.in-Ok.value, c.arguments.invariant.longer);
      shorter = omega (arith, argument_shorter c.arguments.rest.now c.in-Ok.value c.in-Ok.behind.now c.in-Ok.ensures, c.arguments.invariant.shorter);
    })
