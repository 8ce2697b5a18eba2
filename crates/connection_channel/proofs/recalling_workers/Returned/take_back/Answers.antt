use Rattle.std.proofs.Common.{rules, ◌∙◌, ap, ◌+◌, ◌++◌}
use Rattle.crossbeam_channel.specs.Claims.{view}
use Rattle.connection_channel.specs.ChannelInvariant.{pass_view}
use Rattle.connection_channel.specs.declared.channel_protocol.ChannelPassView.{ChannelPassView}
use Rattle.connection_channel.proofs.Steps.{merges}
use Rattle.connection_channel.proofs.recalling_workers.Returned.take_back.Goals as goal

pub absorb-requires-clause-rule : goal.absorb-requires-clause-rule
absorb-requires-clause-rule g c = merges _ _ _ _

pub returns-clause-back : goal.returns-clause-back
returns-clause-back g c =
    let j = c.join-other in let v = view c.args.pass.now in (
      j.result.handler,
      j.result.taken,
      c.absorb.ensures.rule ∙ ap (λ (w : ChannelPassView). pass_view (v.parts + w.parts) v.sends v.sent v.stops (v.taken ++ w.taken)) j.ensures.1,
      j.ensures.2,
      search rules,
      search rules,
      j.ensures.3,
      j.ensures.4,
    )
