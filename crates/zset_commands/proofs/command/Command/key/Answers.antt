use Rattle.std.proofs.Common.{subst}
use Rattle.zset_commands.specs.RequestLimits.{FitsRequest, IsBoundedMeaning}
use Rattle.zset_commands.specs.AbstractCommand.{Asked}
use Rattle.zset_commands.proofs.ReadWithinLimits.{asked_bounded}
use Rattle.zset_commands.proofs.NamedArguments.{form_fits}
use Rattle.zset_commands.proofs.command.Command.key.Goals as goal

pub returns-in-Asks-clause-bounded : goal.returns-in-Asks-clause-bounded
returns-in-Asks-clause-bounded g c =
    subst (λ (v : Asked). IsBoundedMeaning v.meaning) c.self.view_is (asked_bounded c.self.inside.request _ c.words-words.ensures.within c.self.invariant.1)

pub returns-in-Ping-clause-fits : goal.returns-in-Ping-clause-fits
returns-in-Ping-clause-fits g c =
    let bounded = asked_bounded c.self.inside.request _ c.words-words.ensures.within c.self.invariant.1 in
    subst (λ (v : Asked). FitsRequest v.meaning) c.self.view_is (form_fits c.self.inside.request c.self.inside.form c.words-words.ensures.within c.self.invariant.0 bounded.puts)

pub returns-in-Asks-clause-fits : goal.returns-in-Asks-clause-fits
returns-in-Asks-clause-fits g c =
    let bounded = asked_bounded c.self.inside.request _ c.words-words.ensures.within c.self.invariant.1 in
    subst (λ (v : Asked). FitsRequest v.meaning) c.self.view_is (form_fits c.self.inside.request c.self.inside.form c.words-words.ensures.within c.self.invariant.0 bounded.puts)
