use Rattle.std.proofs.Common.{ap}
use Rattle.set_table.specs.TableAndPassViews.{PassView}
use Rattle.set_table.proofs.TallyLemmas.{if_read_by}
use Rattle.set_table.proofs.table.Table.read_at.Goals as goal

pub returns : goal.returns
returns g c =
    if_read_by c.args.self.now.opened c.args.pass.now.shares c.pass.inside.shares.items c.args.pass.now.number c.args.at.now.place _ c.index-2.result.now c.args.at.now.command.now _
    c.requires.may.own.shares c.requires.may.within c.requires.reading (ap (λ (pass : PassView). pass.shares) c.pass.view_is) c.index-2.ensures c.read_few.ensures.read
