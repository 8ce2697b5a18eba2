use Rattle.std.proofs.Common.{ap, refl}
use Rattle.set_table.specs.TableAndPassViews.{PassView}
use Rattle.set_table.proofs.TallyLemmas.{run_by}
use Rattle.set_table.proofs.table.Table.run_at.Goals as goal

pub returns-clause-answer : goal.returns-clause-answer
returns-clause-answer g c =
    run_by c.args.self.now.opened c.args.pass.now.shares c.pass.inside.shares.items _ c.args.pass.now.number c.args.at.now.place c.args.at.now.command.now c.index_mut.result.now c.run-ran.new.shares c.run-ran.result
    c.requires.own.shares c.requires.within (ap (λ (pass : PassView). pass.shares) c.pass.view_is) c.index_mut.ensures.value refl c.run-ran.ensures.told c.run-ran.ensures.not_told c.run-ran.ensures.refused
