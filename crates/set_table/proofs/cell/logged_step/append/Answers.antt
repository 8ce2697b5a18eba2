use Rattle.set_table.proofs.StepLemmas.{append_refusal}
use Rattle.set_table.proofs.cell.logged_step.append.Goals as goal

pub returns-clause-err : goal.returns-clause-err
returns-clause-err g c = append_refusal _ _ _ _ c.append.ensures.err
