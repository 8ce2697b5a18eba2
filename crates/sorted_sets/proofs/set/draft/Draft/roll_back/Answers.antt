use Rattle.std.proofs.Common.{◌∙◌, sym, ap, subst, take}
use Rattle.sorted_sets.specs.MembersWithStagedScores.{current_score, rows_by, ScoresAreSettled}
use Rattle.sorted_sets.proofs.Staging.{rows_take, ScoresAreSettled-take}
use Rattle.sorted_sets.proofs.set.draft.Draft.roll_back.Goals as goal

pub returns-clause-current : goal.returns-clause-current
returns-clause-current g c =
    ap (rows_by current_score) c.truncate.ensures.entries ∙ rows_take current_score c.args.self.now.kept c.discard_staged.new.members.entries ∙ ap (take c.args.self.now.kept) c.discard_staged.ensures.current

pub returns-clause-settled : goal.returns-clause-settled
returns-clause-settled g c =
    subst ScoresAreSettled (sym c.truncate.ensures.entries) (ScoresAreSettled-take c.args.self.now.kept c.discard_staged.new.members.entries c.discard_staged.ensures.settled)
