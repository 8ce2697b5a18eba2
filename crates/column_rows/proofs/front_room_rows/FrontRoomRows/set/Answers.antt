use Rattle.std.proofs.Common.{ap, ◌∙◌, slice_set}
use Rattle.std.proofs.lemmas.List.{drop-set-add}
use Rattle.column_rows.proofs.front_room_rows.FrontRoomRows.set.Goals as goal

pub returns-clause-items : goal.returns-clause-items
returns-clause-items g c = drop-set-add c.self.inside.left c.self.inside.rows.items c.args.at c.args.row ∙ ap (λ v. slice_set v.items c.args.at c.args.row) c.self.view_is
