use Rattle.std.proofs.Common.{ap, ◌∙◌, take, drop}
use Rattle.std.proofs.lemmas.List.{drop-take}
use Rattle.column_rows.proofs.front_room_rows.FrontRoomRows.truncate.Goals as goal

pub returns-then-len-clause-items : goal.returns-then-len-clause-items
returns-then-len-clause-items g c =
    ap (drop c.self.inside.left) c.truncate.ensures.items ∙ drop-take c.self.inside.left c.args.len c.self.inside.rows.items
    ∙ ap (λ v. take c.args.len v.items) c.self.view_is
