use Rattle.std.proofs.Common.{ap, ◌∙◌, drop, arith}
use Rattle.std.specs.List.{SwappedAt}
use Rattle.column_rows.proofs.FrontRoom.{made_behind}
use Rattle.column_rows.proofs.front_room_rows.FrontRoomRows.swap.Goals as goal

pub returns-clause-by_index : goal.returns-clause-by_index
returns-clause-by_index g c =
    let v = c.self.inside in
    made_behind (λ xs ys. SwappedAt xs ys c.args.i c.args.j) v.left v.rows.len c.deref_mut.result.now v.rows.items c.swap.new.self _ (omega arith) (omega arith) c.swap.auto.self
    (ap (drop v.left) c.deref_mut.ensures.value ∙ ap (λ r. r.items) c.self.view_is) c.swap.ensures.by_index
