use Rattle.std.proofs.Common.{◌≡◌, ◌-◌, ap, arith}
use Rattle.column_rows.proofs.FrontRoom.{closed_up_behind}
use Rattle.column_rows.proofs.front_room_rows.FrontRoomRows.remove_between.Goals as goal

pub returns-else-moves_front : goal.returns-else-moves_front
returns-else-moves_front g c =
    let v = c.self.inside in
    let len : v.rows.len - v.left ≡ c.args.self.now.len = ap (λ r. r.len) c.self.view_is in
    rw (c.drop-drain.ensures.items, c.drain.ensures.kept, ← c.self.view_is) (closed_up_behind v.left c.args.from c.args.to v.rows.items (omega arith))
