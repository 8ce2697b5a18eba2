use Rattle.std.proofs.Common.{refl}
use Rattle.log_records.proofs.RecordPieces.{front_taken, taken_whole}
use Rattle.log_records.proofs.dumping.put_bytes.Goals as goal

pub returns-then-write_out : goal.returns-then-write_out
returns-then-write_out g c =
    let out = c.write_out.ensures.out in
    (taken_whole _ _ c.args.bytes.now c.args.bytes.now _ out.told (out.whole c.if-write_out.true) refl, out.good c.if-write_out.true)

pub returns-else-write_out : goal.returns-else-write_out
returns-else-write_out g c =
    let out = c.write_out.ensures.out in
    (front_taken _ _ _ _ out.told, out.cause c.if-write_out.false)
