use Rattle.column_rows.specs.ShownPivots.{IsAmong}
use Rattle.column_rows.proofs.InnerPivots.{ObeysPivots-among, among_own}
use Rattle.column_rows.proofs.cracked_with_shown_pivots.Pieces.drop_inner.Goals as goal

pub invariant_of-self : goal.invariant_of-self
invariant_of-self g c =
    let old = c.args.self.now in
    let among : IsAmong old.kept.list old.cracked.pivots.list = among_own old.apart old.kept.list old.cracked.pivots.list c.requires.apart old.among in
    (ObeysPivots-among c.copy_from.new.self.list old.cracked.pivots.list old.cracked.rows.items (rw c.copy_from.ensures.list among) old.cracked.law c.copy_from.ensures.rising c.copy_from.ensures.few, tt)
