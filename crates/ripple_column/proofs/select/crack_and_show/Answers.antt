use Rattle.column_rows.specs.ShownPivots.{IsAmong}
use Rattle.column_rows.specs.EffectsOnPieces.{shown}
use Rattle.column_rows.proofs.InnerPivots.{among_found, among_own, found_own}
use Rattle.column_rows.proofs.Values.{IsUncracked-kept}
use Rattle.ripple_column.proofs.select.crack_and_show.Goals as goal

pub show_cuts-requires-clause-among : goal.show_cuts-requires-clause-among
show_cuts-requires-clause-among g c p there =
    let old = c.args.pieces.now in
    c.crack_between-places.ensures.kept p (among_own old.apart old.kept.list old.cracked.pivots.list c.if-pieces.true old.among p there)

pub invariant_of-pieces-then-pieces-2 : goal.invariant_of-pieces-then-pieces-2
invariant_of-pieces-then-pieces-2 g c = record { among = found_own c.args.pieces.now.apart c.show_cuts.new.kept.list c.crack_between-places.new.cracked.pivots.list c.show_cuts.ensures.among }

pub returns-then-pieces-clause-still : goal.returns-then-pieces-clause-still
returns-then-pieces-clause-still g c k d first second =
    let old = c.args.pieces.now in
    let all = old.cracked.pivots.list in
    let among : IsAmong (shown old) all = among_found (shown old) all old.among in
    c.crack_between-places.ensures.still k d (IsUncracked-kept c.args.first.now (shown old) all k among first) (IsUncracked-kept c.args.second.now (shown old) all k among second)
