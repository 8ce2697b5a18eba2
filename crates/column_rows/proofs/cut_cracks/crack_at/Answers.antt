use Rattle.std.proofs.Common.{◌∷◌, subst, IsPermutation, ℤ, arith}
use Rattle.std.proofs.lemmas.Int.{ints}
use Rattle.column_rows.proofs.CrackSteps.{IsPiece-at, still_apart, ObeysPivots-cracked}
use Rattle.column_rows.proofs.cut_cracks.crack_at.Goals as goal

pub crack-place-requires-clause-order : goal.crack-place-requires-clause-order
crack-place-requires-clause-order g c =
    let piece = IsPiece-at _ c.args.v c.args.index c.args.cracked.now.pivots.list c.args.cracked.now.rows.items _ c.piece_at-from.result (omega (arith, ints)) c.len.ensures c.args.cracked.now.law c.requires.index c.piece_at-from.ensures.start c.piece_at-from.ensures.end in
    piece.order

pub crack-place-requires-clause-within : goal.crack-place-requires-clause-within
crack-place-requires-clause-within g c =
    let piece = IsPiece-at _ c.args.v c.args.index c.args.cracked.now.pivots.list c.args.cracked.now.rows.items _ c.piece_at-from.result (omega (arith, ints)) c.len.ensures c.args.cracked.now.law c.requires.index c.piece_at-from.ensures.start c.piece_at-from.ensures.end in
    piece.within

pub invariant_of-cracked : goal.invariant_of-cracked
invariant_of-cracked g c =
    let ps = c.args.cracked.now.pivots.list in
    let rows = c.args.cracked.now.rows.items in
    let p = c.crack-place.ensures in
    let moved : IsPermutation ((c.args.v, c.crack-place.result) ∷ ps) c.add_at.new.self.list = subst (λ (w : ℤ). IsPermutation ((w, c.crack-place.result) ∷ ps) c.add_at.new.self.list) (omega (arith, ints)) c.add_at.ensures.list in
    let piece = IsPiece-at _ c.args.v c.args.index ps rows _ c.piece_at-from.result (omega (arith, ints)) c.len.ensures c.args.cracked.now.law c.requires.index c.piece_at-from.ensures.start c.piece_at-from.ensures.end in
    record {
      law = ObeysPivots-cracked c.args.v _ ps c.add_at.new.self.list rows c.crack-place.new.self.items c.piece_at-from.result.0 c.piece_at-from.result.1 c.crack-place.result (omega (arith, ints))
          c.args.cracked.now.law piece p.changes p.len p.low p.high p.before p.behind moved c.add_at.ensures.rising c.requires.few;
    }

pub returns-clause-still : goal.returns-clause-still
returns-clause-still g c =
    let ps = c.args.cracked.now.pivots.list in
    let rows = c.args.cracked.now.rows.items in
    let piece = IsPiece-at _ c.args.v c.args.index ps rows _ c.piece_at-from.result (omega (arith, ints)) c.len.ensures c.args.cracked.now.law c.requires.index c.piece_at-from.ensures.start c.piece_at-from.ensures.end in
    still_apart c.args.v ps rows c.crack-place.new.self.items c.piece_at-from.result.0 c.piece_at-from.result.1 piece c.crack-place.ensures.changes
