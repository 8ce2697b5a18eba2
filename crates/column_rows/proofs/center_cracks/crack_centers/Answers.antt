use Rattle.std.proofs.Common.{ℤ, subst, ◌∙◌, arith}
use Rattle.std.proofs.lemmas.Int.{ints}
use Rattle.column_rows.specs.RangeCutsAsPivots.{IsUncracked}
use Rattle.score_bounds.specs.declared.ranges_and_cuts.Cut.TheVariants.{At}
use Rattle.column_rows.proofs.InnerCracks.{AreCracked-more}
use Rattle.column_rows.proofs.Values.{IsUncracked-kept}
use Rattle.column_rows.proofs.center_cracks.crack_centers.Goals as goal

pub returns-then-not-crack_center-clause-cracked : goal.returns-then-not-crack_center-clause-cracked
returns-then-not-crack_center-clause-cracked g c = AreCracked-more _ _ _ c.loop-turn.invariant.0 c.crack_center.ensures.cracked

pub returns-then-not-crack_center-clause-still : goal.returns-then-not-crack_center-clause-still
returns-then-not-crack_center-clause-still g c k d outside =
    let old = c.args.pieces.now.cracked.pivots.list in
    let turned = c.loop-turn.pieces.cracked.pivots.list in
    let kept = IsUncracked-kept (At c.args.v) old turned k c.loop-turn.invariant.0.among outside in
    c.crack_center.ensures.still k d (subst (λ (w : ℤ). IsUncracked (At w) turned k) (omega (arith, ints)) kept)
    ∙ c.loop-turn.invariant.1 k d (subst (λ (w : ℤ). IsUncracked (At w) old k) (omega (arith, ints)) outside)

pub loop-turn-preserved : goal.loop-turn-preserved
loop-turn-preserved g c =
    let old = c.args.pieces.now.cracked.pivots.list in
    let turned = c.loop-turn.pieces.cracked.pivots.list in (
      AreCracked-more _ _ _ c.loop-turn.invariant.0 c.crack_center.ensures.cracked,
      (λ k d outside.
          let own : IsUncracked (At c.args.v) old k = subst (λ (w : ℤ). IsUncracked (At w) old k) (omega (arith, ints)) outside in
          let kept = IsUncracked-kept (At c.args.v) old turned k c.loop-turn.invariant.0.among own in
          c.crack_center.ensures.still k d (subst (λ (w : ℤ). IsUncracked (At w) turned k) (omega (arith, ints)) kept)
          ∙ c.loop-turn.invariant.1 k d outside),
    )
