use Rattle.std.proofs.Common.{◌≡◌, true, false, sym, subst, ◌∙◌}
use Rattle.column_rows.specs.RangeAnswer.{low_cut, high_cut, IsAnswer, IsSettled}
use Rattle.column_rows.specs.Content.{ColumnState}
use Rattle.column_rows.specs.RangeCutsAsPivots.{is_before}
use Rattle.ripple_column.specs.ColumnViewAndInvariant.{state}
use Rattle.column_rows.proofs.InnerPivots.{among_found}
use Rattle.column_rows.proofs.Selection.{CutsPart, HoldsRange-empty, HoldsRange-ready, IsAnswer-ready}
use Rattle.ripple_column.proofs.column.Column.ready.Goals as goal

pub returns-then-not-is_before-clause-rows : goal.returns-then-not-is_before-clause-rows
returns-then-not-is_before-clause-rows g c =
    let inv = c.self.invariant in
    let cuts = c.cuts-first.ensures in
    let range = c.args.range.now in
    let now : ColumnState = state {A = g.row.A.Denot} c.self.inside in
    let parts : CutsPart range = rw (cuts.first, cuts.second) at cuts.between in
    let reversed : is_before (low_cut range) (high_cut range) ≡ false = rw (cuts.first, cuts.second) at (sym c.is_before.ensures ∙ c.if-not-is_before.true) in
    rw (← c.self.view_is) (HoldsRange-empty now range parts inv.scored_rows inv.scored_insertions reversed)

pub returns-clause-rows : goal.returns-clause-rows
returns-clause-rows g c =
    let inv = c.self.invariant in
    let cuts = c.cuts-first.ensures in
    let range = c.args.range.now in
    let r = c.settled_places.result in
    let e = c.settled_places.ensures in
    let now : ColumnState = state {A = g.row.A.Denot} c.self.inside in
    let parts : CutsPart range = rw (cuts.first, cuts.second) at cuts.between in
    let order : is_before (low_cut range) (high_cut range) ≡ true = rw (cuts.first, cuts.second) at (sym c.is_before.ensures ∙ c.if-not-is_before.false) in
    let low = rw cuts.first at e.first in
    let high = rw cuts.second at e.second in
    let insertions = e.insertions in
    let deletions = e.deletions in
    rw (← c.self.view_is) (HoldsRange-ready r now c.self.inside.pieces.cracked.pivots.list range parts (among_found _ _ c.self.inside.pieces.among) c.self.inside.pieces.cracked.law inv.scored_rows inv.scored_insertions (IsAnswer-ready r now range order low high insertions deletions))

pub returns-clause-exact : goal.returns-clause-exact
returns-clause-exact g c answer is =
    let cuts = c.cuts-first.ensures in
    let range = c.args.range.now in
    let now : ColumnState = state {A = g.row.A.Denot} c.self.inside in
    let order : is_before (low_cut range) (high_cut range) ≡ true = rw (cuts.first, cuts.second) at (sym c.is_before.ensures ∙ c.if-not-is_before.false) in
    let here : IsAnswer now range answer = subst (λ (v : ColumnState). IsAnswer v range answer) (sym c.self.view_is) is in
    let settled : IsSettled now range answer = rw order at here in
    c.settled_places.ensures.exact answer (rw cuts.first settled.low) (rw cuts.second settled.high) settled.deletions settled.insertions
